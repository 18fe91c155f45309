use Rattle.std.proofs.Common.{◌∙◌}
use Rattle.std.proofs.lemmas.Result.{IfOk-weaker}
use Rattle.ped_affine.specs.Arguments.{setting_of}
use Rattle.ped_affine.specs.PairViews.{view_at}
use Rattle.ped_graph.proofs.preparing.view_in.Goals as goal

pub returns : goal.returns
returns c = IfOk-weaker c.view.result _ _ (λ view h.
    h ∙ (λ i. view_at (setting_of c.args.setting.now) (c.place_of.ensures.site i) (c.place_of-2.ensures.site i)))
    c.view.ensures
