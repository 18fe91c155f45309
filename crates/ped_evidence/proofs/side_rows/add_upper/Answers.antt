use Rattle.std.proofs.Common.{◌∙◌, ◌++◌, map, ap}
use Rattle.std.proofs.lemmas.Result.{on_ok_weaker}
use Rattle.ped_evidence.specs.Forms.{at_most}
use Rattle.ped_evidence.specs.Kept.{layout_kept, level_of, trees_of}
use Rattle.ped_evidence.specs.Systems.{bound_forms}
use Rattle.ped_evidence.proofs.side_rows.add_upper.Goals as goal

pub returns-clause-rows : goal.returns-clause-rows
returns-clause-rows c =
    let bounds = ap trees_of c.deref.ensures.value ∙ c.in_ok-bounds.ensures in
    on_ok_weaker c.add_upper_bounds.result (λ h. h ∙ (λ i. c.args.rows.now ++ map (λ f. at_most (c.in_ok-x.ensures.form i) f) (bound_forms (layout_kept c.args.layout.now) c.args.before (level_of c.args.level.now) (bounds i)))) c.add_upper_bounds.ensures.rows
