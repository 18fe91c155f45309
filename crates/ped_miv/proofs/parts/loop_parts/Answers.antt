use Rattle.std.proofs.Common.{rules, ◌∙◌, ap, pos, get_or, FitsSigned, w64}
use Rattle.std.proofs.lemmas.Int.{to_z-of_z}
use Rattle.ped_views.specs.Views.{SubscriptPair, View}
use Rattle.ped_miv.proofs.Parted.{of_place}
use Rattle.ped_miv.proofs.parts.loop_parts.Goals as goal

pub returns : goal.returns
returns c =
    let fa : FitsSigned w64 (get_or c.common_coefficients-source.result.now c.args.place (pos 0)) = search rules in
    let fb : FitsSigned w64 (get_or c.common_coefficients-sink.result.now c.args.place (pos 0)) = search rules in
    of_place _ c.args.view.now.loops _ c.args.position.now.source.common _ c.args.position.now.sink.common c.args.place c.index.result.now c.parts_of.result
    (ap (λ (v : View). v.loops) c.view.view_is) c.requires.place c.index.ensures
    (c.common_coefficients-source.ensures.value ∙ ap (λ (p : SubscriptPair). p.source.common) c.position.view_is)
    (c.common_coefficients-sink.ensures.value ∙ ap (λ (p : SubscriptPair). p.sink.common) c.position.view_is)
    (simp to_z-of_z at c.parts_of.ensures)
