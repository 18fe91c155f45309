use Rattle.std.proofs.Common.{ℕ, ◌-◌, length, take, ap, ◌∙◌, arith}
use Rattle.std.proofs.lemmas.List.{length-drop, length-take-le}
use Rattle.ped_refs.specs.Loops.{nest_of}
use Rattle.ped_affine.specs.Ranges.{nest_ranges}
use Rattle.ped_affine.specs.PairViews.{heads_of}
use Rattle.ped_affine.specs.Arguments.{setting_of}
use Rattle.ped_affine.proofs.Surrounding.{length-nest_ranges}
use Rattle.ped_affine.proofs.ViewLimits.{fits_view}
use Rattle.ped_affine.proofs.views.view.Goals as goal

pub invariant_of-result : goal.invariant_of-result
invariant_of-result c =
    let k = c.common_depth-common.result in
    let n = length c.args.source.now.nest.now in
    let m = length c.args.sink.now.nest.now in
    let ranges = c.find_ranges.new.ranges in
    let further = nest_ranges (setting_of c.args.setting.now) (heads_of (nest_of c.args.sink.now.nest.now)) in
    fits_view c.in_ok-loops.loops.items c.in_ok-source_inner.source_inner.items c.in_ok-sink_inner.sink_inner.items c.in_ok-positions.positions.items k (n - k) (m - k)
    (ap length c.in_ok-loops.ensures ∙ length-take-le k ranges (omega arith))
    (ap length c.in_ok-source_inner.ensures ∙ length-drop k (take n ranges) ∙ ap (λ (i : ℕ). i - k) (length-take-le n ranges (omega arith)))
    (ap length c.in_ok-sink_inner.ensures ∙ length-drop k further ∙ ap (λ (i : ℕ). i - k) (length-nest_ranges (setting_of c.args.setting.now) c.args.sink.now.nest.now))
    (omega arith) (omega arith) c.in_ok-positions.ensures.fits
