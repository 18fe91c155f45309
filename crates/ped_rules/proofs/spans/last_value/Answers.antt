use Rattle.std.proofs.Common.{◌≡◌, ℤ, ◌-ℤ◌, int_rem, ◌<◌, unsigned_abs, FitsSigned, to_z, of_z, sym, ap, ◌∙◌, subst}
use Rattle.std.specs.Int.{w128}
use Rattle.std.proofs.lemmas.Int.{to_z-of_z}
use Rattle.ped_rules.proofs.RightSteps.{left_fits, way_fits}
use Rattle.ped_rules.proofs.spans.last_value.Goals as goal

pub overflow_sub-result : goal.overflow_sub-result
overflow_sub-result c =
    let r = c.remainder-left.result in
    let m = c.args.last in
    let d = to_z-of_z w128 c.args.step c.ranges.step in
    let less = subst (λ (z : ℤ). unsigned_abs r < unsigned_abs z) d c.remainder-left.ensures.small in
    let fits = left_fits m r c.args.step c.requires.above c.requires.below less c.requires.step in
    subst (λ (z : ℤ). FitsSigned w128 z) (λ i. sym (to_z-of_z w128 m c.ranges.last) i -ℤ sym (to_z-of_z w128 r fits.0) i) fits.1

pub returns : goal.returns
returns c =
    let r = c.remainder-left.result in
    let m = c.args.last in
    let f = to_z-of_z w128 c.args.first c.ranges.first in
    let l = to_z-of_z w128 m c.ranges.last in
    let d = to_z-of_z w128 c.args.step c.ranges.step in
    let less = subst (λ (z : ℤ). unsigned_abs r < unsigned_abs z) d c.remainder-left.ensures.small in
    let fits = left_fits m r c.args.step c.requires.above c.requires.below less c.requires.step in
    let way = way_fits c.args.first m c.requires.near c.requires.above c.requires.below in
    let left : r ≡ int_rem (m -ℤ c.args.first) c.args.step =
    c.remainder-left.ensures.value
    ∙ (λ i. int_rem (to_z w128 (of_z w128 (l i -ℤ f i))) (d i))
    ∙ ap (λ (z : ℤ). int_rem z c.args.step) (to_z-of_z w128 (m -ℤ c.args.first) way) in
    (λ i. to_z w128 (of_z w128 (l i -ℤ to_z-of_z w128 r fits.0 i))) ∙ to_z-of_z w128 (m -ℤ r) fits.1 ∙ ap (λ (z : ℤ). m -ℤ z) left
