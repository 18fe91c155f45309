use Rattle.std.proofs.Common.{◌≡◌, ◌<◌, ℤ, pos, negsuc, ◌-ℤ◌, int_lt, int_rem, unsigned_abs, FitsSigned, to_z, of_z, Bool, false, ◌||◌, sym, ap, ◌∙◌, subst}
use Rattle.std.specs.Int.{w128}
use Rattle.std.proofs.lemmas.Int.{to_z-of_z}
use Rattle.ped_rules.specs.Spans.{is_far, last_value}
use Rattle.ped_rules.proofs.RightSteps.{step_parts, left_fits, near_is}
use Rattle.ped_reindex.proofs.OneTaken.{found_at, step_apart}
use Rattle.ped_reindex.proofs.Remainders.{not_less}
use Rattle.ped_reindex.proofs.iterations.last_iteration.Goals as goal

pub returns-then-is_far : goal.returns-then-is_far
returns-then-is_far c =
    let m1 = c.args.first in
    let m2 = c.args.end in
    let m3 = c.args.step in
    let f = to_z-of_z w128 m1 c.ranges.first in
    let l = to_z-of_z w128 m2 c.ranges.end in
    let d = to_z-of_z w128 m3 c.ranges.step in
    let left = c.left.result in
    let left_is : left ≡ int_rem (m2 -ℤ m1) m3 = c.left.ensures.value ∙ (λ i. int_rem (l i -ℤ f i) (d i)) in
    let less = subst (λ (z : ℤ). unsigned_abs left < unsigned_abs z) d c.left.ensures.small in
    let above = not_less m2 (negsuc 8589934591) (subst (λ (z : ℤ). int_lt z (negsuc 8589934591) ≡ false) l c.if-end-ltminus8589934592.false) in
    let below = not_less (pos 8589934592) m2 (subst (λ (z : ℤ). int_lt (pos 8589934592) z ≡ false) l c.if-end-gt8589934592.false) in
    let fits = left_fits m2 left m3 above below less c.requires.step in
    let value_is : to_z w128 (of_z w128 (to_z w128 (of_z w128 m2) -ℤ to_z w128 (of_z w128 left))) ≡ last_value m1 m2 m3 =
    (λ i. to_z w128 (of_z w128 (l i -ℤ to_z-of_z w128 left fits.0 i))) ∙ to_z-of_z w128 (m2 -ℤ left) fits.1 ∙ ap (λ (z : ℤ). m2 -ℤ z) left_is in
    ap (λ (b : Bool). b || is_far (last_value m1 m2 m3 -ℤ m3)) (ap is_far (sym value_is) ∙ sym c.is_far.ensures ∙ c.if-is_far.true)

pub overflow_sub-value-2 : goal.overflow_sub-value-2
overflow_sub-value-2 c =
    let m1 = c.args.first in
    let m2 = c.args.end in
    let m3 = c.args.step in
    let f = to_z-of_z w128 m1 c.ranges.first in
    let l = to_z-of_z w128 m2 c.ranges.end in
    let d = to_z-of_z w128 m3 c.ranges.step in
    let left = c.left.result in
    let left_is : left ≡ int_rem (m2 -ℤ m1) m3 = c.left.ensures.value ∙ (λ i. int_rem (l i -ℤ f i) (d i)) in
    let less = subst (λ (z : ℤ). unsigned_abs left < unsigned_abs z) d c.left.ensures.small in
    let above = not_less m2 (negsuc 8589934591) (subst (λ (z : ℤ). int_lt z (negsuc 8589934591) ≡ false) l c.if-end-ltminus8589934592.false) in
    let below = not_less (pos 8589934592) m2 (subst (λ (z : ℤ). int_lt (pos 8589934592) z ≡ false) l c.if-end-gt8589934592.false) in
    let fits = left_fits m2 left m3 above below less c.requires.step in
    let value_is : to_z w128 (of_z w128 (to_z w128 (of_z w128 m2) -ℤ to_z w128 (of_z w128 left))) ≡ last_value m1 m2 m3 =
    (λ i. to_z w128 (of_z w128 (l i -ℤ to_z-of_z w128 left fits.0 i))) ∙ to_z-of_z w128 (m2 -ℤ left) fits.1 ∙ ap (λ (z : ℤ). m2 -ℤ z) left_is in
    let near = near_is (last_value m1 m2 m3) (ap is_far (sym value_is) ∙ sym c.is_far.ensures ∙ c.if-is_far.false) in
    subst (λ (z : ℤ). FitsSigned w128 z) (λ i. sym value_is i -ℤ sym d i) (step_apart (last_value m1 m2 m3) m3 near (step_parts m3 c.requires.step).1)

pub returns : goal.returns
returns c =
    let m1 = c.args.first in
    let m2 = c.args.end in
    let m3 = c.args.step in
    let f = to_z-of_z w128 m1 c.ranges.first in
    let l = to_z-of_z w128 m2 c.ranges.end in
    let d = to_z-of_z w128 m3 c.ranges.step in
    let left = c.left.result in
    let left_is : left ≡ int_rem (m2 -ℤ m1) m3 = c.left.ensures.value ∙ (λ i. int_rem (l i -ℤ f i) (d i)) in
    let less = subst (λ (z : ℤ). unsigned_abs left < unsigned_abs z) d c.left.ensures.small in
    let above = not_less m2 (negsuc 8589934591) (subst (λ (z : ℤ). int_lt z (negsuc 8589934591) ≡ false) l c.if-end-ltminus8589934592.false) in
    let below = not_less (pos 8589934592) m2 (subst (λ (z : ℤ). int_lt (pos 8589934592) z ≡ false) l c.if-end-gt8589934592.false) in
    let fits = left_fits m2 left m3 above below less c.requires.step in
    let value = to_z w128 (of_z w128 (to_z w128 (of_z w128 m2) -ℤ to_z w128 (of_z w128 left))) in
    let value_is : value ≡ last_value m1 m2 m3 = (λ i. to_z w128 (of_z w128 (l i -ℤ to_z-of_z w128 left fits.0 i))) ∙ to_z-of_z w128 (m2 -ℤ left) fits.1 ∙ ap (λ (z : ℤ). m2 -ℤ z) left_is in
    let near = near_is (last_value m1 m2 m3) (ap is_far (sym value_is) ∙ sym c.is_far.ensures ∙ c.if-is_far.false) in
    let bound = to_z w128 (of_z w128 (value -ℤ to_z w128 (of_z w128 m3))) in
    let bound_is : bound ≡ last_value m1 m2 m3 -ℤ m3 = (λ i. to_z w128 (of_z w128 (value_is i -ℤ d i))) ∙ to_z-of_z w128 (last_value m1 m2 m3 -ℤ m3) (step_apart (last_value m1 m2 m3) m3 near (step_parts m3 c.requires.step).1) in
    found_at value (last_value m1 m2 m3) bound (last_value m1 m2 m3 -ℤ m3) c.taken_out.result value_is bound_is c.taken_out.ensures
