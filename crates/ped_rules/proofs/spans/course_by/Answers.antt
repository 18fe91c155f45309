use Rattle.std.proofs.Common.{◌≡◌, ◌∙◌, ◌≤◌, ℤ, pos, int_lt, negsuc, unsigned_abs, to_z, of_z, Bool, true, Some, None, inl, inr, sym, ap, subst, if◌then◌else◌}
use Rattle.std.specs.Int.{w64, w128}
use Rattle.std.proofs.lemmas.Int.{to_z-of_z}
use Rattle.ped_rules.specs.Spans.{Span, has_iteration, is_far, last_value}
use Rattle.ped_rules.proofs.RightSteps.{course_far, far_first, far_second, far_last, less_is, near_is, near_fits}
use Rattle.ped_rules.proofs.spans.course_by.Goals as goal

pub returns-then-is_far : goal.returns-then-is_far
returns-then-is_far c =
    let m1 = c.args.first in
    let m2 = c.args.last in
    let m3 = c.args.step in
    let f = to_z-of_z w128 m1 c.ranges.first in
    let l = to_z-of_z w128 m2 c.ranges.last in
    let d = to_z-of_z w128 m3 c.ranges.step in
    let has : has_iteration m1 m2 m3 ≡ true = (λ i. has_iteration (sym f i) (sym l i) (sym d i)) ∙ sym c.has_iteration.ensures ∙ c.if-not-has_iteration.false in
    let far : is_far m1 ≡ true = (λ i. is_far (sym f i)) ∙ sym c.is_far.ensures ∙ c.if-is_far.true in
    course_far m1 m2 m3 has (far_first m1 m2 m3 far)

pub returns-then-last-gt8589934592 : goal.returns-then-last-gt8589934592
returns-then-last-gt8589934592 c =
    let m1 = c.args.first in
    let m2 = c.args.last in
    let m3 = c.args.step in
    let f = to_z-of_z w128 m1 c.ranges.first in
    let l = to_z-of_z w128 m2 c.ranges.last in
    let d = to_z-of_z w128 m3 c.ranges.step in
    let has : has_iteration m1 m2 m3 ≡ true = (λ i. has_iteration (sym f i) (sym l i) (sym d i)) ∙ sym c.has_iteration.ensures ∙ c.if-not-has_iteration.false in
    let big = less_is (pos 8589934592) m2 (subst (λ (z : ℤ). int_lt (pos 8589934592) z ≡ true) l c.if-last-gt8589934592.true) in
    course_far m1 m2 m3 has (far_second m1 m2 m3 (far_last m1 m2 m3 (inl big) c.requires))

pub returns-then-last-ltminus8589934592 : goal.returns-then-last-ltminus8589934592
returns-then-last-ltminus8589934592 c =
    let m1 = c.args.first in
    let m2 = c.args.last in
    let m3 = c.args.step in
    let f = to_z-of_z w128 m1 c.ranges.first in
    let l = to_z-of_z w128 m2 c.ranges.last in
    let d = to_z-of_z w128 m3 c.ranges.step in
    let has : has_iteration m1 m2 m3 ≡ true = (λ i. has_iteration (sym f i) (sym l i) (sym d i)) ∙ sym c.has_iteration.ensures ∙ c.if-not-has_iteration.false in
    let low = less_is m2 (negsuc 8589934591) (subst (λ (z : ℤ). int_lt z (negsuc 8589934591) ≡ true) l c.if-last-ltminus8589934592.true) in
    course_far m1 m2 m3 has (far_second m1 m2 m3 (far_last m1 m2 m3 (inr low) c.requires))

pub returns-then-is_far-2 : goal.returns-then-is_far-2
returns-then-is_far-2 c =
    let m1 = c.args.first in
    let m2 = c.args.last in
    let m3 = c.args.step in
    let f = to_z-of_z w128 m1 c.ranges.first in
    let l = to_z-of_z w128 m2 c.ranges.last in
    let d = to_z-of_z w128 m3 c.ranges.step in
    let has : has_iteration m1 m2 m3 ≡ true = (λ i. has_iteration (sym f i) (sym l i) (sym d i)) ∙ sym c.has_iteration.ensures ∙ c.if-not-has_iteration.false in
    let v = c.last_value-last.result in
    let g = to_z-of_z w128 v (record { sfits = c.last_value-last.type_inv }) in
    let value : v ≡ last_value m1 m2 m3 = c.last_value-last.ensures ∙ (λ i. last_value (f i) (l i) (d i)) in
    let far : is_far (last_value m1 m2 m3) ≡ true = ap is_far (sym value) ∙ (λ i. is_far (sym g i)) ∙ sym c.is_far-2.ensures ∙ c.if-is_far-2.true in
    course_far m1 m2 m3 has (far_second m1 m2 m3 far)

pub returns : goal.returns
returns c =
    let m1 = c.args.first in
    let m2 = c.args.last in
    let m3 = c.args.step in
    let f = to_z-of_z w128 m1 c.ranges.first in
    let l = to_z-of_z w128 m2 c.ranges.last in
    let d = to_z-of_z w128 m3 c.ranges.step in
    let has : has_iteration m1 m2 m3 ≡ true = (λ i. has_iteration (sym f i) (sym l i) (sym d i)) ∙ sym c.has_iteration.ensures ∙ c.if-not-has_iteration.false in
    let v = c.last_value-last.result in
    let g = to_z-of_z w128 v (record { sfits = c.last_value-last.type_inv }) in
    let value : v ≡ last_value m1 m2 m3 = c.last_value-last.ensures ∙ (λ i. last_value (f i) (l i) (d i)) in
    let near = near_is m1 ((λ i. is_far (sym f i)) ∙ sym c.is_far.ensures ∙ c.if-is_far.false) in
    let close = near_is v ((λ i. is_far (sym g i)) ∙ sym c.is_far-2.ensures ∙ c.if-is_far-2.false) in
    let p : to_z w64 (of_z w64 (to_z w128 (of_z w128 m1))) ≡ m1 = ap (λ (z : ℤ). to_z w64 (of_z w64 z)) f ∙ to_z-of_z w64 m1 (near_fits m1 near) in
    let q : to_z w64 (of_z w64 (to_z w128 (of_z w128 v))) ≡ v = ap (λ (z : ℤ). to_z w64 (of_z w64 z)) g ∙ to_z-of_z w64 v (near_fits v close) in
    let found : Span = record { first = m1; last = last_value m1 m2 m3 } in
    let made : ◌≡◌ {A = Span} found (record { first = to_z w64 (of_z w64 (to_z w128 (of_z w128 m1))); last = to_z w64 (of_z w64 (to_z w128 (of_z w128 v))) }) = λ i. record { first = sym p i; last = (sym value ∙ sym q) i } in (
      ap (λ (b : Bool). if b then Some found else None) has ∙ ap (λ (s : Span). Some s) made,
      record { first = subst (λ (z : ℤ). unsigned_abs z ≤ 2147483647) (sym p) near; last = subst (λ (z : ℤ). unsigned_abs z ≤ 2147483647) (sym q) close },
    )
