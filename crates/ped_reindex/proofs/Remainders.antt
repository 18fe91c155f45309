-- What is left of a way in steps of a divisor, where the way's start is known up to whole steps.
use Rattle.std.proofs.Common.{◌≡◌, ◌<◌, ℤ, pos, negsuc, neg_ℤ, ◌+ℤ◌, ◌-ℤ◌, ◌*ℤ◌, ◌≤ℤ◌, ◌<ℤ◌, int_div, int_rem, int_lt, int_le, unsigned_abs, Bool, true, false, ◌&&◌, ◌||◌, refl, sym, ap, ◌∙◌, subst, arith, if◌then◌else◌}
use Rattle.std.proofs.Math.IntN.{*ℤ_comm}
use Rattle.std.proofs.lemmas.Int.{ints, quot-rem, rem_below}
use Rattle.ped_rules.specs.Spans.{has_iteration}
use Rattle.ped_rules.proofs.RightSteps.{less_is}
use Rattle.ped_rules.specs.ped_views.proofs.Products.{abs_some, linear, sub-mul, small_multiple}
use Rattle.ped_reindex.specs.CodePeeling.{towards}

-- the remainder has the sign of the dividend
rem_up : (a d : ℤ) → pos 0 ≤ℤ a → pos 0 ≤ℤ int_rem a d
rem_up (pos n) d h = omega (arith, ints)
rem_up (negsuc n) d h = absurd (omega (arith, ints, h))

rem_down : (a d : ℤ) → a ≤ℤ pos 0 → int_rem a d ≤ℤ pos 0
rem_down (pos n) d h = omega (arith, ints)
rem_down (negsuc n) d h = omega (arith, ints)

-- two numbers that differ by a multiple and by less than the divisor are the same
same_by : (x r k d : ℤ) → x -ℤ r ≡ k *ℤ d → unsigned_abs (x -ℤ r) < unsigned_abs d → x ≡ r
same_by x r k d e less =
    let zero : k ≡ pos 0 = small_multiple d k (subst (λ (z : ℤ). unsigned_abs z < unsigned_abs d) (e ∙ *ℤ_comm k d) less) in
    let none : x -ℤ r ≡ pos 0 = e ∙ ap (λ (z : ℤ). z *ℤ d) zero ∙ none_times d in
    omega (arith, ints, none)
  where
    none_times : (z : ℤ) → pos 0 *ℤ z ≡ pos 0
    none_times z = omega (arith, ints)

-- the tests of order
pub not_less : (a b : ℤ) → int_lt a b ≡ false → b ≤ℤ a
not_less a b h = omega (arith, linear, h)

at_most : (a b : ℤ) → int_le a b ≡ true → a ≤ℤ b
at_most a b h = omega (arith, linear, h)

passes : (a b : ℤ) → a <ℤ b → int_lt a b ≡ true
passes a b h = by (int_lt a b) refl
  where
    by : (r : Bool) → int_lt a b ≡ r → int_lt a b ≡ true
    by true e = e
    by false e = absurd (omega (arith, linear, e, h))

fails : (a b : ℤ) → b ≤ℤ a → int_lt a b ≡ false
fails a b h = by (int_lt a b) refl
  where
    by : (r : Bool) → int_lt a b ≡ r → int_lt a b ≡ false
    by true e = absurd (omega (arith, linear, e, h))
    by false e = e

and_none : (c : Bool) → (c && false) ≡ false
and_none true = refl
and_none false = refl

module _ (m1 m2 m3 : ℤ) (some : ¬ (m3 ≡ pos 0)) where
  abbrev over : ℤ
  over = int_rem m1 m3

  abbrev rest : ℤ
  rest = int_rem (m2 -ℤ over) m3

  abbrev left : ℤ
  left = int_rem (m2 -ℤ m1) m3

  abbrev times : ℤ
  times = int_div (m2 -ℤ m1) m3 -ℤ (int_div (m2 -ℤ over) m3 -ℤ int_div m1 m3)

  -- both are left of the same way but for whole steps
  differ : rest -ℤ left ≡ times *ℤ m3
  differ =
      let a = quot-rem m1 m3 in
      let b = quot-rem (m2 -ℤ over) m3 in
      let c = quot-rem (m2 -ℤ m1) m3 in
      let d = sub-mul (int_div (m2 -ℤ m1) m3) (int_div (m2 -ℤ over) m3 -ℤ int_div m1 m3) m3 in
      let e = sub-mul (int_div (m2 -ℤ over) m3) (int_div m1 m3) m3 in
      omega (arith, linear, a, b, c, d, e)

  small_rest : unsigned_abs rest < unsigned_abs m3
  small_rest = rem_below (m2 -ℤ over) m3 (abs_some m3 some)

  small_left : unsigned_abs left < unsigned_abs m3
  small_left = rem_below (m2 -ℤ m1) m3 (abs_some m3 some)

  -- one step more
  more : rest +ℤ m3 -ℤ left ≡ (times -ℤ negsuc 0) *ℤ m3
  more =
      let a = differ in
      let b = sub-mul times (negsuc 0) m3 in
      let c : negsuc 0 *ℤ m3 ≡ neg_ℤ m3 = omega (arith, ints) in
      omega (arith, linear, a, b, c)

  up_same : pos 0 <ℤ m3 → m1 ≤ℤ m2 → pos 0 ≤ℤ rest → rest ≡ left
  up_same up way sign =
      let a = rem_up (m2 -ℤ m1) m3 (omega (arith, linear, way)) in
      same_by rest left times m3 differ (let b = small_rest in let c = small_left in omega (arith, linear, up, sign, a, b, c))

  up_more : pos 0 <ℤ m3 → m1 ≤ℤ m2 → rest <ℤ pos 0 → rest +ℤ m3 ≡ left
  up_more up way sign =
      let a = rem_up (m2 -ℤ m1) m3 (omega (arith, linear, way)) in
      same_by (rest +ℤ m3) left (times -ℤ negsuc 0) m3 more (let b = small_rest in let c = small_left in omega (arith, linear, up, sign, a, b, c))

  down_same : m3 <ℤ pos 0 → m2 ≤ℤ m1 → rest ≤ℤ pos 0 → rest ≡ left
  down_same down way sign =
      let a = rem_down (m2 -ℤ m1) m3 (omega (arith, linear, way)) in
      same_by rest left times m3 differ (let b = small_rest in let c = small_left in omega (arith, linear, down, sign, a, b, c))

  down_more : m3 <ℤ pos 0 → m2 ≤ℤ m1 → pos 0 <ℤ rest → rest +ℤ m3 ≡ left
  down_more down way sign =
      let a = rem_down (m2 -ℤ m1) m3 (omega (arith, linear, way)) in
      same_by (rest +ℤ m3) left (times -ℤ negsuc 0) m3 more (let b = small_rest in let c = small_left in omega (arith, linear, down, sign, a, b, c))

  abbrev turns : Bool
  turns = (int_lt rest (pos 0) && int_lt (pos 0) m3) || (int_lt (pos 0) rest && int_lt m3 (pos 0))

  turned : (r : Bool) → turns ≡ r → towards rest m3 ≡ (if r then rest +ℤ m3 else rest)
  turned r e = ap (λ (b : Bool). if b then rest +ℤ m3 else rest) e

  up_left : int_lt (pos 0) m3 ≡ true → m1 ≤ℤ m2 → towards rest m3 ≡ left
  up_left up way = by (int_lt rest (pos 0)) refl
    where
      not_down : int_lt m3 (pos 0) ≡ false
      not_down = fails m3 (pos 0) (let more = less_is (pos 0) m3 up in omega (arith, linear, more))

      by : (a : Bool) → int_lt rest (pos 0) ≡ a → towards rest m3 ≡ left
      by true e = turned true (λ i. (e i && up i) || (int_lt (pos 0) rest && int_lt m3 (pos 0))) ∙ up_more (less_is (pos 0) m3 up) way (less_is rest (pos 0) e)
      by false e = turned false ((λ i. (e i && up i) || (int_lt (pos 0) rest && not_down i)) ∙ and_none (int_lt (pos 0) rest)) ∙ up_same (less_is (pos 0) m3 up) way (not_less rest (pos 0) e)

  down_left : int_lt (pos 0) m3 ≡ false → m2 ≤ℤ m1 → towards rest m3 ≡ left
  down_left not_up way = by (int_lt (pos 0) rest) refl
    where
      below : m3 <ℤ pos 0
      below = let least = not_less (pos 0) m3 not_up in let more = abs_some m3 some in omega (arith, linear, least, more)

      down : int_lt m3 (pos 0) ≡ true
      down = passes m3 (pos 0) below

      by : (a : Bool) → int_lt (pos 0) rest ≡ a → towards rest m3 ≡ left
      by true e = turned true ((λ i. (int_lt rest (pos 0) && not_up i) || (e i && down i)) ∙ ap (λ (b : Bool). b || true) (and_none (int_lt rest (pos 0)))) ∙ down_more below way (less_is (pos 0) rest e)
      by false e = turned false ((λ i. (int_lt rest (pos 0) && not_up i) || (e i && down i)) ∙ ap (λ (b : Bool). b || false) (and_none (int_lt rest (pos 0)))) ∙ down_same below way (not_less (pos 0) rest e)

  -- what the code comes to is what is left
  pub towards_left : has_iteration m1 m2 m3 ≡ true → towards rest m3 ≡ left
  towards_left has = by (int_lt (pos 0) m3) refl
    where
      by : (b : Bool) → int_lt (pos 0) m3 ≡ b → towards rest m3 ≡ left
      by true up = up_left up (at_most m1 m2 (ap (λ (b : Bool). if b then int_le m1 m2 else int_le m2 m1) (sym up) ∙ has))
      by false not_up = down_left not_up (at_most m2 m1 (ap (λ (b : Bool). if b then int_le m1 m2 else int_le m2 m1) (sym not_up) ∙ has))
