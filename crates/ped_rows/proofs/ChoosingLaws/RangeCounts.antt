-- How many iterations a DO of a range between two numbers has.
use Rattle.std.proofs.Common.{◌≡◌, ℕ, suc, ◌-◌, ◌*◌, ◌≤◌, ◌<◌, refl, sym, ap, subst, arith, ℤ, pos, negsuc, neg_ℤ, ◌+ℤ◌, ◌-ℤ◌, ◌*ℤ◌, ◌≤ℤ◌, ◌<ℤ◌, int_div, int_rem, int_lt, unsigned_abs, Bool, true, false, if◌then◌else◌}
use Rattle.std.proofs.Math.IntN.{*ℤ_comm}
use Rattle.std.proofs.lemmas.Int.{ints, by_lt_z, quot-rem, rem_below}
use Rattle.ped_laws.specs.ped_graph.specs.ped_views.specs.Views.{Range, range}
use Rattle.ped_laws.specs.ped_graph.specs.ped_views.proofs.Products.{linear, mul-le, neg-mul}
use Rattle.ped_laws.specs.ped_eval.specs.ped_store.specs.Storage.{natural}
use Rattle.ped_laws.specs.ped_eval.specs.Loops.{iteration_count}
use Rattle.ped_laws.specs.ped_flow.specs.ped_affine.specs.IntervalArithmetic.{point}
use Rattle.ped_laws.specs.ped_flow.specs.ped_affine.specs.Ranges.{range_between}
use Rattle.ped_rows.proofs.ChoosingLaws.RowDistances.{begin, IsShort}

-- the range of a DO with these limits and this step
pub record IsRangeOf (r : Range) (first last step : ℤ) (steady : Bool) : Type 0 where
  pub begins : begin r ≡ first
  pub step_is : r.step ≡ step
  pub steady_is : r.steady ≡ steady
  pub upwards : pos 0 ≤ℤ step → r.hi -ℤ r.lo ≡ last -ℤ first
  pub downwards : step <ℤ pos 0 → r.hi -ℤ r.lo ≡ first -ℤ last

pub range_of : (first last step : ℤ) (steady : Bool) → IsRangeOf (range_between (point first) (point last) step steady) first last step steady
range_of first last step steady = by (int_lt step (pos 0)) refl
  where
    by : (b : Bool) → int_lt step (pos 0) ≡ b → IsRangeOf (if b then range last first step steady else range first last step steady) first last step steady
    by true e = record {
      begins = ap (λ (b : Bool). if b then first else last) e;
      step_is = refl;
      steady_is = refl;
      upwards = λ h. absurd (omega (arith, linear));
      downwards = λ h. refl;
    }
    by false e = record {
      begins = ap (λ (b : Bool). if b then last else first) e;
      step_is = refl;
      steady_is = refl;
      upwards = λ h. refl;
      downwards = λ h. absurd (omega (arith, linear));
    }

natural_least : (k : ℕ) (q : ℤ) → 1 ≤ k → pos k ≤ℤ q → k ≤ natural q
natural_least k (pos n) one h = omega (arith, ints)
natural_least k (negsuc n) one h = absurd (omega (arith, ints))

one_less : (k : ℕ) → 1 ≤ k → pos (k - 1) ≡ pos k -ℤ pos 1
one_less k one = omega (arith, ints)

-- an iteration that doesn't go beyond the last value counts
counted_up : (first last step : ℤ) (k : ℕ) → pos 0 <ℤ step → 1 ≤ k → (step *ℤ pos (k - 1)) ≤ℤ (last -ℤ first) → k ≤ iteration_count first last step
counted_up first last step k up one h = go (last -ℤ first +ℤ step) (int_div (last -ℤ first +ℤ step) step) (int_rem (last -ℤ first +ℤ step) step) refl refl (quot-rem (last -ℤ first +ℤ step) step) (rem_below (last -ℤ first +ℤ step) step (omega (arith, ints)))
  where
    go : (n q r : ℤ) → n ≡ last -ℤ first +ℤ step → int_div (last -ℤ first +ℤ step) step ≡ q → q *ℤ step +ℤ r ≡ n → unsigned_abs r < unsigned_abs step → k ≤ iteration_count first last step
    go n q r is quotient parts small = subst (λ (z : ℤ). k ≤ natural z) (sym quotient) (natural_least k q one (by_lt_z q (pos k) few (λ u. u)))
      where
        few : q <ℤ pos k → pos k ≤ℤ q
        few u =
            let l = one_less k one in
            let m = mul-le step q (pos (k - 1)) (omega (arith, linear)) (omega (arith, linear)) in
            let c = *ℤ_comm q step in
            absurd (omega (arith, linear))

counted_down : (first last step : ℤ) (k : ℕ) → step <ℤ pos 0 → 1 ≤ k → (neg_ℤ step *ℤ pos (k - 1)) ≤ℤ (first -ℤ last) → k ≤ iteration_count first last step
counted_down first last step k down one h = go (last -ℤ first +ℤ step) (int_div (last -ℤ first +ℤ step) step) (int_rem (last -ℤ first +ℤ step) step) refl refl (quot-rem (last -ℤ first +ℤ step) step) (rem_below (last -ℤ first +ℤ step) step (omega (arith, ints)))
  where
    go : (n q r : ℤ) → n ≡ last -ℤ first +ℤ step → int_div (last -ℤ first +ℤ step) step ≡ q → q *ℤ step +ℤ r ≡ n → unsigned_abs r < unsigned_abs step → k ≤ iteration_count first last step
    go n q r is quotient parts small = subst (λ (z : ℤ). k ≤ natural z) (sym quotient) (natural_least k q one (by_lt_z q (pos k) few (λ u. u)))
      where
        few : q <ℤ pos k → pos k ≤ℤ q
        few u =
            let l = one_less k one in
            let m = mul-le (neg_ℤ step) q (pos (k - 1)) (omega (arith, linear)) (omega (arith, linear)) in
            let e = neg-mul step q in
            let c = *ℤ_comm q step in
            absurd (omega (arith, linear))

short_up : (x s : ℕ) (n : ℤ) → pos (x * s) ≤ℤ n → (pos s *ℤ pos x) ≤ℤ n
short_up x s n h = omega (arith, ints)

-- an iteration whose value lies no further from the first than the range is long is one of the DO
pub is_counted : (r : Range) (first last step : ℤ) (steady : Bool) (k : ℕ) → IsRangeOf r first last step steady → ¬ (step ≡ pos 0) → IsShort r k → k ≤ iteration_count first last step
is_counted r first last step steady k is some short =
    by_lt_z step (pos 0)
    (λ h. counted_down first last step k h short.from (negative step h (subst (λ (z : ℤ). pos ((k - 1) * unsigned_abs step) ≤ℤ z) (is.downwards h) long)))
    (λ h. counted_up first last step k (positive step h some) short.from (ascending step h (subst (λ (z : ℤ). pos ((k - 1) * unsigned_abs step) ≤ℤ z) (is.upwards h) long)))
  where
    long : pos ((k - 1) * unsigned_abs step) ≤ℤ (r.hi -ℤ r.lo)
    long = subst (λ (z : ℤ). pos ((k - 1) * unsigned_abs z) ≤ℤ (r.hi -ℤ r.lo)) is.step_is short.to

    positive : (s : ℤ) → pos 0 ≤ℤ s → ¬ (s ≡ pos 0) → pos 0 <ℤ s
    positive s h n = omega (arith, ints)

    ascending : (s : ℤ) → pos 0 ≤ℤ s → pos ((k - 1) * unsigned_abs s) ≤ℤ (last -ℤ first) → (s *ℤ pos (k - 1)) ≤ℤ (last -ℤ first)
    ascending (pos n) h m = short_up (k - 1) n (last -ℤ first) m
    ascending (negsuc n) h m = absurd (omega (arith, ints))

    negative : (s : ℤ) → s <ℤ pos 0 → pos ((k - 1) * unsigned_abs s) ≤ℤ (first -ℤ last) → (neg_ℤ s *ℤ pos (k - 1)) ≤ℤ (first -ℤ last)
    negative (pos n) h m = absurd (omega (arith, ints))
    negative (negsuc n) h m = short_up (k - 1) (suc n) (first -ℤ last) m
