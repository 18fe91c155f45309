-- A loop over parts of a sum: what the parts so far tell, whatever the parts ahead are.
use Rattle.std.proofs.Common.{◌≡◌, ◌↔◌, ℕ, ◌+◌, ◌*◌, subst, arith, ℤ, pos, ◌+ℤ◌}
use Rattle.ped_views.specs.declared.intervals.Interval.{Interval}
use Rattle.ped_views.specs.Intervals.{IsWithin, IsImageOfBoth}
use Rattle.ped_views.proofs.Products.{linear}
use Rattle.ped_views.proofs.Images.{add_ends}
use Rattle.ped_miv.specs.Values.{Extreme, Plus}
use Rattle.ped_miv.proofs.Extremal.{extreme_plus}

-- the extremes of the whole are those so far and those ahead; and without numbers ahead there are none
pub record Ahead (whole ahead : ℤ → Type 0) (sum : Interval) : Type 0 where
  pub some : (l h : ℤ) → Extreme ahead l h → Extreme whole (sum.lo +ℤ l) (sum.hi +ℤ h)
  pub none : ((v : ℤ) → ¬ (ahead v)) → (v : ℤ) → ¬ (whole v)

extreme_at : (P : ℤ → Type 0) (l h m n : ℤ) → l ≡ m → h ≡ n → Extreme P l h → Extreme P m n
extreme_at P l h m n e f x = subst (λ (y : ℤ). Extreme P m y) f (subst (λ (y : ℤ). Extreme P y h) e x)

pub Ahead-start : (whole : ℤ → Type 0) (sum : Interval) → sum.lo ≡ pos 0 → sum.hi ≡ pos 0 → Ahead whole whole sum
Ahead-start whole sum e f = record {
  some = λ l h x. extreme_at whole l h (sum.lo +ℤ l) (sum.hi +ℤ h) (omega (arith, linear)) (omega (arith, linear)) x;
  none = λ n. n;
}

-- nothing is left
pub Ahead-end : (whole ahead : ℤ → Type 0) (sum : Interval) → Ahead whole ahead sum → ((v : ℤ) → ahead v ↔ (v ≡ pos 0)) → Extreme whole sum.lo sum.hi
Ahead-end whole ahead sum a e =
    extreme_at whole (sum.lo +ℤ pos 0) (sum.hi +ℤ pos 0) sum.lo sum.hi (omega (arith, linear)) (omega (arith, linear))
    (a.some (pos 0) (pos 0) (record { least = (e (pos 0)).1 zero; greatest = (e (pos 0)).1 zero; between = λ v x. let z = (e v).0 x in (omega (arith, linear), omega (arith, linear)) }))
  where
    zero : pos 0 ≡ pos 0
    zero = omega (arith, linear)

-- a part ahead joins those so far
module _ (whole ahead part rest : ℤ → Type 0) (sum : Interval) (before : Ahead whole ahead sum) (opens : (v : ℤ) → ahead v ↔ Plus part rest v) where
  pub Ahead-step : (n m : ℕ) (one more : Interval) → IsWithin n sum → IsWithin m one → Extreme part one.lo one.hi → IsImageOfBoth (λ x. λ y. x +ℤ y) sum one more → Ahead whole rest more
  Ahead-step n m one more s t x image =
      let ends = add_ends sum one more s.ordered t.ordered image in
      record {
        some = λ l h y. extreme_at whole (sum.lo +ℤ (one.lo +ℤ l)) (sum.hi +ℤ (one.hi +ℤ h)) (more.lo +ℤ l) (more.hi +ℤ h) (omega (arith, linear)) (omega (arith, linear))
            (before.some (one.lo +ℤ l) (one.hi +ℤ h) (opened (one.lo +ℤ l) (one.hi +ℤ h) (extreme_plus part rest one.lo one.hi l h x y)));
        none = λ none. before.none (λ v a. let p = (opens v).0 a in none p.1 p.3);
      }
    where
      opened : (l h : ℤ) → Extreme (Plus part rest) l h → Extreme ahead l h
      opened l h y = record { least = (opens l).1 y.least; greatest = (opens h).1 y.greatest; between = λ v a. y.between v ((opens v).0 a) }

  -- a part without numbers leaves none to the whole
  pub Ahead-stop : ((v : ℤ) → ¬ (part v)) → (v : ℤ) → ¬ (whole v)
  Ahead-stop none = before.none (λ v a. let p = (opens v).0 a in none p.0 p.2)

-- the sum so far is small
pub within_step : (n k m : ℕ) (sum one more : Interval) → IsWithin (k * n) sum → IsWithin n one → IsImageOfBoth (λ x. λ y. x +ℤ y) sum one more → m ≡ (k + 1) * n → IsWithin m more
within_step n k m sum one more s t image e =
    let ends = add_ends sum one more s.ordered t.ordered image in
    let a = s.ordered in
    let b = t.ordered in
    record { ordered = omega (arith, linear); lo_small = omega (arith, linear, s.lo_small, t.lo_small); hi_small = omega (arith, linear, s.hi_small, t.hi_small) }
