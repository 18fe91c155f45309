-- The values of a function as a list.
use Rattle.std.proofs.Common.{◌≡◌, ◌⊎◌, inl, inr, ℕ, zero, suc, ◌<◌, ◌≤◌, List, length, refl, ap, subst, arith, false, if◌then◌else◌, eqb, ◌∙◌, sym}
use Rattle.std.proofs.lemmas.Bool.{cases_lt}
use Rattle.std.proofs.lemmas.List.{get_or_past}
use Rattle.ped_marks.specs.declared.marks.Mark.{Mark}
use Rattle.ped_marks.specs.declared.marks.Mark.TheVariants.{Waits}
use Rattle.ped_marks.specs.Marks.{at}
use Rattle.ped_marks.specs.Stretches.{values}
use Rattle.ped_marks.proofs.Starting.{is_elsewhere}

pub length-values : (f : ℕ → Mark) (n : ℕ) → length (values f n) ≡ n
length-values f zero = refl
length-values f (suc n) = ap suc (length-values (λ k. f (suc k)) n)

pub at-values : (f : ℕ → Mark) (n k : ℕ) → k < n → at (values f n) k ≡ f k
at-values f zero k h = absurd (omega arith)
at-values f (suc n) zero h = refl
at-values f (suc n) (suc k) h = at-values (λ j. f (suc j)) n k (omega arith)

pub at_past : (f : ℕ → Mark) (n k : ℕ) → n ≤ k → at (values f n) k ≡ Waits
at_past f n k h = get_or_past (values f n) k Waits (rw (length-values f n) h)

pub all_waiting : (f : ℕ → Mark) (n : ℕ) → ((k : ℕ) → f k ≡ Waits) → (k : ℕ) → at (values f n) k ≡ Waits
all_waiting f n e k = by (cases_lt k n)
  where
    by : (k < n) ⊎ (n ≤ k) → at (values f n) k ≡ Waits
    by (inl h) = at-values f n k h ∙ e k
    by (inr h) = at_past f n k h

-- a place of the values is one of so many, and holds the value there
pub inside : (f : ℕ → Mark) (n k : ℕ) (ms : List Mark) → values f n ≡ ms → k < length ms → k < n
inside f n k ms e h = subst (λ (l : ℕ). k < l) (ap length (sym e) ∙ length-values f n) h

pub value_is : (f : ℕ → Mark) (n k : ℕ) (ms : List Mark) → values f n ≡ ms → k < length ms → f k ≡ at ms k
value_is f n k ms e h = sym (at-values f n k (inside f n k ms e h)) ∙ ap (λ (l : List Mark). at l k) e

-- where functions differ at a place alone, so do their values
pub another_at : (f g : ℕ → Mark) (n place : ℕ) (m : Mark) → place < n → ((k : ℕ) → f k ≡ (if eqb k place then m else g k))
    → (k : ℕ) → at (values f n) k ≡ (if eqb k place then m else at (values g n) k)
another_at f g n place m inside e k = by (cases_lt k n)
  where
    by : (k < n) ⊎ (n ≤ k) → at (values f n) k ≡ (if eqb k place then m else at (values g n) k)
    by (inl h) = at-values f n k h ∙ e k ∙ ap (λ (x : Mark). if eqb k place then m else x) (sym (at-values g n k h))
    by (inr h) =
        let ne : eqb k place ≡ false = is_elsewhere k place (λ q. absurd (omega arith)) in
        at_past f n k h ∙ sym (ap (λ b. if b then m else at (values g n) k) ne ∙ at_past g n k h)
