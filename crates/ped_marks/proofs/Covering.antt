-- What is known of a place by the entry that covers it.
use Rattle.std.proofs.Common.{◌≡◌, ◌⊎◌, inl, inr, ℕ, zero, suc, ◌<◌, ◌≤◌, arith, true, false, Option, Some, None, if◌then◌else◌, refl, sym, ap, subst, ◌∙◌}
use Rattle.std.specs.Prelude.{nat_lt}
use Rattle.std.proofs.lemmas.Bool.{cases_eq, cases_lt}
use Rattle.std.proofs.lemmas.Bool.Decides.{nat_tests}
use Rattle.ped_marks.specs.declared.marks.Mark.TheVariants.{Waits}
use Rattle.ped_marks.specs.declared.stretches.Stretch.{Stretch}
use Rattle.ped_marks.specs.Stretches.{end_of, meaning, said, said_last, said_or, mark_by, mark_at, IsLaidOut, IsLast}
use Rattle.ped_marks.proofs.Ranges.{nothing}

pub is_below : (a b : ℕ) → a < b → nat_lt a b ≡ true
is_below a b h = grind (arith, nat_tests)

pub is_not_below : (a b : ℕ) → b ≤ a → nat_lt a b ≡ false
is_not_below a b h = grind (arith, nat_tests)

-- an entry covers a place
pub record Covers (entries : ℕ → Option Stretch) (place start : ℕ) (x : Stretch) : Type 0 where
  pub entry : entries start ≡ Some x
  pub from : start ≤ place
  pub below : place < end_of start x

module _ (g : ℕ → Option Stretch) where
  -- what is known by the entries up to a place is what the last one of them says
  pub by_last : (place n : ℕ) (r : Option (ℕ × Stretch)) → IsLast g n r → mark_by g place n ≡ said_last place r
  by_last place zero None h = ap (λ o. said_or place zero o Waits) (h zero (omega arith))
  by_last place zero (Some last) h =
      let e : last.0 ≡ zero = omega arith in
      ap (λ o. said_or place zero o Waits) (ap g (sym e) ∙ h.1) ∙ ap (λ s. said place s last.1) (sym e)
  by_last place (suc n) None h =
      ap (λ o. said_or place (suc n) o (mark_by g place n)) (h (suc n) (omega arith)) ∙ by_last place n None (λ other k. h other (omega arith))
  by_last place (suc n) (Some last) h = by (by_last place n (Some last)) (cases_eq last.0 (suc n))
    where
      by : (IsLast g n (Some last) → mark_by g place n ≡ said place last.0 last.1) → (last.0 ≡ suc n) ⊎ (last.0 ≡ suc n → ⊥) → mark_by g place (suc n) ≡ said place last.0 last.1
      by before (inl e) = ap (λ o. said_or place (suc n) o (mark_by g place n)) (ap g (sym e) ∙ h.1) ∙ ap (λ s. said place s last.1) (sym e)
      by before (inr ne) =
          let up : last.0 ≤ n = omega arith in
          let above : last.0 < suc n = omega arith in
          let up_to : suc n ≤ suc n = omega arith in
          ap (λ o. said_or place (suc n) o (mark_by g place n)) (h.2 (suc n) above up_to)
          ∙ before (up, h.1, λ other k l. h.2 other k (omega arith))

  -- there is a last entry, or there is none
  pub last_of : (n : ℕ) → (r : Option (ℕ × Stretch)) × IsLast g n r
  last_of zero = by (g zero) refl
    where
      by : (o : Option Stretch) → g zero ≡ o → (r : Option (ℕ × Stretch)) × IsLast g zero r
      by None e = (None, λ other h. let z : zero ≡ other = omega arith in subst (λ (k : ℕ). g k ≡ None) z e)
      by (Some x) e = (Some (zero, x), (omega arith, e, λ other h k. absurd (omega arith)))
  last_of (suc n) = by (last_of n) (g (suc n)) refl
    where
      before : g (suc n) ≡ None → (r : Option (ℕ × Stretch)) → IsLast g n r → IsLast g (suc n) r
      before e None h = λ other k. at other k (cases_eq other (suc n))
        where
          at : (other : ℕ) → other ≤ suc n → (other ≡ suc n) ⊎ (other ≡ suc n → ⊥) → g other ≡ None
          at other k (inl q) = ap g q ∙ e
          at other k (inr q) = h other (omega arith)
      before e (Some last) h = (let a = h.0 in omega arith, h.1, λ other k l. at other k l (cases_eq other (suc n)))
        where
          at : (other : ℕ) → last.0 < other → other ≤ suc n → (other ≡ suc n) ⊎ (other ≡ suc n → ⊥) → g other ≡ None
          at other k l (inl q) = ap g q ∙ e
          at other k l (inr q) = h.2 other k (omega arith)

      by : (r : Option (ℕ × Stretch)) × IsLast g n r → (o : Option Stretch) → g (suc n) ≡ o → (r : Option (ℕ × Stretch)) × IsLast g (suc n) r
      by l None e = (l.0, before e l.0 l.1)
      by l (Some x) e = (Some (suc n, x), (omega arith, e, λ other h k. absurd (omega arith)))

  -- a place is covered by an entry, or by none
  pub covered_or : (place : ℕ) → ((start : ℕ) × (x : Stretch) × Covers g place start x × (mark_at g place ≡ meaning x)) ⊎ (mark_at g place ≡ Waits)
  covered_or place = let l = last_of place in by l.0 l.1
    where
      by : (r : Option (ℕ × Stretch)) → IsLast g place r → ((start : ℕ) × (x : Stretch) × Covers g place start x × (mark_at g place ≡ meaning x)) ⊎ (mark_at g place ≡ Waits)
      by None h = inr (by_last place place None h)
      by (Some last) h = at (cases_lt place (end_of last.0 last.1))
        where
          at : (place < end_of last.0 last.1) ⊎ (end_of last.0 last.1 ≤ place) → ((start : ℕ) × (x : Stretch) × Covers g place start x × (mark_at g place ≡ meaning x)) ⊎ (mark_at g place ≡ Waits)
          at (inl k) = inl (
            last.0,
            last.1,
            record { entry = h.1; from = h.0; below = k },
            by_last place place (Some last) h ∙ ap (λ b. if b then meaning last.1 else Waits) (is_below place (end_of last.0 last.1) k),
          )
          at (inr k) = inr (by_last place place (Some last) h ∙ ap (λ b. if b then meaning last.1 else Waits) (is_not_below place (end_of last.0 last.1) k))

  -- where no entry covers a place, it waits
  pub uncovered : (place : ℕ) → ((start : ℕ) (x : Stretch) → Covers g place start x → ⊥) → mark_at g place ≡ Waits
  uncovered place none = by (covered_or place)
    where
      by : ((start : ℕ) × (x : Stretch) × Covers g place start x × (mark_at g place ≡ meaning x)) ⊎ (mark_at g place ≡ Waits) → mark_at g place ≡ Waits
      by (inl c) = absurd (none c.0 c.1 c.2)
      by (inr e) = e

  -- what an entry says is known of each place that it covers
  pub covered : (count : ℕ) → IsLaidOut count g → (place start : ℕ) (x : Stretch) → Covers g place start x → mark_at g place ≡ meaning x
  covered count is place start x c =
      by_last place place (Some (start, x)) (
        c.from,
        c.entry,
        λ other k l. nothing (g other) (λ y found. let p : end_of start x ≤ other = is.apart start other x y c.entry found k in let q : place < end_of start x = c.below in omega arith),
      )
      ∙ ap (λ b. if b then meaning x else Waits) (is_below place (end_of start x) c.below)
