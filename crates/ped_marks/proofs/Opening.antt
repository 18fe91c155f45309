-- The first place from a place on whose iteration isn't finished.
use Rattle.std.proofs.Common.{◌≡◌, ◌⊎◌, inl, inr, ℕ, ◌+◌, ◌<◌, ◌≤◌, arith, length, Bool, true, false, Option, Some, None, if◌then◌else◌, refl, sym, ap, subst, ◌∙◌}
use Rattle.std.specs.Prelude.{nat_lt}
use Rattle.std.proofs.lemmas.Bool.{cases_eq, cases_lt}
use Rattle.ped_marks.specs.declared.marks.Mark.TheVariants as mark
use Rattle.ped_marks.specs.declared.stretches.Stretch.{Stretch}
use Rattle.ped_marks.specs.declared.stretches.Stretch.TheVariants.{Running, Done}
use Rattle.ped_marks.specs.Marks.{at, is_done}
use Rattle.ped_marks.specs.Stretches.{meaning, mark_at, marks_of, first_open, IsLaidOut, IsLast}
use Rattle.ped_marks.proofs.Covering.{Covers, by_last, covered, covered_or, is_below, is_not_below}
use Rattle.ped_marks.proofs.Values.{length-values, at-values}

module _ (count : ℕ) (g : ℕ → Option Stretch) (is : IsLaidOut count g) where
  -- no stretch covers the place behind a stretch
  no_more : (start end : ℕ) → g start ≡ Some (Done end) → (other behind : ℕ) → Covers g end other (Done behind) → ⊥
  no_more start end e other behind c = by (cases_eq other end) (cases_lt other start) (cases_lt start other)
    where
      by : (other ≡ end) ⊎ (other ≡ end → ⊥) → (other < start) ⊎ (start ≤ other) → (start < other) ⊎ (other ≤ start) → ⊥
      by (inl q) l m = is.whole start end behind e (ap g (sym q) ∙ c.entry)
      by (inr ne) (inl l) m = let a = is.apart other start (Done behind) (Done end) c.entry e l in let w = is.within start (Done end) e in let b = c.below in omega arith
      by (inr ne) (inr l) (inl m) = let a = is.apart start other (Done end) (Done behind) e c.entry m in let f = c.from in ne (omega arith)
      by (inr ne) (inr l) (inr m) =
          let q : start ≡ other = omega arith in
          let same : Some (Done end) ≡ Some (Done behind) = sym e ∙ ap g q ∙ c.entry in
          let ends : end ≡ behind = cc in
          let b = c.below in
          omega arith

  -- what is behind a stretch isn't finished
  open_behind : (start end : ℕ) → g start ≡ Some (Done end) → is_done (mark_at g end) ≡ false
  open_behind start end e = by (covered_or g end)
    where
      by_entry : (other : ℕ) (x : Stretch) → Covers g end other x → is_done (meaning x) ≡ false
      by_entry other (Running key) c = refl
      by_entry other (Done behind) c = absurd (no_more start end e other behind c)

      by : ((other : ℕ) × (x : Stretch) × Covers g end other x × (mark_at g end ≡ meaning x)) ⊎ (mark_at g end ≡ mark.Waits) → is_done (mark_at g end) ≡ false
      by (inl c) = ap is_done c.3 ∙ by_entry c.0 c.1 c.2
      by (inr w) = ap is_done w

  -- the place isn't before the first one, which isn't finished, and all between are
  record IsOpen (place first : ℕ) : Type 0 where
    from : place ≤ first
    unfinished : is_done (mark_at g first) ≡ false
    between : (k : ℕ) → place ≤ k → k < first → mark_at g k ≡ mark.Done

  here : (place : ℕ) → is_done (mark_at g place) ≡ false → IsOpen place place
  here place e = record { from = omega arith; unfinished = e; between = λ k h l. absurd (omega arith) }

  running_open : (place start key : ℕ) (b : Bool) → is_done (if b then mark.Running key else mark.Waits) ≡ false
  running_open place start key true = refl
  running_open place start key false = refl

  is_open : (place : ℕ) (last : Option (ℕ × Stretch)) → IsLast g place last → IsOpen place (first_open place last)
  is_open place None h = here place (ap is_done (by_last g place place None h))
  is_open place (Some (start, Running key)) h = here place (ap is_done (by_last g place place (Some (start, Running key)) h) ∙ running_open place start key (nat_lt place (start + 1)))
  is_open place (Some (start, Done end)) h = by (cases_lt place end)
    where
      by : (place < end) ⊎ (end ≤ place) → IsOpen place (if nat_lt place end then end else place)
      by (inl l) = subst (λ (b : Bool). IsOpen place (if b then end else place)) (sym (is_below place end l)) (record {
        from = omega arith;
        unfinished = open_behind start end h.1;
        between = λ k from below. covered g count is k start (Done end) (record { entry = h.1; from = (let s = h.0 in omega arith); below = below });
      })
      by (inr l) = subst (λ (b : Bool). IsOpen place (if b then end else place)) (sym (is_not_below place end l))
          (here place (ap is_done (by_last g place place (Some (start, Done end)) h ∙ ap (λ b. if b then mark.Done else mark.Waits) (is_not_below place end l))))

  module _ (place first : ℕ) (last : Option (ℕ × Stretch)) (h : IsLast g place last) (e : first ≡ first_open place last) where
    opens : IsOpen place first
    opens = subst (IsOpen place) (sym e) (is_open place last h)

    pub open_some : first < count → (place ≤ first) × (first < length (marks_of count g)) × (is_done (at (marks_of count g) first) ≡ false)
        × ((k : ℕ) → place ≤ k → k < first → at (marks_of count g) k ≡ mark.Done)
    open_some inside = (
      opens.from,
      rw (length-values (mark_at g) count) inside,
      ap is_done (at-values (mark_at g) count first inside) ∙ opens.unfinished,
      λ k from below. at-values (mark_at g) count k (omega arith) ∙ opens.between k from below,
    )

    pub open_none : count ≤ first → (k : ℕ) → place ≤ k → k < length (marks_of count g) → at (marks_of count g) k ≡ mark.Done
    open_none past k from below =
        let inside : k < count = rw length-values at below in
        at-values (mark_at g) count k inside ∙ opens.between k from (omega arith)
