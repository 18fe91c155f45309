-- What the entries say once an iteration has begun.
use Rattle.std.proofs.Common.{◌≡◌, ◌⊎◌, inl, inr, ℕ, ◌+◌, ◌<◌, ◌≤◌, arith, true, false, Option, Some, if◌then◌else◌, eqb, eq-eqb, refl, sym, ap, subst, ◌∙◌}
use Rattle.std.proofs.lemmas.Bool.{cases_eq, cases_lt}
use Rattle.std.proofs.lemmas.Bool.Decides.{nat_tests}
use Rattle.ped_marks.specs.declared.marks.Mark.TheVariants as mark
use Rattle.ped_marks.specs.declared.stretches.Stretch.{Stretch}
use Rattle.ped_marks.specs.declared.stretches.Stretch.TheVariants.{Running, Done}
use Rattle.ped_marks.specs.Stretches.{end_of, meaning, mark_at, with_entry, IsLaidOut}
use Rattle.ped_marks.proofs.Covering.{Covers, covered, covered_or, uncovered}

pub is_here : (a b : ℕ) → a ≡ b → eqb a b ≡ true
is_here a b e = eq-eqb a b e

pub is_elsewhere : (a b : ℕ) → (a ≡ b → ⊥) → eqb a b ≡ false
is_elsewhere a b ne = grind (arith, nat_tests)

pub means_something : (x : Stretch) → meaning x ≡ mark.Waits → ⊥
means_something (Running key) e = cc
means_something (Done end) e = cc

module _ (count place key : ℕ) (g h : ℕ → Option Stretch) (is : IsLaidOut count g) (inside : place < count) (waits : mark_at g place ≡ mark.Waits)
    (new : (k : ℕ) → h k ≡ with_entry g place (Some (Running key)) k) where
  here : h place ≡ Some (Running key)
  here = new place ∙ ap (λ b. if b then Some (Running key) else g place) (is_here place place refl)

  elsewhere : (k : ℕ) → (k ≡ place → ⊥) → h k ≡ g k
  elsewhere k ne = new k ∙ ap (λ b. if b then Some (Running key) else g k) (is_elsewhere k place ne)

  -- no entry covers the place yet
  not_covered : (start : ℕ) (x : Stretch) → Covers g place start x → ⊥
  not_covered start x c = means_something x (sym (covered g count is place start x c) ∙ waits)

  -- the new entries are the one that begins and the old ones
  entry_cases : (k : ℕ) (x : Stretch) → h k ≡ Some x → ((k ≡ place) × (x ≡ Running key)) ⊎ ((k ≡ place → ⊥) × (g k ≡ Some x))
  entry_cases k x e = by (cases_eq k place)
    where
      by : (k ≡ place) ⊎ (k ≡ place → ⊥) → ((k ≡ place) × (x ≡ Running key)) ⊎ ((k ≡ place → ⊥) × (g k ≡ Some x))
      by (inl q) = let same : Some (Running key) ≡ Some x = sym here ∙ ap h (sym q) ∙ e in inl (q, cc)
      by (inr ne) = inr (ne, sym (elsewhere k ne) ∙ e)

  -- an old entry lies before the place or behind it
  aside : (k : ℕ) (x : Stretch) → (k ≡ place → ⊥) → g k ≡ Some x → (end_of k x ≤ place) ⊎ (place < k)
  aside k x ne e = by (cases_lt k place) (cases_lt place (end_of k x))
    where
      by : (k < place) ⊎ (place ≤ k) → (place < end_of k x) ⊎ (end_of k x ≤ place) → (end_of k x ≤ place) ⊎ (place < k)
      by (inl l) (inl m) = absurd (not_covered k x (record { entry = e; from = omega arith; below = m }))
      by (inl l) (inr m) = inl m
      by (inr l) m = inr (omega arith)

  pub started_laid_out : IsLaidOut count h
  started_laid_out = record {
    within = λ k x e. within k x (entry_cases k x e);
    apart = λ k j x y e f l. apart k j x y l (entry_cases k x e) (entry_cases j y f);
    whole = λ k j other e f. whole k j other (entry_cases k (Done j) e) (entry_cases j (Done other) f);
  }
    where
      within : (k : ℕ) (x : Stretch) → ((k ≡ place) × (x ≡ Running key)) ⊎ ((k ≡ place → ⊥) × (g k ≡ Some x)) → (k < end_of k x) × (end_of k x ≤ count)
      within k x (inl q) = subst (λ (y : Stretch). (k < end_of k y) × (end_of k y ≤ count)) (sym q.1) (let e = q.0 in (omega arith, omega arith))
      within k x (inr q) = is.within k x q.1

      apart : (k j : ℕ) (x y : Stretch) → k < j → ((k ≡ place) × (x ≡ Running key)) ⊎ ((k ≡ place → ⊥) × (g k ≡ Some x))
          → ((j ≡ place) × (y ≡ Running key)) ⊎ ((j ≡ place → ⊥) × (g j ≡ Some y)) → end_of k x ≤ j
      apart k j x y l (inl q) other = subst (λ (z : Stretch). end_of k z ≤ j) (sym q.1) (omega arith)
      apart k j x y l (inr q) (inl r) = behind (aside k x q.0 q.1)
        where
          behind : (end_of k x ≤ place) ⊎ (place < k) → end_of k x ≤ j
          behind (inl m) = let e = r.0 in omega arith
          behind (inr m) = let e = r.0 in absurd (omega arith)
      apart k j x y l (inr q) (inr r) = is.apart k j x y q.1 r.1 l

      whole : (k j other : ℕ) → ((k ≡ place) × (Done j ≡ Running key)) ⊎ ((k ≡ place → ⊥) × (g k ≡ Some (Done j)))
          → ((j ≡ place) × (Done other ≡ Running key)) ⊎ ((j ≡ place → ⊥) × (g j ≡ Some (Done other))) → ⊥
      whole k j other (inl q) r = let e = q.1 in absurd cc
      whole k j other (inr q) (inl r) = let e = r.1 in absurd cc
      whole k j other (inr q) (inr r) = is.whole k j other q.1 r.1

  -- elsewhere all is as it was
  pub started : (k : ℕ) → mark_at h k ≡ (if eqb k place then mark.Running key else mark_at g k)
  started k = by (cases_eq k place)
    where
      other_as : (k ≡ place → ⊥) → mark_at h k ≡ mark_at g k
      other_as ne = by_cover (covered_or g k)
        where
          still : (start : ℕ) (x : Stretch) → Covers g k start x → Covers h k start x
          still start x c = record {
            entry = elsewhere start (λ e. not_covered start x (record { entry = c.entry; from = omega arith; below = (let w = is.within start x c.entry in omega arith) })) ∙ c.entry;
            from = c.from;
            below = c.below;
          }

          none : mark_at g k ≡ mark.Waits → (start : ℕ) (x : Stretch) → Covers h k start x → ⊥
          none w start x c = at (entry_cases start x c.entry)
            where
              at : ((start ≡ place) × (x ≡ Running key)) ⊎ ((start ≡ place → ⊥) × (g start ≡ Some x)) → ⊥
              at (inl q) = let l : k < start + 1 = subst (λ (y : Stretch). k < end_of start y) q.1 c.below in let f = c.from in let e = q.0 in ne (omega arith)
              at (inr q) = means_something x (sym (covered g count is k start x (record { entry = q.1; from = c.from; below = c.below })) ∙ w)

          by_cover : ((start : ℕ) × (x : Stretch) × Covers g k start x × (mark_at g k ≡ meaning x)) ⊎ (mark_at g k ≡ mark.Waits) → mark_at h k ≡ mark_at g k
          by_cover (inl c) = covered h count started_laid_out k c.0 c.1 (still c.0 c.1 c.2) ∙ sym c.3
          by_cover (inr w) = uncovered h k (none w) ∙ sym w

      by : (k ≡ place) ⊎ (k ≡ place → ⊥) → mark_at h k ≡ (if eqb k place then mark.Running key else mark_at g k)
      by (inl e) =
          covered h count started_laid_out k place (Running key) (record { entry = here; from = omega arith; below = omega arith })
          ∙ ap (λ b. if b then mark.Running key else mark_at g k) (sym (is_here k place e))
      by (inr ne) = other_as ne ∙ ap (λ b. if b then mark.Running key else mark_at g k) (sym (is_elsewhere k place ne))
