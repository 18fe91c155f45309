-- What the entries say once an iteration is finished: its entry has become a stretch, joined with those that it touches.
use Rattle.std.proofs.Common.{◌≡◌, ◌⊎◌, inl, inr, ℕ, ◌+◌, ◌<◌, ◌≤◌, arith, Bool, true, false, Option, Some, None, is_some, if◌then◌else◌, eqb, refl, sym, ap, subst, ◌∙◌}
use Rattle.std.proofs.lemmas.Bool.{cases_eq, cases_lt}
use Rattle.ped_marks.specs.declared.marks.Mark.TheVariants as mark
use Rattle.ped_marks.specs.declared.stretches.Stretch.{Stretch}
use Rattle.ped_marks.specs.declared.stretches.Stretch.TheVariants.{Running, Done}
use Rattle.ped_marks.specs.Marks.{is_running}
use Rattle.ped_marks.specs.Stretches.{end_of, meaning, mark_at, end_from, with_entry, IsLaidOut, IsStart}
use Rattle.ped_marks.proofs.Ranges.{nothing}
use Rattle.ped_marks.proofs.Covering.{Covers, covered, covered_or, uncovered}
use Rattle.ped_marks.proofs.Starting.{is_here, is_elsewhere, means_something}

-- the entry of an iteration that is running
pub running_entry : (g : ℕ → Option Stretch) (place : ℕ) → is_running (mark_at g place) ≡ true → (key : ℕ) × (g place ≡ Some (Running key))
running_entry g place r = by (covered_or g place)
  where
    by_entry : (start : ℕ) (x : Stretch) → Covers g place start x → is_running (meaning x) ≡ true → (key : ℕ) × (g place ≡ Some (Running key))
    by_entry start (Running key) c e = let f = c.from in let b = c.below in let q : place ≡ start = omega arith in (key, ap g q ∙ c.entry)
    by_entry start (Done end) c e = absurd cc

    by : ((start : ℕ) × (x : Stretch) × Covers g place start x × (mark_at g place ≡ meaning x)) ⊎ (mark_at g place ≡ mark.Waits) → (key : ℕ) × (g place ≡ Some (Running key))
    by (inl c) = by_entry c.0 c.1 c.2 (sym (ap is_running c.3) ∙ r)
    by (inr w) = let never : false ≡ true = sym (ap is_running w) ∙ r in absurd cc

-- a stretch begins behind the place and ends there, or none does and this is the place behind
abbrev pub IsEnd : (ℕ → Option Stretch) → ℕ → ℕ → Type 0
IsEnd g next end = (g next ≡ Some (Done end)) ⊎ ((end ≡ next) × ((other : ℕ) → g next ≡ Some (Done other) → ⊥))

pub ends_by : (g : ℕ → Option Stretch) (next end : ℕ) (o : Option Stretch) → g next ≡ o → end ≡ end_from next o → IsEnd g next end
ends_by g next end None e is = inr (is, λ other f. let never : None ≡ Some (Done other) = sym e ∙ f in absurd cc)
ends_by g next end (Some (Running key)) e is = inr (is, λ other f. let never : Some (Running key) ≡ Some (Done other) = sym e ∙ f in absurd cc)
ends_by g next end (Some (Done behind)) e is = inl (e ∙ ap (λ (n : ℕ). Some (Done n)) (sym is))

module _ (count place key start end : ℕ) (g : ℕ → Option Stretch) (is : IsLaidOut count g) (running : g place ≡ Some (Running key)) (starts : IsStart g place start) (ends : IsEnd g (place + 1) end) where
  -- the stretch covers the place
  record Bounds : Type 0 where
    from : start ≤ place
    behind : place < end
    inside : end ≤ count

  bounds : Bounds
  bounds = record { from = from starts; behind = behind ends; inside = inside ends }
    where
      from : IsStart g place start → start ≤ place
      from (inl s) = omega arith
      from (inr s) = let e = s.0 in omega arith

      behind : IsEnd g (place + 1) end → place < end
      behind (inl e) = let w = is.within (place + 1) (Done end) e in omega arith
      behind (inr e) = let q = e.0 in omega arith

      inside : IsEnd g (place + 1) end → end ≤ count
      inside (inl e) = (is.within (place + 1) (Done end) e).1
      inside (inr e) = let q = e.0 in let w = is.within place (Running key) running in omega arith

  -- the stretch stands at its start, the entries that it takes in are gone, and the others stay
  pub record Joins (h : ℕ → Option Stretch) : Type 0 where
    pub at_start : h start ≡ Some (Done end)
    pub at_place : (place ≡ start → ⊥) → h place ≡ None
    pub at_next : (place + 1 ≡ end → ⊥) → h (place + 1) ≡ None
    pub others : (k : ℕ) → (k ≡ start → ⊥) → (k ≡ place → ⊥) → (k ≡ place + 1 → place + 1 ≡ end) → h k ≡ g k

  -- the changed entries, in turn
  module _ (one two : ℕ → Option Stretch) (taken_next : (k : ℕ) → one k ≡ (if eqb (place + 1) end then g k else with_entry g (place + 1) None k))
      (taken : (k : ℕ) → two k ≡ (if eqb place start then one k else with_entry one place None k)) where
    taken_else : (k : ℕ) → (k ≡ place → ⊥) → two k ≡ one k
    taken_else k ne = by (eqb place start) refl
      where
        by : (b : Bool) → eqb place start ≡ b → two k ≡ one k
        by true e = taken k ∙ ap (λ b. if b then one k else with_entry one place None k) e
        by false e = taken k ∙ ap (λ b. if b then one k else with_entry one place None k) e ∙ ap (λ b. if b then None else one k) (is_elsewhere k place ne)

    next_else : (k : ℕ) → (k ≡ place + 1 → place + 1 ≡ end) → one k ≡ g k
    next_else k if_next = by (cases_eq (place + 1) end)
      where
        by : (place + 1 ≡ end) ⊎ (place + 1 ≡ end → ⊥) → one k ≡ g k
        by (inl e) = taken_next k ∙ ap (λ b. if b then g k else with_entry g (place + 1) None k) (is_here (place + 1) end e)
        by (inr ne) =
            taken_next k ∙ ap (λ b. if b then g k else with_entry g (place + 1) None k) (is_elsewhere (place + 1) end ne)
            ∙ ap (λ b. if b then None else g k) (is_elsewhere k (place + 1) (λ q. ne (if_next q)))

    -- an entry stands where the stretch begins
    pub stands : is_some (two start) ≡ true
    stands = by starts
      where
        by : IsStart g place start → is_some (two start) ≡ true
        by (inl s) = let l = s.0 in ap is_some (taken_else start (λ q. omega arith) ∙ next_else start (λ q. absurd (omega arith)) ∙ s.1)
        by (inr s) =
            ap is_some (ap two s.0 ∙ taken place ∙ ap (λ b. if b then one place else with_entry one place None place) (is_here place start (sym s.0))
            ∙ next_else place (λ q. absurd (omega arith)) ∙ running)

    module _ (h : ℕ → Option Stretch) (put : (k : ℕ) → h k ≡ with_entry two start (Some (Done end)) k) where
      put_else : (k : ℕ) → (k ≡ start → ⊥) → h k ≡ two k
      put_else k ne = put k ∙ ap (λ b. if b then Some (Done end) else two k) (is_elsewhere k start ne)

      pub joins : Joins h
      joins = record {
        at_start = put start ∙ ap (λ b. if b then Some (Done end) else two start) (is_here start start refl);
        at_place = λ ne. put_else place ne ∙ taken place ∙ ap (λ b. if b then one place else with_entry one place None place) (is_elsewhere place start ne)
            ∙ ap (λ b. if b then None else one place) (is_here place place refl);
        at_next = λ ne. let b = bounds.from in
            put_else (place + 1) (λ q. omega arith) ∙ taken_else (place + 1) (λ q. omega arith)
            ∙ taken_next (place + 1) ∙ ap (λ b. if b then g (place + 1) else with_entry g (place + 1) None (place + 1)) (is_elsewhere (place + 1) end ne)
            ∙ ap (λ b. if b then None else g (place + 1)) (is_here (place + 1) (place + 1) refl);
        others = λ k not_start not_place if_next. put_else k not_start ∙ taken_else k not_place ∙ next_else k if_next;
      }

  module _ (h : ℕ → Option Stretch) (new : Joins h) where
    -- an entry that stays lies before the stretch or behind it
    abbrev Aside : ℕ → Stretch → Type 0
    Aside k x = (k ≡ start → ⊥) × (g k ≡ Some x) × ((end_of k x ≤ start) ⊎ (end ≤ k))

    aside : (k : ℕ) (x : Stretch) → g k ≡ Some x → (k ≡ start → ⊥) → (k ≡ place → ⊥) → (k ≡ place + 1 → place + 1 ≡ end) → (end_of k x ≤ start) ⊎ (end ≤ k)
    aside k x e not_start not_place if_next = by (cases_lt k place)
      where
        before : k < place → IsStart g place start → (end_of k x ≤ start) ⊎ (end ≤ k)
        before l (inl s) = at (cases_lt k start)
          where
            at : (k < start) ⊎ (start ≤ k) → (end_of k x ≤ start) ⊎ (end ≤ k)
            at (inl m) = inl (is.apart k start x (Done place) e s.1 m)
            at (inr m) = let above : start < k = omega arith in let past = is.apart start k (Done place) x s.1 e above in absurd (omega arith)
        before l (inr s) = inl (let past = is.apart k place x (Running key) e running l in let q = s.0 in omega arith)

        behind : place < k → IsEnd g (place + 1) end → (end_of k x ≤ start) ⊎ (end ≤ k)
        behind l (inl f) =
            let w = is.within (place + 1) (Done end) f in
            let other : k ≡ place + 1 → ⊥ = λ q. (let r = if_next q in omega arith) in
            inr (is.apart (place + 1) k (Done end) x f e (omega arith))
        behind l (inr f) = let q = f.0 in inr (omega arith)

        by : (k < place) ⊎ (place ≤ k) → (end_of k x ≤ start) ⊎ (end ≤ k)
        by (inl l) = before l starts
        by (inr l) = behind (omega arith) ends

    -- the entries are the stretch and those that stay
    entry_cases : (k : ℕ) (x : Stretch) → h k ≡ Some x → ((k ≡ start) × (x ≡ Done end)) ⊎ Aside k x
    entry_cases k x e = by (cases_eq k start) (cases_eq k place) (cases_eq k (place + 1)) (cases_eq (place + 1) end)
      where
        stays : (k ≡ start → ⊥) → (k ≡ place → ⊥) → (k ≡ place + 1 → place + 1 ≡ end) → Aside k x
        stays ne np if_next = let f = sym (new.others k ne np if_next) ∙ e in (ne, f, aside k x f ne np if_next)

        by : (k ≡ start) ⊎ (k ≡ start → ⊥) → (k ≡ place) ⊎ (k ≡ place → ⊥) → (k ≡ place + 1) ⊎ (k ≡ place + 1 → ⊥) → (place + 1 ≡ end) ⊎ (place + 1 ≡ end → ⊥)
            → ((k ≡ start) × (x ≡ Done end)) ⊎ Aside k x
        by (inl q) p n j = let same : Some (Done end) ≡ Some x = sym new.at_start ∙ ap h (sym q) ∙ e in inl (q, cc)
        by (inr ne) (inl q) n j = let never : None ≡ Some x = sym (new.at_place (λ r. ne (q ∙ r))) ∙ ap h (sym q) ∙ e in absurd cc
        by (inr ne) (inr np) (inl q) (inl r) = inr (stays ne np (λ s. r))
        by (inr ne) (inr np) (inl q) (inr r) = let never : None ≡ Some x = sym (new.at_next r) ∙ ap h (sym q) ∙ e in absurd cc
        by (inr ne) (inr np) (inr q) j = inr (stays ne np (λ s. absurd (q s)))

    within : (k : ℕ) (x : Stretch) → ((k ≡ start) × (x ≡ Done end)) ⊎ Aside k x → (k < end_of k x) × (end_of k x ≤ count)
    within k x (inl q) =
        let f = bounds.from in
        let b = bounds.behind in
        let e = q.0 in
        subst (λ (y : Stretch). (k < end_of k y) × (end_of k y ≤ count)) (sym q.1) (omega arith, bounds.inside)
    within k x (inr q) = is.within k x q.1

    apart : (k j : ℕ) (x y : Stretch) → k < j → ((k ≡ start) × (x ≡ Done end)) ⊎ Aside k x → ((j ≡ start) × (y ≡ Done end)) ⊎ Aside j y → end_of k x ≤ j
    apart k j x y l (inl q) (inl r) = let e = q.0 in let f = r.0 in absurd (omega arith)
    apart k j x y l (inl q) (inr r) = subst (λ (z : Stretch). end_of k z ≤ j) (sym q.1) (by r.2)
      where
        by : (end_of j y ≤ start) ⊎ (end ≤ j) → end ≤ j
        by (inl m) = let e = q.0 in let w = is.within j y r.1 in absurd (omega arith)
        by (inr m) = m
    apart k j x y l (inr q) (inl r) = by q.2
      where
        by : (end_of k x ≤ start) ⊎ (end ≤ k) → end_of k x ≤ j
        by (inl m) = let e = r.0 in omega arith
        by (inr m) = let e = r.0 in let f = bounds.from in let b = bounds.behind in absurd (omega arith)
    apart k j x y l (inr q) (inr r) = is.apart k j x y q.1 r.1 l

    -- no stretch ends where this one begins
    none_before : (k : ℕ) → g k ≡ Some (Done start) → IsStart g place start → ⊥
    none_before k e (inl s) = is.whole k start place e s.1
    none_before k e (inr s) =
        let w = is.within k (Done start) e in
        let q = s.0 in
        s.1 k (omega arith) (e ∙ ap (λ (n : ℕ). Some (Done n)) q)
        (λ between above below. nothing (g between) (λ y found. let past = is.apart k between (Done start) y e found above in omega arith))

    -- and none begins where it ends
    none_behind : (other : ℕ) → g end ≡ Some (Done other) → IsEnd g (place + 1) end → ⊥
    none_behind other e (inl f) = is.whole (place + 1) end other f e
    none_behind other e (inr f) = f.1 other (ap g (sym f.0) ∙ e)

    whole : (k j other : ℕ) → ((k ≡ start) × (Done j ≡ Done end)) ⊎ Aside k (Done j) → ((j ≡ start) × (Done other ≡ Done end)) ⊎ Aside j (Done other) → ⊥
    whole k j other (inl q) (inl r) = let same : j ≡ end = (let f = q.1 in cc) in let e = r.0 in let f = bounds.from in let b = bounds.behind in omega arith
    whole k j other (inl q) (inr r) = let same : j ≡ end = (let f = q.1 in cc) in none_behind other (ap g (sym same) ∙ r.1) ends
    whole k j other (inr q) (inl r) = none_before k (q.1 ∙ ap (λ (n : ℕ). Some (Done n)) r.0) starts
    whole k j other (inr q) (inr r) = is.whole k j other q.1 r.1

    pub finished_laid_out : IsLaidOut count h
    finished_laid_out = record {
      within = λ k x e. within k x (entry_cases k x e);
      apart = λ k j x y e f l. apart k j x y l (entry_cases k x e) (entry_cases j y f);
      whole = λ k j other e f. whole k j other (entry_cases k (Done j) e) (entry_cases j (Done other) f);
    }

    done_by : (k : ℕ) → start ≤ k → k < end → mark_at h k ≡ mark.Done
    done_by k from below = covered h count finished_laid_out k start (Done end) (record { entry = new.at_start; from = from; below = below })

    -- what covers another place still does, or the stretch does
    still : (k : ℕ) → (k ≡ place → ⊥) → (s : ℕ) (x : Stretch) → Covers g k s x → mark_at h k ≡ meaning x
    still k other s x c = by (cases_eq s place) (cases_eq s start) (cases_eq s (place + 1)) starts ends
      where
        at_start : s ≡ start → g start ≡ Some (Done place) → mark_at h k ≡ meaning x
        at_start q e =
            let same : Some x ≡ Some (Done place) = sym c.entry ∙ ap g q ∙ e in
            let is_done : x ≡ Done place = cc in
            let below : k < place = subst (λ (y : Stretch). k < end_of s y) is_done c.below in
            let from = c.from in
            let b = bounds.behind in
            done_by k (omega arith) (omega arith) ∙ ap meaning (sym is_done)

        at_next : s ≡ place + 1 → g (place + 1) ≡ Some (Done end) → mark_at h k ≡ meaning x
        at_next q e =
            let same : Some x ≡ Some (Done end) = sym c.entry ∙ ap g q ∙ e in
            let is_done : x ≡ Done end = cc in
            let below : k < end = subst (λ (y : Stretch). k < end_of s y) is_done c.below in
            let from = c.from in
            let f = bounds.from in
            done_by k (omega arith) below ∙ ap meaning (sym is_done)

        stays : (s ≡ start → ⊥) → (s ≡ place → ⊥) → (s ≡ place + 1 → place + 1 ≡ end) → mark_at h k ≡ meaning x
        stays ne np if_next = covered h count finished_laid_out k s x (record { entry = new.others s ne np if_next ∙ c.entry; from = c.from; below = c.below })

        by : (s ≡ place) ⊎ (s ≡ place → ⊥) → (s ≡ start) ⊎ (s ≡ start → ⊥) → (s ≡ place + 1) ⊎ (s ≡ place + 1 → ⊥) → IsStart g place start → IsEnd g (place + 1) end → mark_at h k ≡ meaning x
        by (inl q) a b f e =
            let same : Some x ≡ Some (Running key) = sym c.entry ∙ ap g q ∙ running in
            let is_run : x ≡ Running key = cc in
            let below : k < s + 1 = subst (λ (y : Stretch). k < end_of s y) is_run c.below in
            let from = c.from in
            absurd (other (omega arith))
        by (inr np) (inl q) b (inl f) e = at_start q f.1
        by (inr np) (inl q) b (inr f) e = absurd (np (q ∙ f.0))
        by (inr np) (inr ne) (inl q) f (inl e) = at_next q e
        by (inr np) (inr ne) (inl q) f (inr e) = stays ne np (λ r. sym e.0)
        by (inr np) (inr ne) (inr q) f e = stays ne np (λ r. absurd (q r))

    -- what no entry covers waits still
    none : (k : ℕ) → (k ≡ place → ⊥) → mark_at g k ≡ mark.Waits → (s : ℕ) (x : Stretch) → Covers h k s x → ⊥
    none k other w s x c = by (entry_cases s x c.entry)
      where
        not_in : (t : ℕ) (y : Stretch) → Covers g k t y → ⊥
        not_in t y d = means_something y (sym (covered g count is k t y d) ∙ w)

        inside : start ≤ k → k < end → (k < place) ⊎ (place ≤ k) → IsStart g place start → IsEnd g (place + 1) end → ⊥
        inside from below (inl l) (inl f) e = not_in start (Done place) (record { entry = f.1; from = from; below = l })
        inside from below (inl l) (inr f) e = let q = f.0 in omega arith
        inside from below (inr l) f (inl e) = not_in (place + 1) (Done end) (record { entry = e; from = omega arith; below = below })
        inside from below (inr l) f (inr e) = let q = e.0 in other (omega arith)

        by : ((s ≡ start) × (x ≡ Done end)) ⊎ Aside s x → ⊥
        by (inl q) =
            let below : k < end = subst (λ (y : Stretch). k < end_of s y) q.1 c.below in
            let from = c.from in
            let e = q.0 in
            inside (omega arith) below (cases_lt k place) starts ends
        by (inr q) = not_in s x (record { entry = q.1; from = c.from; below = c.below })

    -- the place is finished, and elsewhere all is as it was
    pub finished : (k : ℕ) → mark_at h k ≡ (if eqb k place then mark.Done else mark_at g k)
    finished k = by (cases_eq k place)
      where
        by_cover : (k ≡ place → ⊥) → ((s : ℕ) × (x : Stretch) × Covers g k s x × (mark_at g k ≡ meaning x)) ⊎ (mark_at g k ≡ mark.Waits) → mark_at h k ≡ mark_at g k
        by_cover ne (inl c) = still k ne c.0 c.1 c.2 ∙ sym c.3
        by_cover ne (inr w) = uncovered h k (none k ne w) ∙ sym w

        by : (k ≡ place) ⊎ (k ≡ place → ⊥) → mark_at h k ≡ (if eqb k place then mark.Done else mark_at g k)
        by (inl e) = let f = bounds.from in let b = bounds.behind in done_by k (omega arith) (omega arith) ∙ ap (λ b. if b then mark.Done else mark_at g k) (sym (is_here k place e))
        by (inr ne) = by_cover ne (covered_or g k) ∙ ap (λ b. if b then mark.Done else mark_at g k) (sym (is_elsewhere k place ne))
