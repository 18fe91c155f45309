-- Accesses that race are made by references; and where the accesses by references are those of another run, they race there, too.
use Rattle.std.proofs.Common.{if◌then◌else◌, ◌≡◌, ℕ, ◌<◌, List, [], ◌∷◌, filter, Bool, true, false, ◌&&◌, ◌||◌, ◌==◌, not, refl, sym, ap, subst, ◌∙◌, inl, inr, arith}
use Rattle.std.specs.Str.Lines.{lines}
use Rattle.std.proofs.lemmas.Bool.{and_parts, both_ways, lt-ltb}
use Rattle.std.proofs.lemmas.Bool.Decides.{nat_tests}
use Rattle.ped_tree.specs.Tree.{ProgramTree}
use Rattle.ped_rules.specs.ped_loop_runs.proofs.LoopLaws.RacesByReferences.{read_is_referred}
use Rattle.ped_rules.specs.ped_steps.proofs.RunLaws.AccessTouches.{IsTold, touch_of, accesses_from}
use Rattle.ped_rules.specs.ped_weaves.proofs.WeaveLaws.RaceSources.{pairs_free}
use Rattle.ped_rules.specs.ped_weaves.specs.Sources.{RaceSomewhere}
use Rattle.ped_rules.specs.ped_laws.proofs.ActLaws.Conflicting.{access_place}
use Rattle.ped_rules.specs.ped_laws.proofs.ActLaws.Lists.{first_in, second_in}
use Rattle.ped_rules.specs.ped_laws.proofs.ActLaws.RaceFree.{apart_flip}
use Rattle.ped_rules.specs.ped_laws.proofs.ActLaws.SameCells.{cell_flip}
use Rattle.ped_rules.specs.ped_laws.proofs.RunLaws.Meetings.{accesses_of_run}
use Rattle.ped_rules.specs.ped_laws.proofs.RunLaws.Placing.{kinds_of_run}
use Rattle.ped_rules.specs.ped_laws.specs.Acts.Orders.{IsIn, StandsBefore}
use Rattle.ped_rules.specs.ped_eval.specs.Outcomes.{run_of, setting_of}
use Rattle.ped_rules.specs.ped_eval.specs.Scopes.{Setting}
use Rattle.ped_rules.specs.ped_store.specs.Acts.{Act, Manner, Touch, is_told, reads, writes}
use Rattle.ped_rules.specs.ped_store.specs.Cells.{same_cell}
use Rattle.ped_rules.specs.ped_store.specs.Races.{Access, HasNoRace, accesses, are_apart, conflict, is_access, is_lines, is_write, race}
use Rattle.ped_rules.specs.ped_store.specs.Stores.{Store, store_at_start}
use Rattle.ped_splits.proofs.RenameActs.{by_reference, referred}

-- an item stays in a list or is left out of it
filter_in : {X : Type 0} (p : X → Bool) (x : X) (xs : List X) → p x ≡ true → filter p (x ∷ xs) ≡ x ∷ filter p xs
filter_in p x xs e = ap (λ b. if b then x ∷ filter p xs else filter p xs) e

filter_out : {X : Type 0} (p : X → Bool) (x : X) (xs : List X) → p x ≡ false → filter p (x ∷ xs) ≡ filter p xs
filter_out p x xs e = ap (λ b. if b then x ∷ filter p xs else filter p xs) e

or_flip : (x y : Bool) → x || y ≡ true → y || x ≡ true
or_flip true true e = refl
or_flip true false e = refl
or_flip false true e = refl
or_flip false false e = e

conflict_flip : (b c : Access) → conflict b c ≡ true → conflict c b ≡ true
conflict_flip b c h =
    let parts = and_parts (same_cell b.cell c.cell) (b.writes || c.writes) h in
    ap (λ (z : Bool). z && (c.writes || b.writes)) (cell_flip c.cell b.cell ∙ parts.0) ∙ or_flip b.writes c.writes parts.1

not_line : (w l : Bool) → (w || not l) ≡ true → w ≡ false → l ≡ false
not_line true l h e = absurd (both_ways true e refl)
not_line false true h e = absurd (both_ways false refl h)
not_line false false h e = refl

above_zero : (n : ℕ) → (n == 0) ≡ false → 0 < n
above_zero n h = grind (arith, nat_tests)

is_none : (n : ℕ) → (n == 0) ≡ true → n ≡ 0
is_none n h = grind (arith, nat_tests)

-- accesses of a run that race are made by references, if what places tell races with nothing
module _ (u : ProgramTree) (data_bytes : List ℕ) (untold : (b c : Access) → IsTold (run_of u data_bytes).acts b → IsIn c (accesses (run_of u data_bytes).acts) → 0 < c.reference → race b c ≡ false) where
  abbrev p : Setting
  p = setting_of u

  abbrev start : Store
  start = store_at_start (lines data_bytes)

  abbrev acts : List Act
  acts = (run_of u data_bytes).acts

  abbrev all : List Access
  all = accesses acts

  -- what a DO stores of itself
  never_stored : (b c : Access) → IsIn b all → IsIn c all → are_apart b.place.turns c.place.turns ≡ true → conflict b c ≡ true → b.reference ≡ 0 → b.writes ≡ true → ⊥
  never_stored b c i j apart meets none write =
      let x = accesses_from acts b i in
      let y = accesses_from acts c j in
      let places : are_apart x.0.place.turns y.0.place.turns ≡ true = (λ k. are_apart (sym (access_place x.0 b x.2) k).turns (sym (access_place y.0 c y.2) k).turns) ∙ apart in
      both_ways (conflict b c) (accesses_of_run p u.body 1 [] start x.0 y.0 b c (λ z k. tt) x.1 y.1 places x.2 y.2 write none) meets

  turned_apart : (b c : Access) → IsIn b all → IsIn c all → are_apart b.place.turns c.place.turns ≡ true → are_apart c.place.turns b.place.turns ≡ true
  turned_apart b c i j apart =
      let x = accesses_from acts b i in
      let y = accesses_from acts c j in
      let f = access_place x.0 b x.2 in
      let g = access_place y.0 c y.2 in
      (λ k. are_apart (g k).turns (f k).turns) ∙ apart_flip x.0.place.turns y.0.place.turns (kinds_of_run p u.body 1 start x.0 y.0 (λ m n e. e) x.1 y.1) ((λ k. are_apart (sym f k).turns (sym g k).turns) ∙ apart)

  -- a read by no reference is the value of a DO variable that a place tells
  told_read : (b : Access) → IsIn b all → b.writes ≡ false → b.reference ≡ 0 → IsTold acts b
  told_read b i reading none =
      let a = accesses_from acts b i in
      let v = touch_of a.0 a.0.touches b a.2 in
      by a.0 a.1 v.0 v.1 v.2 v.3 v.0.manner refl
    where
      by : (a : Act) → IsIn a acts → (v : Touch) → IsIn v a.touches → is_access v ≡ true → b ≡ record { cell = v.cell; writes = is_write v.manner; place = a.place; reference = v.reference } → (m : Manner) → v.manner ≡ m → IsTold acts b
      by a j v k access is is_told e = record { by = a; found = j; told = v; among = k; manner = e; is = is }
      by a j v k access is writes e = let write : true ≡ false = sym (ap is_write e) ∙ (sym (ap (λ (z : Access). z.writes) is) ∙ reading) in absurd cc
      by a j v k access is reads e =
          let line = not_line (is_write v.manner) (is_lines v.cell) access (ap is_write e) in
          let some = read_is_referred p u.body 1 [] start a j v k e line in
          let zero : v.reference ≡ 0 = sym (ap (λ (z : Access). z.reference) is) ∙ none in
          absurd (omega (arith, some, zero))

  no_reference : (b c : Access) → IsIn b all → IsIn c all → are_apart b.place.turns c.place.turns ≡ true → conflict b c ≡ true → b.reference ≡ 0 → ⊥
  no_reference b c i j apart meets none = by b.writes refl
    where
      races : race b c ≡ true
      races = λ k. apart k && meets k

      by : (w : Bool) → b.writes ≡ w → ⊥
      by true e = never_stored b c i j apart meets none e
      by false e = of_other (c.reference == 0) refl
        where
          write : c.writes ≡ true
          write = second b.writes c.writes e (and_parts (same_cell b.cell c.cell) (b.writes || c.writes) meets).1
            where
              second : (x y : Bool) → x ≡ false → x || y ≡ true → y ≡ true
              second true y h k = absurd cc
              second false y h k = k

          of_other : (z : Bool) → (c.reference == 0) ≡ z → ⊥
          of_other true f = never_stored c b j i (turned_apart b c i j apart) (conflict_flip b c meets) (is_none c.reference f) write
          of_other false f = both_ways (race b c) (untold b c (told_read b i e none) j (above_zero c.reference f)) races

  -- both accesses of a race are made by references, and they are apart either way
  pub by_references : (b c : Access) → IsIn b all → IsIn c all → race b c ≡ true → (0 < b.reference) × (0 < c.reference) × (are_apart b.place.turns c.place.turns ≡ true) × (are_apart c.place.turns b.place.turns ≡ true) × (conflict b c ≡ true)
  by_references b c i j races = go (b.reference == 0) (c.reference == 0) refl refl
    where
      parts : (are_apart b.place.turns c.place.turns ≡ true) × (conflict b c ≡ true)
      parts = and_parts (are_apart b.place.turns c.place.turns) (conflict b c) races

      back : are_apart c.place.turns b.place.turns ≡ true
      back = turned_apart b c i j parts.0

      go : (x y : Bool) → (b.reference == 0) ≡ x → (c.reference == 0) ≡ y → (0 < b.reference) × (0 < c.reference) × (are_apart b.place.turns c.place.turns ≡ true) × (are_apart c.place.turns b.place.turns ≡ true) × (conflict b c ≡ true)
      go true y e f = absurd (no_reference b c i j parts.0 parts.1 (is_none b.reference e))
      go false true e f = absurd (no_reference c b j i back (conflict_flip b c parts.1) (is_none c.reference f))
      go false false e f = (above_zero b.reference e, above_zero c.reference f, parts.0, back, parts.1)

-- what is among the accesses by references is an access
pub kept_in : (xs : List Access) (b : Access) → IsIn b (filter by_reference xs) → IsIn b xs
kept_in [] b i = absurd i
kept_in (x ∷ xs) b i = go (by_reference x) refl (kept_in xs b)
  where
    go : (k : Bool) → by_reference x ≡ k → (IsIn b (filter by_reference xs) → IsIn b xs) → IsIn b (x ∷ xs)
    go true e more = elim (subst (IsIn b) (filter_in by_reference x xs e) i) [ inl f ↦ inl f | inr j ↦ inr (more j) ]
    go false e more = inr (more (subst (IsIn b) (filter_out by_reference x xs e) i))

-- and an access by a reference is among them
pub in_kept : (xs : List Access) (b : Access) → IsIn b xs → 0 < b.reference → IsIn b (filter by_reference xs)
in_kept [] b i some = absurd i
in_kept (x ∷ xs) b (inl e) some = subst (IsIn b) (sym (filter_in by_reference x xs (ap by_reference (sym e) ∙ lt-ltb 0 b.reference some))) (inl e)
in_kept (x ∷ xs) b (inr i) some = go (by_reference x) refl (in_kept xs b i some)
  where
    go : (k : Bool) → by_reference x ≡ k → IsIn b (filter by_reference xs) → IsIn b (filter by_reference (x ∷ xs))
    go true e more = subst (IsIn b) (sym (filter_in by_reference x xs e)) (inr more)
    go false e more = subst (IsIn b) (sym (filter_out by_reference x xs e)) more

-- no race comes, where the accesses by references are those of the old run
pub no_race_comes : (t u : ProgramTree) (data_bytes : List ℕ) → ((b c : Access) → IsTold (run_of u data_bytes).acts b → IsIn c (accesses (run_of u data_bytes).acts) → 0 < c.reference → race b c ≡ false) → referred (run_of t data_bytes).acts ≡ referred (run_of u data_bytes).acts
    → HasNoRace (accesses (run_of t data_bytes).acts) → HasNoRace (accesses (run_of u data_bytes).acts)
no_race_comes t u data_bytes untold same free = pairs_free (run_of t data_bytes).acts (run_of u data_bytes).acts race_before free
  where
    from : (b : Access) → IsIn b (accesses (run_of u data_bytes).acts) → 0 < b.reference → IsIn b (accesses (run_of t data_bytes).acts)
    from b i some = kept_in (accesses (run_of t data_bytes).acts) b (subst (IsIn b) (sym same) (in_kept (accesses (run_of u data_bytes).acts) b i some))

    race_before : (b c : Access) → StandsBefore b c (accesses (run_of u data_bytes).acts) → race b c ≡ true → RaceSomewhere (run_of t data_bytes).acts
    race_before b c before races =
        let i = first_in b c (accesses (run_of u data_bytes).acts) before in
        let j = second_in b c (accesses (run_of u data_bytes).acts) before in
        let r = by_references u data_bytes untold b c i j races in
        record { one = b; other = c; one_in = from b i r.0; other_in = from c j r.1; apart = (r.2, r.3); conflicting = r.4 }
