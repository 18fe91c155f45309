-- Accesses that race in a run of a valid program are made by references.
use Rattle.std.proofs.Common.{◌≡◌, ℕ, ◌<◌, List, [], Bool, true, false, ◌&&◌, ◌||◌, ◌==◌, not, refl, sym, ap, ◌∙◌, inl, inr, arith}
use Rattle.std.specs.Str.Lines.{lines}
use Rattle.std.proofs.lemmas.Bool.{and_parts, both_ways}
use Rattle.std.proofs.lemmas.Bool.Decides.{nat_tests}
use Rattle.ped_bodies.specs.ped_flow.specs.ped_tree.specs.Tree.{StmtTrees, ProgramTree}
use Rattle.ped_bodies.specs.ped_symbols.specs.NameRefusals.{IsValid}
use Rattle.ped_bodies.specs.ped_store.specs.Cells.{Cell, same_cell}
use Rattle.ped_bodies.specs.ped_store.specs.Stores.{Store, store_at_start}
use Rattle.ped_bodies.specs.ped_store.specs.Acts.{Manner, reads, writes, is_told, Touch, Turn, Act}
use Rattle.ped_bodies.specs.ped_store.specs.Races.{Access, is_lines, is_write, is_access, accesses, conflict, are_apart, race}
use Rattle.ped_bodies.specs.ped_eval.specs.Outcomes.{setting_of, run_of}
use Rattle.ped_bodies.specs.ped_eval.specs.Scopes.{Setting, Scope}
use Rattle.ped_bodies.specs.ped_eval.specs.Runs.{run_all}
use Rattle.ped_bodies.specs.ped_laws.specs.Acts.Orders.{IsIn}
use Rattle.ped_bodies.specs.ped_laws.proofs.ActLaws.SameCells.{cell_flip}
use Rattle.ped_bodies.specs.ped_laws.proofs.ActLaws.Conflicting.{access_place}
use Rattle.ped_bodies.specs.ped_laws.proofs.ActLaws.RaceFree.{apart_flip}
use Rattle.ped_bodies.specs.ped_laws.proofs.RunLaws.Touches.{Fine, Good, all_good}
use Rattle.ped_bodies.specs.ped_laws.proofs.RunLaws.Meetings.{accesses_of_run}
use Rattle.ped_bodies.specs.ped_laws.proofs.RunLaws.Placing.{kinds_of_run}
use Rattle.ped_bodies.specs.ped_steps.proofs.RunLaws.AccessTouches.{accesses_from, IsTold, touch_of}
use Rattle.ped_bodies.specs.ped_steps.proofs.RunLaws.ToldRaces.{told_races_not}

abbrev Any : List Turn → Cell → Type 0
Any ts c = Unit {0}

or_other : (a b : Bool) → (a || b) ≡ true → a ≡ false → b ≡ true
or_other true b h e = absurd (both_ways true e refl)
or_other false b h e = h

or_flip : (x y : Bool) → x || y ≡ true → y || x ≡ true
or_flip true true e = refl
or_flip true false e = refl
or_flip false true e = refl
or_flip false false e = e

conflict_flip : (b c : Access) → conflict b c ≡ true → conflict c b ≡ true
conflict_flip b c h =
    let parts = and_parts (same_cell b.cell c.cell) (b.writes || c.writes) h in
    ap (λ (z : Bool). z && (c.writes || b.writes)) (cell_flip c.cell b.cell ∙ parts.0) ∙ or_flip b.writes c.writes parts.1

-- a read of a cell, which is no line, has a reference
read_referred : (ts : List Turn) (c : Cell) (r : ℕ) → Fine Any ts reads c r → is_lines c ≡ false → 0 < r
read_referred ts c r f none = elim f.0 [ inl line ↦ absurd (both_ways (is_lines c) none line) | inr some ↦ some ]

told_unreferred : (ts : List Turn) (c : Cell) (r : ℕ) → Fine Any ts is_told c r → r ≡ 0
told_unreferred ts c r f = f.0

not_line : (w l : Bool) → (w || not l) ≡ true → w ≡ false → l ≡ false
not_line true l h e = absurd (both_ways true e refl)
not_line false true h e = absurd (both_ways false refl h)
not_line false false h e = refl

above_zero : (n : ℕ) → (n == 0) ≡ false → 0 < n
above_zero n h = grind (arith, nat_tests)

is_none : (n : ℕ) → (n == 0) ≡ true → n ≡ 0
is_none n h = grind (arith, nat_tests)

module _ (p : Setting) (ts : StmtTrees) (n : ℕ) (scope : Scope) (start : Store) where
  -- what places tell has no reference, and what is read in a cell has one
  pub act_good : (a : Act) → IsIn a (run_all p ts n scope start).acts → Good Any a
  act_good a i = all_good Any (λ scope x. Unit {0}) (λ scope x h. tt) (λ scope e k body q h x i. tt) p ts n scope start (λ x i. tt) a i

  pub told_is_unreferred : (a : Act) → IsIn a (run_all p ts n scope start).acts → (v : Touch) → IsIn v a.touches → v.manner ≡ is_told → v.reference ≡ 0
  told_is_unreferred a i v j e = by v.manner e ((act_good a i).0 v j)
    where
      by : (m : Manner) → m ≡ is_told → Fine Any a.place.turns m v.cell v.reference → v.reference ≡ 0
      by is_told e f = told_unreferred a.place.turns v.cell v.reference f
      by reads e f = absurd cc
      by writes e f = absurd cc

  pub read_is_referred : (a : Act) → IsIn a (run_all p ts n scope start).acts → (v : Touch) → IsIn v a.touches → v.manner ≡ reads → is_lines v.cell ≡ false → 0 < v.reference
  read_is_referred a i v j e none = by v.manner e ((act_good a i).0 v j)
    where
      by : (m : Manner) → m ≡ reads → Fine Any a.place.turns m v.cell v.reference → 0 < v.reference
      by reads e f = read_referred a.place.turns v.cell v.reference f none
      by is_told e f = absurd cc
      by writes e f = absurd cc

module _ (u : ProgramTree) (valid : IsValid u) (data_bytes : List ℕ) where
  abbrev p : Setting
  p = setting_of u

  abbrev start : Store
  start = store_at_start (lines data_bytes)

  abbrev acts : List Act
  acts = (run_of u data_bytes).acts

  abbrev all : List Access
  all = accesses acts

  -- what a DO stores of itself
  never_stored : (b c : Access) → IsIn b all → IsIn c all → are_apart b.place.turns c.place.turns ≡ true → conflict b c ≡ true → b.reference ≡ 0 → b.writes ≡ true → ⊥
  never_stored b c i j apart meets none write =
      let x = accesses_from acts b i in
      let y = accesses_from acts c j in
      let places : are_apart x.0.place.turns y.0.place.turns ≡ true = (λ k. are_apart (sym (access_place x.0 b x.2) k).turns (sym (access_place y.0 c y.2) k).turns) ∙ apart in
      both_ways (conflict b c) (accesses_of_run p u.body 1 [] start x.0 y.0 b c (λ z k. tt) x.1 y.1 places x.2 y.2 write none) meets

  turned_apart : (b c : Access) → IsIn b all → IsIn c all → are_apart b.place.turns c.place.turns ≡ true → are_apart c.place.turns b.place.turns ≡ true
  turned_apart b c i j apart =
      let x = accesses_from acts b i in
      let y = accesses_from acts c j in
      let f = access_place x.0 b x.2 in
      let g = access_place y.0 c y.2 in
      (λ k. are_apart (g k).turns (f k).turns) ∙ apart_flip x.0.place.turns y.0.place.turns (kinds_of_run p u.body 1 start x.0 y.0 (λ m n e. e) x.1 y.1) ((λ k. are_apart (sym f k).turns (sym g k).turns) ∙ apart)

  -- a read by no reference is the value of a DO variable that a place tells
  told_read : (b : Access) → IsIn b all → b.writes ≡ false → b.reference ≡ 0 → IsTold acts b
  told_read b i reading none =
      let a = accesses_from acts b i in
      let v = touch_of a.0 a.0.touches b a.2 in
      by a.0 a.1 v.0 v.1 v.2 v.3 v.0.manner refl
    where
      by : (a : Act) → IsIn a acts → (v : Touch) → IsIn v a.touches → is_access v ≡ true → b ≡ record { cell = v.cell; writes = is_write v.manner; place = a.place; reference = v.reference } → (m : Manner) → v.manner ≡ m → IsTold acts b
      by a j v k access is is_told e = record { by = a; found = j; told = v; among = k; manner = e; is = is }
      by a j v k access is writes e = let write : true ≡ false = sym (ap is_write e) ∙ (sym (ap (λ (z : Access). z.writes) is) ∙ reading) in absurd cc
      by a j v k access is reads e =
          let line = not_line (is_write v.manner) (is_lines v.cell) access (ap is_write e) in
          let some = read_is_referred p u.body 1 [] start a j v k e line in
          let zero : v.reference ≡ 0 = sym (ap (λ (z : Access). z.reference) is) ∙ none in
          absurd (omega (arith, some, zero))

  no_reference : (b c : Access) → IsIn b all → IsIn c all → are_apart b.place.turns c.place.turns ≡ true → conflict b c ≡ true → b.reference ≡ 0 → ⊥
  no_reference b c i j apart meets none = by b.writes refl
    where
      races : race b c ≡ true
      races = λ k. apart k && meets k

      by : (w : Bool) → b.writes ≡ w → ⊥
      by true e = never_stored b c i j apart meets none e
      by false e = both_ways (race b c) (told_races_not u valid start b c (told_read b i e none) j).0 races

  -- both accesses of a race are made by references, and they are apart either way
  pub by_references : (b c : Access) → IsIn b all → IsIn c all → race b c ≡ true → (0 < b.reference) × (0 < c.reference) × (are_apart b.place.turns c.place.turns ≡ true) × (are_apart c.place.turns b.place.turns ≡ true) × (conflict b c ≡ true)
  by_references b c i j races = go (b.reference == 0) (c.reference == 0) refl refl
    where
      parts : (are_apart b.place.turns c.place.turns ≡ true) × (conflict b c ≡ true)
      parts = and_parts (are_apart b.place.turns c.place.turns) (conflict b c) races

      back : are_apart c.place.turns b.place.turns ≡ true
      back = turned_apart b c i j parts.0

      go : (x y : Bool) → (b.reference == 0) ≡ x → (c.reference == 0) ≡ y → (0 < b.reference) × (0 < c.reference) × (are_apart b.place.turns c.place.turns ≡ true) × (are_apart c.place.turns b.place.turns ≡ true) × (conflict b c ≡ true)
      go true y e f = absurd (no_reference b c i j parts.0 parts.1 (is_none b.reference e))
      go false true e f = absurd (no_reference c b j i back (conflict_flip b c parts.1) (is_none c.reference f))
      go false false e f = (above_zero b.reference e, above_zero c.reference f, parts.0, back, parts.1)
