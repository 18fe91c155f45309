-- In a run of a valid program the values of DO variables that places tell race with nothing.
use Rattle.std.proofs.Common.{◌≡◌, ℕ, ◌+◌, List, [], ◌∷◌, ◌++◌, Bool, true, false, ◌&&◌, ◌||◌, Some, refl, sym, ap, subst, ◌∙◌, ◌⊎◌, inl, inr}
use Rattle.std.proofs.lemmas.Bool.{both_ways, and_parts}
use Rattle.ped_base.specs.Lists.{is_same_text}
use Rattle.ped_base.proofs.NameEquality.{same_itself}
use Rattle.ped_tree.specs.Tree.{Head, StmtTrees, Do, ProgramTree}
use Rattle.ped_tree.specs.Numbering.{statement_with}
use Rattle.ped_weaves.specs.ped_graph.specs.ped_symbols.specs.Kinds.{kind_in}
use Rattle.ped_weaves.specs.ped_graph.specs.ped_symbols.specs.NameRefusals.{IsValid}
use Rattle.ped_weaves.specs.ped_store.specs.Cells.{Cell, Scalar, Element, Private, In, Out, Iteration, same_cell}
use Rattle.ped_weaves.specs.ped_store.specs.Stores.{Store}
use Rattle.ped_weaves.specs.ped_store.specs.Acts.{Manner, reads, writes, is_told, Touch, Turn, Act, iterations_of}
use Rattle.ped_weaves.specs.ped_store.specs.Races.{Access, is_write, accesses, conflict, are_apart, race}
use Rattle.ped_weaves.specs.ped_laws.specs.Acts.Sets.{written}
use Rattle.ped_weaves.specs.ped_laws.specs.Acts.Orders.{IsIn}
use Rattle.ped_weaves.specs.ped_laws.proofs.ActLaws.Lists.{in_left, in_right, in_parts}
use Rattle.ped_weaves.specs.ped_laws.proofs.ActLaws.SameCells.{cell_is, cell_flip}
use Rattle.ped_weaves.specs.ped_laws.proofs.ActLaws.Conflicting.{access_place}
use Rattle.ped_weaves.specs.ped_laws.proofs.ActLaws.RaceFree.{apart_flip}
use Rattle.ped_weaves.specs.ped_eval.specs.Scopes.{Setting, Frame, Scope, turns_of}
use Rattle.ped_weaves.specs.ped_eval.specs.Evaluation.{Seen}
use Rattle.ped_weaves.specs.ped_eval.specs.Loops.{Limits, entered_with, frame}
use Rattle.ped_weaves.specs.ped_eval.specs.Outcomes.{setting_of}
use Rattle.ped_weaves.specs.ped_eval.specs.Runs.{run_all}
use Rattle.ped_weaves.specs.ped_laws.specs.FlowRuns.Covering.{is_cell_of}
use Rattle.ped_weaves.specs.ped_laws.proofs.FlowRunLaws.Writing.{all_unassigned}
use Rattle.ped_weaves.specs.ped_laws.proofs.RunLaws.Touches.{Fine, Good, all_good}
use Rattle.ped_weaves.specs.ped_laws.proofs.RunLaws.Turning.{At}
use Rattle.ped_weaves.specs.ped_laws.proofs.RunLaws.Placing.{kinds_of_run}
use Rattle.ped_weaves.specs.ped_laws.proofs.ConflictLaws.CoveringCells.{name_in}
use Rattle.ped_steps.proofs.RunLaws.RunPlaces.{all_each}
use Rattle.ped_steps.proofs.RunLaws.AccessTouches.{accesses_from, IsTold, touch_of, write_there}
use Rattle.ped_steps.proofs.RunLaws.SparedVariables.{IsUnassigned, variables_unassigned}
use Rattle.ped_weaves.specs.ped_laws.proofs.ConflictLaws.CoveringIndices.{Near, IsIndexAt, near_front}
use Rattle.ped_weaves.specs.ped_laws.proofs.ConflictLaws.CoveringTelling.{Tells, program_tells}

first_iteration : (i j : Iteration) (is js : List Iteration) → i ∷ is ≡ j ∷ js → i ≡ j
first_iteration i j is js e = cc

more_iterations : (i j : Iteration) (is js : List Iteration) → i ∷ is ≡ j ∷ js → is ≡ js
more_iterations i j is js e = cc

abbrev of_turn : Turn → Iteration
of_turn t = record { statement = t.statement; number = t.number }

-- the same iteration is among others
same_among : (i : Turn) (ts us : List Turn) → IsIn i ts → iterations_of us ≡ iterations_of ts → (j : Turn) × IsIn j us × (j.statement ≡ i.statement)
same_among i [] us h e = absurd h
same_among i (t ∷ ts) [] h e = absurd cc
same_among i (t ∷ ts) (u ∷ us) (inl h) e = (u, inl refl, ap (λ (z : Iteration). z.statement) (first_iteration (of_turn u) (of_turn t) (iterations_of us) (iterations_of ts) e) ∙ ap (λ (z : Turn). z.statement) (sym h))
same_among i (t ∷ ts) (u ∷ us) (inr h) e = let r = same_among i ts us h (more_iterations (of_turn u) (of_turn t) (iterations_of us) (iterations_of ts) e) in (r.0, inr r.1, r.2)

-- a cell of a scalar with this name
near_named : (ts : List Turn) (c : Cell) (y : List ℕ) → Near ts c → name_in c ≡ y → is_cell_of y c ≡ true
near_named ts (Scalar z) y n e = ap (λ (w : List ℕ). is_same_text w z) (sym e) ∙ same_itself z
near_named ts (Private z path) y n e = ap (λ (w : List ℕ). is_same_text w z) (sym e) ∙ same_itself z
near_named ts (Element z js) y n e = absurd n
near_named ts In y n e = absurd n
near_named ts Out y n e = absurd n

abbrev Any : List Turn → Cell → Type 0
Any ts c = Unit {0}

at_of : (ts : List Turn) (m : Manner) (c : Cell) (r : ℕ) → Fine Any ts m c r → At ts c
at_of ts reads c r f = f.1
at_of ts writes c r f = f.1
at_of ts is_told c r f = f.1

or_second : (a b : Bool) → a ≡ false → a || b ≡ true → b ≡ true
or_second true b e h = absurd cc
or_second false b e h = h

module _ (t : ProgramTree) (valid : IsValid t) (start : Store) where
  abbrev p : Setting
  p = setting_of t

  abbrev acts : List Act
  acts = (run_all p t.body 1 [] start).acts

  -- the act doesn't write the variable of the DO that the iteration is of
  abbrev Spares : Turn → Act → Type 0
  Spares j a = (h : Head) (body : StmtTrees) → statement_with j.statement t ≡ Some (Do h body) → (v : Touch) → IsIn v a.touches → is_write v.manner ≡ true → is_cell_of h.variable v.cell ≡ true → ⊥

  abbrev SparesInside : Scope → Act → Type 0
  SparesInside S a = (j : Turn) → IsIn j a.place.turns → IsIn j (turns_of S) ⊎ Spares j a

  outward : (n : ℕ) (h : Head) (body : StmtTrees) (seen : List Seen) (m : Limits) (k : ℕ) (S : Scope) (u : Store) (a : Act) → IsUnassigned t (kind_in t) n h body
      → IsIn a (run_all p body (n + 1) (frame (entered_with p n h body seen m) k ∷ S) u).acts → SparesInside (frame (entered_with p n h body seen m) k ∷ S) a → SparesInside S a
  outward n h body seen m k S u a q i inside j at = elim (inside j at) [
    | inl there ↦ elim (in_parts j (turns_of S) (f.turn ∷ []) there) [
      | inl z ↦ inl z
      | inr z ↦ elim z [ inl e ↦ inr (spares e) | inr w ↦ absurd w ]
    ]
    | inr s ↦ inr s
  ]
    where
      f : Frame
      f = frame (entered_with p n h body seen m) k

      spares : j ≡ f.turn → Spares j a
      spares e g b stands v l w named =
          let number : j.statement ≡ n = ap (λ (z : Turn). z.statement) e in
          let same : Some (Do g b) ≡ Some (Do h body) = sym stands ∙ ap (λ (z : ℕ). statement_with z t) number ∙ q.0 in
          let head : g ≡ h = cc in
          let did = (run_all p body (n + 1) (f ∷ S) u).acts in
          both_ways (written did v.cell) (all_unassigned p h.variable body (n + 1) (f ∷ S) u v.cell q.1 (subst (λ (z : Head). is_cell_of z.variable v.cell ≡ true) head named)) (write_there did a v i l w)

  spares_in : (a : Act) → IsIn a acts → (j : Turn) → IsIn j a.place.turns → Spares j a
  spares_in a i j at = elim (all_each p (IsUnassigned t (kind_in t)) SparesInside (λ S n step touches z there. inl there) outward t.body 1 [] start (variables_unassigned t valid) a i j at) [
    | inl z ↦ absurd z
    | inr s ↦ s
  ]

  -- a touch doesn't write a variable that is told in another iteration of a PARALLEL DO
  told_unwritten : (ts : List Turn) (c : Cell) → IsIndexAt t ts c → (d : Act) (v : Touch) → IsIn d acts → IsIn v d.touches → is_write v.manner ≡ true → c ≡ v.cell → are_apart ts d.place.turns ≡ true → ⊥
  told_unwritten ts c k d v i w write same apart =
      let near : Near (k.front ++ k.last ∷ []) v.cell = subst (λ (z : Cell). Near (k.front ++ k.last ∷ []) z) same k.near in
      let good : Good Any d = all_good Any (λ scope x. Unit {0}) (λ scope x h. tt) (λ scope e n body q h x i. tt) p t.body 1 [] start (λ x i. tt) d i in
      let at : At d.place.turns v.cell = at_of d.place.turns v.manner v.cell v.reference (good.0 v w) in
      let f = near_front (k.front ++ k.last ∷ []) k.more d.place.turns v.cell (ap (λ (us : List Turn). are_apart us d.place.turns) (sym k.round) ∙ apart) near at in
      let m = same_among k.last (k.front ++ k.last ∷ []) f.front (in_right k.last k.front (k.last ∷ []) (inl refl)) f.same in
      spares_in d i m.0 (subst (λ (us : List Turn). IsIn m.0 us) (sym f.is) (in_left m.0 f.front f.rest m.1)) k.head k.body (ap (λ (z : ℕ). statement_with z t) m.2 ∙ k.stands) v w write
      (near_named (k.front ++ k.last ∷ []) v.cell k.head.variable near (ap name_in (sym same) ∙ k.variable))

  -- what a place tells conflicts with nothing in another iteration of a PARALLEL DO
  told_alone : (b c : Access) → IsTold acts b → IsIn c (accesses acts) → are_apart b.place.turns c.place.turns ≡ true → conflict b c ≡ true → ⊥
  told_alone b c told j apart meets =
      let d = accesses_from acts c j in
      let w = touch_of d.0 d.0.touches c d.2 in
      let parts = and_parts (same_cell told.told.cell w.0.cell) (is_write told.told.manner || is_write w.0.manner) ((λ i. conflict (sym told.is i) (sym w.3 i)) ∙ meets) in
      told_unwritten told.by.place.turns told.told.cell (by_manner told.told.manner told.manner (program_tells t start told.by told.found told.told told.among)) d.0 w.0 d.1 w.1
      (or_second (is_write told.told.manner) (is_write w.0.manner) (ap is_write told.manner) parts.1)
      (cell_is told.told.cell w.0.cell parts.0)
      ((λ i. are_apart (sym told.is i).place.turns (sym w.3 i).place.turns) ∙ apart)
    where
      by_manner : (m : Manner) → m ≡ is_told → Tells t told.by.place.turns m told.told.cell → IsIndexAt t told.by.place.turns told.told.cell
      by_manner is_told e k = k
      by_manner reads e k = absurd cc
      by_manner writes e k = absurd cc

  flipped : (b c : Access) → IsIn b (accesses acts) → (a : Act) → IsIn a acts → c.place ≡ a.place → are_apart b.place.turns c.place.turns ≡ true → are_apart c.place.turns b.place.turns ≡ true
  flipped b c i a k there apart =
      let d = accesses_from acts b i in
      let f = access_place d.0 b d.2 in
      (λ z. are_apart (there z).turns (f z).turns) ∙ apart_flip d.0.place.turns a.place.turns (kinds_of_run p t.body 1 start d.0 a (λ m n e. e) d.1 k) ((λ z. are_apart (sym f z).turns (sym there z).turns) ∙ apart)

  conflict_flip : (b c : Access) → conflict b c ≡ true → conflict c b ≡ true
  conflict_flip b c h =
      let parts = and_parts (same_cell b.cell c.cell) (b.writes || c.writes) h in
      ap (λ (z : Bool). z && (c.writes || b.writes)) (cell_flip c.cell b.cell ∙ parts.0) ∙ or_flip b.writes c.writes parts.1
    where
      or_flip : (x y : Bool) → x || y ≡ true → y || x ≡ true
      or_flip true true e = refl
      or_flip true false e = refl
      or_flip false true e = refl
      or_flip false false e = e

  -- so it makes no race, whichever comes first
  pub told_races_not : (b c : Access) → IsTold acts b → IsIn c (accesses acts) → (race b c ≡ false) × (race c b ≡ false)
  told_races_not b c told j = (first (race b c) refl, second (race c b) refl)
    where
      first : (r : Bool) → race b c ≡ r → race b c ≡ false
      first true e = let k = and_parts (are_apart b.place.turns c.place.turns) (conflict b c) e in absurd (told_alone b c told j k.0 k.1)
      first false e = e

      second : (r : Bool) → race c b ≡ r → race c b ≡ false
      second true e =
          let k = and_parts (are_apart c.place.turns b.place.turns) (conflict c b) e in
          absurd (told_alone b c told j (flipped c b j told.by told.found (ap (λ (z : Access). z.place) told.is) k.0) (conflict_flip c b k.1))
      second false e = e
