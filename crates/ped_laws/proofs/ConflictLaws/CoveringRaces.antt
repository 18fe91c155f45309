-- Accesses that race are made by references: what a DO stores of itself, and what a place tells, meets nothing in another iteration of a PARALLEL DO.
use Rattle.std.proofs.Common.{◌≡◌, ℕ, ◌<◌, List, [], ◌∷◌, ◌++◌, map, filter, cond, Bool, true, false, not, ◌&&◌, ◌||◌, refl, sym, ap, ◌∙◌, subst, inl, inr, arith, Some, if◌then◌else◌, IsTrue, codes}
use Rattle.std.specs.Prelude.{◌==◌}
use Rattle.std.specs.Str.Lines.{lines}
use Rattle.std.proofs.lemmas.Bool.{both_ways, and_parts}
use Rattle.std.proofs.lemmas.Bool.Decides.{nat_tests}
use Rattle.ped_flow.specs.ped_base.specs.Lists.{is_same_text, is_among}
use Rattle.ped_flow.specs.ped_tree.specs.Tree.{ExprTree, Head, Do, ProgramTree}
use Rattle.ped_flow.specs.ped_tree.specs.Nests.{Loop, indices_of}
use Rattle.ped_flow.specs.ped_tree.specs.Numbering.{statement_with}
use Rattle.ped_flow.specs.ped_tree.specs.Grammar.Fits.{fits}
use Rattle.ped_graph.specs.ped_symbols.specs.NameRefusals.{IsValid}
use Rattle.ped_graph.specs.ped_refs.specs.References.{Reference, outermost}
use Rattle.ped_graph.specs.ped_edges.specs.Edges.{Edge}
use Rattle.ped_graph.specs.Dependences.{setting_in, AreEdges}
use Rattle.ped_eval.specs.ped_store.specs.Cells.{Cell, In, Out, Iteration, same_cell}
use Rattle.ped_eval.specs.ped_store.specs.Stores.{Store, store_at_start}
use Rattle.ped_eval.specs.ped_store.specs.Acts.{Manner, reads, writes, is_told, Touch, Turn, Act, iterations_of}
use Rattle.ped_eval.specs.ped_store.specs.Races.{Access, is_lines, is_write, is_access, accesses_of, accesses, conflict, are_apart, race}
use Rattle.ped_laws.specs.Acts.Orders.{IsIn}
use Rattle.ped_laws.proofs.ActLaws.Lists.{in_left, in_right, in_parts}
use Rattle.ped_laws.proofs.ActLaws.SameCells.{cell_is, is_cell}
use Rattle.ped_laws.proofs.ActLaws.Conflicting.{access_by, access_place}
use Rattle.ped_laws.proofs.ActLaws.Renamings.{or_right}
use Rattle.ped_laws.proofs.ActLaws.RaceFree.{apart_flip}
use Rattle.ped_eval.specs.Scopes.{Scope, turns_of, cell_of, names_in}
use Rattle.ped_eval.specs.Outcomes.{setting_of, run_of}
use Rattle.ped_laws.proofs.RunLaws.Touches.{Fine, Good, all_good}
use Rattle.ped_laws.proofs.RunLaws.Turning.{At, cell_at}
use Rattle.ped_laws.proofs.RunLaws.Placing.{kinds_of_run}
use Rattle.ped_laws.proofs.RunLaws.Meetings.{accesses_of_run}
use Rattle.ped_laws.proofs.CoveringLaws.Texts.{text_itself}
use Rattle.ped_laws.specs.Conflicts.Making.{StandsFor, IsMade}
use Rattle.ped_laws.specs.Conflicts.Covered.{ComeInRun, IsCarriedInParallel}
use Rattle.ped_laws.proofs.ConflictLaws.CoveringNests.{IsOf, AreOf, reached_are, first_iteration, more_iterations}
use Rattle.ped_laws.proofs.ConflictLaws.CoveringCells.{name_in, name_of_cell, iteration_of, head_is}
use Rattle.ped_laws.proofs.ConflictLaws.CoveringIndices.{Near, IsIndexAt, near_front}
use Rattle.ped_laws.proofs.ConflictLaws.CoveringTelling.{Tells, program_tells}
use Rattle.ped_laws.proofs.ConflictLaws.CoveringTargets.{variables_spared}
use Rattle.ped_laws.proofs.ConflictLaws.CoveringRuns.{MakingLaw, SequenceLaw, PossibleLaw, first_comes, second_comes, races_of_references}

-- an access is of an act
act_of : (acts : List Act) (x : Access) → IsIn x (accesses acts) → (a : Act) × IsIn a acts × IsIn x (accesses_of a)
act_of [] x i = absurd i
act_of (a ∷ acts) x i = elim (in_parts x (accesses_of a) (accesses acts) i) [
  | inl j ↦ (a, inl refl, j)
  | inr j ↦ let more = act_of acts x j in (more.0, inr more.1, more.2)
]

-- and it is one of the touches of the act
touch_of : (a : Act) (touches : List Touch) (x : Access) → IsIn x (map (access_by a) (filter is_access touches)) → (u : Touch) × IsIn u touches × (is_access u ≡ true) × (x ≡ access_by a u)
touch_of a [] x i = absurd i
touch_of a (u ∷ us) x i = go (is_access u) refl i (touch_of a us x)
  where
    go : (b : Bool) → is_access u ≡ b → IsIn x (map (access_by a) (cond b (u ∷ filter is_access us) (filter is_access us))) → (IsIn x (map (access_by a) (filter is_access us)) → (v : Touch) × IsIn v us × (is_access v ≡ true) × (x ≡ access_by a v))
        → (v : Touch) × IsIn v (u ∷ us) × (is_access v ≡ true) × (x ≡ access_by a v)
    go true e (inl h) more = (u, inl refl, e, h)
    go true e (inr j) more = let r = more j in (r.0, inr r.1, r.2, r.3)
    go false e j more = let r = more j in (r.0, inr r.1, r.2, r.3)

-- a read that no reference makes is told
abbrev Any : List Turn → Cell → Type 0
Any ts c = Unit {0}

told_by : (t : ProgramTree) (ts : List Turn) (m : Manner) (c : Cell) (r : ℕ) → Fine Any ts m c r → Tells t ts m c → (is_write m || not (is_lines c)) ≡ true → is_write m ≡ false → r ≡ 0 → IsIndexAt t ts c
told_by t ts writes c r f k a w z = absurd cc
told_by t ts is_told c r f k a w z = k
told_by t ts reads c r f k a w z = elim f.0 [
  | inl l ↦ absurd (both_ways (not (is_lines c)) (ap not l) a)
  | inr less ↦ absurd (omega (arith, less, z))
]

module _ (t : ProgramTree) (data_bytes : List ℕ) where
  abbrev acts : List Act
  acts = (run_of t data_bytes).acts

  act_good : (a : Act) → IsIn a acts → Good Any a
  act_good a i = all_good Any (λ scope x. Unit {0}) (λ scope x h. tt) (λ scope e k body q h x i. tt) (setting_of t) t.body 1 [] (store_at_start (lines data_bytes)) (λ x i. tt) a i

  told_of : (a : Act) (x : Access) → IsIn a acts → IsIn x (accesses_of a) → x.writes ≡ false → x.reference ≡ 0 → IsIndexAt t x.place.turns x.cell
  told_of a x i j w z =
      let u = touch_of a a.touches x j in
      let here = told_by t a.place.turns u.0.manner u.0.cell u.0.reference ((act_good a i).0 u.0 u.1) (program_tells t (store_at_start (lines data_bytes)) a i u.0 u.1) u.2
      (sym (ap (λ (y : Access). y.writes) u.3) ∙ w) (sym (ap (λ (y : Access). y.reference) u.3) ∙ z) in
      subst (λ (y : Access). IsIndexAt t y.place.turns y.cell) (sym u.3) here

  kinds : (a b : Act) → IsIn a acts → IsIn b acts → are_apart a.place.turns b.place.turns ≡ true → are_apart b.place.turns a.place.turns ≡ true
  kinds a b i j h = apart_flip a.place.turns b.place.turns (kinds_of_run (setting_of t) t.body 1 (store_at_start (lines data_bytes)) a b (λ m k e. e) i j) h

-- the same iteration is among others
same_among : (i : Turn) (ts us : List Turn) → IsIn i ts → iterations_of us ≡ iterations_of ts → (j : Turn) × IsIn j us × (j.statement ≡ i.statement)
same_among i [] us h e = absurd h
same_among i (t ∷ ts) [] h e = absurd cc
same_among i (t ∷ ts) (u ∷ us) (inl h) e =
    let here = first_iteration (iteration_of u) (iteration_of t) (iterations_of us) (iterations_of ts) e in
    (u, inl refl, ap (λ (z : Iteration). z.statement) here ∙ ap (λ (z : Turn). z.statement) (sym h))
same_among i (t ∷ ts) (u ∷ us) (inr h) e =
    let more = same_among i ts us h (more_iterations (iteration_of u) (iteration_of t) (iterations_of us) (iterations_of ts) e) in
    (more.0, inr more.1, more.2)

-- an iteration is of one of the loops
loop_among : (t : ProgramTree) (ls : List Loop) (is : List Turn) (i : Turn) → AreOf t ls is → IsIn i is → (l : Loop) × IsIn l ls × IsOf t l i
loop_among t [] [] i h k = absurd k
loop_among t [] (j ∷ is) i h k = absurd h
loop_among t (l ∷ ls) [] i h k = absurd k
loop_among t (l ∷ ls) (j ∷ is) i h (inl e) = (l, inl refl, subst (IsOf t l) (sym e) h.0)
loop_among t (l ∷ ls) (j ∷ is) i h (inr k) = let more = loop_among t ls is i h.1 k in (more.0, inr more.1, more.2)

variable_among : (l : Loop) (ls : List Loop) → IsIn l ls → is_among l.head.variable (indices_of ls) ≡ true
variable_among l [] h = absurd h
variable_among l (m ∷ ls) (inl e) = ap (λ (x : Loop). is_same_text l.head.variable x.head.variable || is_among l.head.variable (indices_of ls)) (sym e) ∙ ap (λ (b : Bool). b || is_among l.head.variable (indices_of ls)) (text_itself l.head.variable)
variable_among l (m ∷ ls) (inr h) = or_right (is_same_text l.head.variable m.head.variable) (is_among l.head.variable (indices_of ls)) (variable_among l ls h)

-- what a place tells is written by no reference in another iteration of a PARALLEL DO
module _ (t : ProgramTree) (fit : fits t ≡ true) (first : Store) (a b : Access) (told : IsIndexAt t a.place.turns a.cell) (r : Reference) (scope : Scope) (u : Store) (made : IsMade t first b r scope u)
    (write : b.writes ≡ true) (apart : are_apart a.place.turns b.place.turns ≡ true) (same : a.cell ≡ b.cell) where
  near : Near (told.front ++ told.last ∷ []) b.cell
  near = subst (Near (told.front ++ told.last ∷ [])) same told.near

  -- the DO whose variable is told stands round the other place, too
  told_here : (l : Loop) (j : Turn) → IsIn l r.nest → IsOf t l j → j.statement ≡ told.last.statement → r.access.name ≡ told.head.variable → is_among r.access.name (indices_of r.nest) ≡ true
  told_here l j i of same named =
      let stands : statement_with told.last.statement t ≡ Some (Do l.head of.body) = ap (λ (n : ℕ). statement_with n t) (sym same ∙ of.statement) ∙ of.stands in
      let heads : told.head ≡ l.head = head_is told.head l.head told.body of.body (sym told.stands ∙ stands) in
      ap (λ (x : List ℕ). is_among x (indices_of r.nest)) (named ∙ ap (λ (h : Head). h.variable) heads) ∙ variable_among l r.nest i

  told_round : At b.place.turns b.cell → r.access.name ≡ told.head.variable → is_among r.access.name (indices_of r.nest) ≡ true
  told_round at named =
      let f = near_front (told.front ++ told.last ∷ []) told.more b.place.turns b.cell (subst (λ (is : List Turn). are_apart is b.place.turns ≡ true) told.round apart) near at in
      let nest : AreOf t r.nest b.place.turns = subst (AreOf t r.nest) (sym made.turns) (reached_are t (setting_in t (outermost r)) first r.nest scope made.reached) in
      let j = same_among told.last (told.front ++ told.last ∷ []) f.front (in_right told.last told.front (told.last ∷ []) (inl refl)) f.same in
      let l = loop_among t r.nest b.place.turns j.0 nest (subst (IsIn j.0) (sym f.is) (in_left j.0 f.front f.rest j.1)) in
      told_here l.0 j.0 l.1 l.2 j.2 named

  pub never_told : ⊥
  never_told = by_subscripts r.access.subscripts refl made.cell
    where
      named : r.access.name ≡ told.head.variable
      named = sym (name_of_cell t scope u r.access.name r.access.subscripts b.cell made.cell) ∙ ap name_in (sym same) ∙ told.variable

      of_name : (x y : Bool) → is_same_text r.access.name (codes "(IN)") ≡ x → is_same_text r.access.name (codes "(OUT)") ≡ y → r.access.subscripts ≡ [] → b.cell ≡ (if x then In else (if y then Out else cell_of scope r.access.name)) → ⊥
      of_name true y e f s c = subst (Near (told.front ++ told.last ∷ [])) c near
      of_name false true e f s c = subst (Near (told.front ++ told.last ∷ [])) c near
      of_name false false e f s c =
          let at : At b.place.turns b.cell = subst (λ (is : List Turn). At is b.cell) (sym made.turns) (subst (At (turns_of scope)) (sym c) (cell_at scope r.access.name)) in
          both_ways (is_among r.access.name (indices_of r.nest)) (variables_spared t fit r made.listed (sym made.writes ∙ write) s e f) (told_round at named)

      by_subscripts : (es : List ExprTree) → r.access.subscripts ≡ es → StandsFor t (names_in (setting_of t) scope) u r.access.name es b.cell → ⊥
      by_subscripts [] s h = of_name (is_same_text r.access.name (codes "(IN)")) (is_same_text r.access.name (codes "(OUT)")) refl refl s h
      by_subscripts (e ∷ es) s h = subst (Near (told.front ++ told.last ∷ [])) h.2 near

above_zero : (n : ℕ) → (n == 0) ≡ false → 0 < n
above_zero n h = grind (arith, nat_tests)

is_none : (n : ℕ) → (n == 0) ≡ true → n ≡ 0
is_none n h = grind (arith, nat_tests)

true_of : (b : Bool) → IsTrue b → b ≡ true
true_of b h = h

fits_of : {t : ProgramTree} → IsValid t → fits t ≡ true
fits_of {t} valid = true_of (fits t) valid.fits

or_other : (a b : Bool) → (a || b) ≡ true → a ≡ false → b ≡ true
or_other true b h e = absurd cc
or_other false b h e = h

or_turned : (a b : Bool) → (a || b) ≡ true → (b || a) ≡ true
or_turned true b h = or_right b true refl
or_turned false true h = refl
or_turned false false h = h

conflict_turned : (a b : Access) → conflict a b ≡ true → conflict b a ≡ true
conflict_turned a b h =
    let parts = and_parts (same_cell a.cell b.cell) (a.writes || b.writes) h in
    let same : same_cell b.cell a.cell ≡ true = is_cell b.cell a.cell (sym (cell_is a.cell b.cell parts.0)) in
    let write : (b.writes || a.writes) ≡ true = or_turned a.writes b.writes parts.1 in
    λ i. same i && write i

record HasTurn (is : List Turn) : Type 0 where
  first : Turn
  inner : List Turn
  is_more : is ≡ first ∷ inner

has_turn : (is js : List Turn) → are_apart is js ≡ true → HasTurn js
has_turn [] js h = absurd cc
has_turn (i ∷ is) [] h = absurd cc
has_turn (i ∷ is) (j ∷ js) h = record { first = j; inner = js; is_more = refl }

module _ (made : MakingLaw) (sequence : SequenceLaw) (possible : PossibleLaw) (t : ProgramTree) (data_bytes : List ℕ) (valid : IsValid t) where
  abbrev all : List Access
  all = accesses (acts t data_bytes)

  -- what a DO stores of itself
  never_stored : (a b : Access) → IsIn a all → IsIn b all → are_apart a.place.turns b.place.turns ≡ true → conflict a b ≡ true → a.reference ≡ 0 → a.writes ≡ true → ⊥
  never_stored a b i j apart meets none write =
      let x = act_of (acts t data_bytes) a i in
      let y = act_of (acts t data_bytes) b j in
      let places : are_apart x.0.place.turns y.0.place.turns ≡ true = (λ k. are_apart (sym (access_place x.0 a x.2) k).turns (sym (access_place y.0 b y.2) k).turns) ∙ apart in
      both_ways (conflict a b) (accesses_of_run (setting_of t) t.body 1 [] (store_at_start (lines data_bytes)) x.0 y.0 a b (λ z k. tt) x.1 y.1 places x.2 y.2 write none) meets

  turned_apart : (a b : Access) → IsIn a all → IsIn b all → are_apart a.place.turns b.place.turns ≡ true → are_apart b.place.turns a.place.turns ≡ true
  turned_apart a b i j apart =
      let x = act_of (acts t data_bytes) a i in
      let y = act_of (acts t data_bytes) b j in
      let p = access_place x.0 a x.2 in
      let q = access_place y.0 b y.2 in
      (λ k. are_apart (q k).turns (p k).turns) ∙ kinds t data_bytes x.0 y.0 x.1 y.1 ((λ k. are_apart (sym p k).turns (sym q k).turns) ∙ apart)

  -- an access that no reference makes races with none
  no_reference : (a b : Access) → IsIn a all → IsIn b all → are_apart a.place.turns b.place.turns ≡ true → conflict a b ≡ true → a.reference ≡ 0 → ⊥
  no_reference a b i j apart meets none = by_write a.writes refl
    where
      parts : (same_cell a.cell b.cell ≡ true) × ((a.writes || b.writes) ≡ true)
      parts = and_parts (same_cell a.cell b.cell) (a.writes || b.writes) meets

      by_reference : a.writes ≡ false → (w : Bool) → (b.reference == 0) ≡ w → ⊥
      by_reference e true f = never_stored b a j i (turned_apart a b i j apart) (conflict_turned a b meets) (is_none b.reference f) (or_other a.writes b.writes parts.1 e)
      by_reference e false f =
          let x = act_of (acts t data_bytes) a i in
          let h = has_turn a.place.turns b.place.turns apart in
          let law = made t data_bytes valid in
          let m = law.1 b h.first h.inner j (above_zero b.reference f) h.is_more in
          never_told t (fits_of valid) (law.0 (outermost m.0)) a b (told_of t data_bytes x.0 a x.1 x.2 e none) m.0 m.1 m.2 m.3 (or_other a.writes b.writes parts.1 e) apart (cell_is a.cell b.cell parts.0)

      by_write : (w : Bool) → a.writes ≡ w → ⊥
      by_write true e = never_stored a b i j apart meets none e
      by_write false e = by_reference e (b.reference == 0) refl

  -- races are carried by a PARALLEL DO
  pub races_carried : (a b : Access) (edges : List Edge) → ComeInRun t data_bytes a b → race a b ≡ true → AreEdges t edges → IsCarriedInParallel t edges a.place.statement b.place.statement
  races_carried a b edges come races are = go (a.reference == 0) (b.reference == 0) refl refl
    where
      parts : (are_apart a.place.turns b.place.turns ≡ true) × (conflict a b ≡ true)
      parts = and_parts (are_apart a.place.turns b.place.turns) (conflict a b) races

      i : IsIn a all
      i = first_comes t data_bytes a b come

      j : IsIn b all
      j = second_comes t data_bytes a b come

      go : (x y : Bool) → (a.reference == 0) ≡ x → (b.reference == 0) ≡ y → IsCarriedInParallel t edges a.place.statement b.place.statement
      go true y e f = absurd (no_reference a b i j parts.0 parts.1 (is_none a.reference e))
      go false true e f = absurd (no_reference b a j i (turned_apart a b i j parts.0) (conflict_turned a b parts.1) (is_none b.reference f))
      go false false e f = races_of_references made sequence possible t data_bytes a b edges valid come parts.0 parts.1 (above_zero a.reference e) (above_zero b.reference f) are
