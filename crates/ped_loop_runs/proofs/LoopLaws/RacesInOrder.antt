-- A DO that becomes a PARALLEL DO, or ceases to be one, makes no race: what its iterations touch by references they touched before, and where it becomes one it carries no dependence.
use Rattle.std.proofs.Common.{◌≡◌, ◌⊎◌, ℕ, ◌+◌, ◌≤◌, ◌<◌, List, [], ◌∷◌, ◌++◌, map, Bool, true, false, ◌&&◌, ◌||◌, ◌==◌, if◌then◌else◌, refl, sym, ap, ◌∙◌, subst, inl, inr, arith, Some, append_assoc}
use Rattle.std.specs.Prelude.{nat_lt, nat_le}
use Rattle.std.specs.Str.Lines.{lines}
use Rattle.std.specs.List.{list_any}
use Rattle.std.proofs.lemmas.Bool.{and_parts, both_ways, ltb-true, leb-true, lt-ltb}
use Rattle.ped_bodies.specs.ped_flow.specs.ped_base.specs.Lists.{is_same_text, is_among}
use Rattle.ped_bodies.specs.ped_flow.specs.ped_base.proofs.NameEquality.{same_itself}
use Rattle.ped_bodies.specs.ped_flow.specs.ped_tree.specs.Tree.{Head, StmtTrees, Do, ProgramTree}
use Rattle.ped_bodies.specs.ped_flow.specs.ped_tree.specs.NamesIn.{loop_variables}
use Rattle.ped_bodies.specs.ped_flow.specs.ped_tree.specs.Nests.{Loop}
use Rattle.ped_bodies.specs.ped_flow.specs.ped_tree.specs.Numbering.{statement_with, statements_count}
use Rattle.ped_bodies.specs.ped_flow.specs.Questions.{LoopOf}
use Rattle.ped_bodies.specs.ped_refs.specs.References.{references, outermost}
use Rattle.ped_bodies.specs.ped_graph.specs.Dependences.{setting_in, AreEdges}
use Rattle.ped_bodies.specs.ped_store.specs.Cells.{Cell, In, Out, Scalar, Element, Private, same_cell}
use Rattle.ped_bodies.specs.ped_store.specs.Stores.{Store, store_at_start}
use Rattle.ped_bodies.specs.ped_store.specs.Acts.{Manner, reads, writes, is_told, Touch, Turn, Act}
use Rattle.ped_bodies.specs.ped_store.specs.Races.{Access, is_write, accesses, conflict, are_apart, race, HasNoRace}
use Rattle.ped_bodies.specs.ped_eval.specs.Loops.{Entered, frame}
use Rattle.ped_bodies.specs.ped_eval.specs.Scopes.{Setting, Scope, turns_of}
use Rattle.ped_bodies.specs.ped_eval.specs.Outcomes.{setting_of, run_of}
use Rattle.ped_bodies.specs.ped_eval.specs.Runs.{run_all}
use Rattle.ped_bodies.specs.ped_laws.specs.Acts.Conflicts.{IsNoReadOf, LeaveUnread, ReadNone}
use Rattle.ped_bodies.specs.ped_laws.specs.Acts.Orders.{IsIn, StandsBefore}
use Rattle.ped_bodies.specs.ped_laws.specs.Acts.Pieces.{Part, old_parts, new_parts}
use Rattle.ped_bodies.specs.ped_laws.specs.FlowRuns.Covering.{is_cell_of}
use Rattle.ped_bodies.specs.ped_laws.specs.Runs.Replaying.{goes_on, finish_of}
use Rattle.ped_bodies.specs.ped_laws.specs.Conflicts.Sequence.{ComesBefore}
use Rattle.ped_bodies.specs.ped_laws.specs.Conflicts.Covered.{ComeInRun}
use Rattle.ped_bodies.specs.ped_laws.proofs.ActLaws.Lists.{first_in, second_in, in_order, split_at}
use Rattle.ped_bodies.specs.ped_laws.proofs.ActLaws.SameCells.{cell_is, is_cell}
use Rattle.ped_bodies.specs.ped_laws.proofs.FlowRunLaws.TripReads.{contained_unread}
use Rattle.ped_bodies.specs.ped_laws.proofs.ConflictLaws.CoveringCells.{name_in, name_of_cell}
use Rattle.ped_bodies.specs.ped_laws.proofs.ConflictLaws.CoveringDirections.{same_numbers, numbers_are}
use Rattle.ped_bodies.specs.ped_laws.proofs.ConflictLaws.CoveringNests.{IsOf, AreOf, reached_are}
use Rattle.ped_bodies.specs.ped_laws.proofs.ConflictLaws.CoveringRuns.{MakingLaw, SequenceLaw}
use Rattle.ped_bodies.specs.ped_steps.specs.Replacing.{alone}
use Rattle.ped_bodies.specs.ped_steps.specs.Runs.Renumbering.{renumbered_turn}
use Rattle.ped_bodies.specs.ped_steps.specs.Tidy.{is_write_in, is_written_in}
use Rattle.ped_bodies.specs.ped_steps.proofs.RunLaws.AccessTouches.{accesses_from, touch_of}
use Rattle.ped_bodies.specs.ped_weaves.specs.Sources.{RaceSomewhere}
use Rattle.ped_bodies.specs.ped_weaves.proofs.WeaveLaws.RaceSources.{pairs_free}
use Rattle.ped_bodies.specs.Moving.{own_number, is_cell_among}
use Rattle.ped_bodies.specs.Trips.{entered_from}
use Rattle.ped_loop_runs.specs.Executions.{IsExecuted}
use Rattle.ped_loop_runs.specs.Pasting.{AreExchanged}
use Rattle.ped_bodies.specs.ped_edges.specs.Edges.{Edge}
use Rattle.ped_loop_runs.specs.Carried.{is_in_body, AreInTrips, NoneMeetOn}
use Rattle.ped_loop_runs.specs.OneForOne.{IsOneForOne, IsMadeInstead}
use Rattle.ped_loop_runs.proofs.LoopLaws.Nested.{in_loop_body}
use Rattle.ped_loop_runs.proofs.LoopLaws.SomeEdges.{some_edges}
use Rattle.ped_loop_runs.proofs.LoopLaws.Trips.{share_in_trips, trips_carried}
use Rattle.ped_loop_runs.proofs.LoopLaws.Unwritten.{index_named}
use Rattle.ped_loop_runs.proofs.LoopLaws.PlacedLoops.{placed_loop}
use Rattle.ped_loop_runs.proofs.LoopLaws.RacesByReferences.{by_references, told_is_unreferred}
use Rattle.ped_loop_runs.proofs.LoopLaws.OneForOneRaces.{IsKept, IsInTrip, Comes, access_comes}

-- iterations in the new run and in the old one: the same, but for the flag of the DO with number l
abbrev IsAlikeTurn : ℕ → Turn → Turn → Type 0
IsAlikeTurn l i j = (j.statement ≡ i.statement) × (j.number ≡ i.number) × ((i.statement ≡ l → ⊥) → j.parallel ≡ i.parallel)

abbrev AreAlike : ℕ → List Turn → List Turn → Type 0
AreAlike l [] [] = Unit {0}
AreAlike l [] (j ∷ js) = ⊥
AreAlike l (i ∷ is) [] = ⊥
AreAlike l (i ∷ is) (j ∷ js) = IsAlikeTurn l i j × AreAlike l is js

alike_same : (l : ℕ) (is : List Turn) → AreAlike l is is
alike_same l [] = tt
alike_same l (i ∷ is) = ((refl, refl, λ n. refl), alike_same l is)

alike_append : (l : ℕ) (is js ks ms : List Turn) → AreAlike l is js → AreAlike l ks ms → AreAlike l (is ++ ks) (js ++ ms)
alike_append l [] [] ks ms h k = k
alike_append l [] (j ∷ js) ks ms h k = absurd h
alike_append l (i ∷ is) [] ks ms h k = absurd h
alike_append l (i ∷ is) (j ∷ js) ks ms h k = (h.0, alike_append l is js ks ms h.1 k)

alike_numbered : (l : ℕ) (is : List Turn) → AreAlike l is (map (renumbered_turn own_number) is)
alike_numbered l [] = tt
alike_numbered l (i ∷ is) = ((refl, refl, λ n. refl), alike_numbered l is)

-- where two places differ first, their iterations are of the DO with number l
abbrev IsCritical : ℕ → List Turn → List Turn → Type 0
IsCritical l [] js = ⊥
IsCritical l (i ∷ is) [] = ⊥
IsCritical l (i ∷ is) (j ∷ js) = (i.statement ≡ j.statement) × (((i.number ≡ j.number) × IsCritical l is js) ⊎ ((i.number ≡ j.number → ⊥) × (i.statement ≡ l)))

critical_flip : (l : ℕ) (is js : List Turn) → IsCritical l is js → IsCritical l js is
critical_flip l [] js c = absurd c
critical_flip l (i ∷ is) [] c = absurd c
critical_flip l (i ∷ is) (j ∷ js) (same, inl more) = (sym same, inl (sym more.0, critical_flip l is js more.1))
critical_flip l (i ∷ is) (j ∷ js) (same, inr here) = (sym same, inr (λ e. here.0 (sym e), sym same ∙ here.1))

never_critical : (l : ℕ) (is : List Turn) → IsCritical l is is → ⊥
never_critical l [] c = c
never_critical l (i ∷ is) (same, inl more) = never_critical l is more.1
never_critical l (i ∷ is) (same, inr here) = here.0 refl

unequal : (m n : ℕ) → (m == n) ≡ false → m ≡ n → ⊥
unequal m n e f = both_ways (m == n) e (same_numbers m n f)

-- the new places are apart: so are the old ones, or they differ first in iterations of that DO, which is a PARALLEL DO now
apart_before : (l : ℕ) (flag : Bool) (xs bs ys cs : List Turn) → ((j : Turn) → IsIn j bs → j.statement ≡ l → j.parallel ≡ flag) → AreAlike l xs bs → AreAlike l ys cs → are_apart bs cs ≡ true → (are_apart xs ys ≡ true) ⊎ (IsCritical l xs ys × (flag ≡ true))
apart_before l flag [] [] ys cs flags h k apart = absurd (both_ways false refl apart)
apart_before l flag [] (b ∷ bs) ys cs flags h k apart = absurd h
apart_before l flag (x ∷ xs) [] ys cs flags h k apart = absurd h
apart_before l flag (x ∷ xs) (b ∷ bs) [] [] flags h k apart = absurd (both_ways false refl apart)
apart_before l flag (x ∷ xs) (b ∷ bs) [] (c ∷ cs) flags h k apart = absurd k
apart_before l flag (x ∷ xs) (b ∷ bs) (y ∷ ys) [] flags h k apart = absurd k
apart_before l flag (x ∷ xs) (b ∷ bs) (y ∷ ys) (c ∷ cs) flags h k apart = by (b.number == c.number) refl parts.1 (λ r. apart_before l flag xs bs ys cs (λ j i. flags j (inr i)) h.1 k.1 r)
  where
    parts : ((b.statement == c.statement) ≡ true) × ((if b.number == c.number then are_apart bs cs else b.parallel) ≡ true)
    parts = and_parts (b.statement == c.statement) (if b.number == c.number then are_apart bs cs else b.parallel) apart

    statements : x.statement ≡ y.statement
    statements = sym h.0.0 ∙ numbers_are b.statement c.statement parts.0 ∙ k.0.0

    numbers : (r : Bool) → (b.number == c.number) ≡ r → (x.number == y.number) ≡ r
    numbers r e = (λ i. sym h.0.1 i == sym k.0.1 i) ∙ e

    same : (x.statement == y.statement) ≡ true
    same = same_numbers x.statement y.statement statements

    differ : (b.number == c.number) ≡ false → b.parallel ≡ true → (r : Bool) → (x.statement == l) ≡ r → (are_apart (x ∷ xs) (y ∷ ys) ≡ true) ⊎ (IsCritical l (x ∷ xs) (y ∷ ys) × (flag ≡ true))
    differ e parallel true of =
        let is : x.statement ≡ l = numbers_are x.statement l of in
        inr ((statements, inr (unequal x.number y.number (numbers false e), is)), sym (flags b (inl refl) (h.0.0 ∙ is)) ∙ parallel)
    differ e parallel false of = let own = sym (h.0.2 (unequal x.statement l of)) ∙ parallel in let other = numbers false e in inl (λ i. same i && (if other i then are_apart xs ys else own i))

    by : (r : Bool) → (b.number == c.number) ≡ r → (if b.number == c.number then are_apart bs cs else b.parallel) ≡ true
        → (are_apart bs cs ≡ true → (are_apart xs ys ≡ true) ⊎ (IsCritical l xs ys × (flag ≡ true)))
        → (are_apart (x ∷ xs) (y ∷ ys) ≡ true) ⊎ (IsCritical l (x ∷ xs) (y ∷ ys) × (flag ≡ true))
    by true e rest further = elim (further (sym (ap (λ (z : Bool). if z then are_apart bs cs else b.parallel) e) ∙ rest)) [
      | inl more ↦ (let other = numbers true e in inl (λ i. same i && (if other i then more i else x.parallel)))
      | inr c ↦ inr ((statements, inl (numbers_are x.number y.number (numbers true e), c.0)), c.1)
    ]
    by false e rest further = differ e (sym (ap (λ (z : Bool). if z then are_apart bs cs else b.parallel) e) ∙ rest) (x.statement == l) refl

-- accesses of a run that differ first there stand in two trips
trips_of : (t : ProgramTree) (a b : Access) (l : ℕ) (is js : List Turn) → ComesBefore t a b is js → IsCritical l is js → (outer : List Turn) × (i j : Turn) × (more others : List Turn) × (is ≡ outer ++ i ∷ more) × (js ≡ outer ++ j ∷ others) × (i.statement ≡ l) × (j.statement ≡ l) × (i.number < j.number)
trips_of t a b l [] js comes c = absurd c
trips_of t a b l (i ∷ is) [] comes c = absurd c
trips_of t a b l (i ∷ is) (j ∷ js) (inl k) (same, inl more) =
    let r = trips_of t a b l is js k.1 more.1 in
    (i ∷ r.0, r.1, r.2, r.3, r.4, ap (λ (zs : List Turn). i ∷ zs) r.5, (λ z. (sym k.0 z) ∷ r.6 z), r.7, r.8, r.9)
trips_of t a b l (i ∷ is) (j ∷ js) (inl k) (same, inr here) = absurd (here.0 (ap (λ (z : Turn). z.number) k.0))
trips_of t a b l (i ∷ is) (j ∷ js) (inr (inl k)) (same, inl more) = let less = k.earlier in let e = more.0 in absurd (omega (arith, less, e))
trips_of t a b l (i ∷ is) (j ∷ js) (inr (inl k)) (same, inr here) = ([], i, j, is, js, refl, refl, here.1, sym same ∙ here.1, k.earlier)
trips_of t a b l (i ∷ is) (j ∷ js) (inr (inr k)) (same, rest) = absurd (k.0 same)

-- one that stands before another comes in the run so
come_in_run : (t : ProgramTree) (data_bytes : List ℕ) (x y : Access) → StandsBefore x y (accesses (run_of t data_bytes).acts) → ComeInRun t data_bytes x y
come_in_run t data_bytes x y stands = let r = parts (accesses (run_of t data_bytes).acts) stands in record { before = r.0; between = r.1; behind = r.2; is = r.3 }
  where
    parts : (zs : List Access) → StandsBefore x y zs → (before between behind : List Access) × (zs ≡ before ++ x ∷ (between ++ y ∷ behind))
    parts [] s = absurd s
    parts (z ∷ zs) (inl k) = let r = split_at y zs k.1 in ([], r.0, r.1, λ i. sym k.0 i ∷ r.2 i)
    parts (z ∷ zs) (inr s) = let r = parts zs s in (z ∷ r.0, r.1, r.2, ap (λ (more : List Access). z ∷ more) r.3)

unread_touch : (d : Cell → Bool) (acts : List Act) (a : Act) (v : Touch) → ReadNone d acts → IsIn a acts → IsIn v a.touches → v.manner ≡ reads → d v.cell ≡ false
unread_touch d [] a v none i j e = absurd i
unread_touch d (b ∷ acts) a v none (inl is) j e = in_touches a.touches (subst (λ (z : Act). LeaveUnread d z.touches) (sym is) none.0) j
  where
    by : (m : Manner) → m ≡ reads → IsNoReadOf d m v.cell → d v.cell ≡ false
    by reads q k = k
    by writes q k = absurd cc
    by is_told q k = absurd cc

    in_touches : (ts : List Touch) → LeaveUnread d ts → IsIn v ts → d v.cell ≡ false
    in_touches [] k i = absurd i
    in_touches (w ∷ ts) k (inl q) = by v.manner e (subst (λ (z : Touch). IsNoReadOf d z.manner z.cell) (sym q) k.0)
    in_touches (w ∷ ts) k (inr i) = in_touches ts k.1 i
unread_touch d (b ∷ acts) a v none (inr i) j e = unread_touch d acts a v none.1 i j e

any_of : {X : Type 0} (test : X → Bool) (xs : List X) (x : X) → IsIn x xs → test x ≡ true → list_any test xs ≡ true
any_of test [] x i h = absurd i
any_of test (z ∷ zs) x (inl e) h = ap (λ (b : Bool). b || list_any test zs) (sym (ap test e) ∙ h)
any_of test (z ∷ zs) x (inr i) h = or_second (test z) (list_any test zs) (any_of test zs x i h)
  where
    or_second : (a b : Bool) → b ≡ true → a || b ≡ true
    or_second true b h = refl
    or_second false b h = h

-- a cell of one of some names
of_name : (names : List (List ℕ)) (c : Cell) → is_cell_among names c ≡ true → (is_among (name_in c) names ≡ true) × (is_cell_of (name_in c) c ≡ true)
of_name names (Scalar x) h = (h, same_itself x)
of_name names (Private x path) h = (h, same_itself x)
of_name names (Element x js) h = absurd (both_ways false refl h)
of_name names In h = absurd (both_ways false refl h)
of_name names Out h = absurd (both_ways false refl h)

first_turn : (outer : List Turn) (i : Turn) (is : List Turn) → (j : Turn) × (js : List Turn) × (outer ++ i ∷ is ≡ j ∷ js)
first_turn [] i is = (i, is, refl)
first_turn (f ∷ outer) i is = (f, outer ++ i ∷ is, refl)

of_nest : (t : ProgramTree) (ls : List Loop) (is : List Turn) (i : Turn) → AreOf t ls is → IsIn i is → (m : Loop) × IsOf t m i
of_nest t [] [] i h k = absurd k
of_nest t [] (j ∷ is) i h k = absurd h
of_nest t (m ∷ ls) [] i h k = absurd k
of_nest t (m ∷ ls) (j ∷ is) i h (inl e) = (m, subst (λ (z : Turn). IsOf t m z) (sym e) h.0)
of_nest t (m ∷ ls) (j ∷ is) i h (inr k) = of_nest t ls is i h.1 k

same_head : (g h : Head) (b c : StmtTrees) → Some (Do g b) ≡ Some (Do h c) → g ≡ h
same_head g h b c e = cc

module _ (made : MakingLaw) (sequence : SequenceLaw) (t u : ProgramTree) (l : ℕ) (loop : LoopOf t l) (h : Head) (x : IsOneForOne t u l loop h false) (data_bytes : List ℕ)
    (none : (loop.head.parallel ≡ false) × (h.parallel ≡ true) → (edges : List Edge) → AreEdges t edges → NoneMeetOn t edges data_bytes l loop.body) where
  abbrev p : Setting
  p = setting_of t

  abbrev start : Store
  start = store_at_start (lines data_bytes)

  abbrev d : Head
  d = loop.head

  abbrev body : StmtTrees
  body = loop.body

  abbrev indices : List (List ℕ)
  indices = loop_variables (Do d body)

  abbrev olds : List Act
  olds = (run_of t data_bytes).acts

  abbrev news : List Act
  news = (run_of u data_bytes).acts

  -- an old access of a trip is of no variable of the DO
  module _ (scope : Scope) (k : ℕ) (e : Entered) (number : e.number ≡ l) (variable : e.head.variable ≡ d.variable) (v : Store) (trip : List Act) (is : trip ≡ (run_all p body (l + 1) (frame e k ∷ scope) v).acts) (y : Access) (in_trip : IsIn y (accesses trip)) (found : IsIn y (accesses olds)) (more : List Turn)
      (turns : y.place.turns ≡ turns_of (frame e k ∷ scope) ++ more) (some : 0 < y.reference) (idle : is_cell_among indices y.cell ≡ true) where
    abbrev w : List ℕ
    w = name_in y.cell

    among : is_among w indices ≡ true
    among = (of_name indices y.cell idle).0

    inside : y.place.turns ≡ turns_of scope ++ (frame e k).turn ∷ more
    inside = turns ∙ append_assoc (turns_of scope) ((frame e k).turn ∷ []) more

    -- it isn't written by a reference
    not_written : y.writes ≡ true → ⊥
    not_written write =
        let f = first_turn (turns_of scope) (frame e k).turn more in
        let law = made t data_bytes x.valid in
        let m = law.1 y f.0 f.1 found some (inside ∙ f.2) in
        let there = in_loop_body t (law.0 (outermost m.0)) y m.0 m.1 m.2 m.3 l loop (turns_of scope) (frame e k).turn more inside number in
        let statement : is_in_body l body m.0.statement ≡ true = ap (is_in_body l body) (sym m.3.statement) ∙ there.0 in
        let both = and_parts (nat_lt l m.0.statement) (nat_le m.0.statement (l + statements_count body)) statement in
        let low : l < m.0.statement = ltb-true l m.0.statement both.0 in
        let high : m.0.statement ≤ l + statements_count body = leb-true m.0.statement (l + statements_count body) both.1 in
        let named : w ≡ m.0.access.name = name_of_cell t m.1 m.2 m.0.access.name m.0.access.subscripts y.cell m.3.cell in
        let same : is_same_text w m.0.access.name ≡ true = ap (is_same_text w) (sym named) ∙ same_itself w in
        let writing : m.0.access.writes ≡ true = sym m.3.writes ∙ write in
        let first = lt-ltb l m.0.statement low in
        let second = lt-ltb m.0.statement (l + (statements_count body + 1)) (omega (arith, high)) in
        let one : is_write_in l (statements_count body + 1) w m.0 ≡ true = λ i. ((first i && second i) && same i) && writing i in
        both_ways (is_written_in t l body w) (x.unwritten refl w among) (any_of (is_write_in l (statements_count body + 1) w) (references t) m.0 m.3.listed one)

    -- nor read
    not_read : (a : Act) → IsIn a trip → (q : Touch) → IsIn q a.touches → q.manner ≡ reads → q.cell ≡ y.cell → ⊥
    not_read a i q j reading cell =
        let named = index_named t x.valid l loop w among in
        let unread = contained_unread p t l loop w named x.contained among scope (frame e k) v variable in
        both_ways (is_cell_of w q.cell) (unread_touch (is_cell_of w) (run_all p body (l + 1) (frame e k ∷ scope) v).acts a q unread (subst (λ (acts : List Act). IsIn a acts) is i) j reading)
        (ap (is_cell_of w) cell ∙ (of_name indices y.cell idle).1)

    not_idle : ⊥
    not_idle =
        let a = accesses_from trip y in_trip in
        let q = touch_of a.0 a.0.touches y a.2 in
        by a.0 a.1 q.0 q.1 q.3 q.0.manner refl
      where
        by : (a : Act) → IsIn a trip → (q : Touch) → IsIn q a.touches → y ≡ record { cell = q.cell; writes = is_write q.manner; place = a.place; reference = q.reference } → (m : Manner) → q.manner ≡ m → ⊥
        by a i q j same reads r = not_read a i q j r (ap (λ (z : Access). z.cell) (sym same))
        by a i q j same writes r = not_written (ap (λ (z : Access). z.writes) same ∙ ap is_write r)
        by a i q j same is_told r =
            let none = told_is_unreferred p body (l + 1) (frame e k ∷ scope) v a (subst (λ (acts : List Act). IsIn a acts) is i) q j r in
            let referred = ap (λ (z : Access). z.reference) same in
            absurd (omega (arith, none, referred, some))

  -- where a new access comes from: the same cell, in iterations that are alike
  record IsFrom (b : Access) : Type 0 where
    origin : Access
    found : IsIn origin (accesses olds)
    cell : origin.cell ≡ b.cell
    writes : origin.writes ≡ b.writes
    alike : AreAlike l origin.place.turns b.place.turns
    referred : 0 < origin.reference

  of_kept : (b : Access) → IsKept olds b → IsFrom b
  of_kept b k = record { origin = k.origin; found = k.found; cell = k.cell; writes = k.writes; alike = subst (λ (ts : List Turn). AreAlike l k.origin.place.turns ts) k.turns (alike_same l k.origin.place.turns); referred = k.referred }

  of_trip : (b : Access) → 0 < b.reference → IsInTrip t start olds l loop h false b → IsFrom b
  of_trip b some k = record {
    origin = k.trip.origin;
    found = k.trip.found;
    cell = cell;
    writes = sym k.trip.likewise.writes;
    alike = alike;
    referred = referred;
  }
    where
      old : Entered
      old = entered_from p d body l k.scope k.store k.made.old.bounds

      now : Entered
      now = entered_from p h body l k.scope k.store k.made.trips.bounds

      high : k.trip.number ≤ old.count
      high = let to = k.trip.to in let same = k.made.trips.count in omega (arith, to, same)

      referred : 0 < k.trip.origin.reference
      referred = let same = k.trip.likewise.reference in omega (arith, same, some)

      -- the places differ in the flag of that DO alone
      alike : AreAlike l k.trip.origin.place.turns b.place.turns
      alike =
          let round = alike_append l (turns_of k.scope) (turns_of k.scope) ((frame old k.trip.number).turn ∷ []) ((frame now k.trip.number).turn ∷ []) (alike_same l (turns_of k.scope)) ((refl, refl, (λ n. absurd (n refl))), tt) in
          let whole = alike_append l (turns_of (frame old k.trip.number ∷ k.scope)) (turns_of (frame now k.trip.number ∷ k.scope)) k.trip.likewise.more (map (renumbered_turn own_number) k.trip.likewise.more) round (alike_numbered l k.trip.likewise.more) in
          subst (λ (is : List Turn). AreAlike l is b.place.turns) (sym k.trip.likewise.old) (subst (λ (js : List Turn). AreAlike l (turns_of (frame old k.trip.number ∷ k.scope) ++ k.trip.likewise.more) js) (sym k.trip.likewise.new) whole)

      cell : k.trip.origin.cell ≡ b.cell
      cell = elim k.trip.likewise.cell [
        | inl same ↦ sym same
        | inr idle ↦ (
            let are = k.made.old.are k.trip.number k.trip.from high in
            absurd (not_idle k.scope k.trip.number old refl refl _ (k.made.old.trip k.trip.number) are.is k.trip.origin k.trip.in_trip k.trip.found k.trip.likewise.more k.trip.likewise.old referred idle.0)
            )
      ]

  of_comes : (b : Access) → 0 < b.reference → Comes t start olds l loop h false b → IsFrom b
  of_comes b some (inl k) = of_kept b k
  of_comes b some (inr k) = of_trip b some k

  -- the iterations of the DO have the new flag in the new run
  flags : (b : Access) → IsIn b (accesses news) → 0 < b.reference → (j : Turn) → IsIn j b.place.turns → j.statement ≡ l → j.parallel ≡ h.parallel
  flags b i some j there of =
      let s = split_at j b.place.turns there in
      let f = first_turn s.0 j s.1 in
      let law = made u data_bytes x.new_valid in
      let m = law.1 b f.0 f.1 i some (s.2 ∙ f.2) in
      let nest : AreOf u m.0.nest b.place.turns = subst (λ (ts : List Turn). AreOf u m.0.nest ts) (sym m.3.turns) (reached_are u (setting_in u (outermost m.0)) (law.0 (outermost m.0)) m.0.nest m.1 m.3.reached) in
      let o = of_nest u m.0.nest b.place.turns j nest there in
      let number : o.0.number ≡ l = sym o.1.statement ∙ of in
      let stands : Some (Do o.0.head o.1.body) ≡ Some (Do h body) = sym o.1.stands ∙ (ap (λ (n : ℕ). statement_with n u) number ∙ ap (λ (v : ProgramTree). statement_with l v) x.new) ∙ placed_loop t l loop h in
      o.1.parallel ∙ ap (λ (g : Head). g.parallel) (same_head o.0.head h o.1.body body stands)

  became : h.parallel ≡ true → loop.head.parallel ≡ false
  became flag = by loop.head.parallel refl
    where
      by : (b : Bool) → loop.head.parallel ≡ b → loop.head.parallel ≡ false
      by true e = absurd (x.differ refl (flag ∙ sym e))
      by false e = e

  -- accesses in two iterations of the DO, which has become a PARALLEL DO, don't conflict
  trips_race : (y z : Access) → StandsBefore y z (accesses olds) → conflict y z ≡ true → 0 < y.reference → 0 < z.reference → IsCritical l y.place.turns z.place.turns → h.parallel ≡ true → ⊥
  trips_race y z before meets one other critical flag =
      let come = come_in_run t data_bytes y z before in
      let order = sequence t data_bytes y z x.valid come one other in
      let r = trips_of t y z l y.place.turns z.place.turns order critical in
      some_edges t (λ edges are.
      let trips : AreInTrips l r.0 r.1 r.2 r.3 r.4 y z = record { at_first = r.5; at_second = r.6; of_first = r.7; of_second = r.8; earlier = r.9 } in
      let c = trips_carried made sequence t data_bytes x.valid edges are l loop y z r.0 r.1 r.2 r.3 r.4 come meets one other trips in
      none (became flag, flag) edges are y z come meets (share_in_trips y z r.0 r.1 r.2 r.3 r.4 trips) c.0.covered c.1)

  conflict_flip : (y z : Access) → conflict y z ≡ true → conflict z y ≡ true
  conflict_flip y z k =
      let parts = and_parts (same_cell y.cell z.cell) (y.writes || z.writes) k in
      let same = is_cell z.cell y.cell (sym (cell_is y.cell z.cell parts.0)) in
      let write = or_flip y.writes z.writes parts.1 in
      λ i. same i && write i
    where
      or_flip : (a b : Bool) → a || b ≡ true → b || a ≡ true
      or_flip true true e = refl
      or_flip true false e = refl
      or_flip false true e = refl
      or_flip false false e = e

  never_critical_there : (y z : Access) → IsIn y (accesses olds) → IsIn z (accesses olds) → conflict y z ≡ true → 0 < y.reference → 0 < z.reference → IsCritical l y.place.turns z.place.turns → h.parallel ≡ true → ⊥
  never_critical_there y z i j meets one other critical flag = elim (in_order y z (accesses olds) i j) [
    | inl same ↦ never_critical l y.place.turns (subst (λ (w : Access). IsCritical l y.place.turns w.place.turns) (sym same) critical)
    | inr r ↦ elim r [
      | inl before ↦ trips_race y z before meets one other critical flag
      | inr behind ↦ trips_race z y behind (conflict_flip y z meets) other one (critical_flip l y.place.turns z.place.turns critical) flag
    ]
  ]

  module _ (instead : (scope : Scope) (front behind : List Act) (s : Store) → IsExecuted p t start l (statements_count (alone (Do d body))) scope front (run_all p (alone (Do d body)) l scope s).acts behind s → finish_of (run_all p (alone (Do d body)) l scope s).ending ≡ goes_on → IsMadeInstead p d h body l false scope s)
      (parts : List Part) (olds_are : old_parts parts ≡ olds) (exchanged : AreExchanged p t start l (statements_count (alone (Do d body))) (run_all p (alone (Do d body)) l) (λ scope s. (run_all p (alone (Do h body)) l scope s).acts) [] parts [] start) (news_are : new_parts parts ≡ news) where
    from : (b : Access) → IsIn b (accesses news) → 0 < b.reference → IsFrom b
    from b i some =
        of_comes b some
        (access_comes t start olds l loop h false x.private news (λ a k v j e. told_is_unreferred (setting_of u) u.body 1 [] start a k v j e) instead parts olds_are news_are exchanged b (subst (λ (acts : List Act). IsIn b (accesses acts)) (sym news_are) i) some)

    -- two new accesses that race come from two old ones that do
    race_before : (b c : Access) → StandsBefore b c (accesses news) → race b c ≡ true → RaceSomewhere olds
    race_before b c before races = by (apart_before l h.parallel f.origin.place.turns b.place.turns g.origin.place.turns c.place.turns (flags b i r.0) f.alike g.alike r.2) (apart_before l h.parallel g.origin.place.turns c.place.turns f.origin.place.turns b.place.turns (flags c j r.1) g.alike f.alike r.3)
      where
        i : IsIn b (accesses news)
        i = first_in b c (accesses news) before

        j : IsIn c (accesses news)
        j = second_in b c (accesses news) before

        r : (0 < b.reference) × (0 < c.reference) × (are_apart b.place.turns c.place.turns ≡ true) × (are_apart c.place.turns b.place.turns ≡ true) × (conflict b c ≡ true)
        r = by_references u x.new_valid data_bytes b c i j races

        f : IsFrom b
        f = from b i r.0

        g : IsFrom c
        g = from c j r.1

        meets : conflict f.origin g.origin ≡ true
        meets = (λ k. same_cell (f.cell k) (g.cell k) && (f.writes k || g.writes k)) ∙ r.4

        never : IsCritical l f.origin.place.turns g.origin.place.turns → h.parallel ≡ true → ⊥
        never critical flag = never_critical_there f.origin g.origin f.found g.found meets f.referred g.referred critical flag

        by : (are_apart f.origin.place.turns g.origin.place.turns ≡ true) ⊎ (IsCritical l f.origin.place.turns g.origin.place.turns × (h.parallel ≡ true))
            → (are_apart g.origin.place.turns f.origin.place.turns ≡ true) ⊎ (IsCritical l g.origin.place.turns f.origin.place.turns × (h.parallel ≡ true)) → RaceSomewhere olds
        by (inl one) (inl other) = record { one = f.origin; other = g.origin; one_in = f.found; other_in = g.found; apart = (one, other); conflicting = meets }
        by (inr c) k = absurd (never c.0 c.1)
        by (inl one) (inr c) = absurd (never (critical_flip l g.origin.place.turns f.origin.place.turns c.0) c.1)

    pub races_in_order : HasNoRace (accesses (old_parts parts)) → HasNoRace (accesses (new_parts parts))
    races_in_order free =
        subst (λ (acts : List Act). HasNoRace (accesses acts)) (sym news_are)
        (pairs_free olds news race_before (subst (λ (acts : List Act). HasNoRace (accesses acts)) olds_are free))
