-- Of two accesses that stand in the directions of a proven dependence the source's comes first.
use Rattle.std.proofs.Common.{◌≡◌, ℕ, suc, ◌+◌, ◌<◌, ◌≤◌, List, [], ◌∷◌, ◌++◌, map, length, true, ◌||◌, ◌⊎◌, inl, inr, Some, refl, sym, ap, ◌∙◌, subst, arith}
use Rattle.std.specs.Prelude.{◌==◌, ◌&&◌, nat_lt}
use Rattle.std.proofs.lemmas.Bool.Decides.{nat_tests}
use Rattle.ped_laws.specs.ped_flow.specs.ped_base.specs.Lists.{is_among}
use Rattle.ped_laws.specs.ped_graph.specs.ped_views.specs.declared.directions.Direction.{Direction}
use Rattle.ped_laws.specs.ped_graph.specs.ped_views.specs.Excluded.{turned}
use Rattle.ped_laws.specs.ped_flow.specs.ped_tree.specs.Tree.{StmtTree, Do, ProgramTree}
use Rattle.ped_laws.specs.ped_flow.specs.ped_tree.specs.Accesses.{own_accesses, constant_names}
use Rattle.ped_laws.specs.ped_flow.specs.ped_tree.specs.Nests.{Loop, indices_of}
use Rattle.ped_laws.specs.ped_flow.specs.ped_tree.specs.Numbering.{statement_with}
use Rattle.ped_laws.specs.ped_graph.specs.ped_refs.specs.References.{Reference, innermost_private, outermost, comes_before}
use Rattle.ped_laws.specs.ped_graph.specs.ped_symbols.specs.NameRefusals.{IsValid}
use Rattle.ped_laws.specs.ped_graph.specs.Owners.{is_same_owner, private_level}
use Rattle.ped_laws.specs.ped_graph.specs.Dependences.{carried, independent, backward, carriage_from, setting_in}
use Rattle.ped_laws.specs.ped_eval.specs.ped_store.specs.Stores.{Store}
use Rattle.ped_laws.specs.ped_eval.specs.ped_store.specs.Acts.{Turn}
use Rattle.ped_laws.specs.ped_eval.specs.ped_store.specs.Races.{Access, accesses}
use Rattle.ped_laws.specs.ped_eval.specs.Scopes.{Scope}
use Rattle.ped_laws.specs.ped_eval.specs.Outcomes.{setting_of, run_of}
use Rattle.ped_laws.specs.Acts.Orders.{IsIn, StandsBefore}
use Rattle.ped_laws.specs.Conflicts.Making.{IsMade}
use Rattle.ped_laws.specs.Conflicts.Directions.{StandInDirections}
use Rattle.ped_laws.specs.Conflicts.Sequence.{IsBeforeInText, ComesBefore}
use Rattle.ped_laws.specs.Conflicts.Covered.{ComeInRun}
use Rattle.ped_laws.proofs.ActLaws.Lists.{split_at, in_order}
use Rattle.ped_laws.proofs.ConflictLaws.CoveringNests.{IsOf, AreOf, reached_are}
use Rattle.ped_laws.proofs.ConflictLaws.CoveringCarriage.{IsExit, carriage_is}
use Rattle.ped_laws.proofs.ConflictLaws.CoveringWrites.{statement_of, do_writes}
use Rattle.ped_rows.proofs.Trips.{AreTrips, turns_at, NumbersStand}
use Rattle.ped_rows.proofs.FirmPairs.{IsFirmPair}
use Rattle.ped_rows.proofs.MeetingLaws.LoopsRound.{loops_nested, reference_number}
use Rattle.ped_rows.proofs.MeetingLaws.PrivateOwners.{HaveOne, owners_agree, owner_least, at_front}
use Rattle.ped_rows.proofs.MeetingLaws.Meeting.{are_paired}
use Rattle.ped_rows.proofs.OrderingLaws.Turned.{carried_back, independent_back, turned_stand, itself_independent}
use Rattle.ped_rows.proofs.OrderingLaws.StandingTrips.{trips_stand}

-- one item stands before another in a list
parted : {X : Type 0} (x y : X) (xs : List X) → StandsBefore x y xs → (front : List X) × (between : List X) × (back : List X) × (xs ≡ front ++ x ∷ (between ++ y ∷ back))
parted x y [] h = absurd h
parted x y (z ∷ zs) (inl h) = let s = split_at y zs h.1 in ([], s.0, s.1, (λ i. sym h.0 i ∷ s.2 i))
parted x y (z ∷ zs) (inr h) = let p = parted x y zs h in (z ∷ p.0, p.1, p.2, ap (λ (ws : List _). z ∷ ws) p.3)

-- what stands first in the text doesn't stand behind
not_behind : (m n k l : ℕ) → (nat_lt m n || (m == n && nat_lt k l)) ≡ true → (n < m) ⊎ ((n ≡ m) × (l < k)) → ⊥
not_behind m n k l h (inl less) = grind (arith, nat_tests)
not_behind m n k l h (inr both) = let e = both.0 in let less = both.1 in grind (arith, nat_tests)

not_itself : (m k : ℕ) → (nat_lt m m || (m == m && nat_lt k k)) ≡ true → ⊥
not_itself m k h = grind (arith, nat_tests)

same_statement : (r s : StmtTree) → Some r ≡ Some s → r ≡ s
same_statement r s e = cc

carried_backward : (k : ℕ) → carried k ≡ backward → ⊥
carried_backward k e = cc

independent_backward : independent ≡ backward → ⊥
independent_backward e = cc

independent_carried : (k : ℕ) → independent ≡ carried k → ⊥
independent_carried k e = cc

-- the loops of iterations of which the first are these
record Parted (t : ProgramTree) (ls : List Loop) (is : List Turn) (i : Turn) : Type 0 where
  front : List Loop
  l : Loop
  rest : List Loop
  nest_is : ls ≡ front ++ l ∷ rest
  of : IsOf t l i

loops_parted : (t : ProgramTree) (ls : List Loop) (is : List Turn) (i : Turn) (more : List Turn) → AreOf t ls (is ++ i ∷ more) → Parted t ls is i
loops_parted t [] [] i more h = absurd h
loops_parted t [] (j ∷ is) i more h = absurd h
loops_parted t (l ∷ ls) [] i more h = record { front = []; l = l; rest = ls; nest_is = refl; of = h.0 }
loops_parted t (l ∷ ls) (j ∷ is) i more h =
    let p = loops_parted t ls is i more h.1 in
    record { front = l ∷ p.front; l = p.l; rest = p.rest; nest_is = ap (λ (ns : List Loop). l ∷ ns) p.nest_is; of = p.of }

module _ (t : ProgramTree) (first : Store) (a b : Access) (source sink : Reference) (at_source at_sink : Scope) (u v : Store) (vector : List Direction)
    (firm : IsFirmPair t source sink vector) (made : IsMade t first a source at_source u) (makes : IsMade t first b sink at_sink v) (stands : StandInDirections t a.place.turns b.place.turns vector) where
  abbrev x : List ℕ
  x = source.access.name

  sink_nest : AreOf t sink.nest b.place.turns
  sink_nest = subst (λ (is : List Turn). AreOf t sink.nest is) (sym makes.turns) (reached_are t (setting_in t (outermost sink)) first sink.nest at_sink makes.reached)

  -- what a DO does when it is left belongs to no loop that the references in its body belong to
  exit_owned : (l : Loop) (front rest : List Loop) → sink.nest ≡ front ++ l ∷ rest → l.number ≡ source.statement → is_among x l.head.private ≡ true → HaveOne x source.nest sink.nest → ⊥
  exit_owned l front rest nest_is number named o =
      let least : suc (length front) ≤ private_level x sink.nest = subst (λ (ls : List Loop). suc (length front) ≤ private_level x ls) (sym nest_is) (owner_least x front l rest named) in
      let level = o.second.level in
      let among : IsIn l (o.second.front ++ o.second.loop ∷ o.first.inner) = at_front o.second.front o.second.loop o.second.inner o.first.inner front l rest (sym o.second.is ∙ nest_is) (omega (arith, level, least)) in
      let nest : source.nest ≡ o.second.front ++ o.second.loop ∷ o.first.inner = o.first.is ∙ (λ i. o.fronts i ++ o.loops i ∷ o.first.inner) in
      let round = split_at l source.nest (subst (IsIn l) (sym nest) among) in
      let below = (loops_nested t source firm.source_listed round.0 l round.1 round.2).0.below in
      omega (arith, below, number)

  never_exit : IsExit a b.place.turns a.place.turns → ⊥
  never_exit exit =
      let p = loops_parted t sink.nest a.place.turns exit.left exit.inner (subst (AreOf t sink.nest) exit.turns sink_nest) in
      let s = statement_of t source firm.source_listed in
      let number : p.l.number ≡ source.statement = sym p.of.statement ∙ exit.statement ∙ made.statement in
      let is : s.0 ≡ Do p.l.head p.of.body = same_statement s.0 (Do p.l.head p.of.body) (sym s.1 ∙ ap (λ (n : ℕ). statement_with n t) (sym number) ∙ p.of.stands) in
      let own = subst (λ (z : StmtTree). IsIn source.access (own_accesses (constant_names t.decls) (indices_of source.nest) z)) is s.2 in
      let named : is_among x p.l.head.private ≡ true = (do_writes (constant_names t.decls) (indices_of source.nest) p.l.head p.of.body source.access own (sym made.writes ∙ exit.writes)).0 in
      let same : is_same_owner (innermost_private x source.nest) (innermost_private x sink.nest) ≡ true = ap (λ (y : List ℕ). is_same_owner (innermost_private x source.nest) (innermost_private y sink.nest)) (are_paired source sink firm.paired).names ∙ firm.owned in
      elim (owners_agree t source sink x firm.source_listed firm.sink_listed same) [
        | inl none ↦ (
            let least : suc (length p.front) ≤ private_level x sink.nest = subst (λ (ls : List Loop). suc (length p.front) ≤ private_level x ls) (sym p.nest_is) (owner_least x p.front p.l p.rest named) in
            let level = none.1.1 in
            omega (arith, level, least)
            )
        | inr o ↦ exit_owned p.l p.front p.rest p.nest_is number named o
      ]

  forward_carried : (k : ℕ) → carriage_from 1 (map turned vector) ≡ carried k → ⊥
  forward_carried k e = elim firm.forward [
    | inl h ↦ carried_backward k (sym e ∙ carried_back 1 h.0 vector h.1)
    | inr h ↦ independent_carried k (sym (independent_back 1 vector h.0) ∙ e)
  ]

  forward_independent : carriage_from 1 (map turned vector) ≡ independent → comes_before source sink ≡ true
  forward_independent e = elim firm.forward [
    | inl h ↦ absurd (independent_backward (sym e ∙ carried_back 1 h.0 vector h.1))
    | inr h ↦ h.1
  ]

  text : IsBeforeInText b a → comes_before source sink ≡ true → ⊥
  text h before = not_behind source.statement sink.statement source.number sink.number before
      (elim h [
        | inl less ↦ inl (omega (arith, less, made.statement, makes.statement))
        | inr both ↦ inr (sym makes.statement ∙ both.0 ∙ made.statement, omega (arith, both.1, made.number, makes.number))
      ])

  -- the sink's access doesn't come first
  not_back : ComesBefore t b a b.place.turns a.place.turns → ⊥
  not_back before = elim (carriage_is t b a 1 sink.nest b.place.turns a.place.turns (map turned vector) sink_nest before (turned_stand t a.place.turns b.place.turns vector stands)) [
    | inl c ↦ forward_carried (length c.front + 1) c.carriage
    | inr c ↦ elim c.text [
      | inl h ↦ text h (forward_independent c.carriage)
      | inr exit ↦ never_exit exit
    ]
  ]

  -- they aren't one access
  not_one : a ≡ b → ⊥
  not_one e =
      let none : carriage_from 1 vector ≡ independent = itself_independent t 1 a.place.turns vector (subst (λ (z : Access). StandInDirections t a.place.turns z.place.turns vector) (sym e) stands) in
      elim firm.forward [
        | inl h ↦ independent_carried h.0 (sym none ∙ h.1)
        | inr h ↦
            let statement : sink.statement ≡ source.statement = sym makes.statement ∙ ap (λ (z : Access). z.place.statement) (sym e) ∙ made.statement in
            let number : sink.number ≡ source.number = sym makes.number ∙ ap (λ (z : Access). z.reference) (sym e) ∙ made.number in
            not_itself source.statement source.number ((λ i. nat_lt source.statement (sym statement i) || (source.statement == sym statement i && nat_lt source.number (sym number i))) ∙ h.1)
      ]

  pub come_in_order : (data_bytes : List ℕ) → (ComeInRun t data_bytes b a → ComesBefore t b a b.place.turns a.place.turns) → IsIn a (accesses (run_of t data_bytes).acts) → IsIn b (accesses (run_of t data_bytes).acts) → ComeInRun t data_bytes a b
  come_in_order data_bytes sequence i j = elim (in_order a b (accesses (run_of t data_bytes).acts) i j) [
    | inl e ↦ absurd (not_one e)
    | inr o ↦ elim o [
      | inl before ↦ (let p = parted a b (accesses (run_of t data_bytes).acts) before in record { before = p.0; between = p.1; behind = p.2; is = p.3 })
      | inr behind ↦ absurd (not_back (sequence (let p = parted b a (accesses (run_of t data_bytes).acts) behind in record { before = p.0; between = p.1; behind = p.2; is = p.3 })))
    ]
  ]

-- the source's access comes first
pub source_comes_first : (sequence : (t : ProgramTree) (data_bytes : List ℕ) (a b : Access) → IsValid t → ComeInRun t data_bytes a b → 0 < a.reference → 0 < b.reference → ComesBefore t a b a.place.turns b.place.turns)
    → (t : ProgramTree) (data_bytes : List ℕ) (first : Store) (a b : Access) (source sink : Reference) (at_source at_sink : Scope) (u v : Store) (vector : List Direction) (is js : List ℕ)
    → IsValid t → IsFirmPair t source sink vector → AreTrips (setting_of t).constants source.nest is → AreTrips (setting_of t).constants sink.nest js → NumbersStand vector is js
    → IsIn a (accesses (run_of t data_bytes).acts) → IsIn b (accesses (run_of t data_bytes).acts) → IsMade t first a source at_source u → IsMade t first b sink at_sink v
    → a.place.turns ≡ turns_at (setting_of t).constants source.nest is → b.place.turns ≡ turns_at (setting_of t).constants sink.nest js → ComeInRun t data_bytes a b
source_comes_first sequence t data_bytes first a b source sink at_source at_sink u v vector is js valid firm source_trips sink_trips numbers i j made makes source_turns sink_turns =
    let stands = (trips_stand t source sink vector is js valid firm source_trips sink_trips numbers).0 in
    let stand : StandInDirections t a.place.turns b.place.turns vector = subst (λ (ts : List Turn). StandInDirections t ts b.place.turns vector) (sym source_turns) (subst (λ (ts : List Turn). StandInDirections t (turns_at (setting_of t).constants source.nest is) ts vector) (sym sink_turns) stands) in
    let some = reference_number t source firm.source_listed in
    let other = reference_number t sink firm.sink_listed in
    come_in_order t first a b source sink at_source at_sink u v vector firm made makes stand data_bytes
    (λ come. sequence t data_bytes b a valid come (omega (arith, other, makes.number)) (omega (arith, some, made.number))) i j
