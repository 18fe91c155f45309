-- Two DO loops become one: accesses that cross in an execution of the two are covered by a dependence that the one DO carries, whatever forbids the step.
use Rattle.std.proofs.Common.{◌≡◌, ◌⊎◌, ℕ, ◌+◌, ◌-◌, ◌<◌, ◌≤◌, ◌&&◌, ◌||◌, List, [], ◌∷◌, ◌++◌, length, map, true, Some, inl, inr, if◌then◌else◌, refl, sym, ap, ◌∙◌, subst, append_assoc, arith}
use Rattle.std.proofs.lemmas.Bool.{and_parts}
use Rattle.std.proofs.lemmas.List.{map-append}
use Rattle.ped_tree.specs.Numbering.{statement_count, statements_count}
use Rattle.ped_tree.specs.Tree.{Head, StmtTrees, Do, ProgramTree}
use Rattle.ped_rules.specs.Carried.{is_carried_by}
use Rattle.ped_rules.specs.ped_bodies.proofs.BodyLaws.TripLists.{loop_apart}
use Rattle.ped_rules.specs.ped_bodies.specs.Trips.{IsMadeOfTrips, bounds_seen, entered_from}
use Rattle.ped_rules.specs.ped_steps.proofs.RunLaws.RunPlaces.{stands_in}
use Rattle.ped_rules.specs.ped_steps.specs.Runs.Renumbering.{renumbered_place, renumbered_turn}
use Rattle.ped_rules.specs.ped_loop_runs.proofs.LoopLaws.ApartTurns.{or_turned}
use Rattle.ped_rules.specs.ped_loop_runs.proofs.LoopLaws.LoopParts.{IsOfTrip, act_of_loop}
use Rattle.ped_rules.specs.ped_loop_runs.proofs.PastingLaws.ActNumbers.{all_in as acts_in}
use Rattle.ped_rules.specs.ped_loop_runs.specs.Carried.{IsCarriedInside, IsCoveredAt}
use Rattle.ped_edges.specs.Edges.{Edge}
use Rattle.ped_rules.specs.ped_graph.specs.Dependences.{AreEdges}
use Rattle.ped_rules.specs.ped_laws.proofs.ActLaws.Lists.{in_parts}
use Rattle.ped_rules.specs.ped_laws.proofs.ActLaws.SameCells.{cell_is, cell_itself}
use Rattle.ped_rules.specs.ped_laws.proofs.ConflictLaws.CoveringDirections.{same_numbers}
use Rattle.ped_rules.specs.ped_laws.proofs.ConflictLaws.Scoping.{act_of_access, touch_of_access}
use Rattle.ped_rules.specs.ped_laws.specs.Acts.Orders.{IsIn}
use Rattle.ped_rules.specs.ped_laws.specs.Conflicts.Directions.{StandInDirections}
use Rattle.ped_rules.specs.ped_laws.specs.Runs.Touching.{Meeting}
use Rattle.ped_rules.specs.ped_eval.specs.Loops.{Entered, frame}
use Rattle.ped_rules.specs.ped_eval.specs.Outcomes.{Ends, run_of, setting_of}
use Rattle.ped_rules.specs.ped_eval.specs.Runs.{run, run_all}
use Rattle.ped_rules.specs.ped_eval.specs.Scopes.{Setting, Scope, place_of, turns_of}
use Rattle.ped_rules.specs.ped_store.specs.Acts.{Act, Place, Turn}
use Rattle.ped_rules.specs.ped_store.specs.Races.{Access, accesses, accesses_of, conflict}
use Rattle.ped_rules.specs.ped_store.specs.Cells.{same_cell}
use Rattle.ped_rules.specs.ped_store.specs.Stores.{Store}
use Rattle.ped_splits.proofs.CoverFacts.{MayFuse}
use Rattle.ped_splits.proofs.CoverKinds.{setting_alike}
use Rattle.ped_splits.proofs.CoverMade as made
use Rattle.ped_splits.proofs.CoverMeets as meets
use Rattle.ped_splits.proofs.CoverMeets.{SameInitial}
use Rattle.ped_splits.proofs.CoverNumbers.{AreBelow, as_first, below_first, gap_below, in_body_of, its_number, less_no, less_yes, test_no, turns_below}
use Rattle.ped_splits.proofs.CoverTrips.{first_goes_on, pair_acts, second_goes_on}
use Rattle.ped_splits.proofs.CoverTurns.{AreWithin, StandsWithin, stands_within}
use Rattle.ped_splits.proofs.JoinCrossing.{CrossBetween, renamed_head, second_body, store_between}
use Rattle.ped_splits.specs.Fusing.{AreBack, Match}
use Rattle.ped_splits.specs.Neighbours.{Neighbour, fused, next_number}
use Rattle.ped_rules.specs.KeepMaps.{closed_up}
use Rattle.ped_splits.specs.OneVariable.{in_one, number_in_one, renamed, renamed_next, renamed_pair}

heads : {X : Type 0} (x y : X) (xs ys : List X) → x ∷ xs ≡ y ∷ ys → x ≡ y
heads x y xs ys e = cc

tails : {X : Type 0} (x y : X) (xs ys : List X) → x ∷ xs ≡ y ∷ ys → xs ≡ ys
tails x y xs ys e = cc

-- what stands behind one front
behind_front : {X : Type 0} (at xs ys : List X) → at ++ xs ≡ at ++ ys → xs ≡ ys
behind_front [] xs ys e = e
behind_front (k ∷ at) xs ys e = behind_front at xs ys (tails k k (at ++ xs) (at ++ ys) e)

no_longer : {X : Type 0} (xs : List X) (y : X) (ys : List X) → xs ≡ xs ++ y ∷ ys → ⊥
no_longer [] y ys e = absurd cc
no_longer (x ∷ xs) y ys e = no_longer xs y ys (tails x x xs (xs ++ y ∷ ys) e)

-- an act of a DO that stands in an iteration of it is of that trip
module _ (p : Setting) (d : Head) (body : StmtTrees) (k : ℕ) (scope : Scope) (v : Store) (old : IsMadeOfTrips p d body k scope v) where
  abbrev entered : Entered
  entered = entered_from p d body k scope v old.bounds

  pub record IsOfTurn (a : Act) (j : Turn) : Type 0 where
    pub trip : ℕ
    pub from : 1 ≤ trip
    pub to : trip ≤ entered.count
    pub there : IsIn a (old.trip trip)
    pub is : j ≡ (frame entered trip).turn

  pub of_turn : (a : Act) → IsIn a (run p (Do d body) k scope v).acts → (j : Turn) (js : List Turn) → a.place.turns ≡ turns_of scope ++ j ∷ js → IsOfTurn a j
  of_turn a i j js at = elim (act_of_loop (bounds_seen p d scope v) entered scope (place_of p k scope) old.trip a (subst (IsIn a) old.acts i)) [
    | inl is ↦ absurd (no_longer (turns_of scope) j js (sym (ap (λ (b : Act). b.place.turns) is) ∙ at))
    | inr other ↦ elim other [
      | inl r ↦ inside r
      | inr control ↦ absurd (no_longer (turns_of scope) j js (sym (ap (λ (q : Place). q.turns) control.place) ∙ at))
    ]
  ]
    where
      inside : IsOfTrip (bounds_seen p d scope v) entered scope (place_of p k scope) old.trip a → IsOfTurn a j
      inside r =
          let stood = stands_in p body (k + 1) (frame entered r.number ∷ scope) _ a (subst (IsIn a) (old.are r.number r.from r.to).is r.there) in
          record {
            trip = r.number;
            from = r.from;
            to = r.to;
            there = r.there;
            is = heads j (frame entered r.number).turn js stood.0 (behind_front (turns_of scope) (j ∷ js) ((frame entered r.number).turn ∷ stood.0) (sym at ∙ stood.1 ∙ append_assoc (turns_of scope) ((frame entered r.number).turn ∷ []) stood.0));
          }

module _ (t0 : ProgramTree) (s : ℕ) (m : Match t0 s) (x : MayFuse t0 s m) (start_alike : SameInitial m.neighbour) (data_bytes : List ℕ) (ends : Ends (run_of (renamed m.neighbour) data_bytes).ending) (scope : Scope) (a b : Access) (c : CrossBetween m.neighbour data_bytes scope a b) where
  abbrev n : Neighbour t0 s
  n = m.neighbour

  abbrev t : ProgramTree
  t = renamed m.neighbour

  abbrev u : ProgramTree
  u = fused m.neighbour

  abbrev p : Setting
  p = setting_of (renamed m.neighbour)

  abbrev number : ℕ
  number = next_number m.neighbour

  abbrev size : ℕ
  size = statements_count (second_body m.neighbour)

  before : s < number
  before = omega arith

  same : setting_of (fused m.neighbour) ≡ setting_of (renamed m.neighbour)
  same = setting_alike t0 s m x

  place : s + statement_count (Do n.own n.own_body) ≡ number
  place = omega arith

  first : IsMadeOfTrips p n.own n.own_body s scope c.store
  first = loop_apart p n.own n.own_body s scope c.store (first_goes_on p (Do n.own n.own_body) n.between (renamed_next n) s number n.comments place scope c.store c.goes)

  next : IsMadeOfTrips p (renamed_head n) (second_body n) number scope (store_between n scope c.store)
  next = loop_apart p (renamed_head n) (second_body n) number scope (store_between n scope c.store) (second_goes_on p (Do n.own n.own_body) n.between (renamed_next n) s number n.comments place scope c.store c.goes)

  initial : next.bounds.first ≡ first.bounds.first
  initial = start_alike data_bytes ends scope c.front c.behind c.store c.executed c.goes first next

  abbrev pair : List Act
  pair = (run_all p (renamed_pair m.neighbour) s scope c.store).acts

  abbrev first_acts : List Act
  first_acts = (run p (Do m.neighbour.own m.neighbour.own_body) s scope c.store).acts

  abbrev next_acts : List Act
  next_acts = (run p (renamed_next m.neighbour) number scope (store_between m.neighbour scope c.store)).acts

  of_either : (g : Act) → IsIn g pair → IsIn g first_acts ⊎ IsIn g next_acts
  of_either g i = in_parts g first_acts next_acts (subst (IsIn g) (pair_acts p (Do n.own n.own_body) n.between (renamed_next n) s number n.comments place scope c.store c.goes) i)

  -- the acts of both accesses
  pub record IsOfAct (y : Access) : Type 0 where
    pub act : Act
    pub among : IsIn act pair
    pub found : IsIn y (accesses_of act)
    pub place : y.place ≡ act.place

  of_act : (y : Access) → IsIn y (accesses pair) → IsOfAct y
  of_act y i =
      let g = act_of_access y pair i in
      let v = touch_of_access y g.0 g.2 in
      record { act = g.0; among = g.1; found = g.2; place = ap (λ (q : Access). q.place) v.2 }

  source : IsOfAct a
  source = of_act a c.source

  sink : IsOfAct b
  sink = of_act b c.sink

  source_at : source.act.place.turns ≡ turns_of scope ++ c.j ∷ c.js
  source_at = ap (λ (q : Place). q.turns) (sym source.place) ∙ c.at_source

  sink_at : sink.act.place.turns ≡ turns_of scope ++ c.i ∷ c.is
  sink_at = ap (λ (q : Place). q.turns) (sym sink.place) ∙ c.at_sink

  other_loop : s ≡ number → ⊥
  other_loop e = let less = before in omega (arith, e, less)

  -- the one is of a trip of the second DO, the other of one of the first
  source_turn : IsOfTurn p (renamed_head n) (second_body n) number scope (store_between n scope c.store) next source.act c.j
  source_turn = elim (of_either source.act source.among) [
    | inl k ↦ absurd (other_loop (sym (ap (λ (w : Turn). w.statement) (of_turn p n.own n.own_body s scope c.store first source.act k c.j c.js source_at).is) ∙ c.of_source))
    | inr k ↦ of_turn p (renamed_head n) (second_body n) number scope (store_between n scope c.store) next source.act k c.j c.js source_at
  ]

  sink_turn : IsOfTurn p n.own n.own_body s scope c.store first sink.act c.i
  sink_turn = elim (of_either sink.act sink.among) [
    | inl k ↦ of_turn p n.own n.own_body s scope c.store first sink.act k c.i c.is sink_at
    | inr k ↦ absurd (other_loop (sym c.of_sink ∙ ap (λ (w : Turn). w.statement) (of_turn p (renamed_head n) (second_body n) number scope (store_between n scope c.store) next sink.act k c.i c.is sink_at).is))
  ]

  less : source_turn.trip < sink_turn.trip
  less =
      let one : c.j.number ≡ source_turn.trip = ap (λ (w : Turn). w.number) source_turn.is in
      let other : c.i.number ≡ sink_turn.trip = ap (λ (w : Turn). w.number) sink_turn.is in
      let earlier = c.earlier in
      omega (arith, one, other, earlier)

  turned : conflict b a ≡ true
  turned =
      let parts = and_parts (same_cell a.cell b.cell) (a.writes || b.writes) c.conflicts in
      let cells = cell_is a.cell b.cell parts.0 in
      λ y. (ap (λ w. same_cell b.cell w) cells ∙ cell_itself b.cell) y && or_turned a.writes b.writes parts.1 y

  abbrev meeting : Meeting sink.act source.act
  meeting = record { first = b; second = a; of_first = sink.found; of_second = source.found; conflicts = turned; first_reference = c.sink_reference; second_reference = c.source_reference }

  -- the numbers in the one DO
  abbrev f : ℕ → ℕ
  f = as_first s (next_number m.neighbour) (statements_count (second_body m.neighbour))

  abbrev g : ℕ → ℕ
  g = number_in_one m.neighbour

  of_number : f number ≡ g number
  of_number = its_number s number size before ∙ sym (λ i. if same_numbers number number refl i then s else closed_up number number)

  of_body : (k : ℕ) → number < k → k ≤ number + size → f k ≡ g k
  of_body k low high = in_body_of s number size before k low high ∙ sym (λ i. if test_no k number (inr low) i then s else (if less_no k number (omega (arith, low)) i then k else k - 1))

  of_outer : (k : ℕ) → k < s → f k ≡ g k
  of_outer k low = below_first s number size before k low ∙ sym (λ i. if test_no k number (inl (below low)) i then s else (if less_yes k number (below low) i then k else k - 1))
    where
      below : k < s → k < number
      below h = omega (arith, h)

  turn_alike : (w : Turn) → f w.statement ≡ g w.statement → renumbered_turn f w ≡ renumbered_turn g w
  turn_alike w e = λ i. record { statement = e i; parallel = w.parallel; number = w.number; value = w.value }

  outer_alike : (ts : List Turn) → AreBelow s number size before ts → map (renumbered_turn f) ts ≡ map (renumbered_turn g) ts
  outer_alike [] h = refl
  outer_alike (w ∷ ts) h = λ i. turn_alike w (of_outer w.statement h.0) i ∷ outer_alike ts h.1 i

  inner_alike : (ts : List Turn) → AreWithin (number + 1) (number + 1 + size) ts → map (renumbered_turn f) ts ≡ map (renumbered_turn g) ts
  inner_alike [] h = refl
  inner_alike (w ∷ ts) h = (let low = h.0.0 in let high = h.0.1 in λ i. turn_alike w (of_body w.statement (omega (arith, low)) (omega (arith, high))) i ∷ inner_alike ts h.1 i)

  come : made.HasCome t0 s m x same data_bytes scope c.store
  come = made.has_come t0 s m x same data_bytes scope c.front c.behind c.store c.executed

  abbrev z : Entered
  z = entered_from p (renamed_head m.neighbour) (second_body m.neighbour) number scope (store_between m.neighbour scope c.store) next.bounds

  in_trip : (v : Store) → next.trip source_turn.trip ≡ (run_all p (second_body n) (number + 1) (frame z source_turn.trip ∷ scope) v).acts → IsIn source.act (run_all p (second_body n) (number + 1) (frame z source_turn.trip ∷ scope) v).acts
  in_trip v is = subst (IsIn source.act) is source_turn.there

  module _ (v : Store) (is : next.trip source_turn.trip ≡ (run_all p (second_body n) (number + 1) (frame z source_turn.trip ∷ scope) v).acts) where
    stood : StandsWithin (number + 1) (number + 1 + size) (turns_of (frame z source_turn.trip ∷ scope)) source.act
    stood = stands_within t (second_body n) (number + 1) (frame z source_turn.trip ∷ scope) v source.act (in_trip v is)

    its_turns : a.place.turns ≡ turns_of scope ++ (frame z source_turn.trip).turn ∷ stood.0
    its_turns = ap (λ (q : Place). q.turns) source.place ∙ stood.1 ∙ append_assoc (turns_of scope) ((frame z source_turn.trip).turn ∷ []) stood.0

    turns_alike : map (renumbered_turn f) a.place.turns ≡ map (renumbered_turn g) a.place.turns
    turns_alike =
        ap (map (renumbered_turn f)) its_turns
        ∙ map-append (renumbered_turn f) (turns_of scope) ((frame z source_turn.trip).turn ∷ stood.0)
        ∙ (λ i. outer_alike (turns_of scope) (turns_below s number size before (made.nest t0 s m x same) (turns_of scope) come.turns (gap_below s number size before n.gap 1 n.numbered)) i ++ turn_alike (frame z source_turn.trip).turn of_number i ∷ inner_alike stood.0 stood.2 i)
        ∙ sym (map-append (renumbered_turn g) (turns_of scope) ((frame z source_turn.trip).turn ∷ stood.0))
        ∙ sym (ap (map (renumbered_turn g)) its_turns)

    statement_alike : f a.place.statement ≡ g a.place.statement
    statement_alike =
        let r = acts_in p t (second_body n) (number + 1) (frame z source_turn.trip ∷ scope) v (meets.next_stands_there t0 s m x same data_bytes scope c.front c.behind c.store c.executed c.goes first next initial) source.act (in_trip v is) in
        let there : a.place.statement ≡ r.number = ap (λ (q : Place). q.statement) source.place ∙ r.is in
        let low = r.from in
        let high = r.to in
        of_body a.place.statement (omega (arith, there, low)) (omega (arith, there, high))

    place_alike : renumbered_place f a.place ≡ renumbered_place g a.place
    place_alike = λ i. record { statement = statement_alike i; turns = turns_alike i }

    covered_by : (edges : List Edge) (inner inner_first : List Turn) (moved : Access) → (c' : IsCarriedInside u edges (turns_of scope) inner inner_first moved b) → moved.place ≡ renumbered_place f a.place → moved.reference ≡ a.reference → (k : IsCoveredAt u edges (Some (length (turns_of scope) + 1)) (in_one n a) b) × (k.0.edge ≡ c'.covered.edge)
    covered_by edges inner inner_first moved c' there by =
        let alike : moved.place ≡ renumbered_place g a.place = there ∙ place_alike in (
          (
            record {
              edge = c'.covered.edge;
              listed = c'.covered.listed;
              source = c'.covered.source ∙ (λ i. ((alike i).statement, by i));
              sink = c'.covered.sink;
              vector = c'.covered.vector;
              contains = c'.covered.contains;
              stands = subst (λ (q : Place). StandInDirections u q.turns b.place.turns c'.covered.vector) alike c'.covered.stands;
            },
            c'.level,
          ),
          refl,
        )

  -- so a dependence covers them, which the one DO carries
  pub crossing_covered : (edges : List Edge) → AreEdges u edges → IsCoveredAt u edges (Some (length (turns_of scope) + 1)) (in_one n a) b
  crossing_covered edges are =
      (covered_by _ (next.are source_turn.trip source_turn.from source_turn.to).is edges _ _ _
      (meets.covered_there t0 s m x same data_bytes scope c.front c.behind c.store c.executed c.goes first next initial sink_turn.trip source_turn.trip source_turn.from less sink_turn.to source_turn.to sink.act source.act sink_turn.there source_turn.there meeting edges are)
      refl refl).0

  -- and so does one among those alone that lead back
  pub crossing_back : (edges : List Edge) → AreBack n edges → (k : IsCoveredAt u edges (Some (length (turns_of scope) + 1)) (in_one n a) b) × (is_carried_by u s k.0.edge ≡ true)
  crossing_back edges are =
      let back = meets.back_there t0 s m x same data_bytes scope c.front c.behind c.store c.executed c.goes first next initial sink_turn.trip source_turn.trip source_turn.from less sink_turn.to source_turn.to sink.act source.act sink_turn.there source_turn.there meeting edges are in
      let k = covered_by _ (next.are source_turn.trip source_turn.from source_turn.to).is edges _ _ _ back.0 refl refl in
      (k.0, ap (is_carried_by u s) k.1 ∙ back.1)
