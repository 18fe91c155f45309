-- What two trips of one execution of a loop do: a dependence that the loop carries covers each conflict of references.
use Rattle.std.proofs.Common.{◌≡◌, ℕ, ◌+◌, ◌<◌, List, [], ◌∷◌, ◌++◌, length, Bool, true, false, ◌&&◌, refl, sym, ap, ◌∙◌, subst, inl, inr, arith, Some, append_assoc}
use Rattle.std.specs.Str.Lines.{lines}
use Rattle.std.proofs.lemmas.Grind.{flat_map-append}
use Rattle.ped_bodies.specs.ped_flow.specs.ped_tree.specs.Tree.{ProgramTree}
use Rattle.ped_bodies.specs.ped_flow.specs.PlainBounds.{nest_round}
use Rattle.ped_bodies.specs.ped_flow.specs.Questions.{LoopOf}
use Rattle.ped_bodies.specs.ped_symbols.specs.NameRefusals.{IsValid}
use Rattle.ped_bodies.specs.ped_refs.specs.References.{references, pairs}
use Rattle.ped_bodies.specs.ped_edges.specs.Edges.{Edge}
use Rattle.ped_bodies.specs.ped_graph.specs.Dependences.{AreEdges}
use Rattle.ped_bodies.specs.ped_store.specs.Cells.{Cell}
use Rattle.ped_bodies.specs.ped_store.specs.Stores.{store_at_start}
use Rattle.ped_bodies.specs.ped_store.specs.Acts.{Turn, Act}
use Rattle.ped_bodies.specs.ped_store.specs.Races.{Access, accesses_of, accesses, conflict}
use Rattle.ped_bodies.specs.ped_eval.specs.Outcomes.{setting_of, run_of}
use Rattle.ped_bodies.specs.ped_laws.specs.Acts.Conflicts.{blocks_conflict_outside}
use Rattle.ped_bodies.specs.ped_laws.specs.Acts.Orders.{IsIn}
use Rattle.ped_bodies.specs.ped_laws.specs.Conflicts.Directions.{share_a_loop}
use Rattle.ped_bodies.specs.ped_laws.specs.Conflicts.Sequence.{ComesBefore}
use Rattle.ped_bodies.specs.ped_laws.specs.Conflicts.Covered.{ComeInRun}
use Rattle.ped_bodies.specs.ped_laws.proofs.ActLaws.Lists.{in_left, in_right, split_at}
use Rattle.ped_bodies.specs.ped_laws.proofs.ActLaws.Conflicting.{acts_of_blocks}
use Rattle.ped_bodies.specs.ped_laws.proofs.RunLaws.Meetings.{outside_of_run}
use Rattle.ped_bodies.specs.ped_laws.proofs.ConflictLaws.Scoping.{touch_of_access}
use Rattle.ped_bodies.specs.ped_laws.proofs.ConflictLaws.CoveringDirections.{same_numbers}
use Rattle.ped_bodies.specs.ped_laws.proofs.ConflictLaws.CoveringConflicts.{pair_listed}
use Rattle.ped_bodies.specs.ped_laws.proofs.ConflictLaws.CoveringRuns.{MakingLaw, SequenceLaw, makers}
use Rattle.ped_loop_runs.specs.Carried.{MakeConflict, is_level, is_in_body, is_carried_by, AreInTrips, IsCarriedByLoop, AreTrips, AllStoreWithin, NoneMeetOn}
use Rattle.ped_loop_runs.proofs.LoopLaws.Carrying.{share_trips, successive, carried_inside}
use Rattle.ped_loop_runs.proofs.LoopLaws.Nested.{in_loop_body}

-- items of a list of lists, one behind the other
arranged : {X : Type 0} (a p q b r s c : List X) (x y : X) → a ++ ((p ++ x ∷ q) ++ (b ++ ((r ++ y ∷ s) ++ c))) ≡ (a ++ p) ++ x ∷ ((q ++ (b ++ r)) ++ y ∷ (s ++ c))
arranged a p q b r s c x y =
    let second : b ++ ((r ++ y ∷ s) ++ c) ≡ (b ++ r) ++ y ∷ (s ++ c) = ap (λ zs. b ++ zs) (append_assoc r (y ∷ s) c) ∙ sym (append_assoc b r (y ∷ (s ++ c))) in
    let behind : q ++ (b ++ ((r ++ y ∷ s) ++ c)) ≡ (q ++ (b ++ r)) ++ y ∷ (s ++ c) = ap (λ zs. q ++ zs) second ∙ sym (append_assoc q (b ++ r) (y ∷ (s ++ c))) in
    ap (λ zs. a ++ zs) (append_assoc p (x ∷ q) (b ++ ((r ++ y ∷ s) ++ c))) ∙ sym (append_assoc a p (x ∷ (q ++ (b ++ ((r ++ y ∷ s) ++ c))))) ∙ ap (λ zs. (a ++ p) ++ x ∷ zs) behind

pub of_act : (x : Access) (a : Act) (acts : List Act) → IsIn a acts → IsIn x (accesses_of a) → IsIn x (accesses acts)
of_act x a [] i j = absurd i
of_act x a (b ∷ acts) (inl e) j = in_left x (accesses_of b) (accesses acts) (subst (λ (z : Act). IsIn x (accesses_of z)) e j)
of_act x a (b ∷ acts) (inr i) j = in_right x (accesses_of b) (accesses acts) (of_act x a acts i j)

five : (front earlier between later behind : List Act) → accesses (front ++ (earlier ++ (between ++ (later ++ behind)))) ≡ accesses front ++ (accesses earlier ++ (accesses between ++ (accesses later ++ accesses behind)))
five front earlier between later behind =
    flat_map-append accesses_of front (earlier ++ (between ++ (later ++ behind)))
    ∙ ap (λ zs. accesses front ++ zs) (flat_map-append accesses_of earlier (between ++ (later ++ behind))
    ∙ ap (λ zs. accesses earlier ++ zs) (flat_map-append accesses_of between (later ++ behind)
    ∙ ap (λ zs. accesses between ++ zs) (flat_map-append accesses_of later behind)))

-- accesses of two pieces of a run come in it in this order
pub come_in_run : (t : ProgramTree) (data_bytes : List ℕ) (front earlier between later behind : List Act) (x y : Access) → (run_of t data_bytes).acts ≡ front ++ (earlier ++ (between ++ (later ++ behind))) → IsIn x (accesses earlier) → IsIn y (accesses later) → ComeInRun t data_bytes x y
come_in_run t data_bytes front earlier between later behind x y is i j =
    let p = split_at x (accesses earlier) i in
    let q = split_at y (accesses later) j in
    record {
      before = accesses front ++ p.0;
      between = p.1 ++ (accesses between ++ q.0);
      behind = q.1 ++ accesses behind;
      is = ap accesses is
          ∙ five front earlier between later behind
          ∙ (λ z. accesses front ++ (p.2 z ++ (accesses between ++ (q.2 z ++ accesses behind))))
          ∙ arranged (accesses front) p.0 p.1 (accesses between) q.0 q.1 (accesses behind) x y;
    }

-- accesses in two iterations of one execution are in one of their outermost common loop
pub share_in_trips : {l : ℕ} (a b : Access) (outer : List Turn) (i j : Turn) (is js : List Turn) → AreInTrips l outer i j is js a b → share_a_loop a.place.turns b.place.turns ≡ true
share_in_trips a b outer i j is js trips = (λ z. share_a_loop (trips.at_first z) (trips.at_second z)) ∙ share_trips outer i j is js (trips.of_first ∙ sym trips.of_second)

module _ (made : MakingLaw) (sequence : SequenceLaw) (t : ProgramTree) (data_bytes : List ℕ) (valid : IsValid t) (edges : List Edge) (are : AreEdges t edges) (l : ℕ) (loop : LoopOf t l) where
  -- accesses in two iterations of one execution of the loop
  pub trips_carried : (a b : Access) (outer : List Turn) (i j : Turn) (is js : List Turn) → ComeInRun t data_bytes a b → conflict a b ≡ true → 0 < a.reference → 0 < b.reference → AreInTrips l outer i j is js a b → IsCarriedByLoop t edges l loop.body outer is js a b
  trips_carried a b outer i j is js come meets one other trips =
      let same : i.statement ≡ j.statement = trips.of_first ∙ sym trips.of_second in
      let share : share_a_loop a.place.turns b.place.turns ≡ true = share_in_trips a b outer i j is js trips in
      let by = makers made sequence t data_bytes a b valid come meets one other share in
      let m = by.met in
      let order : ComesBefore t a b (outer ++ i ∷ is) (outer ++ j ∷ js) = subst (λ (x : List Turn). ComesBefore t a b x (outer ++ j ∷ js)) trips.at_first (subst (λ (y : List Turn). ComesBefore t a b a.place.turns y) trips.at_second m.order) in
      let k : MakeConflict t by.first a b by.source by.sink = record { at_source = m.at_source; at_sink = m.at_sink; before = m.before; behind = m.behind; made = m.made; makes = m.makes; conflicts = meets } in
      let c = carried_inside t by.first a b by.source by.sink k (pairs (references t)) edges (pair_listed t by.first a b by.source by.sink m) are outer is js i j trips.at_first trips.at_second (successive t a b outer is js i j same trips.earlier order) in
      let x = in_loop_body t by.first a by.source m.at_source m.before m.made l loop outer i is trips.at_first trips.of_first in
      let y = in_loop_body t by.first b by.sink m.at_sink m.behind m.makes l loop outer j js trips.at_second trips.of_second in
      let n : ℕ = length (nest_round t l) + 1 in
      let level : is_level n (Some (length outer + 1)) ≡ true = same_numbers (length outer + 1) n (let long = x.1 in omega (arith, long)) in
      let from : c.covered.edge.source.0 ≡ a.place.statement = ap (λ (z : ℕ × ℕ). z.0) c.covered.source in
      let to : c.covered.edge.sink.0 ≡ b.place.statement = ap (λ (z : ℕ × ℕ). z.0) c.covered.sink in
      (c, (λ z. is_level n (c.level z) && (is_in_body l loop.body (from z) && is_in_body l loop.body (to z))) ∙ (λ z. level z && (x.0 z && y.0 z)))

  -- so, where nothing that the loop carries occurs, two of its trips conflict on no cell but those of own stores
  pub trips_apart : (idle : Cell → Bool) (earlier later : List Act) → NoneMeetOn t edges data_bytes l loop.body → AreTrips t data_bytes l earlier later → AllStoreWithin idle earlier → AllStoreWithin idle later → blocks_conflict_outside idle earlier later ≡ false
  trips_apart idle earlier later none trips first second = go (blocks_conflict_outside idle earlier later) refl
    where
      in_run : (a : Act) → IsIn a (trips.front ++ (earlier ++ (trips.between ++ (later ++ trips.behind)))) → IsIn a (run_of t data_bytes).acts
      in_run a i = subst (λ (acts : List Act). IsIn a acts) (sym trips.is) i

      go : (b : Bool) → blocks_conflict_outside idle earlier later ≡ b → blocks_conflict_outside idle earlier later ≡ false
      go false e = e
      go true e =
          let p = acts_of_blocks idle earlier later e in
          let x : IsIn p.0 (run_of t data_bytes).acts = in_run p.0 (in_right p.0 trips.front (earlier ++ (trips.between ++ (later ++ trips.behind))) (in_left p.0 earlier (trips.between ++ (later ++ trips.behind)) p.2)) in
          let y : IsIn p.1 (run_of t data_bytes).acts = in_run p.1 (in_right p.1 trips.front (earlier ++ (trips.between ++ (later ++ trips.behind))) (in_right p.1 earlier (trips.between ++ (later ++ trips.behind)) (in_right p.1 trips.between (later ++ trips.behind) (in_left p.1 later trips.behind p.3)))) in
          let m = (outside_of_run (setting_of t) t.body 1 [] (store_at_start (lines data_bytes)) idle p.0 p.1 x y (first p.0 p.2) (second p.1 p.3) p.4).0 in
          let come = come_in_run t data_bytes trips.front earlier trips.between later trips.behind m.first m.second trips.is (of_act m.first p.0 earlier p.2 m.of_first) (of_act m.second p.1 later p.3 m.of_second) in
          let one = trips.in_first p.0 p.2 in
          let other = trips.in_second p.1 p.3 in
          let at_first = (touch_of_access m.first p.0 m.of_first).2 in
          let at_second = (touch_of_access m.second p.1 m.of_second).2 in
          let there : AreInTrips l trips.outer trips.i trips.j one.0 other.0 m.first m.second =
          record { at_first = ap (λ (z : Access). z.place.turns) at_first ∙ one.1; at_second = ap (λ (z : Access). z.place.turns) at_second ∙ other.1; of_first = trips.of_first; of_second = trips.of_second; earlier = trips.order } in
          let c = trips_carried m.first m.second trips.outer trips.i trips.j one.0 other.0 come m.conflicts m.first_reference m.second_reference there in
          absurd (none m.first m.second come m.conflicts (share_in_trips m.first m.second trips.outer trips.i trips.j one.0 other.0 there) c.0.covered c.1)
