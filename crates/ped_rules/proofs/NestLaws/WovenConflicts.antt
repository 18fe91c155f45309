-- Two pairs of iterations of two loops that change places: where the second comes later in the outer loop and earlier in the inner one, no dependence stands between them, and so their acts don't conflict.
use Rattle.std.proofs.Common.{Bool, List, Option, Some, [], ap, arith, false, inl, inr, length, map, negsuc, pos, refl, subst, suc, sym, true, ℕ, ℤ, ◌&&◌, ◌++◌, ◌+◌, ◌==◌, ◌∙◌, ◌∷◌, ◌≡◌}
use Rattle.std.proofs.lemmas.Bool.{and_parts}
use Rattle.std.specs.Bool.{MatchBool}
use Rattle.std.specs.List.{list_any}
use Rattle.std.specs.Prelude.{slice_get}
use Rattle.std.specs.Str.Lines.{lines}
use Rattle.ped_rules.specs.Carried.{is_after}
use Rattle.ped_loop_runs.proofs.LoopLaws.Trips.{come_in_run, of_act, share_in_trips, trips_carried}
use Rattle.ped_loop_runs.specs.Carried.{AllStoreWithin, AreInTrips, AreTrips, IsCarriedByLoop, is_carried_by, is_in_body, is_level}
use Rattle.ped_loop_runs.specs.ped_flow.specs.PlainBounds.{nest_round}
use Rattle.ped_loop_runs.specs.ped_flow.specs.Questions.{LoopOf}
use Rattle.ped_loop_runs.specs.ped_laws.proofs.ActLaws.Conflicting.{acts_of_blocks}
use Rattle.ped_loop_runs.specs.ped_laws.proofs.ActLaws.Lists.{in_left, in_right}
use Rattle.ped_loop_runs.specs.ped_laws.proofs.ActLaws.Renamings.{or_left, or_right}
use Rattle.ped_loop_runs.specs.ped_laws.proofs.ConflictLaws.CoveringDirections.{earlier_before, numbers_are, same_numbers}
use Rattle.ped_loop_runs.specs.ped_laws.proofs.ConflictLaws.CoveringNests.{IsOf}
use Rattle.ped_loop_runs.specs.ped_laws.proofs.ConflictLaws.CoveringRuns.{MakingLaw, SequenceLaw}
use Rattle.ped_loop_runs.specs.ped_laws.proofs.ConflictLaws.Scoping.{touch_of_access}
use Rattle.ped_loop_runs.specs.ped_laws.proofs.RunLaws.Meetings.{outside_of_run}
use Rattle.ped_loop_runs.specs.ped_laws.specs.Acts.Conflicts.{blocks_conflict_outside}
use Rattle.ped_loop_runs.specs.ped_laws.specs.Acts.Orders.{IsIn}
use Rattle.ped_loop_runs.specs.ped_laws.specs.Conflicts.Directions.{StandInDirections, share_a_loop, step_at}
use Rattle.ped_loop_runs.specs.ped_laws.specs.Conflicts.Covered.{ComeInRun, IsCovered}
use Rattle.ped_loop_runs.specs.ped_laws.specs.Conflicts.Sequence.{AreSuccessive}
use Rattle.ped_loop_runs.specs.ped_eval.specs.Outcomes.{run_of, setting_of}
use Rattle.ped_loop_runs.specs.ped_graph.specs.Dependences.{AreEdges}
use Rattle.ped_edges.specs.Edges.{Edge}
use Rattle.ped_loop_runs.specs.ped_store.specs.Acts.{Act, Turn}
use Rattle.ped_loop_runs.specs.ped_store.specs.Cells.{Cell}
use Rattle.ped_loop_runs.specs.ped_store.specs.Races.{Access, conflict}
use Rattle.ped_loop_runs.specs.ped_store.specs.Stores.{store_at_start}
use Rattle.ped_loop_runs.specs.ped_symbols.specs.NameRefusals.{IsValid}
use Rattle.ped_views.specs.Excluded.{StandsByValue, by_value, turned}
use Rattle.ped_views.specs.declared.directions.Direction.{Direction}
use Rattle.ped_views.specs.declared.directions.Direction.TheVariants.{After, Before, Same}
use Rattle.ped_tree.specs.Nests.{Loop}
use Rattle.ped_tree.specs.Tree.{StmtTrees, ProgramTree}

-- a value stands before another where that one stands behind it
flipped : (step : ℤ) (d : Direction) (m n : ℤ) → StandsByValue (by_value step d) m n → StandsByValue (by_value step (turned d)) n m
flipped (pos k) Before m n h = h
flipped (pos k) Same m n h = sym h
flipped (pos k) After m n h = h
flipped (negsuc k) Before m n h = h
flipped (negsuc k) Same m n h = sym h
flipped (negsuc k) After m n h = h

turned_back : (d : Direction) → turned d ≡ Before → d ≡ After
turned_back Before e = absurd cc
turned_back Same e = absurd cc
turned_back After e = refl

-- in the order of the inner loop's iterations the second of two stands before the first
pub stands_after : (t : ProgramTree) (m : Loop) (r w : Turn) → IsOf t m w → AreSuccessive t w r → (d : Direction) → StandsByValue (by_value (step_at t r.statement) d) r.value w.value → d ≡ After
stands_after t m r w of later d h =
    turned_back d
    (earlier_before t m w r of later (turned d)
    (subst (λ (n : ℕ). StandsByValue (by_value (step_at t n) (turned d)) w.value r.value) (sym later.same) (flipped (step_at t r.statement) d r.value w.value h)))

-- the direction at a level of a vector, behind the loops round it
at_level : (outer : List Turn) (a b : Direction) (rest : List Direction) → slice_get (map (λ (i : Turn). Same) outer ++ a ∷ (b ∷ rest)) (length outer + 1) ≡ Some b
at_level [] a b rest = refl
at_level (i ∷ outer) a b rest =
    ap (slice_get (Same ∷ (map (λ (i : Turn). Same) outer ++ a ∷ (b ∷ rest)))) (let one_more : suc (length outer) + 1 ≡ suc (length outer + 1) = omega arith in one_more) ∙ deeper (map (λ (i : Turn). Same) outer ++ a ∷ (b ∷ rest)) (length outer + 1) ∙ at_level outer a b rest
  where
    deeper : (ds : List Direction) (n : ℕ) → slice_get (Same ∷ ds) (suc n) ≡ slice_get ds n
    deeper ds n = refl

pub some_after : (n : ℕ) (v : List Direction) (vs : List (List Direction)) → IsIn v vs → slice_get v n ≡ Some After → list_any (λ w. is_after (slice_get w n)) vs ≡ true
some_after n v [] i e = absurd i
some_after n v (w ∷ vs) (inl q) e = or_left (is_after (slice_get w n)) (list_any (λ u. is_after (slice_get u n)) vs) (ap (λ (u : List Direction). is_after (slice_get u n)) (sym q) ∙ ap is_after e)
some_after n v (w ∷ vs) (inr i) e = or_right (is_after (slice_get w n)) (list_any (λ u. is_after (slice_get u n)) vs) (some_after n v vs i e)

same_level : (m n : ℕ) → is_level n (Some m) ≡ true → m ≡ n
same_level m n h = numbers_are m n h

-- no two accesses that conflict in the run on these data are covered by one of these dependences that the DO with number l carries, in directions with `>` for the next DO in it (Allen and Kennedy, section 5.2)
abbrev pub NoneCrossesOn : ProgramTree → List Edge → (data_bytes : List ℕ) → (l : ℕ) → StmtTrees → Type 0
NoneCrossesOn t edges data_bytes l body =
    (a b : Access) → ComeInRun t data_bytes a b → conflict a b ≡ true → share_a_loop a.place.turns b.place.turns ≡ true
    → (c : IsCovered t edges a b) → is_carried_by t l body c.edge ≡ true → slice_get c.vector (length (nest_round t l) + 1) ≡ Some After → ⊥

-- the acts of two pairs of iterations in a run: the first ones in an earlier iteration of the DO with number l, and in a later one of the DO in it
pub record AreCrossing (t : ProgramTree) (data_bytes : List ℕ) (l : ℕ) (earlier later : List Act) : Type 0 where
  pub trips : AreTrips t data_bytes l earlier later
  pub r : Turn
  pub w : Turn
  pub first_inside : (a : Act) → IsIn a earlier → (more : List Turn) × (a.place.turns ≡ trips.outer ++ trips.i ∷ (r ∷ more))
  pub second_inside : (a : Act) → IsIn a later → (more : List Turn) × (a.place.turns ≡ trips.outer ++ trips.j ∷ (w ∷ more))
  pub same : r.statement ≡ w.statement
  pub after : (d : Direction) → StandsByValue (by_value (step_at t r.statement) d) r.value w.value → d ≡ After

module _ (made : MakingLaw) (sequence : SequenceLaw) (t : ProgramTree) (data_bytes : List ℕ) (valid : IsValid t) (edges : List Edge) (are : AreEdges t edges) (l : ℕ) (loop : LoopOf t l) (uncrossed : NoneCrossesOn t edges data_bytes l loop.body) where
  -- such a dependence would be turned round
  turned_round : (outer more rest : List Turn) (r w : Turn) (a b : Access) → r.statement ≡ w.statement → ((d : Direction) → StandsByValue (by_value (step_at t r.statement) d) r.value w.value → d ≡ After)
      → ComeInRun t data_bytes a b → conflict a b ≡ true → share_a_loop a.place.turns b.place.turns ≡ true → IsCarriedByLoop t edges l loop.body outer (r ∷ more) (w ∷ rest) a b → ⊥
  turned_round outer more rest r w a b same after come meets share c = by (r.statement == w.statement) (same_numbers r.statement w.statement same) c.0.inside
    where
      Found : Type 0
      Found = (d : Direction) × (ds : List Direction) × (c.0.rest ≡ d ∷ ds) × StandsByValue (by_value (step_at t r.statement) d) r.value w.value × StandInDirections t more rest ds

      level : length outer + 1 ≡ length (nest_round t l) + 1
      level =
          same_level (length outer + 1) (length (nest_round t l) + 1)
          (subst (λ (o : Option ℕ). is_level (length (nest_round t l) + 1) o ≡ true) c.0.level
          (and_parts (is_level (length (nest_round t l) + 1) c.0.covered.edge.level) (is_in_body l loop.body c.0.covered.edge.source.0 && is_in_body l loop.body c.0.covered.edge.sink.0) c.1).0)

      behind : (d : Direction) (ds : List Direction) → c.0.rest ≡ d ∷ ds → d ≡ After → ⊥
      behind d ds is so =
          uncrossed a b come meets share c.0.covered c.1
          (ap (λ (v : List Direction). slice_get v (length (nest_round t l) + 1)) (c.0.vector ∙ (λ i. map (λ (z : Turn). Same) outer ++ Before ∷ (is ∙ ap (λ (x : Direction). x ∷ ds) so) i))
          ∙ ap (slice_get (map (λ (z : Turn). Same) outer ++ Before ∷ (After ∷ ds))) (sym level) ∙ at_level outer Before After ds)

      by : (b : Bool) → b ≡ true → MatchBool b Found (c.0.rest ≡ []) → ⊥
      by true e f = behind f.0 f.1 f.2 (after f.0 f.3)
      by false e f = absurd cc

  pub crossing_apart : (idle : Cell → Bool) (earlier later : List Act) → AreCrossing t data_bytes l earlier later → AllStoreWithin idle earlier → AllStoreWithin idle later → blocks_conflict_outside idle earlier later ≡ false
  crossing_apart idle earlier later cross first second = go (blocks_conflict_outside idle earlier later) refl
    where
      trips : AreTrips t data_bytes l earlier later
      trips = cross.trips

      in_run : (a : Act) → IsIn a (trips.front ++ (earlier ++ (trips.between ++ (later ++ trips.behind)))) → IsIn a (run_of t data_bytes).acts
      in_run a i = subst (λ (acts : List Act). IsIn a acts) (sym trips.is) i

      go : (b : Bool) → blocks_conflict_outside idle earlier later ≡ b → blocks_conflict_outside idle earlier later ≡ false
      go false e = e
      go true e =
          let p = acts_of_blocks idle earlier later e in
          let x : IsIn p.0 (run_of t data_bytes).acts = in_run p.0 (in_right p.0 trips.front (earlier ++ (trips.between ++ (later ++ trips.behind))) (in_left p.0 earlier (trips.between ++ (later ++ trips.behind)) p.2)) in
          let y : IsIn p.1 (run_of t data_bytes).acts = in_run p.1 (in_right p.1 trips.front (earlier ++ (trips.between ++ (later ++ trips.behind))) (in_right p.1 earlier (trips.between ++ (later ++ trips.behind)) (in_right p.1 trips.between (later ++ trips.behind) (in_left p.1 later trips.behind p.3)))) in
          let m = (outside_of_run (setting_of t) t.body 1 [] (store_at_start (lines data_bytes)) idle p.0 p.1 x y (first p.0 p.2) (second p.1 p.3) p.4).0 in
          let come = come_in_run t data_bytes trips.front earlier trips.between later trips.behind m.first m.second trips.is (of_act m.first p.0 earlier p.2 m.of_first) (of_act m.second p.1 later p.3 m.of_second) in
          let one = cross.first_inside p.0 p.2 in
          let other = cross.second_inside p.1 p.3 in
          let at_first = (touch_of_access m.first p.0 m.of_first).2 in
          let at_second = (touch_of_access m.second p.1 m.of_second).2 in
          let there : AreInTrips l trips.outer trips.i trips.j (cross.r ∷ one.0) (cross.w ∷ other.0) m.first m.second =
          record { at_first = ap (λ (z : Access). z.place.turns) at_first ∙ one.1; at_second = ap (λ (z : Access). z.place.turns) at_second ∙ other.1; of_first = trips.of_first; of_second = trips.of_second; earlier = trips.order } in
          let share = share_in_trips m.first m.second trips.outer trips.i trips.j (cross.r ∷ one.0) (cross.w ∷ other.0) there in
          let c = trips_carried made sequence t data_bytes valid edges are l loop m.first m.second trips.outer trips.i trips.j (cross.r ∷ one.0) (cross.w ∷ other.0) come m.conflicts m.first_reference m.second_reference there in
          absurd (turned_round trips.outer one.0 other.0 cross.r cross.w m.first m.second cross.same cross.after come m.conflicts share c)
