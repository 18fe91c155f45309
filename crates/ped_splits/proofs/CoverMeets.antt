-- Two DO loops become one: in an execution of the two an iteration of the first that conflicts with an earlier one of the second, on cells but those of the variables of DO loops, does so by accesses that cross; and these are covered.
use Rattle.std.proofs.Common.{◌≡◌, ℕ, ◌+◌, ◌-◌, ◌≤◌, ◌<◌, ◌||◌, ◌&&◌, ◌⊎◌, ℤ, pos, List, [], ◌∷◌, ◌++◌, length, map, Bool, true, false, inl, inr, refl, sym, ap, ◌∙◌, subst, append_assoc, arith, if◌then◌else◌}
use Rattle.std.specs.Prelude.{◌+ℤ◌, ◌*ℤ◌, not}
use Rattle.std.specs.Option.{unwrap_or}
use Rattle.std.proofs.lemmas.Bool.{and_parts}
use Rattle.std.proofs.lemmas.List.{map-append}
use Rattle.std.specs.Str.Lines.{lines}
use Rattle.ped_base.specs.Lists.{is_same_text, is_among}
use Rattle.ped_tree.specs.NamesIn.{loop_variables, all_loop_variables}
use Rattle.ped_tree.specs.Constants.ConstantExpressions.{constant_value}
use Rattle.ped_tree.specs.Numbering.{all_numbered, numbered, statement_count, statements_count}
use Rattle.ped_tree.specs.Tree.{Do, Var, ProgramTree}
use Rattle.ped_rules.specs.ped_bodies.specs.Moving.{is_cell_among}
use Rattle.ped_rules.specs.ped_bodies.specs.Trips.{IsMadeOfTrips, bounds_seen, entered_from, loop_entry, trips}
use Rattle.ped_rules.specs.ped_steps.proofs.RunLaws.AccessTouches.{touch_of}
use Rattle.ped_rules.specs.ped_steps.proofs.RunLaws.FilledGaps.{counted}
use Rattle.ped_rules.specs.ped_steps.proofs.RunLaws.RenumberedRuns.{AreRenumbered, deeper, all_in}
use Rattle.ped_rules.specs.ped_steps.proofs.RunLaws.RunPlaces.{StandsIn, stands_in}
use Rattle.ped_rules.specs.ped_steps.proofs.RunLaws.SubstitutedShapes.{counts_kept}
use Rattle.ped_rules.specs.ped_steps.specs.Replacing.{followed, alone}
use Rattle.ped_rules.specs.ped_steps.specs.Runs.Exchanging.{is_of_scalar}
use Rattle.ped_rules.specs.ped_steps.specs.Runs.Renumbering.{renumbered, renumbered_cell, renumbered_touch, renumbered_turn, renumbered_place, renumbered_act, old_store}
use Rattle.ped_rules.specs.ped_loop_runs.proofs.LoopLaws.ApartTurns.{or_turned, turns_long}
use Rattle.ped_rules.specs.ped_loop_runs.proofs.LoopLaws.LoopParts.{trip_among}
use Rattle.ped_rules.specs.ped_loop_runs.proofs.LoopLaws.OneForOneStands.{own_within}
use Rattle.ped_rules.specs.ped_loop_runs.proofs.PastingLaws.ActNumbers.{all_in as acts_in}
use Rattle.ped_rules.specs.ped_loop_runs.proofs.PastingLaws.LeftCopies.{IsOwn, IsOfTrip, body_reaches}
use Rattle.ped_rules.specs.ped_loop_runs.specs.Carried.{AllStoreWithin, IsCarriedInside, MakeConflict}
use Rattle.ped_rules.specs.ped_loop_runs.specs.Executions.{IsExecuted}
use Rattle.ped_rules.specs.ped_affine.specs.Ranges as ranges
use Rattle.ped_rules.specs.ped_graph.specs.DependencePane.{extent_by, extent_of}
use Rattle.ped_rules.specs.ped_graph.specs.Dependences.{AreEdges, setting_in}
use Rattle.ped_edges.specs.Edges.{Edge}
use Rattle.ped_rules.specs.ped_laws.proofs.ActLaws.Conflicting.{access_in, accesses_in, acts_of_blocks}
use Rattle.ped_rules.specs.ped_laws.proofs.ActLaws.Lists.{in_left, in_right}
use Rattle.ped_rules.specs.ped_laws.proofs.ActLaws.Renamings.{or_left, or_right}
use Rattle.ped_rules.specs.ped_laws.proofs.ActLaws.SameCells.{cell_is, cell_itself}
use Rattle.ped_rules.specs.ped_laws.proofs.ActLaws.Stores.{after_append}
use Rattle.ped_rules.specs.ped_laws.proofs.ConflictLaws.MakingRuns.{Made}
use Rattle.ped_rules.specs.ped_laws.proofs.ConflictLaws.Scoping.{access_by, touch_of_access}
use Rattle.ped_rules.specs.ped_laws.proofs.ConflictLaws.MakingParts.{among_rest}
use Rattle.ped_rules.specs.ped_laws.proofs.FlowRunLaws.Standing.{Stand, else_stands, first_stands, inner_stands, rest_stands}
use Rattle.ped_rules.specs.ped_laws.proofs.RunLaws.Meetings.{outside_of_run}
use Rattle.ped_rules.specs.ped_laws.proofs.RunLaws.Numbers.{all_same}
use Rattle.ped_rules.specs.ped_laws.specs.Acts.Conflicts.{blocks_conflict_outside}
use Rattle.ped_rules.specs.ped_laws.specs.Acts.Fitting.{store_after}
use Rattle.ped_rules.specs.ped_laws.specs.Acts.Orders.{IsIn}
use Rattle.ped_rules.specs.ped_laws.specs.Conflicts.Reaching.{IsStoreIn}
use Rattle.ped_refs.specs.References.{Reference}
use Rattle.ped_rules.specs.ped_laws.specs.Covering.Within.{is_storing}
use Rattle.ped_rules.specs.ped_laws.specs.Runs.Replaying.{finish_of, goes_on}
use Rattle.ped_rules.specs.ped_laws.specs.Runs.Touching.{Meeting}
use Rattle.ped_rules.specs.ped_eval.specs.Loops.{Entered, frame}
use Rattle.ped_rules.specs.ped_eval.specs.Outcomes.{Ends, run_of, setting_of}
use Rattle.ped_rules.specs.ped_eval.specs.Runs.{Run, run, run_all}
use Rattle.ped_rules.specs.ped_eval.specs.Scopes.{Setting, Frame, Scope, place_of, turns_of}
use Rattle.ped_rules.specs.ped_store.specs.Acts.{Act, Touch, Turn, iterations_of}
use Rattle.ped_rules.specs.ped_store.specs.Cells.{Cell, Iteration, Scalar, Element, Private, In, Out, same_cell}
use Rattle.ped_rules.specs.ped_store.specs.Races.{Access, accesses_of, conflict, is_lines, is_write}
use Rattle.ped_rules.specs.ped_store.specs.Stores.{Store, store_at_start}
use Rattle.ped_splits.proofs.CoverBodies as body
use Rattle.ped_splits.proofs.CoverDependences.{IsCarriedBack, IsMeeting, covered_by_all, meets_back}
use Rattle.ped_splits.proofs.CoverGaps.{followed_numbered}
use Rattle.ped_splits.proofs.CoverMade as made
use Rattle.ped_splits.proofs.CoverMade.{HasCome, followed_variables, has_come, stands, new_nest}
use Rattle.ped_splits.proofs.CoverNumbers.{as_first, as_second, gap_below, its_number, in_body_of, scope_stays, store_back, told_back}
use Rattle.ped_splits.proofs.CoverTrips.{pair_acts, trips_before}
use Rattle.ped_splits.proofs.CoverFacts.{MayFuse}
use Rattle.ped_splits.proofs.FuseFacts.{renamed, renamed_next, renamed_pair}
use Rattle.ped_splits.proofs.JoinCrossing.{CrossBetween, joined_variables, renamed_head, second_body, store_between}
use Rattle.ped_symbolic.specs.Substitution.{statements_substituted}
use Rattle.ped_splits.specs.Fusing.{AreBack, Match}
use Rattle.ped_splits.specs.Neighbours.{Neighbour, fused, next_number}

-- a touch under new numbers, among those of an act
same_lines : (f : ℕ → ℕ) (c : Cell) → is_lines (renumbered_cell f c) ≡ is_lines c
same_lines f (Scalar x) = refl
same_lines f (Element x js) = refl
same_lines f (Private x path) = refl
same_lines f In = refl
same_lines f Out = refl

in_mapped : {X Y : Type 0} (f : X → Y) (a : X) (xs : List X) → IsIn a xs → IsIn (f a) (map f xs)
in_mapped f a [] i = absurd i
in_mapped f a (x ∷ xs) (inl e) = inl (ap f e)
in_mapped f a (x ∷ xs) (inr i) = inr (in_mapped f a xs i)

-- an access under new numbers
abbrev moved : (ℕ → ℕ) → Access → Access
moved f a = record { cell = renumbered_cell f a.cell; writes = a.writes; place = renumbered_place f a.place; reference = a.reference }

moved_access : (f : ℕ → ℕ) (a : Act) (b : Access) → IsIn b (accesses_of a) → IsIn (moved f b) (accesses_of (renumbered_act f a))
moved_access f a b i =
    let v = touch_of a a.touches b i in
    subst (λ (z : Access). IsIn (moved f z) (accesses_of (renumbered_act f a))) (sym v.3)
    (access_in (renumbered_act f a) (map (renumbered_touch f) a.touches) (renumbered_touch f v.0) (in_mapped (renumbered_touch f) v.0 a.touches v.1) (ap (λ (b : Bool). is_write v.0.manner || not b) (same_lines f v.0.cell) ∙ v.2))

-- iterations that begin with others
first_of_more : (ts : List Turn) (t : Turn) (more : List Turn) → (h : Turn) × (rest : List Turn) × (ts ++ t ∷ more ≡ h ∷ rest)
first_of_more [] t more = (t, more, refl)
first_of_more (u ∷ ts) t more = (u, ts ++ t ∷ more, refl)

heads : {X : Type 0} (x y : X) (xs ys : List X) → x ∷ xs ≡ y ∷ ys → x ≡ y
heads x y xs ys e = cc

-- one path goes on with one iteration
one_iteration : (at : List Iteration) (i j : Iteration) (r q : List Iteration) → at ++ i ∷ r ≡ at ++ j ∷ q → i ≡ j
one_iteration [] i j r q e = heads i j r q e
one_iteration (k ∷ at) i j r q e = one_iteration at i j r q (tails k k (at ++ i ∷ r) (at ++ j ∷ q) e)
  where
    tails : {X : Type 0} (x y : X) (xs ys : List X) → x ∷ xs ≡ y ∷ ys → xs ≡ ys
    tails x y xs ys e = cc

abbrev path_of : Cell → List Iteration
path_of (Private x path) = path
path_of (Scalar x) = []
path_of (Element x js) = []
path_of In = []
path_of Out = []

-- where a store under new numbers stands for one of an execution, it is one
pub renumbered_within : (s : ranges.Setting) (f : ℕ → ℕ) (first v : Store) → IsStoreIn s first v → IsStoreIn s first (old_store f v)
renumbered_within s f first v h = record {
  storable = λ c n storing e. h.storable (renumbered_cell f c) n (still c storing) e;
  constant = λ x free. h.constant x free;
}
  where
    still : (c : Cell) → is_storing s.loop_variables c ≡ true → is_storing s.loop_variables (renumbered_cell f c) ≡ true
    still (Scalar x) h = h
    still (Element x js) h = h
    still (Private x path) h = h
    still In h = h
    still Out h = h

-- in each execution the second of the two has the initial value of the first
abbrev pub SameInitial : {t0 : ProgramTree} {s : ℕ} → Neighbour t0 s → Type 0
SameInitial {t0} {s} n =
    (data_bytes : List ℕ) → Ends (run_of (renamed n) data_bytes).ending
    → (scope : Scope) (front behind : List Act) (v : Store)
    → IsExecuted (setting_of (renamed n)) (renamed n) (store_at_start (lines data_bytes)) s (statements_count (renamed_pair n)) scope front (run_all (setting_of (renamed n)) (renamed_pair n) s scope v).acts behind v
    → finish_of (run_all (setting_of (renamed n)) (renamed_pair n) s scope v).ending ≡ goes_on
    → (first : IsMadeOfTrips (setting_of (renamed n)) n.own n.own_body s scope v) (second : IsMadeOfTrips (setting_of (renamed n)) (renamed_head n) (second_body n) (next_number n) scope (store_between n scope v))
    → second.bounds.first ≡ first.bounds.first

module _ (t0 : ProgramTree) (s : ℕ) (m : Match t0 s) (x : MayFuse t0 s m) (same : setting_of (fused m.neighbour) ≡ setting_of (renamed m.neighbour)) (data_bytes : List ℕ) (scope : Scope) (front behind : List Act) (v : Store)
    (executed : IsExecuted (setting_of (renamed m.neighbour)) (renamed m.neighbour) (store_at_start (lines data_bytes)) s (statements_count (renamed_pair m.neighbour)) scope front (run_all (setting_of (renamed m.neighbour)) (renamed_pair m.neighbour) s scope v).acts behind v)
    (goes : finish_of (run_all (setting_of (renamed m.neighbour)) (renamed_pair m.neighbour) s scope v).ending ≡ goes_on)
    (first : IsMadeOfTrips (setting_of (renamed m.neighbour)) m.neighbour.own m.neighbour.own_body s scope v) (next : IsMadeOfTrips (setting_of (renamed m.neighbour)) (renamed_head m.neighbour) (second_body m.neighbour) (next_number m.neighbour) scope (store_between m.neighbour scope v))
    (initial : next.bounds.first ≡ first.bounds.first) where
  abbrev n : Neighbour t0 s
  n = m.neighbour

  abbrev t : ProgramTree
  t = renamed m.neighbour

  abbrev u : ProgramTree
  u = fused m.neighbour

  abbrev p : Setting
  p = setting_of (renamed m.neighbour)

  abbrev number : ℕ
  number = next_number m.neighbour

  abbrev size : ℕ
  size = statements_count (second_body m.neighbour)

  abbrev f : ℕ → ℕ
  f = as_first s (next_number m.neighbour) (statements_count (second_body m.neighbour))

  abbrev g : ℕ → ℕ
  g = as_second s (next_number m.neighbour) (statements_count (second_body m.neighbour))

  pub before : s < number
  before = omega arith

  abbrev e : Entered
  e = entered_from (setting_of (renamed m.neighbour)) m.neighbour.own m.neighbour.own_body s scope v first.bounds

  abbrev z : Entered
  z = entered_from (setting_of (renamed m.neighbour)) (renamed_head m.neighbour) (second_body m.neighbour) (next_number m.neighbour) scope (store_between m.neighbour scope v) next.bounds

  abbrev first_acts : List Act
  first_acts = (run (setting_of (renamed m.neighbour)) (Do m.neighbour.own m.neighbour.own_body) s scope v).acts

  abbrev next_acts : List Act
  next_acts = (run (setting_of (renamed m.neighbour)) (renamed_next m.neighbour) (next_number m.neighbour) scope (store_between m.neighbour scope v)).acts

  pub both : (run_all p (renamed_pair n) s scope v).acts ≡ first_acts ++ next_acts
  both = pair_acts p (Do n.own n.own_body) n.between (renamed_next n) s number n.comments (omega arith) scope v goes

  pub come : HasCome t0 s m x same data_bytes scope v
  come = has_come t0 s m x same data_bytes scope front behind v executed

  abbrev set : ranges.Setting
  set = setting_in (fused m.neighbour) come.outer.number

  -- the store before a trip of the first, and of the second
  abbrev first_store : ℕ → Store
  first_store i = store_after (loop_entry (bounds_seen p m.neighbour.own scope v) e scope (place_of p s scope) ∷ trips e scope (place_of p s scope) first.trip 1 (i - 1)) v

  abbrev next_front : ℕ → List Act
  next_front j = loop_entry (bounds_seen p (renamed_head m.neighbour) scope (store_between m.neighbour scope v)) z scope (place_of p number scope) ∷ trips z scope (place_of p number scope) next.trip 1 (j - 1)

  abbrev next_store : ℕ → Store
  next_store j = store_after (next_front j) (store_between m.neighbour scope v)

  first_stored : (i : ℕ) → 1 ≤ i → i ≤ e.count → IsStoreIn set come.first (first_store i)
  first_stored i from to =
      let parts = trips_before e scope (place_of p s scope) first.trip (bounds_seen p n.own scope v) i from to in
      come.stored (loop_entry (bounds_seen p n.own scope v) e scope (place_of p s scope) ∷ trips e scope (place_of p s scope) first.trip 1 (i - 1)) _
      (both ∙ ap (λ (zs : List Act). zs ++ next_acts) (first.acts ∙ parts) ∙ append_assoc (loop_entry (bounds_seen p n.own scope v) e scope (place_of p s scope) ∷ trips e scope (place_of p s scope) first.trip 1 (i - 1)) _ next_acts)

  next_stored : (j : ℕ) → 1 ≤ j → j ≤ z.count → IsStoreIn set come.first (next_store j)
  next_stored j from to =
      let parts = trips_before z scope (place_of p number scope) next.trip (bounds_seen p (renamed_head n) scope (store_between n scope v)) j from to in
      subst (IsStoreIn set come.first) (after_append first_acts (next_front j) v)
      (come.stored (first_acts ++ next_front j) _ (both ∙ ap (λ (zs : List Act). first_acts ++ zs) (next.acts ∙ parts) ∙ sym (append_assoc first_acts (next_front j) _)))

  in_run : (a : Act) → IsIn a (run_all p (renamed_pair n) s scope v).acts → IsIn a (run_all p t.body 1 [] (store_at_start (lines data_bytes))).acts
  in_run a i = subst (IsIn a) (sym executed.whole) (in_right a front _ (in_left a (run_all p (renamed_pair n) s scope v).acts behind i))

  -- the iterations of the second are those of the one DO, under their new numbers
  stays : AreRenumbered f g (told_back s number size before) scope scope
  stays = scope_stays s number size before (made.nest t0 s m x same) scope come.turns (gap_below s number size before n.gap 1 n.numbered)

  abbrev joined : Entered
  joined = body.joined t0 s m x same data_bytes scope v come first.bounds first.come

  no_names : (b : Bool) (xs own : List (List ℕ)) → b ≡ false → own ≡ [] → (if b then xs else own) ≡ []
  no_names b xs own none empty = ap (λ (c : Bool). if c then xs else own) none ∙ empty

  turn_is : (j : ℕ) → (frame joined j).turn ≡ renumbered_turn f (frame z j).turn
  turn_is j = λ i. record {
    statement = sym (its_number s number size before) i;
    parallel = (x.own_serial ∙ sym x.next_serial) i;
    number = j;
    value = sym initial i +ℤ pos (j - 1) *ℤ unwrap_or (constant_value (same i).constants (m.alike.step i)) (pos 1);
  }

  inside : (j : ℕ) → AreRenumbered f g (told_back s number size before) (frame z j ∷ scope) (frame joined j ∷ scope)
  inside j =
      deeper f g (told_back s number size before) (frame z j) (frame joined j) scope scope (turn_is j) refl
      (no_names n.own.parallel (n.own.variable ∷ (n.own.private ++ joined.inner)) n.own.private x.own_serial x.own_unprivate ∙ sym (no_names n.next.parallel (n.own.variable ∷ (n.next.private ++ z.inner)) n.next.private x.next_serial x.next_unprivate))
      stays

  trip_count : (i j : ℕ) → 1 ≤ j → j < i → i ≤ e.count → j ≤ e.count
  trip_count i j from less to = omega (arith, less, to)

  -- what the second does in an iteration, it does there in the new program
  moved_acts : (j : ℕ) → 1 ≤ j → j ≤ z.count → (run_all (setting_of u) (second_body n) number (frame joined j ∷ scope) (old_store g (next_store j))).acts ≡ map (renumbered_act f) (next.trip j)
  moved_acts j from to =
      ap (λ (r : Store → Run). (r (old_store g (next_store j))).acts) (sym (all_same (renumbered f p) (setting_of u) (sym (ap (λ (r : Setting). r.bounds) same)) (sym (ap (λ (r : Setting). r.constants) same)) (second_body n) (number + 1) number (frame joined j ∷ scope) by_number))
      ∙ (all_in f g (told_back s number size before) p (second_body n) (number + 1) (frame z j ∷ scope) (frame joined j ∷ scope) (inside j) (old_store g (next_store j))).acts
      ∙ ap (λ (w : Store). map (renumbered_act f) (run_all p (second_body n) (number + 1) (frame z j ∷ scope) w).acts) (store_back s number size before (next_store j))
      ∙ ap (map (renumbered_act f)) (sym (next.are j from to).is)
    where
      by_number : (k : ℕ) → k < statements_count (second_body n) → f (number + 1 + k) ≡ number + k
      by_number k less = in_body_of s number size before (number + 1 + k) (omega arith) (omega (arith, less)) ∙ (let back : number + 1 + k - 1 ≡ number + k = omega arith in back)

  abbrev IsFine : Act → Type 0
  IsFine = body.IsFine t0 s m x same data_bytes scope v come first.bounds first.come

  next_fine : (j : ℕ) → 1 ≤ j → j ≤ e.count → j ≤ z.count → (a : Act) → IsIn a (next.trip j) → IsFine (renumbered_act f a)
  next_fine j from to within a i =
      body.second_fine t0 s m x same data_bytes scope v come first.bounds first.come j from to (old_store g (next_store j)) (renumbered_within set g come.first (next_store j) (next_stored j from within)) (renumbered_act f a)
      (subst (IsIn (renumbered_act f a)) (sym (moved_acts j from within)) (in_mapped (renumbered_act f) a (next.trip j) i))

  first_fine : (i : ℕ) → 1 ≤ i → i ≤ e.count → (a : Act) → IsIn a (first.trip i) → IsFine a
  first_fine i from to a k = body.first_fine t0 s m x same data_bytes scope v come first.bounds first.come i from to (first_store i) (first_stored i from to) a (subst (IsIn a) (first.are i from to).is k)

  -- a cell that both touch keeps its name
  own_stays : (c : Cell) → IsOwn p scope c → renumbered_cell f c ≡ c
  own_stays c (inl own) = ap (renumbered_cell f) own.1 ∙ sym (stays.cell own.0) ∙ sym own.1
  own_stays c (inr none) = by c none
    where
      by : (c : Cell) → is_of_scalar c ≡ false → renumbered_cell f c ≡ c
      by (Scalar y) h = absurd cc
      by (Private y path) h = absurd cc
      by (Element y js) h = refl
      by In h = refl
      by Out h = refl

  name_stays : (i j : ℕ) (c : Cell) → IsOwn p scope c ⊎ IsOfTrip p s n.own n.own_body (bounds_seen p n.own scope v) first.bounds scope i c
      → IsOwn p scope c ⊎ IsOfTrip p number (renamed_head n) (second_body n) (bounds_seen p (renamed_head n) scope (store_between n scope v)) next.bounds scope j c → renumbered_cell f c ≡ c
  name_stays i j c (inl own) other = own_stays c own
  name_stays i j c (inr k) (inl own) = own_stays c own
  name_stays i j c (inr k) (inr l) =
      let one = one_iteration (iterations_of (turns_of scope)) (record { statement = s; number = i }) (record { statement = number; number = j }) k.rest l.rest (ap path_of (sym k.is ∙ l.is)) in
      let numbers : s ≡ number = ap (λ (y : Iteration). y.statement) one in
      let less = before in
      absurd (omega (arith, numbers, less))

  size_is : size ≡ statements_count n.next_body
  size_is = by (is_same_text n.own.variable n.next.variable)
    where
      by : (b : Bool) → statements_count (if b then n.next_body else statements_substituted n.next.variable (Var n.own.variable) n.next_body) ≡ statements_count n.next_body
      by true = refl
      by false = counts_kept n.next.variable (Var n.own.variable) n.next_body

  room : number + statements_count n.next_body ≤ s + extent_of u s
  room =
      let extent : extent_of u s ≡ statements_count (made.bodies t0 s m x same) + 1 = ap extent_by (stands t0 s m x same) in
      let one = counted n.own_body (followed n.between (second_body n)) in
      let other = counted n.between (second_body n) in
      let long = size_is in
      omega (arith, extent, one, other, long)

  -- where the two bodies stand
  pair_stands : Stand t s (all_numbered (renamed_pair n))
  pair_stands = subst (λ (k : ℕ). Stand t k (all_numbered (renamed_pair n))) n.numbered (made.here t0 s m x same).stood

  first_stands_there : Stand t (s + 1) (all_numbered n.own_body)
  first_stands_there = inner_stands t (Do n.own n.own_body) (all_numbered n.own_body) s (first_stands t s (numbered (Do n.own n.own_body)) (all_numbered (followed n.between (alone (renamed_next n)))) pair_stands)

  pub next_stands_there : Stand t (number + 1) (all_numbered (second_body n))
  next_stands_there =
      inner_stands t (renamed_next n) (all_numbered (second_body n)) number
      (first_stands t number (numbered (renamed_next n)) []
      (subst (λ (k : ℕ). Stand t k (all_numbered (alone (renamed_next n)))) (let e : s + statement_count (Do n.own n.own_body) + statements_count n.between ≡ number = (let none = n.comments in omega (arith, none)) in e)
      (else_stands t n.between (alone (renamed_next n)) (s + statement_count (Do n.own n.own_body))
      (subst (Stand t (s + statement_count (Do n.own n.own_body))) (followed_numbered n.between (alone (renamed_next n))) (rest_stands t (Do n.own n.own_body) (followed n.between (alone (renamed_next n))) s pair_stands)))))

  module _ (i j : ℕ) (from : 1 ≤ j) (less : j < i) (to : i ≤ e.count) (within : j ≤ z.count) where
    in_first_trip : (a : Act) → IsIn a (first.trip i) → IsIn a (run_all p n.own_body (s + 1) (frame e i ∷ scope) (first_store i)).acts
    in_first_trip a k = subst (IsIn a) (first.are i (omega (arith, from, less)) to).is k

    in_next_trip : (b : Act) → IsIn b (next.trip j) → IsIn b (run_all p (second_body n) (number + 1) (frame z j ∷ scope) (next_store j)).acts
    in_next_trip b k = subst (IsIn b) (next.are j from within).is k

    first_in_pair : (a : Act) → IsIn a (first.trip i) → IsIn a (run_all p (renamed_pair n) s scope v).acts
    first_in_pair a k =
        subst (IsIn a) (sym both)
        (in_left a first_acts next_acts (subst (IsIn a) (sym first.acts) (trip_among (bounds_seen p n.own scope v) e scope (place_of p s scope) first.trip i (omega (arith, from, less)) to a k)))

    next_in_pair : (b : Act) → IsIn b (next.trip j) → IsIn b (run_all p (renamed_pair n) s scope v).acts
    next_in_pair b k =
        subst (IsIn b) (sym both)
        (in_right b first_acts next_acts (subst (IsIn b) (sym next.acts) (trip_among (bounds_seen p (renamed_head n) scope (store_between n scope v)) z scope (place_of p number scope) next.trip j from within b k)))

    -- accesses of two acts that conflict, one of the first in a later iteration and one of the second in an earlier one
    module _ (a b : Act) (k : IsIn a (first.trip i)) (l : IsIn b (next.trip j)) (q : Meeting a b) where
      one : (w : Touch) × IsIn w a.touches × (q.first ≡ access_by a.place w)
      one = touch_of_access q.first a q.of_first

      other : (w : Touch) × IsIn w b.touches × (q.second ≡ access_by b.place w)
      other = touch_of_access q.second b q.of_second

      one_more : StandsIn (turns_of (frame e i ∷ scope)) a
      one_more = stands_in p n.own_body (s + 1) (frame e i ∷ scope) (first_store i) a (in_first_trip a k)

      other_more : StandsIn (turns_of (frame z j ∷ scope)) b
      other_more = stands_in p (second_body n) (number + 1) (frame z j ∷ scope) (next_store j) b (in_next_trip b l)

      one_place : q.first.place.turns ≡ turns_of scope ++ (frame joined i).turn ∷ one_more.0
      one_place =
          ap (λ (y : Access). y.place.turns) one.2 ∙ one_more.1 ∙ append_assoc (turns_of scope) ((frame e i).turn ∷ []) one_more.0
          ∙ ap (λ (w : Frame). turns_of scope ++ w.turn ∷ one_more.0) (sym (body.frame_same t0 s m x same data_bytes scope v come first.bounds first.come i))

      other_place : (moved f q.second).place.turns ≡ turns_of scope ++ (frame joined j).turn ∷ map (renumbered_turn f) other_more.0
      other_place =
          ap (λ (y : Access). map (renumbered_turn f) y.place.turns) other.2 ∙ ap (map (renumbered_turn f)) other_more.1 ∙ map-append (renumbered_turn f) (turns_of (frame z j ∷ scope)) other_more.0
          ∙ ap (λ (ts : List Turn). ts ++ map (renumbered_turn f) other_more.0) (sym (inside j).turns) ∙ append_assoc (turns_of scope) ((frame joined j).turn ∷ []) (map (renumbered_turn f) other_more.0)

      made_turns : (w : Turn) × (rest : List Turn) × (turns_of scope ++ (frame joined i).turn ∷ one_more.0 ≡ w ∷ rest)
      made_turns = first_of_more (turns_of scope) (frame joined i).turn one_more.0

      moved_turns : (w : Turn) × (rest : List Turn) × (turns_of scope ++ (frame joined j).turn ∷ map (renumbered_turn f) other_more.0 ≡ w ∷ rest)
      moved_turns = first_of_more (turns_of scope) (frame joined j).turn (map (renumbered_turn f) other_more.0)

      first_made : (w : Turn) (inner : List Turn) → IsIn q.first (accesses_of a) → 0 < q.first.reference → q.first.place.turns ≡ w ∷ inner → Made u x.new_valid come.outer come.first q.first
      first_made w inner = first_fine i (omega (arith, from, less)) to a k q.first w inner

      next_made : (w : Turn) (inner : List Turn) → IsIn (moved f q.second) (accesses_of (renumbered_act f b)) → 0 < q.second.reference → (moved f q.second).place.turns ≡ w ∷ inner → Made u x.new_valid come.outer come.first (moved f q.second)
      next_made w inner = next_fine j from (trip_count i j from less to) within b l (moved f q.second) w inner

      parts : (same_cell q.first.cell q.second.cell ≡ true) × (q.first.writes || q.second.writes ≡ true)
      parts = and_parts (same_cell q.first.cell q.second.cell) (q.first.writes || q.second.writes) q.conflicts

      cells : q.first.cell ≡ q.second.cell
      cells = cell_is q.first.cell q.second.cell parts.0

      stay : renumbered_cell f q.second.cell ≡ q.first.cell
      stay =
          let touched = ap (λ (y : Access). y.cell) one.2 in
          let touched_too = ap (λ (y : Access). y.cell) other.2 in
          name_stays i j q.second.cell
          (subst (λ (c : Cell). IsOwn p scope c ⊎ IsOfTrip p s n.own n.own_body (bounds_seen p n.own scope v) first.bounds scope i c) (sym touched ∙ cells)
          (body_reaches p s n.own n.own_body (bounds_seen p n.own scope v) first.bounds scope i (first_store i) a (in_first_trip a k) one.0 one.1))
          (subst (λ (c : Cell). IsOwn p scope c ⊎ IsOfTrip p number (renamed_head n) (second_body n) (bounds_seen p (renamed_head n) scope (store_between n scope v)) next.bounds scope j c) (sym touched_too)
          (body_reaches p number (renamed_head n) (second_body n) (bounds_seen p (renamed_head n) scope (store_between n scope v)) next.bounds scope j (next_store j) b (in_next_trip b l) other.0 other.1))
          ∙ sym cells

      conflicts : conflict (moved f q.second) q.first ≡ true
      conflicts = (λ y. (ap (λ (c : Cell). same_cell c q.first.cell) stay ∙ cell_itself q.first.cell) y && or_turned q.first.writes q.second.writes parts.1 y)

      low_high : (s < q.first.place.statement) × (q.first.place.statement < number)
      low_high =
          let r = acts_in p t n.own_body (s + 1) (frame e i ∷ scope) (first_store i) first_stands_there a (in_first_trip a k) in
          let is : q.first.place.statement ≡ r.number = ap (λ (y : Access). y.place.statement) one.2 ∙ r.is in
          let lo = r.from in
          let hi = r.to in
          (omega (arith, is, lo), omega (arith, is, hi))

      from_to : (number ≤ (moved f q.second).place.statement) × ((moved f q.second).place.statement < number + statements_count n.next_body)
      from_to =
          let r = acts_in p t (second_body n) (number + 1) (frame z j ∷ scope) (next_store j) next_stands_there b (in_next_trip b l) in
          let lo = r.from in
          let hi = r.to in
          let is : (moved f q.second).place.statement ≡ r.number - 1 = ap (λ (y : Access). f y.place.statement) other.2 ∙ ap f r.is ∙ in_body_of s number size before r.number (omega (arith, lo)) (omega (arith, hi)) in
          let long = size_is in
          (omega (arith, is, lo), omega (arith, is, hi, lo, long))

      -- they are made by references of the new program, in two iterations of the one DO
      pub record AreMade : Type 0 where
        pub source : Reference
        pub sink : Reference
        pub inner : List Turn
        pub inner_first : List Turn
        pub pair : MakeConflict u come.first (moved f q.second) q.first source sink
        pub meeting : IsMeeting n (turns_of scope) inner inner_first (frame joined j).turn (frame joined i).turn (moved f q.second) q.first

      meets : Made u x.new_valid come.outer come.first q.first → Made u x.new_valid come.outer come.first (moved f q.second) → AreMade
      meets sink source = record {
        source = source.reference;
        sink = sink.reference;
        inner = map (renumbered_turn f) other_more.0;
        inner_first = one_more.0;
        pair = record { at_source = source.scope; at_sink = sink.scope; before = source.store; behind = sink.store; made = source.is; makes = sink.is; conflicts = conflicts };
        meeting = record {
          at_first = other_place;
          at_second = one_place;
          successive = record { same = refl; parallel = refl; earlier = less; head = made.head t0 s m x same; body = made.bodies t0 s m x same; stands = stands t0 s m x same; initial = first.bounds.first; at_first = refl; at_second = refl };
          level = turns_long (λ k. k) (made.nest t0 s m x same) (turns_of scope) come.turns ∙ sym (ap length (new_nest t0 s m x same));
          from = from_to.0;
          to = from_to.1;
          low = low_high.0;
          high = low_high.1;
        };
      }

      pub are_made : AreMade
      are_made = meets (first_made made_turns.0 made_turns.1 q.of_first q.first_reference (one_place ∙ made_turns.2)) (next_made moved_turns.0 moved_turns.1 (moved_access f b q.second q.of_second) q.second_reference (other_place ∙ moved_turns.2))

      -- whatever forbids the step, a dependence between them is carried by the one DO
      pub covered_there : (edges : List Edge) → AreEdges u edges → IsCarriedInside u edges (turns_of scope) are_made.inner are_made.inner_first (moved f q.second) q.first
      covered_there = covered_by_all t0 s n come.first (moved f q.second) q.first are_made.source are_made.sink are_made.pair (turns_of scope) are_made.inner are_made.inner_first (frame joined j).turn (frame joined i).turn are_made.meeting

      -- and so is one among those that lead back
      pub back_there : (edges : List Edge) → AreBack n edges → IsCarriedBack n edges (turns_of scope) are_made.inner are_made.inner_first (moved f q.second) q.first
      back_there = meets_back t0 s n come.first (moved f q.second) q.first are_made.source are_made.sink are_made.pair (turns_of scope) are_made.inner are_made.inner_first (frame joined j).turn (frame joined i).turn are_made.meeting room

      -- they cross in this execution
      pub they_cross : CrossBetween n data_bytes scope q.second q.first
      they_cross = record {
        front = front;
        behind = behind;
        store = v;
        executed = executed;
        goes = goes;
        source = accesses_in (run_all p (renamed_pair n) s scope v).acts b q.second (next_in_pair b l) q.of_second;
        sink = accesses_in (run_all p (renamed_pair n) s scope v).acts a q.first (first_in_pair a k) q.of_first;
        source_reference = q.second_reference;
        sink_reference = q.first_reference;
        conflicts = (λ y. (ap (λ (c : Cell). same_cell q.second.cell c) cells ∙ cell_itself q.second.cell) y && or_turned q.first.writes q.second.writes parts.1 y);
        j = (frame z j).turn;
        js = other_more.0;
        i = (frame e i).turn;
        is = one_more.0;
        at_source = ap (λ (y : Access). y.place.turns) other.2 ∙ other_more.1 ∙ append_assoc (turns_of scope) ((frame z j).turn ∷ []) other_more.0;
        at_sink = ap (λ (y : Access). y.place.turns) one.2 ∙ one_more.1 ∙ append_assoc (turns_of scope) ((frame e i).turn ∷ []) one_more.0;
        of_source = refl;
        of_sink = refl;
        earlier = less;
      }

    abbrev idle : Cell → Bool
    idle = is_cell_among (joined_variables m.neighbour)

    first_within : AllStoreWithin idle (first.trip i)
    first_within = subst (AllStoreWithin idle) (sym (first.are i (omega (arith, from, less)) to).is) (own_within (joined_variables n) p n.own_body (s + 1) (frame e i ∷ scope) (first_store i) among)
      where
        among : (y : List ℕ) → is_among y (all_loop_variables n.own_body) ≡ true → is_among y (joined_variables n) ≡ true
        among y h =
            among_rest y n.own.variable (all_loop_variables (made.bodies t0 s m x same))
            (followed_variables y n.own_body (followed n.between (second_body n)) ∙ or_left (is_among y (all_loop_variables n.own_body)) (is_among y (all_loop_variables (followed n.between (second_body n)))) h)

    next_within : AllStoreWithin idle (next.trip j)
    next_within = subst (AllStoreWithin idle) (sym (next.are j from within).is) (own_within (joined_variables n) p (second_body n) (number + 1) (frame z j ∷ scope) (next_store j) among)
      where
        among : (y : List ℕ) → is_among y (all_loop_variables (second_body n)) ≡ true → is_among y (joined_variables n) ≡ true
        among y h =
            among_rest y n.own.variable (all_loop_variables (made.bodies t0 s m x same))
            (followed_variables y n.own_body (followed n.between (second_body n))
            ∙ or_right (is_among y (all_loop_variables n.own_body)) (is_among y (all_loop_variables (followed n.between (second_body n))))
            (followed_variables y n.between (second_body n) ∙ or_right (is_among y (all_loop_variables n.between)) (is_among y (all_loop_variables (second_body n))) h))

    -- where none cross, these two iterations don't conflict
    pub uncrossed : ((a b : Access) → CrossBetween n data_bytes scope a b → ⊥) → blocks_conflict_outside idle (first.trip i) (next.trip j) ≡ false
    uncrossed never = go (blocks_conflict_outside idle (first.trip i) (next.trip j)) refl
      where
        go : (b : Bool) → blocks_conflict_outside idle (first.trip i) (next.trip j) ≡ b → blocks_conflict_outside idle (first.trip i) (next.trip j) ≡ false
        go false h = h
        go true h =
            let q = acts_of_blocks idle (first.trip i) (next.trip j) h in
            let one = in_run q.0 (first_in_pair q.0 q.2) in
            let other = in_run q.1 (next_in_pair q.1 q.3) in
            let met = (outside_of_run p t.body 1 [] (store_at_start (lines data_bytes)) idle q.0 q.1 one other (first_within q.0 q.2) (next_within q.1 q.3) q.4).0 in
            absurd (never met.second met.first (they_cross q.0 q.1 q.2 q.3 met))
