-- In each execution the two loops that do the iterations of a DO in strips may stand for it.
use Rattle.std.proofs.Common.{Bool, List, Some, [], ap, append-nil, arith, eqb-true, false, if◌then◌else◌, inl, inr, not, pos, refl, subst, suc, sym, true, zero, ℕ, ◌%◌, ◌&&◌, ◌*◌, ◌++◌, ◌+◌, ◌-◌, ◌/◌, ◌<◌, ◌==◌, ◌||◌, ◌∙◌, ◌∷◌, ◌≡◌, ◌≤◌, ◌⊎◌}
use Rattle.std.proofs.Math.Nat.{zero-mul}
use Rattle.std.proofs.lemmas.Bool.{and_parts, both_ways}
use Rattle.std.proofs.lemmas.List.Concat.{flat_map_single}
use Rattle.std.specs.List.{flat_map, range_with_len}
use Rattle.std.specs.Str.Lines.{lines}
use Rattle.ped_base.proofs.NameEquality.{same_is}
use Rattle.ped_base.specs.Lists.{is_among, is_same_text}
use Rattle.ped_rules.proofs.NestLaws.SettledBounds.{ends_so, read_so}
use Rattle.ped_rules.proofs.NestLaws.InnerPlaces.{loops_of_program}
use Rattle.ped_rules.proofs.NestLaws.NestKnots.{in_numbers, in_rows, nest_acts, nest_blocks, nest_row, pair_of}
use Rattle.ped_rules.proofs.NestLaws.WovenAccesses.{of_knots}
use Rattle.ped_rules.proofs.NestLaws.WovenStands.{agreed_wanted, idle_apart, of_block, stands_apart, touches_in, without_from}
use Rattle.ped_rules.proofs.NestLaws.WovenLists.{IsPart, end_reads, end_within, entry_reads, entry_within, trip_in_loop}
use Rattle.ped_rules.specs.ped_loop_runs.proofs.LoopLaws.OneForOneCells.{IsOfLoop, all_unread, among_of_scalar, cell_among, exit_unread, likewise_idle, needed_counts, touched_in}
use Rattle.ped_rules.specs.ped_loop_runs.proofs.LoopLaws.OneForOneNames.{variables_unnamed}
use Rattle.ped_rules.specs.ped_loop_runs.proofs.LoopLaws.OneForOneStands.{run_alone, false_unless, both, not_so}
use Rattle.ped_rules.specs.ped_loop_runs.proofs.LoopLaws.PlainReads.{plain_again}
use Rattle.ped_rules.specs.ped_loop_runs.specs.Bounds.{IsOfFixed}
use Rattle.ped_rules.specs.ped_loop_runs.proofs.PastingLaws.ExecutedDuring.{whole_outermost}
use Rattle.ped_rules.specs.ped_loop_runs.proofs.PastingLaws.LeftCopies.{IsOwn, body_reaches, entry_own, own_apart, run_reaches}
use Rattle.ped_rules.specs.ped_loop_runs.proofs.PastingLaws.TheirCopies.{theirs, theirs_unneeded}
use Rattle.ped_rules.specs.ped_loop_runs.proofs.PastingLaws.ToldPlaces.{no_turns, place_with}
use Rattle.ped_rules.specs.ped_loop_runs.specs.Copies.{IsTheirs}
use Rattle.ped_rules.specs.ped_loop_runs.specs.Executions.{IsCopyInside, IsExecuted, as_done}
use Rattle.ped_rules.specs.ped_loop_runs.specs.Places.{AreDuring, told_at}
use Rattle.ped_rules.specs.ped_bodies.proofs.BodyLaws.LikewiseAccesses.{likewise_accesses}
use Rattle.ped_rules.specs.ped_bodies.proofs.BodyLaws.LikewiseActs.{likewise_stripped}
use Rattle.ped_rules.specs.ped_bodies.proofs.BodyLaws.LimitParts.{limits_parted}
use Rattle.ped_rules.specs.ped_bodies.proofs.BodyLaws.TripLists.{close_in_order, end_in_order}
use Rattle.ped_rules.specs.ped_bodies.specs.Likewise.{IsMadeLikewise, IsOnlyTold}
use Rattle.ped_rules.specs.ped_bodies.specs.Moving.{is_cell_among, own_number}
use Rattle.ped_rules.specs.ped_bodies.specs.Trips.{IsMadeOfTrips, IsTrip, bounds_seen, loop_entry, trip_end, trips as trips_in_order}
use Rattle.ped_rules.specs.ped_steps.proofs.RunLaws.AccessTouches.{touch_of, write_access, write_in, accesses_from}
use Rattle.ped_rules.specs.ped_steps.proofs.RunLaws.LeftLoops.{execution_left}
use Rattle.ped_rules.specs.ped_steps.proofs.RunLaws.ScalarNames.{shown_scalar}
use Rattle.ped_rules.specs.ped_steps.specs.Replacing.{alone}
use Rattle.ped_rules.specs.ped_steps.specs.Runs.Exchanging.{is_of_scalar}
use Rattle.ped_rules.specs.ped_steps.specs.Runs.Pasting.{IsInOutermost, IsPlaceOf}
use Rattle.ped_rules.specs.ped_flow.specs.PlainBounds.{nest_round, outermost_or}
use Rattle.ped_rules.specs.ped_flow.specs.Questions.{LoopOf}
use Rattle.ped_rules.specs.ped_laws.proofs.ActLaws.Appending.{needs_append, written_append}
use Rattle.ped_rules.specs.ped_laws.proofs.ActLaws.Conflicting.{access_by, access_in, accesses_in}
use Rattle.ped_rules.specs.ped_laws.proofs.ActLaws.Lists.{in_left, in_right}
use Rattle.ped_rules.specs.ped_laws.proofs.ActLaws.Outside.{dropped_first, none_append}
use Rattle.ped_rules.specs.ped_laws.proofs.ActLaws.Renamings.{after_other, or_left, or_right}
use Rattle.ped_rules.specs.ped_laws.proofs.ActLaws.SameCells.{text_itself}
use Rattle.ped_rules.specs.ped_laws.proofs.FlowRunLaws.Cells.{cell_named}
use Rattle.ped_rules.specs.ped_laws.proofs.FlowRunLaws.DeadExits.{unwanted_behind}
use Rattle.ped_rules.specs.ped_laws.proofs.FlowRunLaws.Stopping.{fitting_stops}
use Rattle.ped_rules.specs.ped_laws.proofs.FlowRunLaws.TripReads.{contained_unread}
use Rattle.ped_rules.specs.ped_laws.proofs.RunLaws.Sight.{value_told}
use Rattle.ped_rules.specs.ped_laws.proofs.RunLaws.StatementsTold.{run_told}
use Rattle.ped_rules.specs.ped_laws.specs.Acts.Changes.{AreSameOutside}
use Rattle.ped_rules.specs.ped_laws.specs.Acts.Conflicts.{LeaveUnread, ReadNone, WriteWithin, touches_without, without}
use Rattle.ped_rules.specs.ped_laws.specs.Acts.Fitting.{Fits, of_cells, store_after, touches_of}
use Rattle.ped_rules.specs.ped_laws.specs.Acts.Grids.{block_at}
use Rattle.ped_rules.specs.ped_laws.specs.Acts.Orders.{Block, EachOnce, IsIn, IsReordered, KeepsOrder, acts_in_blocks, block_conflict}
use Rattle.ped_rules.specs.ped_laws.specs.Acts.Pieces.{StandsFor}
use Rattle.ped_rules.specs.ped_laws.specs.Acts.Renaming.{AreRenamed, Renamed, own_name, touch}
use Rattle.ped_rules.specs.ped_laws.specs.Acts.Sets.{AgreeIn, needs, nothing, wants, written}
use Rattle.ped_rules.specs.ped_laws.specs.FlowRuns.Covering.{is_cell_of, some_stops_in_loop}
use Rattle.ped_rules.specs.ped_laws.specs.FlowRuns.Exits.{IsExit, IsOneToOne}
use Rattle.ped_rules.specs.ped_laws.specs.Plain.Executions.{IsDuring, IsPlaceWith}
use Rattle.ped_rules.specs.ped_laws.specs.Runs.Replaying.{Replays, ending_with, finish_of, goes_on, has_fault}
use Rattle.ped_rules.specs.ped_laws.specs.Runs.Showing.{shown_at_end}
use Rattle.ped_rules.specs.ped_eval.specs.Evaluation.{Evaluated, Seen, cell_seen, index_seen, numbered}
use Rattle.ped_rules.specs.ped_eval.specs.Loops.{Entered, Limits, exit_touches, exit_when_none, frame, inner_variables, left_in_variable, limits, undefined_all, undefined_by}
use Rattle.ped_rules.specs.ped_eval.specs.Outcomes.{Ends, run_of, setting_of}
use Rattle.ped_rules.specs.ped_eval.specs.Runs.{Run, run, run_all}
use Rattle.ped_rules.specs.ped_eval.specs.Scopes.{Scope, Setting, cell_of, names_in, place_of, turns_of}
use Rattle.ped_rules.specs.ped_eval.specs.Statements.{write_touch}
use Rattle.ped_rules.specs.ped_eval.specs.Values.{value}
use Rattle.ped_rules.specs.ped_store.specs.Acts.{Act, Place, Touch, iterations_of, reads}
use Rattle.ped_rules.specs.ped_store.specs.Cells.{Cell, Iteration, Private, Scalar}
use Rattle.ped_rules.specs.ped_store.specs.Races.{Access, accesses, is_write}
use Rattle.ped_rules.specs.ped_store.specs.Stores.{Content, Store, store_at_start}
use Rattle.ped_rules.specs.ped_weaves.proofs.WeaveLaws.AgreedApart.{agreed_before_or_written, both_stand, needed_agreed}
use Rattle.ped_rules.specs.ped_weaves.proofs.WeaveLaws.CountedActs.{counted_needed, counted_touched, counted_writes}
use Rattle.ped_rules.specs.ped_weaves.proofs.WeaveLaws.KnotRows.{blocks_rows, knotted_rows}
use Rattle.ped_rules.specs.ped_weaves.proofs.WeaveLaws.PutFor.{put_stands}
use Rattle.ped_rules.specs.ped_weaves.proofs.WeaveLaws.TripOrders.{trips_stand}
use Rattle.ped_rules.specs.ped_weaves.proofs.WeaveLaws.Woven.{woven_stands}
use Rattle.ped_rules.specs.ped_weaves.specs.Apart.{agreed}
use Rattle.ped_rules.specs.ped_weaves.specs.Puttings.{IsPutFor, Suit}
use Rattle.ped_rules.specs.ped_weaves.specs.Weaves.{IsSteady, IsWoven, Knot, Weave, block, blocks_in, control, counted, new_list, new_trips, old_list, old_trips}
use Rattle.ped_rules.proofs.NameLaws.ValuesBut.{AreBeside}
use Rattle.ped_reindex.proofs.StripsBounds.{IsStripped, inner_reads, outer_limits}
use Rattle.ped_reindex.proofs.StripsCells.{StripReached, strip_names, strips_apart, strips_idle, strips_inside, strips_or_stays}
use Rattle.ped_reindex.proofs.StripsControls.{IsInnerControl, end_cell, entry_cell, held_in, inner_control, inner_end, inner_entry, other_acts, outer_end, same_control, seen_touch}
use Rattle.ped_reindex.proofs.StripsNumbers.{are_strips, strips, strips_joined, whole}
use Rattle.ped_rules.proofs.NameLaws.UnnamedCells.{neither, unnamed_head}
use Rattle.ped_reindex.specs.Stripping.{strip_head, strips_head}
use Rattle.ped_tree.specs.NamesIn.{all_loop_variables, head_names, loop_variables, stmts_names}
use Rattle.ped_tree.specs.Numbering.{statement_count, statement_with, statements_count}
use Rattle.ped_tree.specs.Tree.{Do, Head, ProgramTree, StmtTree, StmtTrees}
use Rattle.ped_reindex.proofs.StripsAbsent.{leaves_alone, unwanted_name}
use Rattle.ped_reindex.proofs.StripsTrips as trips
use Rattle.ped_rules.specs.ped_loop_runs.proofs.LoopLaws.OneForOneCells as cells
use Rattle.ped_rules.specs.ped_loop_runs.proofs.LoopLaws.PlainReads as plain

module _ (t : ProgramTree) (l : ℕ) (loop : LoopOf t l) (K : ℕ) (w : List ℕ) (q : Setting) (x : IsStripped t l loop K w q) (data_bytes : List ℕ) (ends : Ends (run_of t data_bytes).ending) where
  abbrev p : Setting
  p = setting_of t

  abbrev d : Head
  d = loop.head

  abbrev body : StmtTrees
  body = loop.body

  abbrev h : Head
  h = strips_head (pos K) w loop.head

  abbrev g : Head
  g = strip_head (pos K) w loop.head

  abbrev old_loop : StmtTree
  old_loop = Do loop.head loop.body

  abbrev new_loop : StmtTree
  new_loop = Do (strips_head (pos K) w loop.head) (alone (Do (strip_head (pos K) w loop.head) loop.body))

  -- the variables of the old loops, and the new one
  abbrev pub strip_variables : List (List ℕ)
  strip_variables = w ∷ loop_variables (Do loop.head loop.body)

  abbrev idle : Cell → Bool
  idle = is_cell_among strip_variables

  abbrev apart : Cell → Bool
  apart = stands_apart strip_variables

  abbrev start : Store
  start = store_at_start (lines data_bytes)

  abbrev shown : Cell → Bool
  shown = shown_at_end t

  abbrev size : ℕ
  size = statements_count (alone (Do loop.head loop.body))

  some : 0 < size
  some = omega arith

  one : IsOneToOne p.number
  one m n e = e

  unstopping : some_stops_in_loop t.body ≡ false
  unstopping = fitting_stops t x.valid.fits

  pub new_named : is_among w strip_variables ≡ true
  new_named = or_left (is_same_text w w) (is_among w (loop_variables (Do loop.head loop.body))) (text_itself w)

  deeper : (v : List ℕ) → is_among v (loop_variables (Do loop.head loop.body)) ≡ true → is_among v strip_variables ≡ true
  deeper v i = or_right (is_same_text v w) (is_among v (loop_variables (Do loop.head loop.body))) i

  pub own_named : is_among d.variable strip_variables ≡ true
  own_named = deeper d.variable (or_left (is_same_text d.variable d.variable) (is_among d.variable (all_loop_variables body)) (text_itself d.variable))

  body_named : (v : List ℕ) → is_among v (all_loop_variables body) ≡ true → is_among v strip_variables ≡ true
  body_named v i = deeper v (or_right (is_same_text v d.variable) (is_among v (all_loop_variables body)) i)

  head_absent : is_same_text w d.variable ≡ false
  head_absent = (unnamed_head w d (neither w (head_names d) (stmts_names body) x.can.absent).0).variable

  pub no_inner : inner_variables d.parallel body ≡ []
  no_inner = ap (λ (b : Bool). inner_variables b body) x.can.serial

  module _ (scope other : Scope) (beside : AreBeside w scope other) (front behind : List Act) (s : Store) (executed : IsExecuted p t start l size scope front (run p old_loop l scope s).acts behind s) (goes : finish_of (run p old_loop l scope s).ending ≡ goes_on) where
    abbrev pub old : IsMadeOfTrips p d body l scope s
    old = trips.old K x.some x.few p q l loop.head loop.body w x.counts x.can scope other beside s goes

    abbrev pub e0 : Entered
    e0 = trips.e K x.some x.few p q l loop.head loop.body w x.counts x.can scope other beside s goes

    abbrev pub z0 : Entered
    z0 = trips.z K x.some x.few p q l loop.head loop.body w x.counts x.can scope other beside s goes

    abbrev pub scope_new : ℕ → Scope
    scope_new = trips.new_scope K x.some x.few p q l loop.head loop.body w x.counts x.can scope other beside s goes

    abbrev pub seen_new : ℕ → List Seen
    seen_new = trips.new_seen K x.some x.few p q l loop.head loop.body w x.counts x.can scope other beside s goes

    abbrev pub in_new : ℕ → Entered
    in_new = trips.new_in K x.some x.few p q l loop.head loop.body w x.counts x.can scope other beside s goes

    abbrev pub place_new : ℕ → Place
    place_new = trips.new_place K x.some x.few p q l loop.head loop.body w x.counts x.can scope other beside s goes

    abbrev pub names : Cell → Cell
    names = strip_names p scope l (q.number (l + 1)) K

    abbrev pub old_trip : ℕ → List Act
    old_trip = old.trip

    abbrev pub new_trip : ℕ → List Act
    new_trip = trips.new_trip K x.some x.few p q l loop.head loop.body w x.counts x.can scope other beside s goes

    pub done : (i : ℕ) → 1 ≤ i → i ≤ e0.count → trips.IsTripDone K x.some x.few p q l loop.head loop.body w x.counts x.can scope other beside s goes i (new_trip i)
    done = trips.new_trips_are K x.some x.few p q l loop.head loop.body w x.counts x.can scope other beside s goes

    pub count_is : e0.count ≡ whole K x.some old.bounds.first old.bounds.last
    count_is = trips.count_is K x.some x.few p q l loop.head loop.body w x.counts x.can scope other beside s goes

    strips_count : z0.count ≡ strips K x.some old.bounds.first old.bounds.last
    strips_count = trips.strips_count K x.some x.few p q l loop.head loop.body w x.counts x.can scope other beside s goes

    abbrev pub at : Place
    at = place_of p l scope

    abbrev pub new_at : Place
    new_at = place_of q l other

    abbrev pub old_seen : List Seen
    old_seen = bounds_seen p d scope s

    abbrev pub outer_seen : List Seen
    outer_seen = bounds_seen q h other s

    abbrev pub number_of : ℕ → ℕ → ℕ
    number_of a b = (a - 1) * K + b

    abbrev numbers : List ℕ
    numbers = range_with_len 1 e0.count

    abbrev old_row : ℕ → List Knot
    old_row i = block i i ∷ control (trip_end e0 scope at i) ∷ []

    abbrev new_row : ℕ → List Knot
    new_row = nest_row outer_seen z0 other new_at seen_new in_new scope_new place_new number_of number_of

    abbrev pub its_weave : Weave
    its_weave = record {
      names = names;
      idle = idle;
      old = flat_map old_row numbers;
      new = flat_map new_row (range_with_len 1 z0.count);
      acts = λ i j. old_trip i;
      others = λ i j. new_trip i;
    }

    abbrev pub old_entry : Act
    old_entry = loop_entry old_seen e0 scope at

    abbrev pub new_entry : Act
    new_entry = loop_entry outer_seen z0 other new_at

    abbrev old_acts : List Act
    old_acts = old_entry ∷ old_list its_weave

    abbrev pub new_acts : List Act
    new_acts = new_entry ∷ new_list its_weave

    -- the lists are woven so
    rows_are : old_list its_weave ≡ trips_in_order e0 scope at old_trip 1 e0.count
    rows_are = knotted_rows its_weave.acts old_row numbers ∙ (λ k. flat_map (λ i. old_trip i ++ append-nil (trip_end e0 scope at i) k) numbers)

    pub whole_old : (run p old_loop l scope s).acts ≡ old_acts
    whole_old =
        old.acts
        ∙ ap (λ (acts : List Act). old_entry ∷ acts) ((λ k. trips_in_order e0 scope at old_trip 1 e0.count ++ close_in_order e0 scope at x.can.serial k) ∙ append-nil (trips_in_order e0 scope at old_trip 1 e0.count) ∙ sym rows_are)

    whole_new : new_acts ≡ trips.new_whole K x.some x.few p q l loop.head loop.body w x.counts x.can scope other beside s goes
    whole_new = nest_acts outer_seen z0 other new_at seen_new in_new scope_new place_new number_of number_of its_weave.others refl (λ a. x.can.serial)

    replayed : Replays (run q new_loop l other) new_acts goes_on
    replayed = subst (λ (acts : List Act). Replays (run q new_loop l other) acts goes_on) (sym whole_new) (trips.new_replays K x.some x.few p q l loop.head loop.body w x.counts x.can scope other beside s goes)

    -- an act of the old loop is one of the run
    pub in_run : (a : Act) → IsIn a (run p old_loop l scope s).acts → IsIn a (run_of t data_bytes).acts
    in_run a i = subst (IsIn a) (sym executed.whole) (in_right a front ((run p old_loop l scope s).acts ++ behind) (in_left a (run p old_loop l scope s).acts behind i))

    behind_in_run : (a : Act) → IsIn a behind → IsIn a (run_of t data_bytes).acts
    behind_in_run a i = subst (IsIn a) (sym executed.whole) (in_right a front ((run p old_loop l scope s).acts ++ behind) (in_right a (run p old_loop l scope s).acts behind i))

    -- iteration i
    pub trip_part : (i : ℕ) → 1 ≤ i → i ≤ e0.count → IsPart (run p old_loop l scope s).acts (old_trip i)
    trip_part i from to = subst (λ (acts : List Act). IsPart acts (old_trip i)) (sym old.acts) (trip_in_loop old_seen e0 scope at old_trip i from to)

    pub trip_in_run : (i : ℕ) → 1 ≤ i → i ≤ e0.count → (a : Act) → IsIn a (old_trip i) → IsIn a (run p old_loop l scope s).acts
    trip_in_run i from to a j = let part = trip_part i from to in subst (IsIn a) (sym part.is) (in_right a part.before (old_trip i ++ part.behind) (in_left a (old_trip i) part.behind j))

    there : (i : ℕ) → 1 ≤ i → i ≤ e0.count → (v : Store) × IsTrip p body l scope e0 i v (old_trip i)
    there i from to = (_, old.are i from to)

    trip_unread : (i : ℕ) → 1 ≤ i → i ≤ e0.count → ReadNone idle (old_trip i)
    trip_unread i from to =
        let it = there i from to in
        all_unread strip_variables (old_trip i) (λ v m. by v it (is_same_text v w) refl m)
      where
        by : (v : List ℕ) → (u : Store) × IsTrip p body l scope e0 i u (old_trip i) → (b : Bool) → is_same_text v w ≡ b → b || is_among v (loop_variables (Do loop.head loop.body)) ≡ true → ReadNone (is_cell_of v) (old_trip i)
        by v it true e m = subst (λ (y : List ℕ). ReadNone (is_cell_of y) (old_trip i)) (sym (same_is v w e)) (other_acts w (old_trip i) (λ a j. leaves_alone t x.valid w x.name x.absent data_bytes a (in_run a (trip_in_run i from to a j))))
        by v it false e m = subst (ReadNone (is_cell_of v)) (sym it.1.is) (contained_unread p t l loop v (variables_unnamed t x.valid l loop v m) x.contained m scope (frame e0 i) it.0 refl)

    -- the blocks
    known : (i j : ℕ) → IsIn (block i j) its_weave.old → (1 ≤ i) × (i ≤ e0.count)
    known i j k =
        let r = in_rows old_row numbers (block i j) k in
        let within = in_numbers e0.count 1 r.0 r.1 in
        let is : i ≡ r.0 = by r.0 r.2 in
        let low = within.0 in
        let high = within.1 in
        (omega (arith, is, low), omega (arith, is, high))
      where
        by : (n : ℕ) → IsIn (block i j) (old_row n) → i ≡ n
        by n (inl e) = let same : i ≡ n = cc in same
        by n (inr (inl e)) = absurd cc
        by n (inr (inr k)) = absurd k

    unread : (i j : ℕ) → IsIn (block i j) its_weave.old → ReadNone idle (old_trip i)
    unread i j k = let it = known i j k in trip_unread i it.0 it.1

    renamed : (i j : ℕ) → IsIn (block i j) its_weave.old → Renamed names (without idle (old_trip i)) (without idle (new_trip i))
    renamed i j k =
        let it = known i j k in
        (likewise_stripped names idle (strips_idle p scope l (q.number (l + 1)) K strip_variables) own_number (turns_of (frame e0 i ∷ scope)) (turns_of (frame (in_new ((i - 1) / K + 1)) ((i - 1) % K + 1) ∷ scope_new ((i - 1) / K + 1))) (old_trip i) (new_trip i) (trip_unread i it.0 it.1)
        (likewise_idle true strip_variables names own_number (turns_of (frame e0 i ∷ scope)) (turns_of (frame (in_new ((i - 1) / K + 1)) ((i - 1) % K + 1) ∷ scope_new ((i - 1) / K + 1))) (old_trip i) (new_trip i) (done i it.0 it.1).likewise)).0

    -- a new block is of an iteration
    pub new_known : (m n : ℕ) → IsIn (block m n) its_weave.new → (1 ≤ m) × (m ≤ e0.count)
    new_known m n k =
        let r = pair_of outer_seen z0 other new_at seen_new in_new scope_new place_new number_of number_of m n (inr k) in
        let it = trips.of_strip K x.some x.few p q l loop.head loop.body w x.counts x.can scope other beside s goes r.outer r.inner_number r.from r.to r.inner_from r.inner_to in
        let low = it.from in
        let high = it.to in
        let many = count_is in
        let is = r.one in
        (omega (arith, is, low), omega (arith, is, high, many))

    -- controls write the variables of their loops
    old_controls : (c : List Act) → IsIn (control c) its_weave.old → WriteWithin idle (touches_of c)
    old_controls c i =
        let r = in_rows old_row numbers (control c) i in
        by r.0 r.2
      where
        by : (n : ℕ) → IsIn (control c) (old_row n) → WriteWithin idle (touches_of c)
        by n (inl e) = absurd cc
        by n (inr (inl e)) = subst (λ (a : List Act). WriteWithin idle (touches_of a)) (sym (same_control c (trip_end e0 scope at n) e)) (end_within strip_variables e0 scope x.can.serial x.can.private no_inner own_named at n)
        by n (inr (inr k)) = absurd k

    abbrev Controls : List Act → Type 0
    Controls = IsInnerControl z0 other new_at seen_new in_new scope_new place_new

    pub inner_of : (c : List Act) → IsIn (control c) its_weave.new → IsInnerControl z0 other new_at seen_new in_new scope_new place_new c
    inner_of c i = inner_control outer_seen z0 other new_at seen_new in_new scope_new place_new number_of number_of c i

    new_controls : (c : List Act) → IsIn (control c) its_weave.new → WriteWithin idle (touches_of c)
    new_controls c i = by (inner_of c i)
      where
        by : Controls c → WriteWithin idle (touches_of c)
        by (inner_entry a from to e) = subst (λ (b : List Act). WriteWithin idle (touches_of b)) (sym e) (entry_within strip_variables (in_new a) (scope_new a) x.can.serial x.can.private no_inner own_named (seen_new a) (place_new a))
        by (inner_end a b from to e) = subst (λ (b : List Act). WriteWithin idle (touches_of b)) (sym e) (end_within strip_variables (in_new a) (scope_new a) x.can.serial x.can.private no_inner own_named (place_new a) b)
        by (outer_end a from to e) = subst (λ (b : List Act). WriteWithin idle (touches_of b)) (sym e) (end_within strip_variables z0 other refl refl refl new_named new_at a)

    -- what the entries of the inner loop read: scalars that keep their values
    around_it : AreDuring p t start l (run p old_loop l scope s).acts s
    around_it = whole_outermost p t start l loop scope s executed.place (as_done executed) (ends_so (run p old_loop l scope s).ending goes)

    during : IsDuring p t l (store_after around_it.front start) s
    during = around_it.during [] (run p old_loop l scope s).acts refl

    here : IsPlaceWith p.constants t l (told_at scope) scope
    here = place_with p t l (λ m n same. same) scope executed.place

    limit_fixed : (c : Cell) (v : Content) → IsIn (cell_seen c v) (value (names_in p scope) d.last s).seen → IsOfFixed p.constants t l c
    limit_fixed c v i =
        read_so (IsOfFixed p.constants t l) (value (names_in p scope) d.last s).seen (value (names_in p scope) d.last s).seen
        (plain_again p p refl t l d.last x.plain.built (told_at scope) scope scope here here (store_after around_it.front start) s s during during).seen c v i

    pub record IsSteadyRead (v : Touch) : Type 0 where
      pub fixed : IsOfFixed p.constants t l v.cell
      pub other_name : is_cell_of w v.cell ≡ false
      pub held : s v.cell ≡ v.content

    limit_other : (c : Cell) (v : Content) → IsIn (cell_seen c v) (value (names_in p scope) d.last s).seen → is_cell_of w c ≡ false
    limit_other c v i =
        let has = limits_parted (names_in p scope) d s old.bounds old.come in
        let r = seen_touch 1 old_seen c v (subst (IsIn (cell_seen c v)) (sym has.seen) (in_right (cell_seen c v) (value (names_in p scope) d.first s).seen (value (names_in p scope) d.last s).seen i)) in
        ap (is_cell_of w) (sym r.2) ∙ leaves_alone t x.valid w x.name x.absent data_bytes old_entry (in_run old_entry (subst (IsIn old_entry) (sym whole_old) (inl refl))) r.0 (in_left r.0 (numbered 1 old_seen) (exit_when_none e0.count e0 scope) r.1)

    pub steady_read : (c : List Act) (v : Touch) → IsIn (control c) its_weave.new → IsIn v (touches_of c) → v.manner ≡ reads → IsSteadyRead v
    steady_read c v i j m = by (inner_of c i)
      where
        by : Controls c → IsSteadyRead v
        by (inner_entry a from to e) =
            let r = entry_reads strip_variables (in_new a) (scope_new a) x.can.serial x.can.private no_inner own_named (seen_new a) (place_new a) v (subst (λ (b : List Act). IsIn v (touches_of b)) e j) m in
            let k = inner_reads K x.some x.few p q l d body w x.counts x.can scope other beside s old.bounds old.come a from to v.cell v.content r in
            record { fixed = limit_fixed v.cell v.content k; other_name = limit_other v.cell v.content k; held = held_in s (value (names_in p scope) d.last s).seen v.cell v.content ((value_told (names_in p scope) d.last).holds s) k }
        by (inner_end a b from to e) = absurd (end_reads strip_variables (in_new a) (scope_new a) x.can.serial x.can.private no_inner own_named (place_new a) b v (subst (λ (b : List Act). IsIn v (touches_of b)) e j) m)
        by (outer_end a from to e) = absurd (end_reads strip_variables z0 other refl refl refl new_named new_at a v (subst (λ (b : List Act). IsIn v (touches_of b)) e j) m)

    fixed_counts : (c : Cell) → IsOfFixed p.constants t l c → is_cell_of w c ≡ false → (idle c ≡ false) × (apart c ≡ false)
    fixed_counts c f none_new =
        let none : is_among f.0 strip_variables ≡ false = (λ i. other_text i || others i) in
        (ap idle f.1 ∙ none, ap apart f.1 ∙ none)
      where
        other_text : is_same_text f.0 w ≡ false
        other_text = false_unless (is_same_text f.0 w) (λ m. both_ways (is_cell_of w c) none_new (ap (is_cell_of w) f.1 ∙ (ap (is_same_text w) (same_is f.0 w m) ∙ text_itself w)))

        others : is_among f.0 (loop_variables (Do loop.head loop.body)) ≡ false
        others = false_unless (is_among f.0 (loop_variables (Do loop.head loop.body))) (λ m. both_ways (is_among f.0 (all_loop_variables t.body)) f.2.other (loops_of_program t l loop f.0 m))

    none_in_part : (most acts : List Act) (c : Cell) → IsPart most acts → written most c ≡ false → written acts c ≡ false
    none_in_part most acts c part none = false_unless (written acts c) (λ m. both_ways (written most c) none
        (ap (λ (ys : List Act). written ys c) part.is ∙ written_append part.before (acts ++ part.behind) c ∙ or_right (written part.before c) (written (acts ++ part.behind) c) (written_append acts part.behind c ∙ or_left (written acts c) (written part.behind c) m)))

    pub fixed_unwritten : (c : Cell) → IsOfFixed p.constants t l c → written (run p old_loop l scope s).acts c ≡ false
    fixed_unwritten c f = by scope executed.place executed.outer
      where
        by : (place : Scope) → IsPlaceOf p t l place → IsInOutermost p t start l place (run p old_loop l scope s).acts s → written (run p old_loop l scope s).acts c ≡ false
        by [] place outer =
            let none : nest_round t l ≡ [] = no_turns p.number (nest_round t l) place.turns in
            let same_number : l ≡ outermost_or l (nest_round t l) = ap (outermost_or l) (sym none) in
            plain.fixed_unwritten p t l c f (record { head = d; body = body; is = subst (λ (n : ℕ). statement_with n t ≡ Some (Do loop.head loop.body)) same_number loop.is }) l scope s
        by (r ∷ rs) place outer =
            none_in_part (run p (Do outer.loop.head outer.loop.body) (outermost_or l (nest_round t l)) [] outer.first).acts (run p old_loop l scope s).acts c
            (record { before = outer.part.front; behind = outer.part.behind; is = outer.part.is }) (plain.fixed_unwritten p t l c f outer.loop (outermost_or l (nest_round t l)) [] outer.first)

    -- the blocks stand in the same order
    abbrev its_block : ℕ → Block
    its_block i = block_at its_weave.acts i i

    old_blocks : blocks_in its_weave.acts its_weave.old ≡ old_trips its_weave.acts e0.count (λ k. k)
    old_blocks = blocks_rows its_weave.acts old_row numbers ∙ flat_map_single its_block numbers

    new_blocks : blocks_in its_weave.acts its_weave.new ≡ new_trips its_weave.acts e0.count (λ k. k)
    new_blocks =
        nest_blocks outer_seen z0 other new_at seen_new in_new scope_new place_new number_of number_of its_weave.acts
        ∙ ap (λ (m : ℕ). flat_map (λ a. flat_map (λ b. its_block ((a - 1) * K + b) ∷ []) (range_with_len 1 (in_new a).count)) (range_with_len 1 m)) strips_count
        ∙ strips_joined K x.some old.bounds.first old.bounds.last (λ i. its_block i ∷ [])
        ∙ ap (λ (m : ℕ). flat_map (λ i. its_block i ∷ []) (range_with_len 1 m)) (sym count_is)
        ∙ flat_map_single its_block numbers

    abbrev Ordered : List Block → List Block → Type 0
    Ordered bs cs = EachOnce bs × IsReordered bs cs × KeepsOrder (block_conflict idle) bs cs

    ordered : Ordered (blocks_in its_weave.acts its_weave.old) (blocks_in its_weave.acts its_weave.new)
    ordered =
        subst (λ (bs : List Block). Ordered bs (blocks_in its_weave.acts its_weave.new)) (sym old_blocks)
        (subst (Ordered (old_trips its_weave.acts e0.count (λ k. k))) (sym new_blocks)
        (trips_stand idle its_weave.acts e0.count (λ k. k) (λ k. k) (record { new = λ k from to. (from, to, refl); old = λ k from to. (from, to, refl) }) (λ k j from less to crossing. absurd (omega (arith, less, crossing)))))

    -- cells that the bodies touch
    abbrev Reach : Cell → Type 0
    Reach = StripReached p scope l (q.number (l + 1)) K e0.count

    pub reached_trip : (i : ℕ) → 1 ≤ i → i ≤ e0.count → (a : Act) → IsIn a (old_trip i) → (v : Touch) → IsIn v a.touches → StripReached p scope l (q.number (l + 1)) K e0.count v.cell
    reached_trip i from to a m v n =
        let it = there i from to in
        elim (body_reaches p l d body old_seen old.bounds scope i it.0 a (subst (IsIn a) it.1.is m) v n) [
          | inl own ↦ inl own
          | inr r ↦ inr (i, from, to, r.name, r.rest, r.is)
        ]

    reached_counted : (c : Cell) → touch (counted its_weave) c ≡ true → Reach c
    reached_counted c m =
        let r = touched_in (counted its_weave) c m in
        let a = without_from idle (acts_in_blocks (blocks_in its_weave.acts its_weave.old)) r.0 r.1 in
        let b = of_block (blocks_in its_weave.acts its_weave.old) a.0 a.1 in
        let y = in_rows (λ i. its_block i ∷ []) numbers b.0 (subst (IsIn b.0) (blocks_rows its_weave.acts old_row numbers) b.1) in
        let within = in_numbers e0.count 1 y.0 y.1 in
        let v : IsIn r.2 a.0.touches = touches_in idle a.0.touches r.2 (subst (λ (z : Act). IsIn r.2 z.touches) a.2 r.3) in
        subst Reach r.4 (reached_trip y.0 within.0 (let high = within.1 in omega (arith, high)) a.0 (acts_of y.0 b.0 y.2 a.0 b.2) r.2 v)
      where
        acts_of : (i : ℕ) (b : Block) → IsIn b (its_block i ∷ []) → (a : Act) → IsIn a b.acts → IsIn a (old_trip i)
        acts_of i b (inl e) a k = subst (λ (z : Block). IsIn a z.acts) e k
        acts_of i b (inr k) a m = absurd k

    -- copies inside the loop: nobody else has to do with them
    its : (c : Cell) → IsCopyInside p scope l size c → IsTheirs front behind s c
    its c copy = theirs p scope l size c copy t (lines data_bytes) front (run p old_loop l scope s).acts behind s executed

    hidden : (c : Cell) → IsCopyInside p scope l size c → shown c ≡ false
    hidden c copy = ap shown copy.is

    unwanted_copy : (c : Cell) → IsCopyInside p scope l size c → wants shown behind c ≡ true → ⊥
    unwanted_copy c copy m = both_ways (wants shown behind c) ((its c copy).unwanted shown (hidden c copy)) m

    unagreed_copy : (c : Cell) → IsCopyInside p scope l size c → agreed apart shown behind c ≡ true → ⊥
    unagreed_copy c copy m = unwanted_copy c copy (agreed_wanted apart shown behind c (ap apart copy.is) m)

    entry_unwritten : (c : Cell) → IsCopyInside p scope l size c → written (old_entry ∷ []) c ≡ false
    entry_unwritten c copy = false_unless (written (old_entry ∷ []) c) (λ m.
        let r = write_in (old_entry ∷ []) c m in
        elim r.1 [
          | inl e ↦ own_apart p scope l size c (subst (IsOwn p scope) r.4 (entry_own p scope d s e0 r.2 (subst (λ (a : Act). IsIn r.2 a.touches) e r.3))) copy
          | inr k ↦ absurd k
        ])

    fine : has_fault (finish_of (run_all p (alone old_loop) l scope s).ending) ≡ false
    fine = ap (λ (r : Run). has_fault (finish_of r.ending)) (run_alone p old_loop l scope s) ∙ ap has_fault goes

    unneeded_copy : (c : Cell) → IsCopyInside p scope l size c → needs (old_list its_weave) c ≡ true → ⊥
    unneeded_copy c copy m =
        let most : needs old_acts c ≡ true =
        needs_append (old_entry ∷ []) (old_list its_weave) c
        ∙ or_right (needs (old_entry ∷ []) c) (not (written (old_entry ∷ []) c) && needs (old_list its_weave) c) ((λ i. not (entry_unwritten c copy i) && needs (old_list its_weave) c) ∙ m) in
        both_ways (needs old_acts c)
        (ap (λ (acts : List Act). needs acts c) (sym (ap (λ (r : Run). r.acts) (run_alone p old_loop l scope s) ∙ whole_old)) ∙ theirs_unneeded p scope l size c copy (alone old_loop) l scope s (its c copy).undefined fine)
        most

    moves : (c : Cell) → (names c ≡ c) ⊎ IsOfLoop p scope l c
    moves = strips_or_stays p scope l (q.number (l + 1)) K

    keeps_name : (c : Cell) → (IsCopyInside p scope l size c → ⊥) → names c ≡ c
    keeps_name c none = elim (moves c) [ inl e ↦ e | inr m ↦ absurd (none (cells.inside p scope l size c some m)) ]

    -- where the stores agree: at first, behind the entry, and behind the loops but for the variables
    abbrev before : Cell → Bool
    before c = agreed apart shown (old_acts ++ behind) c

    abbrev middle : Cell → Bool
    middle c = agreed apart shown (old_list its_weave ++ behind) c && not (idle c)

    abbrev almost : Cell → Bool
    almost c = agreed apart shown behind c && not (idle c)

    entry_suits : Suit idle before middle (old_entry ∷ [])
    entry_suits = record {
      needed = λ c k. needed_agreed apart shown (old_entry ∷ []) (old_list its_weave ++ behind) c k;
      wanted = λ c k.
          let parts = and_parts (agreed apart shown (old_list its_weave ++ behind) c) (not (idle c)) k in
          (not_so (idle c) parts.1, agreed_before_or_written apart shown (old_entry ∷ []) (old_list its_weave ++ behind) c parts.0);
    }

    rows_unread : ReadNone idle (old_list its_weave)
    rows_unread = subst (ReadNone idle) (sym rows_are) (rows e0.count 1 (omega arith) (omega arith))
      where
        end_unread : (i : ℕ) → ReadNone idle (trip_end e0 scope at i)
        end_unread i = subst (ReadNone idle) (sym (end_in_order e0 scope at i (e0.count - i) x.can.serial refl)) (go (e0.count - i == 0), tt)
          where
            go : (b : Bool) → LeaveUnread idle (if b then exit_touches e0 scope else [])
            go true = exit_unread idle scope e0
            go false = tt

        rows : (m a : ℕ) → 1 ≤ a → a + m ≤ e0.count + 1 → ReadNone idle (trips_in_order e0 scope at old_trip a m)
        rows zero a from to = tt
        rows (suc m) a from to =
            none_append idle (old_trip a ++ trip_end e0 scope at a) (trips_in_order e0 scope at old_trip (a + 1) m)
            (none_append idle (old_trip a) (trip_end e0 scope at a) (trip_unread a from (omega (arith, to))) (end_unread a)) (rows m (a + 1) (omega arith) (omega (arith, to)))

    rest_suits : Suit idle middle almost (old_list its_weave)
    rest_suits = record {
      needed = λ c k. both (needed_agreed apart shown (old_list its_weave) behind c k) (needed_counts idle (old_list its_weave) c rows_unread k);
      wanted = λ c k.
          let parts = and_parts (agreed apart shown behind c) (not (idle c)) k in
          let out = not_so (idle c) parts.1 in
          (out, elim (agreed_before_or_written apart shown (old_list its_weave) behind c parts.0) [ inl m ↦ inl (both m out) | inr m ↦ inr m ]);
    }

    -- what a new control reads is steady
    entry_leaves : (c : Cell) → IsOfFixed p.constants t l c → written (old_entry ∷ []) c ≡ false
    entry_leaves c f = none_in_part old_acts (old_entry ∷ []) c (record { before = []; behind = old_list its_weave; is = refl }) (ap (λ (acts : List Act). written acts c) (sym whole_old) ∙ fixed_unwritten c f)

    rest_leaves : (c : Cell) → IsOfFixed p.constants t l c → written (old_list its_weave) c ≡ false
    rest_leaves c f = none_in_part old_acts (old_list its_weave) c (record { before = old_entry ∷ []; behind = []; is = ap (λ (acts : List Act). old_entry ∷ acts) (sym (append-nil (old_list its_weave))) }) (ap (λ (acts : List Act). written acts c) (sym whole_old) ∙ fixed_unwritten c f)

    steady : (c : List Act) (v : Touch) → IsIn (control c) its_weave.new → IsIn v (touches_of c) → v.manner ≡ reads → IsSteady its_weave middle (store_after (old_entry ∷ []) s) v
    steady c v i j m =
        let r = steady_read c v i j m in
        let counts = fixed_counts v.cell r.fixed r.other_name in
        record {
          held = after_other (old_entry ∷ []) s v.cell (entry_leaves v.cell r.fixed) ∙ r.held;
          agreed = both (ap (λ (b : Bool). not b || wants shown (old_list its_weave ++ behind) v.cell) counts.1) counts.0;
          counts = counts.0;
          unwritten = λ f k named. both_ways (written (old_list its_weave) f) (rest_leaves f (subst (IsOfFixed p.constants t l) (sym (own_source f v.cell r.fixed named)) r.fixed)) (counted_writes its_weave f k);
        }
      where
        own_source : (f c : Cell) → IsOfFixed p.constants t l c → names f ≡ c → f ≡ c
        own_source f c fixed named = elim (moves f) [
          | inl e ↦ sym e ∙ named
          | inr moved ↦ (let there = strips_inside p scope l (q.number (l + 1)) K f moved in absurd (no_scalar fixed.0 there.name (iterations_of (turns_of scope) ++ record { statement = p.number l; number = there.number } ∷ there.rest) (sym fixed.1 ∙ sym named ∙ there.is)))
        ]
          where
            no_scalar : (y n : List ℕ) (path : List Iteration) → Scalar y ≡ Private n path → ⊥
            no_scalar y n path e = absurd cc

    woven : IsWoven its_weave middle almost (store_after (old_entry ∷ []) s)
    woven = record {
      controls = old_controls;
      new_controls = new_controls;
      steady = steady;
      unread = unread;
      renamed = renamed;
      one_to_one = λ c f m n e. strips_apart p scope l (q.number (l + 1)) K e0.count c f (reached_counted c m) (reached_counted f n) e;
      idle_names = λ c m. strips_idle p scope l (q.number (l + 1)) K strip_variables c ∙ (counted_touched its_weave c unread m).0;
      once = ordered.0;
      reordered = ordered.1;
      kept = ordered.2;
      suit = rest_suits;
      own = λ c m. keeps_name c (λ copy. unneeded_copy c copy (counted_needed its_weave c old_controls unread m));
      own_behind = λ c m.
          let wanted = (and_parts (agreed apart shown behind c) (not (idle c)) m).0 in
          let stays = keeps_name c (λ copy. unagreed_copy c copy wanted) in (
            stays,
            (λ f k r. elim (moves f) [
              | inl own ↦ sym own ∙ r ∙ stays
              | inr moved ↦ absurd (unagreed_copy c (cells.inside p scope l size c some (subst (IsOfLoop p scope l) (r ∙ stays) (strips_inside p scope l (q.number (l + 1)) K f moved))) wanted)
            ]),
          );
    }

    -- the entry of the DO over the strips stands for that of the old one
    pub outer_come : limits (names_in q other) h s ≡ limits (names_in p scope) d s
    outer_come = outer_limits K x.some x.few p q l d body w x.counts x.can scope other beside s old.bounds old.come

    none_left : (y : Entered) (S : Scope) → y.head.private ≡ [] → y.inner ≡ [] → idle (cell_of S y.head.variable) ≡ true → touches_without idle (exit_touches y S) ≡ []
    none_left y S private inner named =
        dropped_first idle (write_touch (cell_of S y.head.variable) (left_in_variable y) 0) (undefined_by S y.behind_bounds y.head.private ++ undefined_all S y.inner) named
        ∙ (λ i. touches_without idle (undefined_by S y.behind_bounds (private i) ++ undefined_all S (inner i)))

    both_empty : z0.count == 0 ≡ e0.count == 0
    both_empty = by (z0.count) (e0.count) refl refl
      where
        first_there : (m : ℕ) → z0.count ≡ suc m → e0.count ≡ 0 → ⊥
        first_there m some none =
            let strips_is = strips_count in
            let less = (are_strips K x.some old.bounds.first old.bounds.last).first 1 (omega arith) (omega (arith, strips_is, some)) in
            let count = count_is in
            omega (arith, less, none, count)

        all_there : (m : ℕ) → z0.count ≡ 0 → e0.count ≡ suc m → ⊥
        all_there m none some =
            let all = (are_strips K x.some old.bounds.first old.bounds.last).all in
            let product : strips K x.some old.bounds.first old.bounds.last * K ≡ 0 * K = ap (λ (n : ℕ). n * K) (sym strips_count ∙ none) in
            let zero_is = zero-mul K in
            let count = count_is in
            omega (arith, all, product, zero_is, some, count)

        by : (m n : ℕ) → z0.count ≡ m → e0.count ≡ n → z0.count == 0 ≡ e0.count == 0
        by zero zero e f = λ i. (e ∙ sym f) i == 0
        by zero (suc n) e f = absurd (all_there n e f)
        by (suc m) zero e f = absurd (first_there m e f)
        by (suc m) (suc n) e f = (let a : (z0.count == 0) ≡ false = grind (arith, eqb-true, e) in a) ∙ sym (let b : (e0.count == 0) ≡ false = grind (arith, eqb-true, f) in b)

    entries : IsPutFor idle old_entry new_entry
    entries = record {
      reading = numbered 1 old_seen;
      rest = exit_when_none e0.count e0 scope;
      new_reading = numbered 1 outer_seen;
      new_rest = exit_when_none z0.count z0 other;
      in_old = refl;
      in_new = refl;
      writes_nothing = no_writes 1 old_seen;
      new_writes_nothing = no_writes 1 outer_seen;
      among = λ y i m. let j = subst (λ (seen : List Seen). IsIn y (numbered 1 seen)) (ap (λ (r : Evaluated Limits). r.seen) outer_come) i in (y, j, m, refl, refl);
      same = subst (λ (b : Bool). AreSameOutside idle (exit_when_none e0.count e0 scope) (if b then exit_touches z0 other else [])) (sym both_empty) (go (e0.count == 0));
    }
      where
        no_writes : (n : ℕ) (seen : List Seen) → WriteWithin nothing (numbered n seen)
        no_writes n [] = tt
        no_writes n (cell_seen c content ∷ more) = (tt, no_writes (suc n) more)
        no_writes n (index_seen c v ∷ more) = (tt, no_writes n more)

        old_none : touches_without idle (exit_touches e0 scope) ≡ []
        old_none = none_left e0 scope x.can.private no_inner (cell_among strip_variables scope d.variable ∙ own_named)

        new_none : touches_without idle (exit_touches z0 other) ≡ []
        new_none = none_left z0 other refl refl (cell_among strip_variables other w ∙ new_named)

        go : (b : Bool) → AreSameOutside idle (if b then exit_touches e0 scope else []) (if b then exit_touches z0 other else [])
        go true = (exit_unread idle scope e0, subst (λ (ts : List Touch). AreRenamed own_name (of_cells ts) (of_cells (touches_without idle (exit_touches z0 other)))) (sym old_none) (subst (λ (us : List Touch). AreRenamed own_name (of_cells []) (of_cells us)) (sym new_none) tt))
        go false = (tt, tt)

    fits : Fits old_acts s
    fits = subst (λ (acts : List Act). Fits acts s) whole_old ((run_told p old_loop l scope).fits s)

    weak : StandsFor (record { agreed = before; old = old_acts; new = new_acts }) almost s
    weak =
        both_stand before middle almost (old_entry ∷ []) (new_entry ∷ []) (old_list its_weave) (new_list its_weave) s (put_stands idle before middle old_entry new_entry s (fits.0, tt) entry_suits entries)
        (woven_stands its_weave middle almost (store_after (old_entry ∷ []) s) fits.1 woven)

    -- so the new loops do these acts
    new_run : run q new_loop l other s ≡ record { acts = new_acts; ending = ending_with goes_on (store_after new_acts s) }
    new_run = replayed s (weak s (λ c k. refl)).0

    pub new_run_is : (run q new_loop l other s).acts ≡ new_acts
    new_run_is = ap (λ (r : Run). r.acts) new_run

    -- what is wanted behind and has a variable's name nobody writes here
    exit : IsExit p t start l scope behind
    exit = execution_left p t start l loop scope s ends executed.place (as_done executed) goes

    -- nobody wants a cell of the new variable
    unwanted_new : (c : Cell) → is_cell_of w c ≡ true → wants shown behind c ≡ false
    unwanted_new c named = unwanted_name t x.valid w x.name x.absent data_bytes behind behind_in_run c named

    dead : (v : List ℕ) → is_among v strip_variables ≡ true → wants shown behind (cell_of scope v) ≡ false
    dead v i = by (is_same_text v w) refl i
      where
        by : (b : Bool) → is_same_text v w ≡ b → b || is_among v (loop_variables (Do loop.head loop.body)) ≡ true → wants shown behind (cell_of scope v) ≡ false
        by true e m = unwanted_new (cell_of scope v) (ap (λ (y : List ℕ). is_cell_of y (cell_of scope v)) (sym (same_is v w e)) ∙ cell_named scope v)
        by false e m = unwanted_behind p one t v (variables_unnamed t x.valid l loop v m) unstopping start l scope behind exit ((x.contained v (record { loop = loop; among = m })).1) shown (shown_scalar t v scope)

    unreached : (c : Cell) → idle c ≡ true → wants shown behind c ≡ true → IsOwn p scope c ⊎ IsCopyInside p scope l size c → ⊥
    unreached c i m (inl (inl own)) =
        let named : is_among own.0 strip_variables ≡ true = sym (cell_among strip_variables scope own.0) ∙ ap idle (sym own.1) ∙ i in
        both_ways (wants shown behind c) (ap (wants shown behind) own.1 ∙ dead own.0 named) m
    unreached c i m (inl (inr none)) = both_ways (is_of_scalar c) none (among_of_scalar strip_variables c i)
    unreached c i m (inr copy) = unwanted_copy c copy m

    old_unwritten : (c : Cell) → idle c ≡ true → wants shown behind c ≡ true → written old_acts c ≡ false
    old_unwritten c i m = ap (λ (acts : List Act). written acts c) (sym whole_old) ∙ false_unless (written (run p old_loop l scope s).acts c) (λ k.
        let r = write_in (run p old_loop l scope s).acts c k in
        unreached c i m (subst (λ (y : Cell). IsOwn p scope y ⊎ IsCopyInside p scope l size y) r.4 (subst (λ (n : ℕ). IsOwn p scope r.2.cell ⊎ IsCopyInside p scope l n r.2.cell) (let many : statement_count (Do d body) ≡ size = omega arith in many) (run_reaches p old_loop l scope s r.0 r.1 r.2 r.3))))

    -- what the new acts write: variables of their loops, or what a body writes
    variable_wanted : (c : Cell) → idle c ≡ true → wants shown behind c ≡ true → c ≡ cell_of other d.variable → ⊥
    variable_wanted c i m e = unreached c i m (inl (inl (d.variable, e ∙ beside.cell d.variable head_absent)))

    strip_wanted : (c : Cell) → wants shown behind c ≡ true → c ≡ cell_of other w → ⊥
    strip_wanted c m e = both_ways (wants shown behind c) (unwanted_new c (ap (is_cell_of w) e ∙ cell_named other w)) m

    trip_wanted : (i : ℕ) → 1 ≤ i → i ≤ e0.count → (a : Act) → IsIn a (new_trip i) → (v : Touch) → IsIn v a.touches → is_write v.manner ≡ true → idle v.cell ≡ true → wants shown behind v.cell ≡ true → ⊥
    trip_wanted i from to a j v k write quiet m = by (likewise_accesses names nothing (record { element = λ y js. refl; input = refl; output = refl }) (λ c e. absurd cc) own_number (turns_of (frame e0 i ∷ scope)) (turns_of (frame (in_new ((i - 1) / K + 1)) ((i - 1) % K + 1) ∷ scope_new ((i - 1) / K + 1)))
        (old_trip i) (new_trip i) (done i from to).likewise (access_by a v) (accesses_in (new_trip i) a (access_by a v) j (access_in a a.touches v k (write_access v write))))
      where
        from_origin : (c : Cell) → StripReached p scope l (q.number (l + 1)) K e0.count c → v.cell ≡ names c → ⊥
        from_origin c (inl own) e = elim (moves c) [
          | inl stays ↦ unreached v.cell quiet m (subst (λ (y : Cell). IsOwn p scope y ⊎ IsCopyInside p scope l size y) (sym (e ∙ stays)) (inl own))
          | inr moved ↦ own_apart p scope l size c own (cells.inside p scope l size c some moved)
        ]
        from_origin c (inr r) e = unreached v.cell quiet m (inr (cells.inside p scope l size v.cell some (subst (IsOfLoop p scope l) (sym e) (strips_inside p scope l (q.number (l + 1)) K c (record { name = r.3; number = r.0; rest = r.4; is = r.5 })))))

        by : ((y : Access) × IsIn y (accesses (old_trip i)) × IsMadeLikewise names nothing own_number (turns_of (frame e0 i ∷ scope)) (turns_of (frame (in_new ((i - 1) / K + 1)) ((i - 1) % K + 1) ∷ scope_new ((i - 1) / K + 1))) y (access_by a v))
            ⊎ IsOnlyTold (new_trip i) (access_by a v) → ⊥
        by (inl y) =
            let b = accesses_from (old_trip i) y.0 y.1 in
            let u = touch_of b.0 b.0.touches y.0 b.2 in
            elim y.2.cell [
              | inl e ↦ from_origin u.0.cell (reached_trip i from to b.0 b.1 u.0 u.1) (e ∙ ap names (ap (λ (z : Access). z.cell) u.3))
              | inr e ↦ absurd (none_idle y.0.cell e.0)
            ]
          where
            none_idle : (c : Cell) → nothing c ≡ true → ⊥
            none_idle c e = absurd cc
        by (inr told) = let no : true ≡ false = sym write ∙ ap (λ (z : Access). z.writes) told.is ∙ ap is_write told.manner in absurd cc

    new_unwritten : (c : Cell) → idle c ≡ true → wants shown behind c ≡ true → written new_acts c ≡ false
    new_unwritten c i m = false_unless (written new_acts c) (λ k.
        let r = write_in new_acts c k in
        by r.0 r.1 r.2 r.3 r.4 r.5)
      where
        cell_wanted : (v : Touch) → v.cell ≡ c → (idle v.cell ≡ true) × (wants shown behind v.cell ≡ true)
        cell_wanted v e = (ap idle e ∙ i, ap (wants shown behind) e ∙ m)

        of_control : (acts : List Act) → Controls acts → (a : Act) → IsIn a acts → (v : Touch) → IsIn v a.touches → is_write v.manner ≡ true → v.cell ≡ c → ⊥
        of_control acts (inner_entry n from to e) a j v k write same = variable_wanted c i m (sym same ∙ entry_cell (in_new n) (scope_new n) x.can.serial x.can.private no_inner (seen_new n) (place_new n) a v (subst (λ (z : List Act). IsIn a z) e j) k write)
        of_control acts (inner_end n b from to e) a j v k write same = variable_wanted c i m (sym same ∙ end_cell (in_new n) (scope_new n) x.can.serial x.can.private no_inner (place_new n) b a v (subst (λ (z : List Act). IsIn a z) e j) k)
        of_control acts (outer_end n from to e) a j v k write same = strip_wanted c m (sym same ∙ end_cell z0 other refl refl refl new_at n a v (subst (λ (z : List Act). IsIn a z) e j) k)

        of_new_block : (m n : ℕ) → IsIn (block m n) its_weave.new → (a : Act) → IsIn a (new_trip m) → (v : Touch) → IsIn v a.touches → is_write v.manner ≡ true → v.cell ≡ c → ⊥
        of_new_block m n j a k v i write same =
            let r = new_known m n j in
            let wanted = cell_wanted v same in
            trip_wanted m r.0 r.1 a k v i write wanted.0 wanted.1

        by : (a : Act) → IsIn a new_acts → (v : Touch) → IsIn v a.touches → v.cell ≡ c → is_write v.manner ≡ true → ⊥
        by a (inl e) v k same write = strip_wanted c m (sym same ∙ entry_cell z0 other refl refl refl outer_seen new_at a v (inl e) k write)
        by a (inr j) v k same write = elim (of_knots its_weave.others its_weave.new a j) [
          | inl r ↦ of_control r.acts (inner_of r.acts r.stands) a r.among v k write same
          | inr r ↦ of_new_block r.one r.other r.stands a r.among v k write same
        ]

    stands : StandsFor (record { agreed = before; old = old_acts; new = new_acts }) (agreed apart shown behind) s
    stands v agree = let a = weak v agree in (a.0, (λ c m. go a.1 c m (idle c) refl))
      where
        go : AgreeIn almost (store_after old_acts s) (store_after new_acts v) → (c : Cell) → agreed apart shown behind c ≡ true → (b : Bool) → idle c ≡ b → store_after old_acts s c ≡ store_after new_acts v c
        go most c m false i = most c (both m i)
        go most c m true i =
            let wanted : wants shown behind c ≡ true = agreed_wanted apart shown behind c (idle_apart strip_variables c i) m in
            let first = old_unwritten c i wanted in
            let second = new_unwritten c i wanted in
            let there : before c ≡ true = elim (agreed_before_or_written apart shown old_acts behind c m) [ inl k ↦ k | inr k ↦ absurd (both_ways (written old_acts c) first k) ] in
            after_other old_acts s c first ∙ agree c there ∙ sym (after_other new_acts v c second)

    -- what is shown of each execution
    pub stands_strips : StandsFor (record { agreed = agreed apart shown ((run p old_loop l scope s).acts ++ behind); old = (run p old_loop l scope s).acts; new = (run q new_loop l other s).acts }) (agreed apart shown behind) s
    stands_strips =
        subst (λ (acts : List Act). StandsFor (record { agreed = agreed apart shown (acts ++ behind); old = acts; new = (run q new_loop l other s).acts }) (agreed apart shown behind) s) (sym whole_old)
        (subst (λ (acts : List Act). StandsFor (record { agreed = before; old = old_acts; new = acts }) (agreed apart shown behind) s) (sym new_run_is) stands)

    pub does_strips : Replays (run q new_loop l other) (run q new_loop l other s).acts goes_on
    does_strips = subst (λ (acts : List Act). Replays (run q new_loop l other) acts goes_on) (sym new_run_is) replayed
