-- In each execution the DO that takes the place of another may stand for it.
use Rattle.std.proofs.Common.{◌≡◌, ℕ, zero, suc, ◌+◌, ◌-◌, ◌<◌, ◌≤◌, List, [], ◌∷◌, ◌++◌, Bool, true, false, not, eqb-true, refl, sym, ap, subst, ◌∙◌, inl, inr, arith, append_assoc, append-nil, if◌then◌else◌}
use Rattle.std.specs.Prelude.{◌==◌, ◌&&◌, ◌||◌, nat_le}
use Rattle.std.specs.Str.Lines.{lines}
use Rattle.std.specs.List.{flat_map, range_with_len}
use Rattle.std.proofs.Math.Nat.{eq-or-lt_of_le}
use Rattle.std.proofs.lemmas.Bool.{and_parts, both_ways}
use Rattle.std.proofs.lemmas.List.Concat.{flat_map_single}
use Rattle.ped_bodies.specs.ped_flow.specs.ped_base.specs.Lists.{is_same_text, is_among}
use Rattle.ped_bodies.specs.ped_flow.specs.ped_tree.specs.Tree.{Head, StmtTree, StmtTrees, Do, ProgramTree}
use Rattle.ped_bodies.specs.ped_flow.specs.ped_tree.specs.NamesIn.{loop_variables, all_loop_variables}
use Rattle.ped_bodies.specs.ped_flow.specs.ped_tree.specs.Numbering.{statements_count}
use Rattle.ped_bodies.specs.ped_store.specs.Cells.{Cell}
use Rattle.ped_bodies.specs.ped_store.specs.Stores.{Store, store_at_start}
use Rattle.ped_bodies.specs.ped_store.specs.Acts.{Manner, reads, writes, is_told, Touch, Turn, Place, Act, closed, ended_turn, iterations_of}
use Rattle.ped_bodies.specs.ped_store.specs.Races.{is_write}
use Rattle.ped_bodies.specs.ped_laws.specs.Acts.Fitting.{Fits, store_after, touches_of, of_cells}
use Rattle.ped_bodies.specs.ped_laws.specs.Acts.Sets.{nothing, AgreeIn, needs, written, wants}
use Rattle.ped_bodies.specs.ped_laws.specs.Acts.Conflicts.{touches_without, without, blocks_conflict_outside, ReadNone, WriteWithin}
use Rattle.ped_bodies.specs.ped_laws.specs.Acts.Changes.{AreSameOutside}
use Rattle.ped_bodies.specs.ped_laws.specs.Acts.Orders.{IsIn, EachOnce, IsReordered, KeepsOrder, Block, block_conflict}
use Rattle.ped_bodies.specs.ped_laws.specs.Acts.Grids.{block_at}
use Rattle.ped_bodies.specs.ped_laws.specs.Acts.Pieces.{StandsFor}
use Rattle.ped_bodies.specs.ped_laws.specs.Acts.Renaming.{own_name, AreRenamed, Renamed, touch}
use Rattle.ped_bodies.specs.ped_laws.proofs.ActLaws.Lists.{in_parts}
use Rattle.ped_bodies.specs.ped_laws.proofs.ActLaws.Renamings.{or_left, or_right, after_other}
use Rattle.ped_bodies.specs.ped_laws.proofs.ActLaws.Appending.{needs_append}
use Rattle.ped_bodies.specs.ped_laws.proofs.ActLaws.Outside.{none_append}
use Rattle.ped_bodies.specs.ped_laws.proofs.ActLaws.SameCells.{text_itself}
use Rattle.ped_bodies.specs.ped_laws.proofs.ActLaws.Exchanging.{needed_wanted, wanted_before}
use Rattle.ped_bodies.specs.ped_laws.specs.Runs.Showing.{shown_at_end}
use Rattle.ped_bodies.specs.ped_laws.specs.Runs.Replaying.{goes_on, has_fault, finish_of, ending_with, act, Replays}
use Rattle.ped_bodies.specs.ped_laws.proofs.RunLaws.StatementsTold.{run_told}
use Rattle.ped_bodies.specs.ped_laws.proofs.RunLaws.Touches.{Fine, all_good}
use Rattle.ped_bodies.specs.ped_laws.specs.FlowRuns.Covering.{is_cell_of}
use Rattle.ped_bodies.specs.ped_laws.proofs.FlowRunLaws.TripReads.{contained_unread}
use Rattle.ped_bodies.specs.ped_laws.proofs.ConflictLaws.CoveringRuns.{MakingLaw, SequenceLaw}
use Rattle.ped_bodies.specs.ped_eval.specs.Evaluation.{Seen, cell_seen, index_seen, numbered}
use Rattle.ped_bodies.specs.ped_eval.specs.Scopes.{Setting, Scope, turns_of, cell_of, place_of}
use Rattle.ped_bodies.specs.ped_eval.specs.Loops.{Entered, inner_variables, frame, exit_touches, exit_when_none}
use Rattle.ped_bodies.specs.ped_eval.specs.Runs.{Ending, going, stopped, failed, Run, nothing_done, followed_by, run, run_all}
use Rattle.ped_bodies.specs.ped_eval.specs.Outcomes.{setting_of, run_of, Ends}
use Rattle.ped_bodies.specs.ped_flow.specs.Questions.{LoopOf}
use Rattle.ped_bodies.specs.ped_laws.proofs.RunLaws.Turning.{inner_among}
use Rattle.ped_bodies.specs.ped_steps.specs.Replacing.{alone}
use Rattle.ped_bodies.specs.ped_steps.proofs.RunLaws.RunPlaces.{stands_in}
use Rattle.ped_bodies.specs.ped_steps.proofs.RunLaws.AccessTouches.{write_in}
use Rattle.ped_bodies.specs.ped_weaves.specs.Puttings.{Suit, IsPutFor}
use Rattle.ped_bodies.specs.ped_weaves.specs.Weaves.{Knot, block, control, Weave, blocks_in, old_list, new_list, counted, IsWoven, AreInverse, old_trips, new_trips}
use Rattle.ped_bodies.specs.ped_weaves.proofs.WeaveLaws.KnotRows.{knotted_rows, blocks_rows, in_row}
use Rattle.ped_bodies.specs.ped_weaves.proofs.WeaveLaws.TripOrders.{trips_stand}
use Rattle.ped_bodies.specs.ped_weaves.proofs.WeaveLaws.CountedActs.{counted_touched, counted_needed}
use Rattle.ped_bodies.specs.ped_weaves.proofs.WeaveLaws.PutFor.{put_stands}
use Rattle.ped_bodies.specs.ped_weaves.proofs.WeaveLaws.AgreedApart.{both_stand}
use Rattle.ped_bodies.specs.ped_weaves.proofs.WeaveLaws.Woven.{woven_stands}
use Rattle.ped_loop_runs.specs.Executions.{IsCopyInside, IsExecuted}
use Rattle.ped_loop_runs.specs.Copies.{IsTheirs}
use Rattle.ped_loop_runs.proofs.PastingLaws.LeftCopies.{IsOwn, own_apart, body_reaches, exit_own, entry_own}
use Rattle.ped_loop_runs.proofs.PastingLaws.TheirCopies.{theirs, theirs_unneeded}
use Rattle.ped_bodies.specs.Moving.{own_number, is_cell_among}
use Rattle.ped_bodies.specs.Likewise.{AreLikewise}
use Rattle.ped_bodies.specs.Trips.{loop_entry, trips, loop_close, bounds_seen, entered_from, IsTrip, IsMadeOfTrips, MakesTripsLikewise}
use Rattle.ped_bodies.proofs.BodyLaws.LikewiseActs.{likewise_stripped}
use Rattle.ped_bodies.proofs.BodyLaws.TripLists.{loop_apart}
use Rattle.ped_bodies.specs.ped_graph.specs.Dependences.{AreEdges}
use Rattle.ped_bodies.specs.ped_edges.specs.Edges.{Edge}
use Rattle.ped_loop_runs.specs.Carried.{StandIn, AreTrips, AllStoreWithin, NoneMeetOn}
use Rattle.ped_loop_runs.specs.OneForOne.{trip_of, trip_names, trip_idle, HasSameTrips, IsOneForOne, IsMadeInstead}
use Rattle.ped_loop_runs.proofs.LoopLaws.Trips.{trips_apart}
use Rattle.ped_loop_runs.proofs.LoopLaws.SomeEdges.{some_edges}
use Rattle.ped_loop_runs.proofs.LoopLaws.OneForOneNames.{variables_unnamed}
use Rattle.ped_loop_runs.proofs.LoopLaws.OneForOneTrips.{one_made}
use Rattle.ped_loop_runs.proofs.LoopLaws.OneForOneKnots.{le_true, le_false, two_at, quiet_end, leaving, quiet_touches, trip_or_exit, whole_trip, is_trip, is_exit, rest_is}
use Rattle.ped_loop_runs.proofs.LoopLaws.OneForOneCells.{cell_among, all_unread, needed_counts, touched_in, likewise_idle, exit_unread, exit_renamed, IsOfLoop, inside, names_idle, names_stay, stays_or_moves, moves_inside, Reached, names_apart}
use Rattle.ped_loop_runs.proofs.LoopLaws.UnwantedNames.{unwritten_there}

-- one statement by itself
pub run_alone : (p : Setting) (x : StmtTree) (n : ℕ) (scope : Scope) (s : Store) → run_all p (alone x) n scope s ≡ run p x n scope s
run_alone p x n scope s = go (run p x n scope s).acts (run p x n scope s).ending
  where
    go : (acts : List Act) (ending : Ending) → followed_by acts ending nothing_done ≡ record { acts = acts; ending = ending }
    go acts (going u) = λ i. record { acts = append-nil acts i; ending = going u }
    go acts (stopped u) = refl
    go acts (failed fault statement) = refl

pub false_unless : (b : Bool) → (b ≡ true → ⊥) → b ≡ false
false_unless true h = absurd (h refl)
false_unless false h = refl

pub not_so : (b : Bool) → not b ≡ true → b ≡ false
not_so true h = absurd cc
not_so false h = refl

pub both : {a b : Bool} → a ≡ true → b ≡ false → a && not b ≡ true
both e f = λ i. e i && not (f i)

pub in_flat : {X Y : Type 0} (g : X → List Y) (xs : List X) (y : Y) → IsIn y (flat_map g xs) → (x : X) × IsIn x xs × IsIn y (g x)
in_flat g [] y i = absurd i
in_flat g (x ∷ xs) y i = elim (in_parts y (g x) (flat_map g xs) i) [
  | inl k ↦ (x, inl refl, k)
  | inr k ↦ let r = in_flat g xs y k in (r.0, inr r.1, r.2)
]

pub in_range : (m a k : ℕ) → IsIn k (range_with_len a m) → (a ≤ k) × (k < a + m)
in_range zero a k i = absurd i
in_range (suc m) a k (inl e) = (omega (arith, e), omega (arith, e))
in_range (suc m) a k (inr i) = let r = in_range m (a + 1) k i in (omega (arith, r.0), omega (arith, r.1))

-- reads of bounds write nothing
no_writes : (n : ℕ) (seen : List Seen) → WriteWithin nothing (numbered n seen)
no_writes n [] = tt
no_writes n (cell_seen c content ∷ more) = (tt, no_writes (suc n) more)
no_writes n (index_seen c v ∷ more) = (tt, no_writes n more)

-- the knots of a row
row_control : (c a : List Act) (i j : ℕ) → IsIn (control c) (block i j ∷ control a ∷ []) → c ≡ a
row_control c a i j (inl e) = absurd cc
row_control c a i j (inr (inl e)) = let same : c ≡ a = cc in same
row_control c a i j (inr (inr k)) = absurd k

row_block : (a : List Act) (i j m n : ℕ) → IsIn (block m n) (block i j ∷ control a ∷ []) → (m ≡ i) × (n ≡ j)
row_block a i j m n (inl e) = let first : m ≡ i = cc in let second : n ≡ j = cc in (first, second)
row_block a i j m n (inr (inl e)) = absurd cc
row_block a i j m n (inr (inr k)) = absurd k

-- own stores of a run are into cells of the variables of its DO loops
module _ (names : List (List ℕ)) where
  abbrev Own : List Turn → Cell → Type 0
  Own ts c = is_cell_among names c ≡ true

  own_among : (ts : List Turn) (m : Manner) (c : Cell) (r : ℕ) → Fine Own ts m c r → is_write m && (r == 0) ≡ true → is_cell_among names c ≡ true
  own_among ts reads c r f h = absurd cc
  own_among ts is_told c r f h = absurd cc
  own_among ts writes c r f h = elim f.0 [
    | inl some ↦ absurd (let none : r ≡ 0 = eqb-true r 0 h in omega (arith, some, none))
    | inr own ↦ own
  ]

  pub own_within : (p : Setting) (ts : StmtTrees) (n : ℕ) (scope : Scope) (s : Store) → ((x : List ℕ) → is_among x (all_loop_variables ts) ≡ true → is_among x names ≡ true) → AllStoreWithin (is_cell_among names) (run_all p ts n scope s).acts
  own_within p ts n scope s may a i t j own =
      own_among a.place.turns t.manner t.cell t.reference
      ((all_good Own (λ S x. is_among x names ≡ true) (λ S x k. cell_among names S x ∙ k) (λ S e k b q k2. k2) p ts n scope s may a i).0 t j) own

-- numbers counted in the new order; behind the last one they stay
module _ (reversed : Bool) (n : ℕ) where
  abbrev pub turned_number : ℕ → ℕ
  turned_number k = if nat_le k n then trip_of reversed n k else k

  pub turned_trip : (k : ℕ) → k ≤ n → turned_number k ≡ trip_of reversed n k
  turned_trip k h = ap (λ (b : Bool). if b then trip_of reversed n k else k) (le_true k n h)

  pub turned_last : (k : ℕ) → n < k → turned_number k ≡ k
  turned_last k h = ap (λ (b : Bool). if b then trip_of reversed n k else k) (le_false k n h)

  pub trip_within : (k : ℕ) → 1 ≤ k → k ≤ n → (1 ≤ trip_of reversed n k) × (trip_of reversed n k ≤ n) × (trip_of reversed n (trip_of reversed n k) ≡ k)
  trip_within k from to = go reversed
    where
      go : (b : Bool) → (1 ≤ trip_of b n k) × (trip_of b n k ≤ n) × (trip_of b n (trip_of b n k) ≡ k)
      go true = (omega (arith, from, to), omega (arith, from, to), omega (arith, from, to))
      go false = (from, to, refl)

  pub turned_within : (k : ℕ) → 1 ≤ k → k ≤ n + 1 → (1 ≤ turned_number k) × (turned_number k ≤ n + 1) × (turned_number (turned_number k) ≡ k)
  turned_within k from to = elim (eq-or-lt_of_le to) [
    | inl e ↦ (
        let stays = turned_last k (omega (arith, e)) in
        (subst (λ (j : ℕ). 1 ≤ j) (sym stays) from, subst (λ (j : ℕ). j ≤ n + 1) (sym stays) to, ap turned_number stays ∙ stays)
        )
    | inr less ↦ (
        let short : k ≤ n = omega (arith, less) in
        let moves = turned_trip k short in
        let w = trip_within k from short in
        let low = w.0 in
        let high = w.1 in
        (subst (λ (j : ℕ). 1 ≤ j) (sym moves) low, subst (λ (j : ℕ). j ≤ n + 1) (sym moves) (omega (arith, high)), ap turned_number moves ∙ turned_trip (trip_of reversed n k) high ∙ w.2)
        )
  ]

  pub turned_inverse : AreInverse (n + 1) turned_number turned_number
  turned_inverse = record { new = turned_within; old = turned_within }

module _ (making : MakingLaw) (sequence : SequenceLaw) (t u : ProgramTree) (l : ℕ) (loop : LoopOf t l) (h : Head) (reversed : Bool) (x : IsOneForOne t u l loop h reversed) (data_bytes : List ℕ)
    (none : reversed ≡ true → (edges : List Edge) → AreEdges t edges → NoneMeetOn t edges data_bytes l loop.body) (ends : Ends (run_of t data_bytes).ending) where
  abbrev p : Setting
  p = setting_of t

  abbrev d : Head
  d = loop.head

  abbrev body : StmtTrees
  body = loop.body

  abbrev old_loop : StmtTree
  old_loop = Do loop.head loop.body

  abbrev new_loop : StmtTree
  new_loop = Do h loop.body

  abbrev variables : List (List ℕ)
  variables = loop_variables (Do loop.head loop.body)

  abbrev idle : Cell → Bool
  idle = is_cell_among variables

  abbrev start : Store
  start = store_at_start (lines data_bytes)

  abbrev shown : Cell → Bool
  shown = shown_at_end t

  abbrev count : ℕ
  count = statements_count (alone (Do loop.head loop.body))

  some : 0 < count
  some = omega arith

  own_variable : is_among d.variable variables ≡ true
  own_variable = or_left (is_same_text d.variable d.variable) (is_among d.variable (all_loop_variables body)) (text_itself d.variable)

  inner_variable : (w : List ℕ) → is_among w (all_loop_variables body) ≡ true → is_among w variables ≡ true
  inner_variable w i = or_right (is_same_text w d.variable) (is_among w (all_loop_variables body)) i

  module _ (scope : Scope) (front behind : List Act) (s : Store) (executed : IsExecuted p t start l count scope front (run p old_loop l scope s).acts behind s) (goes : finish_of (run p old_loop l scope s).ending ≡ goes_on) where
    old : IsMadeOfTrips p d body l scope s
    old = loop_apart p d body l scope s goes

    same : HasSameTrips p d h body l reversed scope s old.bounds
    same = x.trips scope s old.bounds old.come

    abbrev e : Entered
    e = entered_from p d body l scope s old.bounds

    abbrev z : Entered
    z = entered_from p h body l scope s same.bounds

    abbrev n : ℕ
    n = e.count

    abbrev names : Cell → Cell
    names = trip_names reversed (iterations_of (turns_of scope)) l e.count

    abbrev at : Place
    at = place_of p l scope

    made : MakesTripsLikewise names (trip_idle reversed variables) own_number e scope old.trip (trip_of reversed e.count) p h body l scope (bounds_seen p h scope s) z
    made = one_made p d h body l reversed x.variable x.private x.in_turn scope s old same

    abbrev new_trip : ℕ → List Act
    new_trip = made.fresh

    abbrev to : ℕ → ℕ
    to = turned_number reversed e.count

    abbrev numbers : List ℕ
    numbers = range_with_len 1 (e.count + 1)

    abbrev old_row : ℕ → List Knot
    old_row k = block k (to k) ∷ control (quiet_end e scope at k) ∷ []

    abbrev new_row : ℕ → List Knot
    new_row j = block (to j) j ∷ control (quiet_end z scope at j) ∷ []

    abbrev w : Weave
    w = record {
      names = names;
      idle = idle;
      old = flat_map old_row numbers;
      new = flat_map new_row numbers;
      acts = λ k j. trip_or_exit e scope at old.trip k;
      others = λ k j. trip_or_exit z scope at new_trip j;
    }

    -- the lists are woven so
    rows_are : old_list w ≡ flat_map (whole_trip e scope at old.trip) numbers
    rows_are = knotted_rows w.acts old_row numbers

    old_is : old_list w ≡ trips e scope at old.trip 1 e.count ++ loop_close e scope at
    old_is = rows_are ∙ rest_is e scope at old.trip

    new_is : new_list w ≡ trips z scope at new_trip 1 z.count ++ loop_close z scope at
    new_is = knotted_rows w.others new_row numbers ∙ ap (λ (m : ℕ). flat_map (whole_trip z scope at new_trip) (range_with_len 1 (m + 1))) (sym same.count) ∙ rest_is z scope at new_trip

    abbrev old_entry : Act
    old_entry = loop_entry (bounds_seen p d scope s) e scope at

    abbrev new_entry : Act
    new_entry = loop_entry (bounds_seen p h scope s) z scope at

    abbrev old_acts : List Act
    old_acts = old_entry ∷ old_list w

    abbrev new_acts : List Act
    new_acts = new_entry ∷ new_list w

    whole_old : (run p old_loop l scope s).acts ≡ old_acts
    whole_old = old.acts ∙ ap (λ (acts : List Act). old_entry ∷ acts) (sym old_is)

    replayed : Replays (run p new_loop l scope) new_acts goes_on
    replayed = subst (λ (acts : List Act). Replays (run p new_loop l scope) (new_entry ∷ acts) goes_on) (sym new_is) made.replays

    -- the trips and the last block
    known : (i j : ℕ) → IsIn (block i j) w.old → (1 ≤ i) × (i ≤ n + 1) × (j ≡ to i)
    known i j k =
        let r = in_row old_row numbers (block i j) k in
        let same_block = row_block (quiet_end e scope at r.0) r.0 (to r.0) i j r.2 in
        let within = in_range (n + 1) 1 r.0 r.1 in
        let is = same_block.0 in
        let low = within.0 in
        let high = within.1 in
        (omega (arith, is, low), omega (arith, is, high), same_block.1 ∙ ap to (sym is))

    by_number : (P : ℕ → Type 0) (i : ℕ) → i ≤ n + 1 → (i ≤ n → P i) → (i ≡ n + 1 → P i) → P i
    by_number P i within first last = elim (eq-or-lt_of_le within) [ inl is ↦ last is | inr less ↦ first (omega (arith, less)) ]

    trip_is : (k : ℕ) → 1 ≤ k → k ≤ n → (v : Store) × IsTrip p body l scope e k v (old.trip k)
    trip_is k from hi = (_, old.are k from hi)

    -- controls touch nothing
    old_quiet : (c : List Act) → IsIn (control c) w.old → touches_of c ≡ []
    old_quiet c i = let r = in_row old_row numbers (control c) i in ap touches_of (row_control c (quiet_end e scope at r.0) r.0 (to r.0) r.2) ∙ quiet_touches e scope at r.0

    new_quiet : (c : List Act) → IsIn (control c) w.new → touches_of c ≡ []
    new_quiet c i = let r = in_row new_row numbers (control c) i in ap touches_of (row_control c (quiet_end z scope at r.0) (to r.0) r.0 r.2) ∙ quiet_touches z scope at r.0

    -- trips read no variable of the DO loops
    trip_unread : (k : ℕ) → 1 ≤ k → k ≤ n → ReadNone idle (old.trip k)
    trip_unread k from hi =
        let it = trip_is k from hi in
        all_unread variables (old.trip k) (λ v i. subst (ReadNone (is_cell_of v)) (sym it.1.is) (contained_unread p t l loop v (variables_unnamed t x.valid l loop v i) x.contained i scope (frame e k) it.0 refl))

    exit_reads_none : ReadNone idle (leaving e scope at)
    exit_reads_none = go (e.count == 0)
      where
        go : (b : Bool) → ReadNone idle (if b then [] else act (if e.head.parallel then closed else ended_turn 0) at (exit_touches e scope) ∷ [])
        go true = tt
        go false = (exit_unread idle scope e, tt)

    unread : (i j : ℕ) → IsIn (block i j) w.old → ReadNone idle (w.acts i j)
    unread i j k =
        let it = known i j k in
        by_number (λ (i : ℕ). ReadNone idle (trip_or_exit e scope at old.trip i)) i it.1
        (λ hi. subst (ReadNone idle) (sym (is_trip e scope at old.trip i hi)) (trip_unread i it.0 hi))
        (λ last. subst (ReadNone idle) (sym (is_exit e scope at old.trip i (omega (arith, last)))) exit_reads_none)

    -- new trips do the same on renamed cells, and so does what leaves the DO
    idle_variable : (y : List ℕ) → is_among y variables ≡ true → idle (cell_of scope y) ≡ true
    idle_variable y i = cell_among variables scope y ∙ i

    inner_idle : (g : Head) (y : List ℕ) → is_among y (inner_variables g.parallel body) ≡ true → idle (cell_of scope y) ≡ true
    inner_idle g y i = idle_variable y (inner_variable y (inner_among g.parallel body y i))

    new_variable : idle (cell_of scope h.variable) ≡ true
    new_variable = ap (λ (v : List ℕ). idle (cell_of scope v)) x.variable ∙ idle_variable d.variable own_variable

    exits_alike : AreRenamed names (of_cells (touches_without idle (exit_touches e scope))) (of_cells (touches_without idle (exit_touches z scope)))
    exits_alike = exit_renamed idle scope names (names_stay p scope l n reversed) e z x.private (idle_variable d.variable own_variable) new_variable (inner_idle d) (inner_idle h)

    exits_alone : AreRenamed own_name (of_cells (touches_without idle (exit_touches e scope))) (of_cells (touches_without idle (exit_touches z scope)))
    exits_alone = exit_renamed idle scope own_name (λ y. refl) e z x.private (idle_variable d.variable own_variable) new_variable (inner_idle d) (inner_idle h)

    leaving_touches : (y : Entered) → touches_of (without idle (leaving y scope at)) ≡ (if y.count == 0 then [] else touches_without idle (exit_touches y scope))
    leaving_touches y = go (y.count == 0)
      where
        go : (b : Bool) → touches_of (without idle (if b then [] else act (if y.head.parallel then closed else ended_turn 0) at (exit_touches y scope) ∷ [])) ≡ (if b then [] else touches_without idle (exit_touches y scope))
        go true = refl
        go false = append-nil (touches_without idle (exit_touches y scope))

    leaving_renamed : Renamed names (without idle (leaving e scope at)) (without idle (leaving z scope at))
    leaving_renamed =
        subst (λ (ts : List Touch). AreRenamed names (of_cells ts) (of_cells (touches_of (without idle (leaving z scope at))))) (sym (leaving_touches e))
        (subst (λ (ts : List Touch). AreRenamed names (of_cells (if e.count == 0 then [] else touches_without idle (exit_touches e scope))) (of_cells ts))
        (sym (leaving_touches z ∙ ap (λ (m : ℕ). if m == 0 then [] else touches_without idle (exit_touches z scope)) same.count))
        (go (e.count == 0)))
      where
        go : (b : Bool) → AreRenamed names (of_cells (if b then [] else touches_without idle (exit_touches e scope))) (of_cells (if b then [] else touches_without idle (exit_touches z scope)))
        go true = tt
        go false = exits_alike

    trip_renamed : (k j : ℕ) → 1 ≤ k → k ≤ n → j ≡ trip_of reversed n k → Renamed names (without idle (old.trip k)) (without idle (new_trip j))
    trip_renamed k j from hi is =
        let inside_it = trip_within reversed n k from hi in
        let low : 1 ≤ j = subst (λ (m : ℕ). 1 ≤ m) (sym is) inside_it.0 in
        let high : j ≤ z.count = subst (λ (m : ℕ). j ≤ m) (sym same.count) (subst (λ (m : ℕ). m ≤ n) (sym is) inside_it.1) in
        let back : trip_of reversed n j ≡ k = ap (trip_of reversed n) is ∙ inside_it.2 in
        let alike = likewise_idle reversed variables names own_number (turns_of (frame e (trip_of reversed n j) ∷ scope)) (turns_of (frame z j ∷ scope)) (old.trip (trip_of reversed n j)) (new_trip j) (made.likewise j low high) in
        (likewise_stripped names idle (names_idle p scope l n reversed variables) own_number (turns_of (frame e (trip_of reversed n j) ∷ scope)) (turns_of (frame z j ∷ scope)) (old.trip k) (new_trip j) (trip_unread k from hi)
        (subst (λ (m : ℕ). AreLikewise names idle own_number (turns_of (frame e (trip_of reversed n j) ∷ scope)) (turns_of (frame z j ∷ scope)) (old.trip m) (new_trip j)) back alike)).0

    renamed : (i j : ℕ) → IsIn (block i j) w.old → Renamed names (without idle (w.acts i j)) (without idle (w.others i j))
    renamed i j k =
        let it = known i j k in
        by_number (λ (i : ℕ). Renamed names (without idle (trip_or_exit e scope at old.trip i)) (without idle (trip_or_exit z scope at new_trip j))) i it.1
        (λ hi.
        let is : j ≡ trip_of reversed n i = it.2 ∙ turned_trip reversed n i hi in
        let high : j ≤ z.count = subst (λ (m : ℕ). j ≤ m) (sym same.count) (subst (λ (m : ℕ). m ≤ n) (sym is) (trip_within reversed n i it.0 hi).1) in
        subst (λ (acts : List Act). Renamed names (without idle acts) (without idle (trip_or_exit z scope at new_trip j))) (sym (is_trip e scope at old.trip i hi))
        (subst (λ (acts : List Act). Renamed names (without idle (old.trip i)) (without idle acts)) (sym (is_trip z scope at new_trip j high)) (trip_renamed i j it.0 hi is)))
        (λ last.
        let is : j ≡ i = it.2 ∙ turned_last reversed n i (omega (arith, last)) in
        let count_is = same.count in
        subst (λ (acts : List Act). Renamed names (without idle acts) (without idle (trip_or_exit z scope at new_trip j))) (sym (is_exit e scope at old.trip i (omega (arith, last))))
        (subst (λ (acts : List Act). Renamed names (without idle (leaving e scope at)) (without idle acts)) (sym (is_exit z scope at new_trip j (omega (arith, last, is, count_is)))) leaving_renamed))

    -- blocks that conflict keep their order
    stores : (k : ℕ) → 1 ≤ k → k ≤ n → AllStoreWithin idle (old.trip k)
    stores k from hi =
        let it = trip_is k from hi in
        subst (AllStoreWithin idle) (sym it.1.is) (own_within variables p body (l + 1) (frame e k ∷ scope) it.0 inner_variable)

    stand_there : (k : ℕ) → 1 ≤ k → k ≤ n → StandIn (turns_of scope) (frame e k).turn (old.trip k)
    stand_there k from hi a i =
        let it = trip_is k from hi in
        let r = stands_in p body (l + 1) (frame e k ∷ scope) it.0 a (subst (IsIn a) it.1.is i) in
        (r.0, r.1 ∙ append_assoc (turns_of scope) ((frame e k).turn ∷ []) r.0)

    two_trips : (k j : ℕ) → 1 ≤ k → k < j → j ≤ n → AreTrips t data_bytes l (old.trip k) (old.trip j)
    two_trips k j from between hi =
        let r = two_at (whole_trip e scope at old.trip) (n + 1) 1 k j from between (omega (arith, hi)) in
        let tail : ℕ → List Act = λ i. quiet_end e scope at i ++ [] in
        let first : whole_trip e scope at old.trip k ≡ old.trip k ++ tail k = ap (λ (acts : List Act). acts ++ tail k) (is_trip e scope at old.trip k (omega (arith, between, hi))) in
        let second : whole_trip e scope at old.trip j ≡ old.trip j ++ tail j = ap (λ (acts : List Act). acts ++ tail j) (is_trip e scope at old.trip j hi) in
        record {
          front = front ++ (old_entry ∷ r.0);
          between = tail k ++ r.1;
          behind = (tail j ++ r.2) ++ behind;
          is = executed.whole
              ∙ ap (λ (acts : List Act). front ++ (acts ++ behind)) (whole_old ∙ ap (λ (acts : List Act). old_entry ∷ acts) (rows_are ∙ r.3 ∙ (λ i. r.0 ++ (first i ++ (r.1 ++ (second i ++ r.2))))))
              ∙ arranged front old_entry r.0 (old.trip k) (tail k) r.1 (old.trip j) (tail j) r.2 behind;
          outer = turns_of scope;
          i = (frame e k).turn;
          j = (frame e j).turn;
          in_first = stand_there k from (omega (arith, between, hi));
          in_second = stand_there j (omega (arith, from, between)) hi;
          of_first = refl;
          of_second = refl;
          order = between;
        }
      where
        arranged : {X : Type 0} (a : List X) (b : X) (c k m q j r s f : List X) → a ++ ((b ∷ (c ++ ((k ++ m) ++ (q ++ ((j ++ r) ++ s))))) ++ f) ≡ (a ++ (b ∷ c)) ++ (k ++ ((m ++ q) ++ (j ++ ((r ++ s) ++ f))))
        arranged a b c k m q j r s f =
            let inner : (c ++ ((k ++ m) ++ (q ++ ((j ++ r) ++ s)))) ++ f ≡ c ++ (k ++ ((m ++ q) ++ (j ++ ((r ++ s) ++ f)))) =
            append_assoc c ((k ++ m) ++ (q ++ ((j ++ r) ++ s))) f
            ∙ ap (λ (y : List _). c ++ y) (append_assoc (k ++ m) (q ++ ((j ++ r) ++ s)) f ∙ append_assoc k m ((q ++ ((j ++ r) ++ s)) ++ f)
            ∙ ap (λ (y : List _). k ++ y) (ap (λ (y : List _). m ++ y) (append_assoc q ((j ++ r) ++ s) f) ∙ sym (append_assoc m q (((j ++ r) ++ s) ++ f))
            ∙ ap (λ (y : List _). (m ++ q) ++ y) (append_assoc (j ++ r) s f ∙ append_assoc j r (s ++ f) ∙ ap (λ (y : List _). j ++ y) (sym (append_assoc r s f))))) in
            ap (λ (y : List _). a ++ b ∷ y) inner ∙ sym (append_assoc a (b ∷ c) (k ++ ((m ++ q) ++ (j ++ ((r ++ s) ++ f)))))

    none_conflict : reversed ≡ true → (k j : ℕ) → 1 ≤ k → k < j → j ≤ n → blocks_conflict_outside idle (old.trip k) (old.trip j) ≡ false
    none_conflict turned k j from between hi = false_unless (blocks_conflict_outside idle (old.trip k) (old.trip j)) (λ m.
        some_edges t (λ edges are.
        both_ways (blocks_conflict_outside idle (old.trip k) (old.trip j))
        (trips_apart making sequence t data_bytes x.valid edges are l loop idle (old.trip k) (old.trip j) (none turned edges are) (two_trips k j from between hi) (stores k from (omega (arith, between, hi))) (stores j (omega (arith, from, between)) hi))
        m))

    apart : (k j : ℕ) → 1 ≤ k → k < j → j ≤ n + 1 → to j < to k → blocks_conflict_outside idle (w.acts k (to k)) (w.acts j (to j)) ≡ false
    apart k j from between hi crossing = elim (eq-or-lt_of_le hi) [
      | inl last ↦ absurd (last_stays last)
      | inr less ↦ (
          let short : j ≤ n = omega (arith, less) in
          (λ i. blocks_conflict_outside idle (is_trip e scope at old.trip k (omega (arith, between, short)) i) (is_trip e scope at old.trip j short i)) ∙ by reversed refl short
          )
    ]
      where
        moves : (i : ℕ) → i ≤ n → to i ≡ trip_of reversed n i
        moves i short = turned_trip reversed n i short

        last_stays : j ≡ n + 1 → ⊥
        last_stays last =
            let first : to j ≡ j = turned_last reversed n j (omega (arith, last)) in
            let short : k ≤ n = omega (arith, between, last) in
            let second : to k ≤ n = subst (λ (i : ℕ). i ≤ n) (sym (moves k short)) (trip_within reversed n k from short).1 in
            omega (arith, crossing, first, second, last)

        by : (b : Bool) → reversed ≡ b → j ≤ n → blocks_conflict_outside idle (old.trip k) (old.trip j) ≡ false
        by true q short = none_conflict q k j from between short
        by false q short =
            let own : (i : ℕ) → trip_of reversed n i ≡ i = λ i. ap (λ (b : Bool). trip_of b n i) q in
            let first : to j ≡ j = moves j short ∙ own j in
            let second : to k ≡ k = moves k (omega (arith, between, short)) ∙ own k in
            absurd (omega (arith, crossing, first, second, between))

    old_blocks : blocks_in w.acts w.old ≡ old_trips w.acts (n + 1) to
    old_blocks = blocks_rows w.acts old_row numbers ∙ flat_map_single (λ k. block_at w.acts k (to k)) numbers

    new_blocks : blocks_in w.acts w.new ≡ new_trips w.acts (n + 1) to
    new_blocks = blocks_rows w.acts new_row numbers ∙ flat_map_single (λ j. block_at w.acts (to j) j) numbers

    abbrev Ordered : List Block → List Block → Type 0
    Ordered bs cs = EachOnce bs × IsReordered bs cs × KeepsOrder (block_conflict idle) bs cs

    ordered : Ordered (blocks_in w.acts w.old) (blocks_in w.acts w.new)
    ordered =
        subst (λ (bs : List Block). Ordered bs (blocks_in w.acts w.new)) (sym old_blocks)
        (subst (Ordered (old_trips w.acts (n + 1) to)) (sym new_blocks) (trips_stand idle w.acts (n + 1) to to (turned_inverse reversed n) apart))

    -- cells that the trips touch
    reached_by : (k : ℕ) (a : Act) (v : Touch) → (1 ≤ k) × (k < 1 + (n + 1)) → IsIn a (whole_trip e scope at old.trip k) → IsIn v a.touches → Reached p scope l n v.cell
    reached_by k a v within i j = elim (in_parts a (trip_or_exit e scope at old.trip k) (quiet_end e scope at k ++ []) i) [
      | inl m ↦ by_number (λ (i : ℕ). IsIn a (trip_or_exit e scope at old.trip i) → 1 ≤ i → Reached p scope l n v.cell) k (let high = within.1 in omega (arith, high)) (λ hi m from. of_trip k from hi (subst (IsIn a) (is_trip e scope at old.trip k hi) m))
          (λ last m from. of_exit (e.count == 0) (subst (IsIn a) (is_exit e scope at old.trip k (omega (arith, last))) m)) m within.0
      | inr m ↦ absurd (of_end (e.head.parallel || nat_le e.count k) (subst (IsIn a) (append-nil (quiet_end e scope at k)) m))
    ]
      where
        of_trip : (k : ℕ) → 1 ≤ k → k ≤ n → IsIn a (old.trip k) → Reached p scope l n v.cell
        of_trip k from hi m =
            let it = trip_is k from hi in
            elim (body_reaches p l d body (bounds_seen p d scope s) old.bounds scope k it.0 a (subst (IsIn a) it.1.is m) v j) [
              | inl own ↦ inl own
              | inr r ↦ inr (k, from, hi, r.name, r.rest, r.is)
            ]

        of_exit : (b : Bool) → IsIn a (if b then [] else act (if e.head.parallel then closed else ended_turn 0) at (exit_touches e scope) ∷ []) → Reached p scope l n v.cell
        of_exit true m = absurd m
        of_exit false (inl q) = inl (exit_own p scope e v (subst (λ (c : Act). IsIn v c.touches) q j))
        of_exit false (inr m) = absurd m

        of_end : (b : Bool) → IsIn a (if b then [] else act (ended_turn (e.count - k)) at [] ∷ []) → ⊥
        of_end true m = m
        of_end false (inl q) = subst (λ (c : Act). IsIn v c.touches) q j
        of_end false (inr m) = m

    reached : (c : Cell) → touch (old_list w) c ≡ true → Reached p scope l n c
    reached c m =
        let r = touched_in (old_list w) c m in
        let row = in_flat (whole_trip e scope at old.trip) numbers r.0 (subst (IsIn r.0) rows_are r.1) in
        subst (Reached p scope l n) r.4 (reached_by row.0 r.0 r.2 (in_range (n + 1) 1 row.0 row.1) row.2 r.3)

    reached_counted : (c : Cell) → touch (counted w) c ≡ true → Reached p scope l n c
    reached_counted c m = reached c (counted_touched w c unread m).1

    -- copies inside the DO: nobody else has to do with them
    its : (c : Cell) → IsCopyInside p scope l count c → IsTheirs front behind s c
    its c copy = theirs p scope l count c copy t (lines data_bytes) front (run p old_loop l scope s).acts behind s executed

    hidden : (c : Cell) → IsCopyInside p scope l count c → shown c ≡ false
    hidden c copy = ap shown copy.is

    unwanted_copy : (c : Cell) → IsCopyInside p scope l count c → wants shown behind c ≡ true → ⊥
    unwanted_copy c copy m = both_ways (wants shown behind c) ((its c copy).unwanted shown (hidden c copy)) m

    entry_unwritten : (c : Cell) → IsCopyInside p scope l count c → written (old_entry ∷ []) c ≡ false
    entry_unwritten c copy = false_unless (written (old_entry ∷ []) c) (λ m.
        let r = write_in (old_entry ∷ []) c m in
        elim r.1 [
          | inl q ↦ own_apart p scope l count c (subst (IsOwn p scope) r.4 (entry_own p scope d s e r.2 (subst (λ (a : Act). IsIn r.2 a.touches) q r.3))) copy
          | inr k ↦ absurd k
        ])

    fine : has_fault (finish_of (run_all p (alone old_loop) l scope s).ending) ≡ false
    fine = ap (λ (r : Run). has_fault (finish_of r.ending)) (run_alone p old_loop l scope s) ∙ ap has_fault goes

    unneeded_copy : (c : Cell) → IsCopyInside p scope l count c → needs (old_list w) c ≡ true → ⊥
    unneeded_copy c copy m =
        let whole : needs old_acts c ≡ true =
        needs_append (old_entry ∷ []) (old_list w) c
        ∙ or_right (needs (old_entry ∷ []) c) (not (written (old_entry ∷ []) c) && needs (old_list w) c) ((λ i. not (entry_unwritten c copy i) && needs (old_list w) c) ∙ m) in
        both_ways (needs old_acts c)
        (ap (λ (acts : List Act). needs acts c) (sym (ap (λ (r : Run). r.acts) (run_alone p old_loop l scope s) ∙ whole_old)) ∙ theirs_unneeded p scope l count c copy (alone old_loop) l scope s (its c copy).undefined fine)
        whole

    keeps_name : (c : Cell) → (IsCopyInside p scope l count c → ⊥) → names c ≡ c
    keeps_name c other = elim (stays_or_moves p scope l n reversed c) [ inl q ↦ q | inr k ↦ absurd (other (inside p scope l count c some k)) ]

    -- where the stores agree: at first, behind the entry, and behind the trips but for the variables
    abbrev before : Cell → Bool
    before c = wants shown (old_acts ++ behind) c

    abbrev middle : Cell → Bool
    middle c = wants shown (old_list w ++ behind) c && not (idle c)

    abbrev almost : Cell → Bool
    almost c = wants shown behind c && not (idle c)

    entry_suits : Suit idle before middle (old_entry ∷ [])
    entry_suits = record {
      needed = λ c k. needed_wanted shown (old_entry ∷ []) (old_list w ++ behind) c k;
      wanted = λ c k.
          let parts = and_parts (wants shown (old_list w ++ behind) c) (not (idle c)) k in
          (not_so (idle c) parts.1, wanted_before shown (old_entry ∷ []) (old_list w ++ behind) c parts.0);
    }

    blocks_unread : ReadNone idle (old_list w)
    blocks_unread = subst (ReadNone idle) (sym rows_are) (rows_unread numbers (λ k i. in_range (n + 1) 1 k i))
      where
        quiet_unread : (k : ℕ) (b : Bool) → ReadNone idle (if b then [] else act (ended_turn (e.count - k)) at [] ∷ [])
        quiet_unread k true = tt
        quiet_unread k false = (tt, tt)

        row_unread : (k : ℕ) → (1 ≤ k) × (k < 1 + (n + 1)) → ReadNone idle (whole_trip e scope at old.trip k)
        row_unread k within =
            let low = within.0 in
            let high = within.1 in
            none_append idle (trip_or_exit e scope at old.trip k) (quiet_end e scope at k ++ [])
            (by_number (λ (i : ℕ). ReadNone idle (trip_or_exit e scope at old.trip i)) k (omega (arith, high))
            (λ hi. subst (ReadNone idle) (sym (is_trip e scope at old.trip k hi)) (trip_unread k low hi))
            (λ last. subst (ReadNone idle) (sym (is_exit e scope at old.trip k (omega (arith, last)))) exit_reads_none))
            (none_append idle (quiet_end e scope at k) [] (quiet_unread k (e.head.parallel || nat_le e.count k)) tt)

        rows_unread : (ks : List ℕ) → ((k : ℕ) → IsIn k ks → (1 ≤ k) × (k < 1 + (n + 1))) → ReadNone idle (flat_map (whole_trip e scope at old.trip) ks)
        rows_unread [] within = tt
        rows_unread (k ∷ ks) within = none_append idle (whole_trip e scope at old.trip k) (flat_map (whole_trip e scope at old.trip) ks) (row_unread k (within k (inl refl))) (rows_unread ks (λ j i. within j (inr i)))

    rest_suits : Suit idle middle almost (old_list w)
    rest_suits = record {
      needed = λ c k. both (needed_wanted shown (old_list w) behind c k) (needed_counts idle (old_list w) c blocks_unread k);
      wanted = λ c k.
          let parts = and_parts (wants shown behind c) (not (idle c)) k in
          let out = not_so (idle c) parts.1 in
          (out, elim (wanted_before shown (old_list w) behind c parts.0) [ inl m ↦ inl (both m out) | inr m ↦ inr m ]);
    }

    no_touch : {P : Type 0} (ts : List Touch) (v : Touch) → ts ≡ [] → IsIn v ts → P
    no_touch ts v q i = absurd (subst (IsIn v) q i)

    woven : (v : Store) → IsWoven w middle almost v
    woven v = record {
      controls = λ c i. subst (WriteWithin idle) (sym (old_quiet c i)) tt;
      new_controls = λ c i. subst (WriteWithin idle) (sym (new_quiet c i)) tt;
      steady = λ c y i j m. no_touch (touches_of c) y (new_quiet c i) j;
      unread = unread;
      renamed = renamed;
      one_to_one = λ c f m k q. names_apart p scope l n reversed c f (reached_counted c m) (reached_counted f k) q;
      idle_names = λ c m. names_idle p scope l n reversed variables c ∙ (counted_touched w c unread m).0;
      once = ordered.0;
      reordered = ordered.1;
      kept = ordered.2;
      suit = rest_suits;
      own = λ c m. keeps_name c (λ copy. unneeded_copy c copy (counted_needed w c (λ a i. subst (WriteWithin idle) (sym (old_quiet a i)) tt) unread m));
      own_behind = λ c m.
          let wanted = (and_parts (wants shown behind c) (not (idle c)) m).0 in
          let stays = keeps_name c (λ copy. unwanted_copy c copy wanted) in (
            stays,
            (λ f k q. elim (stays_or_moves p scope l n reversed f) [
              | inl own ↦ sym own ∙ q ∙ stays
              | inr moved ↦ absurd (unwanted_copy c (inside p scope l count c some (subst (IsOfLoop p scope l) (q ∙ stays) (moves_inside p scope l n reversed f moved))) wanted)
            ]),
          );
    }

    -- the entry of the new DO stands for that of the old one
    entries : IsPutFor idle old_entry new_entry
    entries = record {
      reading = numbered 1 (bounds_seen p d scope s);
      rest = exit_when_none e.count e scope;
      new_reading = numbered 1 (bounds_seen p h scope s);
      new_rest = exit_when_none z.count z scope;
      in_old = refl;
      in_new = refl;
      writes_nothing = no_writes 1 (bounds_seen p d scope s);
      new_writes_nothing = no_writes 1 (bounds_seen p h scope s);
      among = same.among;
      same = subst (λ (m : ℕ). AreSameOutside idle (exit_when_none e.count e scope) (exit_when_none m z scope)) (sym same.count) (go (e.count == 0));
    }
      where
        go : (b : Bool) → AreSameOutside idle (if b then exit_touches e scope else []) (if b then exit_touches z scope else [])
        go true = (exit_unread idle scope e, exits_alone)
        go false = (tt, tt)

    fits : Fits old_acts s
    fits = subst (λ (acts : List Act). Fits acts s) whole_old ((run_told p old_loop l scope).fits s)

    weak : StandsFor (record { agreed = before; old = old_acts; new = new_acts }) almost s
    weak =
        both_stand before middle almost (old_entry ∷ []) (new_entry ∷ []) (old_list w) (new_list w) s (put_stands idle before middle old_entry new_entry s (fits.0, tt) entry_suits entries)
        (woven_stands w middle almost (store_after (old_entry ∷ []) s) fits.1 (woven (store_after (old_entry ∷ []) s)))

    -- so the new DO does these acts
    new_run : run p new_loop l scope s ≡ record { acts = new_acts; ending = ending_with goes_on (store_after new_acts s) }
    new_run = replayed s (weak s (λ c k. refl)).0

    new_whole : (run p new_loop l scope s).acts ≡ new_acts
    new_whole = ap (λ (r : Run). r.acts) new_run

    -- what is wanted behind and has a variable's name nobody writes here
    unwritten_by : (g : Head) (v : Store) (c : Cell) → idle c ≡ true → wants shown behind c ≡ true → written (run p (Do g body) l scope v).acts c ≡ false
    unwritten_by g v c i m = unwritten_there t x.valid l loop x.contained data_bytes ends scope front behind s executed goes unwanted_copy (Do g body) refl v c i m

    stands : StandsFor (record { agreed = before; old = old_acts; new = new_acts }) (wants shown behind) s
    stands v agree = let a = weak v agree in (a.0, (λ c m. go a.1 c m (idle c) refl))
      where
        go : AgreeIn almost (store_after old_acts s) (store_after new_acts v) → (c : Cell) → wants shown behind c ≡ true → (b : Bool) → idle c ≡ b → store_after old_acts s c ≡ store_after new_acts v c
        go most c m false i = most c (both m i)
        go most c m true i =
            let first : written old_acts c ≡ false = ap (λ (acts : List Act). written acts c) (sym whole_old) ∙ unwritten_by d s c i m in
            let second : written new_acts c ≡ false = ap (λ (acts : List Act). written acts c) (sym new_whole) ∙ unwritten_by h s c i m in
            let wanted : before c ≡ true = elim (wanted_before shown old_acts behind c m) [ inl k ↦ k | inr k ↦ absurd (both_ways (written old_acts c) first k) ] in
            after_other old_acts s c first ∙ agree c wanted ∙ sym (after_other new_acts v c second)

    -- what is shown of each execution
    pub stands_instead : StandsFor (record { agreed = wants shown ((run p old_loop l scope s).acts ++ behind); old = (run p old_loop l scope s).acts; new = (run p new_loop l scope s).acts }) (wants shown behind) s
    stands_instead =
        subst (λ (acts : List Act). StandsFor (record { agreed = wants shown (acts ++ behind); old = acts; new = (run p new_loop l scope s).acts }) (wants shown behind) s) (sym whole_old)
        (subst (λ (acts : List Act). StandsFor (record { agreed = before; old = old_acts; new = acts }) (wants shown behind) s) (sym new_whole) stands)

    pub does_instead : Replays (run p new_loop l scope) (run p new_loop l scope s).acts goes_on
    does_instead = subst (λ (acts : List Act). Replays (run p new_loop l scope) acts goes_on) (sym new_whole) replayed

    pub made_instead : IsMadeInstead p d h body l reversed scope s
    made_instead = record { old = old; trips = same; made = made; acts = new_whole ∙ ap (λ (acts : List Act). new_entry ∷ acts) new_is }
