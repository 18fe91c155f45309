-- In each execution two loops in each other's place may stand for the old ones.
use Rattle.std.proofs.Common.{Bool, List, Some, [], ap, append-nil, append_assoc, arith, false, inl, inr, not, pos, refl, subst, sym, true, ℕ, ℤ, ◌&&◌, ◌*ℤ◌, ◌++◌, ◌+ℤ◌, ◌+◌, ◌-◌, ◌<◌, ◌||◌, ◌∙◌, ◌∷◌, ◌≡◌, ◌≤◌, ◌⊎◌}
use Rattle.std.proofs.lemmas.Bool.{and_parts}
use Rattle.std.specs.List.{list_all}
use Rattle.std.specs.Str.Lines.{lines}
use Rattle.ped_base.specs.Lists.{is_among, is_same_text}
use Rattle.ped_rules.proofs.NestLaws.LoopPairs.{Row, pairs_acts, place_at, rows_are, seen_at, store_at}
use Rattle.ped_rules.proofs.NestLaws.InnerPlaces.{inner_there, loops_of_program}
use Rattle.ped_rules.proofs.NestLaws.NestKnots.{IsControlOf, IsPair, control_of, inner_end, inner_entry, nest_acts, nest_blocks, nest_knots, outer_end, outer_entry, pair_of}
use Rattle.ped_rules.proofs.NestLaws.OnlyBodies.{never, only_changed, only_counted, only_tells, pair}
use Rattle.ped_rules.proofs.NestLaws.PairOrders.{new_blocks, old_blocks, pairs_ordered}
use Rattle.ped_rules.proofs.NestLaws.WovenCells.{PairReached, swapped_apart, swapped_idle, swapped_inside, swapped_or_stays}
use Rattle.ped_loop_runs.specs.ped_graph.specs.Dependences.{AreEdges}
use Rattle.ped_edges.specs.Edges.{Edge}
use Rattle.ped_rules.proofs.NestLaws.WovenConflicts.{NoneCrossesOn, crossing_apart, stands_after}
use Rattle.ped_rules.proofs.NestLaws.WovenLoops.{AreSwapped, HasSwappedTrips, its_names, new_in, new_likewise, new_place, new_replays, new_scope, new_seen, new_trip, new_whole, old_frames, old_in, old_scope, old_trip}
use Rattle.ped_rules.proofs.NestLaws.WovenLists.{AreParts, IsPart, end_reads, end_within, entry_reads, entry_within, part_inside, parts_around, parts_inside, trip_in_loop, trips_in_loop}
use Rattle.ped_rules.proofs.RightSteps.{right_step}
use Rattle.ped_rules.specs.OnlyLoops.{change_only, only_loop}
use Rattle.ped_loop_runs.proofs.LoopLaws.OneForOneCells.{IsOfLoop, all_unread, likewise_idle, touched_in}
use Rattle.ped_loop_runs.proofs.LoopLaws.OneForOneNames.{variables_unnamed}
use Rattle.ped_loop_runs.proofs.LoopLaws.OneForOneStands.{own_within, run_alone, false_unless, not_so, both}
use Rattle.ped_loop_runs.proofs.LoopLaws.SomeEdges.{some_edges}
use Rattle.ped_loop_runs.specs.Bounds.{IsOfFixed}
use Rattle.ped_loop_runs.specs.Carried.{AllStoreWithin, AreTrips}
use Rattle.ped_loop_runs.proofs.PastingLaws.LeftCopies.{IsOwn, body_reaches}
use Rattle.ped_loop_runs.proofs.PastingLaws.TheirCopies.{theirs, theirs_unneeded}
use Rattle.ped_loop_runs.proofs.PastingLaws.ToldPlaces.{no_turns}
use Rattle.ped_loop_runs.specs.Copies.{IsTheirs}
use Rattle.ped_loop_runs.specs.Executions.{IsCopyInside, IsExecuted}
use Rattle.ped_loop_runs.specs.ped_bodies.proofs.BodyLaws.LikewiseActs.{likewise_stripped}
use Rattle.ped_loop_runs.specs.ped_bodies.proofs.BodyLaws.MovedCells.{no_copies, path_append}
use Rattle.ped_loop_runs.specs.ped_bodies.specs.Likewise.{AreLikewise}
use Rattle.ped_loop_runs.specs.ped_bodies.specs.Moving.{is_cell_among, own_number}
use Rattle.ped_loop_runs.specs.ped_bodies.specs.Trips.{IsTrip, bounds_seen, loop_acts}
use Rattle.ped_loop_runs.specs.ped_steps.proofs.RunLaws.RunPlaces.{stands_in}
use Rattle.ped_loop_runs.specs.ped_steps.specs.Replacing.{alone}
use Rattle.ped_loop_runs.specs.ped_steps.specs.Runs.Pasting.{IsInOutermost, IsPlaceOf}
use Rattle.ped_loop_runs.specs.ped_flow.specs.PlainBounds.{nest_round, outermost_or}
use Rattle.ped_loop_runs.specs.ped_flow.specs.Questions.{LoopOf}
use Rattle.ped_loop_runs.specs.ped_laws.proofs.ActLaws.Appending.{written_append}
use Rattle.ped_loop_runs.specs.ped_laws.proofs.ActLaws.Lists.{in_parts}
use Rattle.ped_loop_runs.specs.ped_laws.proofs.ActLaws.Outside.{dropped_first, kept_first, none_first, none_rest}
use Rattle.ped_loop_runs.specs.ped_laws.proofs.ActLaws.Renamings.{after_other, or_left, or_right}
use Rattle.ped_loop_runs.specs.ped_laws.proofs.ActLaws.SameCells.{text_itself}
use Rattle.ped_loop_runs.specs.ped_laws.proofs.ConflictLaws.CoveringNests.{IsOf}
use Rattle.ped_loop_runs.specs.ped_laws.proofs.ConflictLaws.CoveringRuns.{MakingLaw, SequenceLaw}
use Rattle.ped_loop_runs.specs.ped_laws.proofs.FlowRunLaws.TripReads.{contained_unread}
use Rattle.ped_loop_runs.specs.ped_laws.proofs.RunLaws.Sight.{limits_told}
use Rattle.ped_loop_runs.specs.ped_laws.proofs.RunLaws.StatementsTold.{run_told}
use Rattle.ped_loop_runs.specs.ped_laws.specs.Acts.Conflicts.{ReadNone, WriteWithin, act_without, blocks_conflict_outside, touches_without, without}
use Rattle.ped_loop_runs.specs.ped_laws.specs.Acts.Fitting.{Fits, store_after, touches_of}
use Rattle.ped_loop_runs.specs.ped_laws.specs.Acts.Grids.{block_at}
use Rattle.ped_loop_runs.specs.ped_laws.specs.Acts.Orders.{Block, EachOnce, IsIn, IsReordered, KeepsOrder, acts_in_blocks, block_conflict}
use Rattle.ped_loop_runs.specs.ped_laws.specs.Acts.Pieces.{StandsFor}
use Rattle.ped_loop_runs.specs.ped_laws.specs.Acts.Renaming.{Renamed, touch}
use Rattle.ped_loop_runs.specs.ped_laws.specs.Acts.Sets.{AgreeIn, needs, nothing, wants, written}
use Rattle.ped_loop_runs.specs.ped_laws.specs.Conflicts.Sequence.{AreSuccessive}
use Rattle.ped_loop_runs.specs.ped_laws.specs.FlowRuns.Covering.{is_cell_of}
use Rattle.ped_loop_runs.specs.ped_laws.specs.Runs.Replaying.{Replays, ending_with, finish_of, goes_on, has_fault}
use Rattle.ped_loop_runs.specs.ped_laws.specs.Runs.Seeing.{Holds}
use Rattle.ped_loop_runs.specs.ped_laws.specs.Runs.Showing.{shown_at_end}
use Rattle.ped_loop_runs.specs.ped_eval.specs.Evaluation.{Seen, cell_seen, index_seen}
use Rattle.ped_loop_runs.specs.ped_eval.specs.Loops.{Entered, frame, inner_variables, value_in}
use Rattle.ped_loop_runs.specs.ped_eval.specs.Outcomes.{Ends, run_of, setting_of}
use Rattle.ped_loop_runs.specs.ped_eval.specs.Runs.{Run, run, run_all}
use Rattle.ped_loop_runs.specs.ped_eval.specs.Scopes.{Scope, Setting, cell_of, names_in, place_of, turns_of}
use Rattle.ped_loop_runs.specs.ped_store.specs.Acts.{Act, Place, Touch, Turn, iterations_of, reads}
use Rattle.ped_loop_runs.specs.ped_store.specs.Cells.{Cell, Element, In, Iteration, Out, Private, Scalar}
use Rattle.ped_loop_runs.specs.ped_store.specs.Races.{is_write}
use Rattle.ped_loop_runs.specs.ped_store.specs.Stores.{Content, Store, store_at_start}
use Rattle.ped_loop_runs.specs.ped_symbols.specs.Kinds.{kind_in}
use Rattle.ped_loop_runs.specs.ped_symbols.specs.RightUses.RightUses.{is_scalar}
use Rattle.ped_loop_runs.specs.ped_weaves.proofs.WeaveLaws.AgreedApart.{agreed_before_or_written, needed_agreed}
use Rattle.ped_loop_runs.specs.ped_weaves.proofs.WeaveLaws.CountedActs.{counted_needed, counted_touched, counted_writes}
use Rattle.ped_loop_runs.specs.ped_weaves.proofs.WeaveLaws.Woven.{woven_stands}
use Rattle.ped_loop_runs.specs.ped_weaves.specs.Apart.{agreed}
use Rattle.ped_loop_runs.specs.ped_weaves.specs.Puttings.{Suit}
use Rattle.ped_loop_runs.specs.ped_weaves.specs.Weaves.{IsSteady, IsWoven, Knot, Weave, block, blocks_in, control, counted, new_list, old_list}
use Rattle.ped_tree.specs.Grammar.Fits.{moved}
use Rattle.ped_tree.specs.Grammar.Words.{is_name}
use Rattle.ped_tree.specs.NamesIn.{all_loop_variables, loop_variables}
use Rattle.ped_tree.specs.Numbering.{statement_count, statement_with, statements_count}
use Rattle.ped_tree.specs.Tree.{Do, Head, ProgramTree, StmtTree, StmtTrees}
use Rattle.ped_rules.proofs.NestLaws.LoopPairs as pairs
use Rattle.ped_rules.proofs.NestLaws.WovenLoops as loops
use Rattle.ped_rules.proofs.NestLaws.PairOrders as orders
use Rattle.ped_loop_runs.proofs.LoopLaws.OneForOneCells as cells
use Rattle.ped_loop_runs.proofs.LoopLaws.PlainReads as plain
use Rattle.ped_loop_runs.proofs.LoopLaws.UnwantedNames.{unwritten_there}

not_false : (b : Bool) → b ≡ true → not b ≡ false
not_false b e = ap not e

-- what stands apart in the whole program: all but own cells of scalars that aren't variables of the loops
abbrev pub stands_apart : List (List ℕ) → Cell → Bool
stands_apart variables (Scalar x) = is_among x variables
stands_apart variables (Private x path) = true
stands_apart variables (Element x js) = true
stands_apart variables In = true
stands_apart variables Out = true

pub idle_apart : (variables : List (List ℕ)) (c : Cell) → is_cell_among variables c ≡ true → stands_apart variables c ≡ true
idle_apart variables (Scalar x) h = h
idle_apart variables (Private x path) h = refl
idle_apart variables (Element x js) h = refl
idle_apart variables In h = refl
idle_apart variables Out h = refl

-- what is agreed on and stands apart is wanted
pub agreed_wanted : (apart shown : Cell → Bool) (acts : List Act) (c : Cell) → apart c ≡ true → agreed apart shown acts c ≡ true → wants shown acts c ≡ true
agreed_wanted apart shown acts c e h = ap (λ (b : Bool). not b || wants shown acts c) (sym e) ∙ h

pub touches_in : (d : Cell → Bool) (ts : List Touch) (v : Touch) → IsIn v (touches_without d ts) → IsIn v ts
touches_in d [] v i = i
touches_in d (t ∷ ts) v i = go (is_write t.manner && d t.cell) refl i (touches_in d ts v)
  where
    go : (b : Bool) → is_write t.manner && d t.cell ≡ b → IsIn v (touches_without d (t ∷ ts)) → (IsIn v (touches_without d ts) → IsIn v ts) → (v ≡ t) ⊎ IsIn v ts
    go true e k more = inr (more (subst (λ (us : List Touch). IsIn v us) (dropped_first d t ts e) k))
    go false e k more = elim (subst (λ (us : List Touch). IsIn v us) (kept_first d t ts e) k) [ inl q ↦ inl q | inr m ↦ inr (more m) ]

pub without_from : (d : Cell → Bool) (acts : List Act) (a : Act) → IsIn a (without d acts) → (b : Act) × IsIn b acts × (a ≡ act_without d b)
without_from d [] a i = absurd i
without_from d (b ∷ acts) a (inl e) = (b, inl refl, e)
without_from d (b ∷ acts) a (inr i) = let r = without_from d acts a i in (r.0, inr r.1, r.2)

pub of_block : (bs : List Block) (a : Act) → IsIn a (acts_in_blocks bs) → (b : Block) × IsIn b bs × IsIn a b.acts
of_block [] a i = absurd i
of_block (b ∷ bs) a i = elim (in_parts a b.acts (acts_in_blocks bs) i) [
  | inl k ↦ (b, inl refl, k)
  | inr k ↦ let r = of_block bs a k in (r.0, inr r.1, r.2)
]

module _ (making : MakingLaw) (sequence : SequenceLaw) (t u : ProgramTree) (l : ℕ) (loop : LoopOf t l) (g h k : Head) (inside : StmtTrees) (only : only_loop loop.body ≡ Some (pair g inside)) (x : AreSwapped t u l loop g h k inside only) (data_bytes : List ℕ)
    (uncrossed : (edges : List Edge) → AreEdges t edges → NoneCrossesOn t edges data_bytes l loop.body) (ends : Ends (run_of t data_bytes).ending) where
  abbrev p : Setting
  p = setting_of t

  abbrev d : Head
  d = loop.head

  abbrev body : StmtTrees
  body = loop.body

  abbrev its_body : StmtTrees
  its_body = change_only (λ f z. Do k z) loop.body

  abbrev old_loop : StmtTree
  old_loop = Do loop.head loop.body

  abbrev new_loop : StmtTree
  new_loop = Do h (change_only (λ f z. Do k z) loop.body)

  abbrev variables : List (List ℕ)
  variables = loop_variables (Do loop.head loop.body)

  abbrev idle : Cell → Bool
  idle = is_cell_among variables

  abbrev apart : Cell → Bool
  apart = stands_apart variables

  abbrev start : Store
  start = store_at_start (lines data_bytes)

  abbrev shown : Cell → Bool
  shown = shown_at_end t

  abbrev size : ℕ
  size = statements_count (alone (Do loop.head loop.body))

  some : 0 < size
  some = omega arith

  -- the variables of the two loops, and of those in them
  own_variable : is_among d.variable variables ≡ true
  own_variable = or_left (is_same_text d.variable d.variable) (is_among d.variable (all_loop_variables body)) (text_itself d.variable)

  inner_loops : all_loop_variables body ≡ loop_variables (Do g inside)
  inner_loops = only_tells g inside loop_variables all_loop_variables (λ (xs ys : List (List ℕ)). xs ++ ys) [] (λ xs. refl) (λ xs. append-nil xs) refl (λ s rest. refl) (λ text. refl) body only

  deeper : (w : List ℕ) → is_among w (loop_variables (Do g inside)) ≡ true → is_among w variables ≡ true
  deeper w i = or_right (is_same_text w d.variable) (is_among w (all_loop_variables body)) (ap (is_among w) inner_loops ∙ i)

  inner_named : is_among g.variable variables ≡ true
  inner_named = deeper g.variable (or_left (is_same_text g.variable g.variable) (is_among g.variable (all_loop_variables inside)) (text_itself g.variable))

  body_named : (w : List ℕ) → is_among w (all_loop_variables inside) ≡ true → is_among w variables ≡ true
  body_named w i = deeper w (or_right (is_same_text w g.variable) (is_among w (all_loop_variables inside)) i)

  pub outer_new_named : is_among h.variable variables ≡ true
  outer_new_named = ap (λ (v : List ℕ). is_among v variables) x.variable ∙ inner_named

  pub inner_new_named : is_among k.variable variables ≡ true
  inner_new_named = ap (λ (v : List ℕ). is_among v variables) x.inner_variable ∙ own_variable

  module _ (scope : Scope) (front behind : List Act) (s : Store) (executed : IsExecuted p t start l size scope front (run p old_loop l scope s).acts behind s) (goes : finish_of (run p old_loop l scope s).ending ≡ goes_on) where
    abbrev pub same : HasSwappedTrips t l d g h k body inside only scope s goes
    same = x.trips data_bytes scope front behind s executed goes

    abbrev pub e0 : Entered
    e0 = loops.e t l d g h k body inside only scope s goes same

    abbrev pub z0 : Entered
    z0 = loops.z t l d g h k body inside only scope s goes same

    abbrev pub in_old : ℕ → Entered
    in_old i = old_in t l d g h k body inside only scope s goes same i

    abbrev pub in_new : ℕ → Entered
    in_new a = new_in t l d g h k body inside only scope s goes same a

    abbrev pub scope_old : ℕ → Scope
    scope_old i = old_scope t l d g h k body inside only scope s goes same i

    abbrev pub scope_new : ℕ → Scope
    scope_new a = new_scope t l d g h k body inside only scope s goes same a

    abbrev pub row_old : ℕ → Row
    row_old i = loops.old_row t l d g h k body inside only scope s goes same i

    abbrev pub later : ℕ → ℕ
    later = same.later

    abbrev pub below : ℕ → ℕ
    below = same.below

    abbrev pub names : Cell → Cell
    names = its_names t l d g h k body inside only scope s goes same

    abbrev pub fresh_trip : ℕ → ℕ → List Act
    fresh_trip = new_trip t l d g h k body inside only scope s goes same x.variable x.inner_variable x.differ x.serial x.inner_serial x.new_serial x.new_inner_serial x.private x.inner_private x.new_private x.new_inner_private

    abbrev pub seen_old : ℕ → List Seen
    seen_old i = seen_at p d g body inside only l scope s goes i

    abbrev pub place_old : ℕ → Place
    place_old i = place_at p d g body inside only l scope s goes i

    abbrev pub seen_new : ℕ → List Seen
    seen_new a = new_seen t l d g h k body inside only scope s goes same a

    abbrev pub place_new : ℕ → Place
    place_new a = new_place t l d g h k body inside only scope s goes same a

    abbrev pub at : Place
    at = place_of p l scope

    abbrev pub old_block : ℕ → ℕ → List Act
    old_block i a = (row_old i).trip (a - later i)

    abbrev pub new_block : ℕ → ℕ → List Act
    new_block i a = fresh_trip a (i - below a)

    abbrev pub first_number : ℕ → ℕ → ℕ
    first_number i j = i

    abbrev pub second_number : ℕ → ℕ → ℕ
    second_number i j = later i + j

    abbrev pub new_first : ℕ → ℕ → ℕ
    new_first a b = below a + b

    abbrev pub new_second : ℕ → ℕ → ℕ
    new_second a b = a

    abbrev pub old_knots : List Knot
    old_knots = nest_knots (bounds_seen p d scope s) e0 scope at seen_old in_old scope_old place_old first_number second_number

    abbrev pub new_knots : List Knot
    new_knots = nest_knots (bounds_seen p h scope s) z0 scope at seen_new in_new scope_new place_new new_first new_second

    abbrev pub w : Weave
    w = record { names = names; idle = idle; old = old_knots; new = new_knots; acts = old_block; others = new_block }

    -- the lists are woven so
    old_is : old_list w ≡ (run p old_loop l scope s).acts
    old_is =
        nest_acts (bounds_seen p d scope s) e0 scope at seen_old in_old scope_old place_old first_number second_number old_block x.serial (λ i. x.inner_serial)
        ∙ (λ q. loop_acts (bounds_seen p d scope s) e0 scope at (λ i. loop_acts (seen_old i) (in_old i) (scope_old i) (place_old i) (λ j. (row_old i).trip (back i j q))))
        ∙ sym (pairs_acts p d g body inside only l scope s goes)
      where
        back : (i j : ℕ) → later i + j - later i ≡ j
        back i j = omega arith

    new_is : new_list w ≡ new_whole t l d g h k body inside only scope s goes same x.variable x.inner_variable x.differ x.serial x.inner_serial x.new_serial x.new_inner_serial x.private x.inner_private x.new_private x.new_inner_private
    new_is =
        nest_acts (bounds_seen p h scope s) z0 scope at seen_new in_new scope_new place_new new_first new_second new_block x.new_serial (λ a. x.new_inner_serial)
        ∙ (λ q. loop_acts (bounds_seen p h scope s) z0 scope at (λ a. loop_acts (seen_new a) (in_new a) (scope_new a) (place_new a) (λ b. fresh_trip a (back a b q))))
      where
        back : (a b : ℕ) → below a + b - below a ≡ b
        back a b = omega arith

    replayed : Replays (run p new_loop l scope) (new_list w) goes_on
    replayed = subst (λ (acts : List Act). Replays (run p new_loop l scope) acts goes_on) (sym new_is) (new_replays t l d g h k body inside only scope s goes same x.variable x.inner_variable x.differ x.serial x.inner_serial x.new_serial x.new_inner_serial x.private x.inner_private x.new_private x.new_inner_private)

    -- controls write the variables of their loops
    no_inner : (f : Head) (ts : StmtTrees) → f.parallel ≡ false → inner_variables f.parallel ts ≡ []
    no_inner f ts q = ap (λ (b : Bool). inner_variables b ts) q

    old_controls : (c : List Act) → IsIn (control c) w.old → WriteWithin idle (touches_of c)
    old_controls c i = by (control_of (bounds_seen p d scope s) e0 scope at seen_old in_old scope_old place_old first_number second_number c i)
      where
        by : IsControlOf (bounds_seen p d scope s) e0 scope at seen_old in_old scope_old place_old first_number second_number c → WriteWithin idle (touches_of c)
        by (outer_entry q) = subst (λ (a : List Act). WriteWithin idle (touches_of a)) (sym q) (entry_within variables e0 scope x.serial x.private (no_inner d body x.serial) own_variable (bounds_seen p d scope s) at)
        by (inner_entry i from to q) = subst (λ (a : List Act). WriteWithin idle (touches_of a)) (sym q) (entry_within variables (in_old i) (scope_old i) x.inner_serial x.inner_private (no_inner g inside x.inner_serial) inner_named (seen_old i) (place_old i))
        by (inner_end i j from to q) = subst (λ (a : List Act). WriteWithin idle (touches_of a)) (sym q) (end_within variables (in_old i) (scope_old i) x.inner_serial x.inner_private (no_inner g inside x.inner_serial) inner_named (place_old i) j)
        by (outer_end i from to q) = subst (λ (a : List Act). WriteWithin idle (touches_of a)) (sym q) (end_within variables e0 scope x.serial x.private (no_inner d body x.serial) own_variable at i)

    new_controls : (c : List Act) → IsIn (control c) w.new → WriteWithin idle (touches_of c)
    new_controls c i = by (control_of (bounds_seen p h scope s) z0 scope at seen_new in_new scope_new place_new new_first new_second c i)
      where
        by : IsControlOf (bounds_seen p h scope s) z0 scope at seen_new in_new scope_new place_new new_first new_second c → WriteWithin idle (touches_of c)
        by (outer_entry q) = subst (λ (a : List Act). WriteWithin idle (touches_of a)) (sym q) (entry_within variables z0 scope x.new_serial x.new_private (no_inner h its_body x.new_serial) outer_new_named (bounds_seen p h scope s) at)
        by (inner_entry a from to q) = subst (λ (b : List Act). WriteWithin idle (touches_of b)) (sym q) (entry_within variables (in_new a) (scope_new a) x.new_inner_serial x.new_inner_private (no_inner k inside x.new_inner_serial) inner_new_named (seen_new a) (place_new a))
        by (inner_end a b from to q) = subst (λ (c : List Act). WriteWithin idle (touches_of c)) (sym q) (end_within variables (in_new a) (scope_new a) x.new_inner_serial x.new_inner_private (no_inner k inside x.new_inner_serial) inner_new_named (place_new a) b)
        by (outer_end a from to q) = subst (λ (b : List Act). WriteWithin idle (touches_of b)) (sym q) (end_within variables z0 scope x.new_serial x.new_private (no_inner h its_body x.new_serial) outer_new_named at a)

    -- what new controls read: scalars that keep their values
    pub record IsSteadyRead (v : Touch) : Type 0 where
      pub fixed : IsOfFixed p.constants t l v.cell
      pub held : s v.cell ≡ v.content

    held_in : (xs : List Seen) (c : Cell) (v : Content) → Holds s xs → IsIn (cell_seen c v) xs → s c ≡ v
    held_in [] c v q i = absurd i
    held_in (cell_seen e w ∷ more) c v q (inl r) = let cells : c ≡ e = cc in let same_content : v ≡ w = cc in ap s cells ∙ q.0 ∙ sym same_content
    held_in (cell_seen e w ∷ more) c v q (inr i) = held_in more c v q.1 i
    held_in (index_seen e w ∷ more) c v q (inl r) = absurd cc
    held_in (index_seen e w ∷ more) c v q (inr i) = held_in more c v q i

    pub steady_read : (c : List Act) (v : Touch) → IsIn (control c) w.new → IsIn v (touches_of c) → v.manner ≡ reads → IsSteadyRead v
    steady_read c v i j m = by (control_of (bounds_seen p h scope s) z0 scope at seen_new in_new scope_new place_new new_first new_second c i)
      where
        by : IsControlOf (bounds_seen p h scope s) z0 scope at seen_new in_new scope_new place_new new_first new_second c → IsSteadyRead v
        by (outer_entry q) =
            let r = entry_reads variables z0 scope x.new_serial x.new_private (no_inner h its_body x.new_serial) outer_new_named (bounds_seen p h scope s) at v (subst (λ (a : List Act). IsIn v (touches_of a)) q j) m in
            record { fixed = same.fixed v.cell v.content r; held = held_in (bounds_seen p h scope s) v.cell v.content ((limits_told (names_in p scope) h).holds s) r }
        by (inner_entry a from to q) =
            let r = entry_reads variables (in_new a) (scope_new a) x.new_inner_serial x.new_inner_private (no_inner k inside x.new_inner_serial) inner_new_named (seen_new a) (place_new a) v (subst (λ (b : List Act). IsIn v (touches_of b)) q j) m in
            record { fixed = same.inner_fixed a from to v.cell v.content r; held = held_in (seen_new a) v.cell v.content ((limits_told (names_in p (scope_new a)) k).holds s) r }
        by (inner_end a b from to q) = absurd (end_reads variables (in_new a) (scope_new a) x.new_inner_serial x.new_inner_private (no_inner k inside x.new_inner_serial) inner_new_named (place_new a) b v (subst (λ (c : List Act). IsIn v (touches_of c)) q j) m)
        by (outer_end a from to q) = absurd (end_reads variables z0 scope x.new_serial x.new_private (no_inner h its_body x.new_serial) outer_new_named at a v (subst (λ (b : List Act). IsIn v (touches_of b)) q j) m)

    -- a scalar that keeps its value is no variable of a loop, and nobody writes it
    fixed_counts : (c : Cell) → IsOfFixed p.constants t l c → (idle c ≡ false) × (apart c ≡ false)
    fixed_counts c f =
        let none : is_among f.0 variables ≡ false = false_unless (is_among f.0 variables) (λ m. never (is_among f.0 (all_loop_variables t.body)) (loops_of_program t l loop f.0 m) f.2.other) in
        (ap idle f.1 ∙ none, ap apart f.1 ∙ none)

    -- part of what has no write has none
    none_in_part : (whole acts : List Act) (c : Cell) → IsPart whole acts → written whole c ≡ false → written acts c ≡ false
    none_in_part whole acts c part none = false_unless (written acts c) (λ m. never (written whole c)
        (ap (λ (ys : List Act). written ys c) part.is ∙ written_append part.before (acts ++ part.behind) c ∙ or_right (written part.before c) (written (acts ++ part.behind) c) (written_append acts part.behind c ∙ or_left (written acts c) (written part.behind c) m))
        none)

    pub fixed_unwritten : (c : Cell) → IsOfFixed p.constants t l c → written (run p old_loop l scope s).acts c ≡ false
    fixed_unwritten c f = by scope executed.place executed.outer
      where
        by : (place : Scope) → IsPlaceOf p t l place → IsInOutermost p t start l place (run p old_loop l scope s).acts s → written (run p old_loop l scope s).acts c ≡ false
        by [] place outer =
            let none : nest_round t l ≡ [] = no_turns p.number (nest_round t l) place.turns in
            let same_number : l ≡ outermost_or l (nest_round t l) = ap (outermost_or l) (sym none) in
            plain.fixed_unwritten p t l c f (record { head = d; body = body; is = subst (λ (n : ℕ). statement_with n t ≡ Some (Do loop.head loop.body)) same_number loop.is }) l scope s
        by (r ∷ rs) place outer =
            none_in_part (run p (Do outer.loop.head outer.loop.body) (outermost_or l (nest_round t l)) [] outer.first).acts (run p old_loop l scope s).acts c
            (record { before = outer.part.front; behind = outer.part.behind; is = outer.part.is }) (plain.fixed_unwritten p t l c f outer.loop (outermost_or l (nest_round t l)) [] outer.first)

    -- the body in an old pair of iterations
    there : (i j : ℕ) → 1 ≤ i → i ≤ e0.count → 1 ≤ j → j ≤ (in_old i).count → (v : Store) × IsTrip p inside (l + 1) (scope_old i) (in_old i) j v ((row_old i).trip j)
    there i j from to low high = old_trip t l d g h k body inside only scope s goes same i j from to low high

    of_pair : (i j : ℕ) → old_block i (later i + j) ≡ (row_old i).trip j
    of_pair i j = ap (row_old i).trip (let back : later i + j - later i ≡ j = omega arith in back)

    row_acts : (i : ℕ) → 1 ≤ i → i ≤ e0.count → (pairs.outer p d g body inside only l scope s goes).trip i ≡ loop_acts (seen_old i) (in_old i) (scope_old i) (place_old i) (row_old i).trip
    row_acts i from to = (rows_are p d g body inside only l scope s goes i from to).acts

    none_of_part : (whole acts : List Act) → IsPart whole acts → ReadNone idle whole → ReadNone idle acts
    none_of_part whole acts part none = none_first idle acts part.behind (none_rest idle part.before (acts ++ part.behind) (subst (ReadNone idle) part.is none))

    row_unread : (i : ℕ) → 1 ≤ i → i ≤ e0.count → ReadNone idle ((pairs.outer p d g body inside only l scope s goes).trip i)
    row_unread i from to =
        let it = (pairs.outer p d g body inside only l scope s goes).are i from to in
        all_unread variables ((pairs.outer p d g body inside only l scope s goes).trip i) (λ v m. subst (ReadNone (is_cell_of v)) (sym it.is) (contained_unread p t l loop v (variables_unnamed t x.valid l loop v m) x.contained m scope (frame e0 i) (store_at p d g body inside only l scope s goes i) refl))

    trip_unread : (i j : ℕ) → 1 ≤ i → i ≤ e0.count → 1 ≤ j → j ≤ (in_old i).count → ReadNone idle ((row_old i).trip j)
    trip_unread i j from to low high =
        none_of_part (loop_acts (seen_old i) (in_old i) (scope_old i) (place_old i) (row_old i).trip) ((row_old i).trip j) (trip_in_loop (seen_old i) (in_old i) (scope_old i) (place_old i) (row_old i).trip j low high)
        (subst (ReadNone idle) (row_acts i from to) (row_unread i from to))

    abbrev Pair : ℕ → ℕ → Type 0
    Pair m n = IsPair (bounds_seen p d scope s) e0 scope at seen_old in_old scope_old place_old first_number second_number m n

    pair_there : (m n : ℕ) → IsIn (block m n) w.old → Pair m n
    pair_there m n i = pair_of (bounds_seen p d scope s) e0 scope at seen_old in_old scope_old place_old first_number second_number m n i

    block_is_trip : (m n : ℕ) (y : Pair m n) → old_block m n ≡ (row_old y.outer).trip y.inner_number
    block_is_trip m n y = (λ q. old_block (y.one q) (y.two q)) ∙ of_pair y.outer y.inner_number

    unread : (m n : ℕ) → IsIn (block m n) w.old → ReadNone idle (w.acts m n)
    unread m n i =
        let y = pair_there m n i in
        subst (ReadNone idle) (sym (block_is_trip m n y)) (trip_unread y.outer y.inner_number y.from y.to y.inner_from y.inner_to)

    -- the new bodies do the same on renamed cells
    renamed_pair : (i j : ℕ) → 1 ≤ i → i ≤ e0.count → 1 ≤ j → j ≤ (in_old i).count → Renamed names (without idle ((row_old i).trip j)) (without idle (new_block i (later i + j)))
    renamed_pair i j from to low high =
        let r = same.grouped.forth i j from to low high in
        let under = r.1 in
        let over = r.2 in
        let a : ℕ = later i + j in
        let b : ℕ = i - below (later i + j) in
        let pair : below (later i + j) + (i - below (later i + j)) ≡ i = omega (arith, under) in
        let inner_pair : later i + j - later i ≡ j = omega arith in
        let alike = new_likewise t l d g h k body inside only scope s goes same x.variable x.inner_variable x.differ x.serial x.inner_serial x.new_serial x.new_inner_serial x.private x.inner_private x.new_private x.new_inner_private
        (later i + j) (i - below (later i + j)) (omega (arith, low)) r.0 (omega (arith, under)) (omega (arith, over, under)) in
        (likewise_stripped names idle (swapped_idle p scope l e0.count z0.count (λ m. (in_old m).count) (λ m. (in_new m).count) later below same.grouped variables) own_number
        (turns_of (frame (in_old i) j ∷ scope_old i)) (turns_of (frame (in_new (later i + j)) (i - below (later i + j)) ∷ scope_new (later i + j))) ((row_old i).trip j) (fresh_trip (later i + j) (i - below (later i + j))) (trip_unread i j from to low high)
        (likewise_idle true variables names own_number (turns_of (frame (in_old i) j ∷ scope_old i)) (turns_of (frame (in_new (later i + j)) (i - below (later i + j)) ∷ scope_new (later i + j))) ((row_old i).trip j) (fresh_trip (later i + j) (i - below (later i + j)))
        (subst (λ (m : ℕ). AreLikewise names nothing own_number (turns_of (frame (in_old i) m ∷ scope_old i)) (turns_of (frame (in_new (later i + j)) (i - below (later i + j)) ∷ scope_new (later i + j))) ((row_old i).trip m) (fresh_trip (later i + j) (i - below (later i + j)))) inner_pair
        (subst (λ (m : ℕ). AreLikewise names nothing own_number (turns_of (frame (in_old m) (later i + j - later m) ∷ scope_old m)) (turns_of (frame (in_new (later i + j)) (i - below (later i + j)) ∷ scope_new (later i + j))) ((row_old m).trip (later i + j - later m)) (fresh_trip (later i + j) (i - below (later i + j)))) pair alike)))).0

    renamed : (m n : ℕ) → IsIn (block m n) w.old → Renamed names (without idle (w.acts m n)) (without idle (w.others m n))
    renamed m n i =
        let y = pair_there m n i in
        subst (λ (acts : List Act). Renamed names (without idle acts) (without idle (new_block m n))) (sym (block_is_trip m n y))
        (subst (λ (acts : List Act). Renamed names (without idle ((row_old y.outer).trip y.inner_number)) (without idle acts)) (λ q. new_block (sym y.one q) (sym y.two q)) (renamed_pair y.outer y.inner_number y.from y.to y.inner_from y.inner_to))

    -- what they store of themselves
    stores : (i j : ℕ) → 1 ≤ i → i ≤ e0.count → 1 ≤ j → j ≤ (in_old i).count → AllStoreWithin idle ((row_old i).trip j)
    stores i j from to low high =
        let it = there i j from to low high in
        subst (AllStoreWithin idle) (sym it.1.is) (own_within variables p inside (l + 1 + 1) (frame (in_old i) j ∷ scope_old i) it.0 body_named)

    -- where they stand
    stand_there : (i j : ℕ) → 1 ≤ i → i ≤ e0.count → 1 ≤ j → j ≤ (in_old i).count → (a : Act) → IsIn a ((row_old i).trip j) → (more : List Turn) × (a.place.turns ≡ turns_of scope ++ (frame e0 i).turn ∷ ((frame (in_old i) j).turn ∷ more))
    stand_there i j from to low high a m =
        let it = there i j from to low high in
        let r = stands_in p inside (l + 1 + 1) (frame (in_old i) j ∷ scope_old i) it.0 a (subst (IsIn a) it.1.is m) in (
          r.0,
          r.1 ∙ append_assoc (turns_of scope ++ (frame e0 i).turn ∷ []) ((frame (in_old i) j).turn ∷ []) r.0 ∙ append_assoc (turns_of scope) ((frame e0 i).turn ∷ []) ((frame (in_old i) j).turn ∷ r.0),
        )

    -- the acts of a pair stand among those of the row, and of all
    one_trip : (q f : ℕ) → 1 ≤ q → q ≤ e0.count → 1 ≤ f → f ≤ (in_old q).count → IsPart ((pairs.outer p d g body inside only l scope s goes).trip q) ((row_old q).trip f)
    one_trip q f begin end first last =
        subst (λ (acts : List Act). IsPart acts ((row_old q).trip f)) (sym (row_acts q begin end)) (trip_in_loop (seen_old q) (in_old q) (scope_old q) (place_old q) (row_old q).trip f first last)

    pub pair_part : (q f : ℕ) → 1 ≤ q → q ≤ e0.count → 1 ≤ f → f ≤ (in_old q).count → IsPart (run p old_loop l scope s).acts ((row_old q).trip f)
    pair_part q f begin end first last =
        part_inside (run p old_loop l scope s).acts ((pairs.outer p d g body inside only l scope s goes).trip q) ((row_old q).trip f)
        (subst (λ (acts : List Act). IsPart acts ((pairs.outer p d g body inside only l scope s goes).trip q)) (sym (pairs.outer p d g body inside only l scope s goes).acts)
        (trip_in_loop (bounds_seen p d scope s) e0 scope at (pairs.outer p d g body inside only l scope s goes).trip q begin end))
        (one_trip q f begin end first last)

    two_pairs : (i j m n : ℕ) → 1 ≤ i → i < m → m ≤ e0.count → 1 ≤ j → j ≤ (in_old i).count → 1 ≤ n → n ≤ (in_old m).count → AreTrips t data_bytes l ((row_old i).trip j) ((row_old m).trip n)
    two_pairs i j m n from less to low high its_low its_high = record {
      front = parts.before;
      between = parts.between;
      behind = parts.behind;
      is = parts.is;
      outer = turns_of scope;
      i = (frame e0 i).turn;
      j = (frame e0 m).turn;
      in_first = λ a q. let r = stand_there i j from (omega (arith, less, to)) low high a q in ((frame (in_old i) j).turn ∷ r.0, r.1);
      in_second = λ a q. let r = stand_there m n (omega (arith, from, less)) to its_low its_high a q in ((frame (in_old m) n).turn ∷ r.0, r.1);
      of_first = refl;
      of_second = refl;
      order = less;
    }
      where
        rows : AreParts (run p old_loop l scope s).acts ((pairs.outer p d g body inside only l scope s goes).trip i) ((pairs.outer p d g body inside only l scope s goes).trip m)
        rows =
            subst (λ (acts : List Act). AreParts acts ((pairs.outer p d g body inside only l scope s goes).trip i) ((pairs.outer p d g body inside only l scope s goes).trip m)) (sym (pairs.outer p d g body inside only l scope s goes).acts)
            (trips_in_loop (bounds_seen p d scope s) e0 scope at (pairs.outer p d g body inside only l scope s goes).trip i m from less to)

        parts : AreParts (run_of t data_bytes).acts ((row_old i).trip j) ((row_old m).trip n)
        parts =
            parts_around (run_of t data_bytes).acts (run p old_loop l scope s).acts ((row_old i).trip j) ((row_old m).trip n) (record { before = front; behind = behind; is = executed.whole })
            (parts_inside (run p old_loop l scope s).acts ((pairs.outer p d g body inside only l scope s goes).trip i) ((pairs.outer p d g body inside only l scope s goes).trip m) ((row_old i).trip j) ((row_old m).trip n) rows
            (one_trip i j from (omega (arith, less, to)) low high) (one_trip m n (omega (arith, from, less)) to its_low its_high))

    -- blocks that conflict keep their order
    abbrev its_inner : LoopOf t (l + 1)
    its_inner = record { head = g; body = inside; is = inner_there t l d body g inside loop.is only }

    abbrev turn_at : ℕ → ℤ → Turn
    turn_at n v = record { statement = l + 1; parallel = g.parallel; number = n; value = v }

    later_turn : (i j m n : ℕ) → 1 ≤ i → i ≤ e0.count → 1 ≤ j → j ≤ (in_old i).count → 1 ≤ m → m ≤ e0.count → 1 ≤ n → n ≤ (in_old m).count → later m + n < later i + j → AreSuccessive t (turn_at (later m + n) (value_in (in_old m) n)) (turn_at (later i + j) (value_in (in_old i) j))
    later_turn i j m n from to low high its_from its_to its_low its_high less = record {
      same = refl;
      parallel = refl;
      earlier = less;
      head = g;
      body = inside;
      stands = its_inner.is;
      initial = z0.first;
      at_first = sym (same.values m n its_from its_to its_low its_high) ∙ ap (λ (step : ℤ). z0.first +ℤ pos (later m + n - 1) *ℤ step) x.steps;
      at_second = sym (same.values i j from to low high) ∙ ap (λ (step : ℤ). z0.first +ℤ pos (later i + j - 1) *ℤ step) x.steps;
    }

    of_inner : (n : ℕ) (v : ℤ) → 1 ≤ n → IsOf t (record { number = l + 1; head = g }) (turn_at n v)
    of_inner n v from = record {
      statement = refl;
      body = inside;
      stands = its_inner.is;
      step = right_step t (l + 1) g inside x.valid its_inner.is;
      from = from;
      parallel = refl;
      private = ap (list_all (is_scalar (kind_in t))) x.inner_private;
      named = ap (list_all is_name) x.inner_private;
    }

    apart_pairs : (i j m n : ℕ) → 1 ≤ i → i ≤ e0.count → 1 ≤ j → j ≤ (in_old i).count → 1 ≤ m → m ≤ e0.count → 1 ≤ n → n ≤ (in_old m).count → i < m → later m + n < later i + j → blocks_conflict_outside idle (old_block i (later i + j)) (old_block m (later m + n)) ≡ false
    unfolding two_pairs
    apart_pairs i j m n from to low high its_from its_to its_low its_high less crossing =
        (λ q. blocks_conflict_outside idle (of_pair i j q) (of_pair m n q))
        ∙ false_unless (blocks_conflict_outside idle ((row_old i).trip j) ((row_old m).trip n)) (λ clash.
        some_edges t (λ edges are.
        never (blocks_conflict_outside idle ((row_old i).trip j) ((row_old m).trip n)) clash
        (crossing_apart making sequence t data_bytes x.valid edges are l loop (uncrossed edges are) idle ((row_old i).trip j) ((row_old m).trip n) (record {
          trips = two_pairs i j m n from less its_to low high its_low its_high;
          r = (frame (in_old i) j).turn;
          w = (frame (in_old m) n).turn;
          first_inside = stand_there i j from to low high;
          second_inside = stand_there m n its_from its_to its_low its_high;
          same = refl;
          after = stands_after t (record { number = l + 1; head = g }) (turn_at (later i + j) (value_in (in_old i) j)) (turn_at (later m + n) (value_in (in_old m) n)) (of_inner (later m + n) (value_in (in_old m) n) (omega (arith, its_low))) (later_turn i j m n from to low high its_from its_to its_low its_high crossing);
        }) (stores i j from to low high) (stores m n its_from its_to its_low its_high))))

    abbrev Ordered : List Block → List Block → Type 0
    Ordered bs cs = EachOnce bs × IsReordered bs cs × KeepsOrder (block_conflict idle) bs cs

    old_blocks_are : blocks_in w.acts w.old ≡ old_blocks e0.count z0.count (λ i. (in_old i).count) (λ a. (in_new a).count) later below same.grouped old_block
    old_blocks_are = nest_blocks (bounds_seen p d scope s) e0 scope at seen_old in_old scope_old place_old first_number second_number old_block

    new_blocks_are : blocks_in w.acts w.new ≡ new_blocks e0.count z0.count (λ i. (in_old i).count) (λ a. (in_new a).count) later below same.grouped old_block
    new_blocks_are = nest_blocks (bounds_seen p h scope s) z0 scope at seen_new in_new scope_new place_new new_first new_second old_block

    ordered : Ordered (blocks_in w.acts w.old) (blocks_in w.acts w.new)
    ordered =
        subst (λ (bs : List Block). Ordered bs (blocks_in w.acts w.new)) (sym old_blocks_are)
        (subst (Ordered (old_blocks e0.count z0.count (λ i. (in_old i).count) (λ a. (in_new a).count) later below same.grouped old_block)) (sym new_blocks_are)
        (pairs_ordered e0.count z0.count (λ i. (in_old i).count) (λ a. (in_new a).count) later below same.grouped old_block idle apart_pairs))

    -- cells that the bodies touch
    abbrev Reach : Cell → Type 0
    Reach c = PairReached p scope l e0.count z0.count (λ i. (in_old i).count) (λ a. (in_new a).count) later below same.grouped c

    outer_own : (i : ℕ) (c : Cell) → IsOwn p (scope_old i) c → IsOwn p scope c
    outer_own i c (inl r) = inl (r.0, r.1 ∙ uncopied_cell i r.0)
      where
        uncopied_cell : (m : ℕ) (y : List ℕ) → cell_of (scope_old m) y ≡ cell_of scope y
        uncopied_cell m y = no_copies (frame e0 m ∷ []) scope y ((old_frames t l d g h k body inside only scope s goes same x.variable x.inner_variable x.differ x.serial x.inner_serial x.new_serial x.new_inner_serial x.private x.inner_private x.new_private x.new_inner_private m 1).1)
    outer_own i c (inr r) = inr r

    pub reached_trip : (i j : ℕ) → 1 ≤ i → i ≤ e0.count → 1 ≤ j → j ≤ (in_old i).count → (a : Act) → IsIn a ((row_old i).trip j) → (v : Touch) → IsIn v a.touches → Reach v.cell
    reached_trip i j from to low high a m v n =
        let it = there i j from to low high in
        elim (body_reaches p (l + 1) g inside (seen_old i) (row_old i).bounds (scope_old i) j it.0 a (subst (IsIn a) it.1.is m) v n) [
          | inl own ↦ inl (outer_own i v.cell own)
          | inr r ↦ inr (record {
            outer = i;
            inner = j;
            from = from;
            to = to;
            inner_from = low;
            inner_to = high;
            name = r.name;
            rest = r.rest;
            is = r.is ∙ ap (λ (path : List Iteration). Private r.name (path ++ record { statement = p.number (l + 1); number = j } ∷ r.rest)) (path_append (frame e0 i ∷ []) scope)
                ∙ ap (Private r.name) (append_assoc (iterations_of (turns_of scope)) (record { statement = p.number l; number = i } ∷ []) (record { statement = p.number (l + 1); number = j } ∷ r.rest));
          })
        ]

    reached_counted : (c : Cell) → touch (counted w) c ≡ true → Reach c
    reached_counted c m =
        let r = touched_in (counted w) c m in
        let a = without_from idle (acts_in_blocks (blocks_in w.acts w.old)) r.0 r.1 in
        let b = of_block (blocks_in w.acts w.old) a.0 a.1 in
        let y = in_old_pair b.0 b.1 in
        let there : IsIn a.0 ((row_old y.0).trip y.1) = subst (λ (acts : List Act). IsIn a.0 acts) (ap (λ (z : Block). z.acts) y.6 ∙ of_pair y.0 y.1) b.2 in
        let v : IsIn r.2 a.0.touches = touches_in idle a.0.touches r.2 (subst (λ (z : Act). IsIn r.2 z.touches) a.2 r.3) in
        subst Reach r.4 (reached_trip y.0 y.1 y.2 y.3 y.4 y.5 a.0 there r.2 v)
      where
        in_old_pair : (b : Block) → IsIn b (blocks_in w.acts w.old) → (i j : ℕ) × (1 ≤ i) × (i ≤ e0.count) × (1 ≤ j) × (j ≤ (in_old i).count) × (b ≡ block_at old_block i (later i + j))
        in_old_pair b q = orders.in_old e0.count z0.count (λ i. (in_old i).count) (λ a. (in_new a).count) later below same.grouped old_block b (subst (λ (bs : List Block). IsIn b bs) old_blocks_are q)

    -- copies inside the loops: nobody else has to do with them
    its : (c : Cell) → IsCopyInside p scope l size c → IsTheirs front behind s c
    its c copy = theirs p scope l size c copy t (lines data_bytes) front (run p old_loop l scope s).acts behind s executed

    hidden : (c : Cell) → IsCopyInside p scope l size c → shown c ≡ false
    hidden c copy = ap shown copy.is

    unwanted_copy : (c : Cell) → IsCopyInside p scope l size c → wants shown behind c ≡ true → ⊥
    unwanted_copy c copy m = never (wants shown behind c) m ((its c copy).unwanted shown (hidden c copy))

    unagreed_copy : (c : Cell) → IsCopyInside p scope l size c → agreed apart shown behind c ≡ true → ⊥
    unagreed_copy c copy m = unwanted_copy c copy (agreed_wanted apart shown behind c (ap apart copy.is) m)

    fine : has_fault (finish_of (run_all p (alone old_loop) l scope s).ending) ≡ false
    fine = ap (λ (r : Run). has_fault (finish_of r.ending)) (run_alone p old_loop l scope s) ∙ ap has_fault goes

    unneeded_copy : (c : Cell) → IsCopyInside p scope l size c → needs (old_list w) c ≡ true → ⊥
    unneeded_copy c copy m =
        never (needs (run p old_loop l scope s).acts c) (ap (λ (acts : List Act). needs acts c) (sym old_is) ∙ m)
        (ap (λ (acts : List Act). needs acts c) (sym (ap (λ (r : Run). r.acts) (run_alone p old_loop l scope s))) ∙ theirs_unneeded p scope l size c copy (alone old_loop) l scope s (its c copy).undefined fine)

    stays_or_moves : (c : Cell) → (names c ≡ c) ⊎ IsOfLoop p scope l c
    stays_or_moves = swapped_or_stays p scope l e0.count z0.count (λ i. (in_old i).count) (λ a. (in_new a).count) later below same.grouped

    keeps_name : (c : Cell) → (IsCopyInside p scope l size c → ⊥) → names c ≡ c
    keeps_name c other = elim (stays_or_moves c) [ inl q ↦ q | inr m ↦ absurd (other (cells.inside p scope l size c some m)) ]

    -- where the stores agree: at first, and behind the loops but for the variables
    abbrev before : Cell → Bool
    before c = agreed apart shown ((run p old_loop l scope s).acts ++ behind) c

    abbrev almost : Cell → Bool
    almost c = agreed apart shown behind c && not (idle c)

    old_before : (c : Cell) → agreed apart shown (old_list w ++ behind) c ≡ before c
    old_before c = ap (λ (acts : List Act). agreed apart shown (acts ++ behind) c) old_is

    suits : Suit idle before almost (old_list w)
    suits = record {
      needed = λ c m. sym (old_before c) ∙ needed_agreed apart shown (old_list w) behind c m;
      wanted = λ c m.
          let parts = and_parts (agreed apart shown behind c) (not (idle c)) m in
          (not_so (idle c) parts.1, elim (agreed_before_or_written apart shown (old_list w) behind c parts.0) [ inl q ↦ inl (sym (old_before c) ∙ q) | inr q ↦ inr q ]);
    }

    -- what a new control reads is steady
    steady : (c : List Act) (v : Touch) → IsIn (control c) w.new → IsIn v (touches_of c) → v.manner ≡ reads → IsSteady w before s v
    steady c v i j m =
        let r = steady_read c v i j m in
        let counts = fixed_counts v.cell r.fixed in
        record {
          held = r.held;
          agreed = ap (λ (b : Bool). not b || wants shown ((run p old_loop l scope s).acts ++ behind) v.cell) counts.1;
          counts = counts.0;
          unwritten = λ f q named. never (written (old_list w) f) (counted_writes w f q) (ap (λ (acts : List Act). written acts f) old_is ∙ fixed_unwritten f (subst (IsOfFixed p.constants t l) (sym (own_source f v.cell r.fixed named)) r.fixed));
        }
      where
        own_source : (f c : Cell) → IsOfFixed p.constants t l c → names f ≡ c → f ≡ c
        own_source f c fixed named = elim (stays_or_moves f) [
          | inl q ↦ sym q ∙ named
          | inr moved ↦ (let there = swapped_inside p scope l e0.count z0.count (λ i. (in_old i).count) (λ a. (in_new a).count) later below same.grouped f moved in absurd (no_scalar fixed.0 there.name (iterations_of (turns_of scope) ++ record { statement = p.number l; number = there.number } ∷ there.rest) (sym fixed.1 ∙ sym named ∙ there.is)))
        ]
          where
            no_scalar : (y n : List ℕ) (path : List Iteration) → Scalar y ≡ Private n path → ⊥
            no_scalar y n path q = absurd cc

    woven : IsWoven w before almost s
    woven = record {
      controls = old_controls;
      new_controls = new_controls;
      steady = steady;
      unread = unread;
      renamed = renamed;
      one_to_one = λ c f m n q. swapped_apart p scope l e0.count z0.count (λ i. (in_old i).count) (λ a. (in_new a).count) later below same.grouped c f (reached_counted c m) (reached_counted f n) q;
      idle_names = λ c m. swapped_idle p scope l e0.count z0.count (λ i. (in_old i).count) (λ a. (in_new a).count) later below same.grouped variables c ∙ (counted_touched w c unread m).0;
      once = ordered.0;
      reordered = ordered.1;
      kept = ordered.2;
      suit = suits;
      own = λ c m. keeps_name c (λ copy. unneeded_copy c copy (counted_needed w c old_controls unread m));
      own_behind = λ c m.
          let wanted = (and_parts (agreed apart shown behind c) (not (idle c)) m).0 in
          let stays = keeps_name c (λ copy. unagreed_copy c copy wanted) in (
            stays,
            (λ f q r. elim (stays_or_moves f) [
              | inl own ↦ sym own ∙ r ∙ stays
              | inr moved ↦ absurd (unagreed_copy c (cells.inside p scope l size c some (subst (IsOfLoop p scope l) (r ∙ stays) (swapped_inside p scope l e0.count z0.count (λ i. (in_old i).count) (λ a. (in_new a).count) later below same.grouped f moved))) wanted)
            ]),
          );
    }

    fits : Fits (old_list w) s
    fits = subst (λ (acts : List Act). Fits acts s) (sym old_is) ((run_told p old_loop l scope).fits s)

    weak : StandsFor (record { agreed = before; old = old_list w; new = new_list w }) almost s
    weak = woven_stands w before almost s fits woven

    -- so the new loops do these acts
    new_run : run p new_loop l scope s ≡ record { acts = new_list w; ending = ending_with goes_on (store_after (new_list w) s) }
    new_run = replayed s (weak s (λ c m. refl)).0

    pub new_run_is : (run p new_loop l scope s).acts ≡ new_list w
    new_run_is = ap (λ (r : Run). r.acts) new_run

    -- what is wanted behind and has a variable's name nobody writes here
    unwritten_by : (f : Head) (ts : StmtTrees) → statement_count (Do f ts) ≡ size → (c : Cell) → idle c ≡ true → wants shown behind c ≡ true → written (run p (Do f ts) l scope s).acts c ≡ false
    unwritten_by f ts many c i m = unwritten_there t x.valid l loop x.contained data_bytes ends scope front behind s executed goes unwanted_copy (Do f ts) (omega (arith, many)) s c i m

    old_many : statement_count (Do d body) ≡ size
    old_many = omega arith

    new_many : statement_count (Do h its_body) ≡ size
    new_many = let one = only_counted g inside body only in let two = only_counted k inside its_body (only_changed g inside k body only) in omega (arith, one, two)

    stands : StandsFor (record { agreed = before; old = old_list w; new = new_list w }) (agreed apart shown behind) s
    stands v agree = let a = weak v agree in (a.0, (λ c m. go a.1 c m (idle c) refl))
      where
        go : AgreeIn almost (store_after (old_list w) s) (store_after (new_list w) v) → (c : Cell) → agreed apart shown behind c ≡ true → (b : Bool) → idle c ≡ b → store_after (old_list w) s c ≡ store_after (new_list w) v c
        go most c m false i = most c (both m i)
        go most c m true i =
            let wanted : wants shown behind c ≡ true = agreed_wanted apart shown behind c (idle_apart variables c i) m in
            let first : written (old_list w) c ≡ false = ap (λ (acts : List Act). written acts c) old_is ∙ unwritten_by d body old_many c i wanted in
            let second : written (new_list w) c ≡ false = ap (λ (acts : List Act). written acts c) (sym new_run_is) ∙ unwritten_by h its_body new_many c i wanted in
            let there : before c ≡ true = elim (agreed_before_or_written apart shown (old_list w) behind c m) [ inl q ↦ sym (old_before c) ∙ q | inr q ↦ absurd (never (written (old_list w) c) q first) ] in
            after_other (old_list w) s c first ∙ agree c there ∙ sym (after_other (new_list w) v c second)

    -- what is shown of each execution
    pub stands_swapped : StandsFor (record { agreed = agreed apart shown ((run p old_loop l scope s).acts ++ behind); old = (run p old_loop l scope s).acts; new = (run p new_loop l scope s).acts }) (agreed apart shown behind) s
    stands_swapped =
        subst (λ (acts : List Act). StandsFor (record { agreed = before; old = acts; new = (run p new_loop l scope s).acts }) (agreed apart shown behind) s) old_is
        (subst (λ (acts : List Act). StandsFor (record { agreed = before; old = old_list w; new = acts }) (agreed apart shown behind) s) (sym new_run_is) stands)

    pub does_swapped : Replays (run p new_loop l scope) (run p new_loop l scope s).acts goes_on
    does_swapped = subst (λ (acts : List Act). Replays (run p new_loop l scope) acts goes_on) (sym new_run_is) replayed
