-- In each execution the statements that take the place of a DO of which an iteration is peeled off may stand for it.
use Rattle.ped_base.specs.Lists.{is_among, is_same_text}
use Rattle.ped_rules.specs.ped_loop_runs.proofs.LoopLaws.ApartTurns.{number_itself}
use Rattle.ped_rules.specs.ped_loop_runs.proofs.LoopLaws.OneForOneCells.{all_unread, cell_among, likewise_idle, touched_in}
use Rattle.ped_rules.specs.ped_loop_runs.proofs.LoopLaws.OneForOneNames.{variables_unnamed}
use Rattle.ped_rules.specs.ped_loop_runs.proofs.LoopLaws.OneForOneStands.{run_alone, false_unless, not_so, both, in_flat, in_range}
use Rattle.ped_rules.specs.ped_loop_runs.proofs.TidyLaws.TidyPathsGaps.{followed_count}
use Rattle.ped_rules.specs.ped_loop_runs.proofs.PastingLaws.LeftCopies.{IsOwn, all_reach}
use Rattle.ped_rules.specs.ped_loop_runs.proofs.PastingLaws.PastedLoops.{run_followed}
use Rattle.ped_rules.specs.ped_loop_runs.proofs.PastingLaws.TheirCopies.{theirs, theirs_unneeded}
use Rattle.ped_rules.specs.ped_loop_runs.specs.Copies.{IsTheirs}
use Rattle.ped_rules.specs.ped_loop_runs.specs.Executions.{IsCopyInside, IsExecuted}
use Rattle.ped_rules.specs.ped_bodies.proofs.BodyLaws.LikewiseActs.{likewise_stripped}
use Rattle.ped_rules.specs.ped_bodies.proofs.BodyLaws.MovedCells.{place_stays}
use Rattle.ped_rules.specs.ped_bodies.proofs.BodyLaws.TripLists.{close_in_order}
use Rattle.ped_rules.specs.ped_bodies.specs.Moving.{is_cell_among, own_number, peeled}
use Rattle.ped_rules.specs.ped_bodies.specs.Trips.{IsTrip, bounds_seen, entered_from, loop_acts, loop_entry, trip_end, trips}
use Rattle.ped_rules.specs.ped_steps.proofs.RunLaws.AccessTouches.{write_in}
use Rattle.ped_rules.specs.ped_steps.proofs.RunLaws.SubstitutedShapes.{counts_kept}
use Rattle.ped_rules.specs.ped_steps.specs.Replacing.{alone}
use Rattle.ped_rules.specs.ped_steps.specs.Runs.Renumbering.{renumbered}
use Rattle.ped_rules.specs.ped_flow.specs.Questions.{IsContained, LoopOf}
use Rattle.ped_rules.specs.ped_laws.proofs.ActLaws.Exchanging.{needed_wanted, wanted_before}
use Rattle.ped_rules.specs.ped_laws.proofs.ActLaws.Lists.{in_parts, in_right}
use Rattle.ped_rules.specs.ped_laws.proofs.ActLaws.Renamings.{after_other, or_left, written_touched}
use Rattle.ped_rules.specs.ped_laws.proofs.ActLaws.SameCells.{text_itself}
use Rattle.ped_rules.specs.ped_laws.proofs.FlowRunLaws.TripReads.{contained_unread}
use Rattle.ped_rules.specs.ped_laws.proofs.RunLaws.Joined.{statements_more}
use Rattle.ped_rules.specs.ped_laws.proofs.RunLaws.StatementsTold.{run_told}
use Rattle.ped_rules.specs.ped_laws.proofs.RunLaws.Told.{replays_behind}
use Rattle.ped_rules.specs.ped_laws.specs.Acts.Conflicts.{ReadNone, without}
use Rattle.ped_rules.specs.ped_laws.specs.Acts.Fitting.{Fits, store_after, touches_of}
use Rattle.ped_rules.specs.ped_laws.specs.Acts.Grids.{block_at}
use Rattle.ped_rules.specs.ped_laws.specs.Acts.Orders.{Block, EachOnce, IsIn, IsReordered, KeepsOrder, block_conflict}
use Rattle.ped_rules.specs.ped_laws.specs.Acts.Pieces.{StandsFor}
use Rattle.ped_rules.specs.ped_laws.specs.Acts.Renaming.{IsFree, Renamed, touch}
use Rattle.ped_rules.specs.ped_laws.specs.Acts.Sets.{AgreeIn, needs, wants, written}
use Rattle.ped_rules.specs.ped_laws.specs.FlowRuns.Covering.{is_cell_of}
use Rattle.ped_rules.specs.ped_laws.specs.Runs.Replaying.{Replays, ending_with, finish_of, goes_on, has_fault}
use Rattle.ped_rules.specs.ped_laws.specs.Runs.Showing.{shown_at_end}
use Rattle.ped_rules.specs.ped_eval.specs.Loops.{Entered, exit_touches, frame, inner_variables}
use Rattle.ped_rules.specs.ped_eval.specs.Outcomes.{Ends, run_of, setting_of}
use Rattle.ped_rules.specs.ped_eval.specs.Runs.{Run, run, run_all}
use Rattle.ped_rules.specs.ped_eval.specs.Scopes.{Scope, Setting, cell_of, place_of, turns_of}
use Rattle.ped_rules.specs.ped_store.specs.Acts.{Act, Place, Touch, iterations_of, reads}
use Rattle.ped_rules.specs.ped_store.specs.Cells.{Cell, Element, In, Iteration, Out, Private, Scalar}
use Rattle.ped_rules.specs.ped_store.specs.Stores.{Store, store_at_start}
use Rattle.ped_symbolic.specs.Arithmetic.{literal}
use Rattle.ped_rules.specs.ped_symbols.specs.NameRefusals.{IsValid}
use Rattle.ped_rules.specs.ped_weaves.proofs.WeaveLaws.CountedActs.{counted_needed, counted_touched}
use Rattle.ped_rules.specs.ped_weaves.proofs.WeaveLaws.KnotRows.{blocks_append, blocks_rows, in_row, knotted_append, knotted_rows}
use Rattle.ped_rules.specs.ped_weaves.proofs.WeaveLaws.TripOrders.{trips_stand}
use Rattle.ped_rules.specs.ped_weaves.proofs.WeaveLaws.Woven.{woven_stands}
use Rattle.ped_rules.specs.ped_weaves.specs.Puttings.{Suit}
use Rattle.ped_rules.specs.ped_weaves.specs.Weaves.{IsWoven, Knot, Weave, block, blocks_in, control, counted, knotted, new_list, new_trips, old_list, old_trips}
use Rattle.ped_reindex.proofs.PeelCells.{IsFarCopy, IsOfIt, IsReached, body_reached, deep_names, names_differ, of_it_inside, own_numbers, stays_or_moves}
use Rattle.ped_rules.proofs.NameLaws.AbsentNumbers.{far_unwanted}
use Rattle.ped_reindex.proofs.PeelNumbers.{copied, copy_at, loop_at}
use Rattle.ped_reindex.proofs.PeelQuiet.{AreQuiet, block_of_row, control_of_row, either_acts, end_quiet, entry_quiet, exit_quiet, new_trip, no_block, no_control, one_longer, put_together, quiet_touches, quiet_within, rows_same, same_controls, shifted}
use Rattle.ped_reindex.proofs.PeelRuns.{IsPeeledRun, copy_of, number_differs, old_trip, peel_names, which, which_within}
use Rattle.ped_reindex.proofs.PeelTrusted.{left_head, left_parallel, left_private, left_variable}
use Rattle.ped_reindex.specs.Peeling.{Peeled, with_peeled}
use Rattle.ped_tree.specs.NamesIn.{all_loop_variables, loop_variables}
use Rattle.ped_tree.specs.Numbering.{statements_count}
use Rattle.ped_tree.specs.Tree.{Do, Head, ProgramTree, StmtTree, StmtTrees}
use Rattle.std.proofs.Common.{Bool, List, [], ap, append-nil, arith, eqb-true, false, if◌then◌else◌, inl, inr, map, not, refl, subst, suc, sym, true, ℕ, ◌&&◌, ◌++◌, ◌+◌, ◌<◌, ◌==◌, ◌∙◌, ◌∷◌, ◌≡◌, ◌≤◌, ◌⊎◌}
use Rattle.std.proofs.Math.Nat.{eq-or-lt_of_le}
use Rattle.std.proofs.lemmas.Bool.{and_parts, both_ways}
use Rattle.std.proofs.lemmas.List.Concat.{flat_map_single}
use Rattle.std.specs.List.{flat_map, range_with_len}
use Rattle.std.specs.Str.Lines.{lines}
use Rattle.ped_rules.specs.ped_loop_runs.proofs.LoopLaws.UnwantedNames.{unreached, unwritten_there}

above : (i k : ℕ) → k ≤ i → (i == k) ≡ false → k + 1 ≤ i
above i k low other = elim (eq-or-lt_of_le low) [ inl same ↦ absurd (both_ways (i == k) other (ap (λ (m : ℕ). m == k) (sym same) ∙ number_itself k)) | inr less ↦ omega (arith, less) ]

below : (i k : ℕ) → i ≤ k → (i == k) ≡ false → i < k
below i k high other = elim (eq-or-lt_of_le high) [ inl same ↦ absurd (both_ways (i == k) other (ap (λ (m : ℕ). m == k) same ∙ number_itself k)) | inr less ↦ less ]

-- the iteration and the DO one behind the other
pub put_replays : (q : Setting) (last : Bool) (p : Peeled) (d : Head) (body : StmtTrees) (s : ℕ) (scope : Scope) (one more : List Act) → Replays (run_all q (copy_of p d body) (copy_at last s (statements_count body)) scope) one goes_on
    → Replays (run q (Do (left_head last p.bound d) body) (loop_at last s (statements_count body)) scope) more goes_on → Replays (run_all q (with_peeled last p d body) s scope) (put_together last one more) goes_on
put_replays q false p d body s scope one more first second =
    subst (λ (f : Store → Run). Replays f (one ++ more) goes_on) (sym (run_followed q (copy_of p d body) (alone (Do (left_head false p.bound d) body)) s scope))
    (replays_behind (run_all q (copy_of p d body) s scope) (run_all q (alone (Do (left_head false p.bound d) body)) (s + statements_count (copy_of p d body)) scope) one more goes_on first
    (subst (λ (n : ℕ). Replays (run_all q (alone (Do (left_head false p.bound d) body)) (s + n) scope) more goes_on) (sym (counts_kept d.variable (literal p.value) body))
    (subst (λ (f : Store → Run). Replays f more goes_on) (sym (λ i u. run_alone q (Do (left_head false p.bound d) body) (s + statements_count body) scope u i)) second)))
put_replays q true p d body s scope one more first second =
    statements_more q (Do (left_head true p.bound d) body) (copy_of p d body) s scope more one goes_on second
    (let same : s + 1 + statements_count body ≡ s + (statements_count body + 1) = omega arith in subst (λ (n : ℕ). Replays (run_all q (copy_of p d body) n scope) one goes_on) same first)

-- what stands in both stands in one
pub in_together : {X : Type 0} (b : Bool) (x : X) (xs ys : List X) → IsIn x (put_together b xs ys) → IsIn x xs ⊎ IsIn x ys
in_together false x xs ys i = in_parts x xs ys i
in_together true x xs ys i = elim (in_parts x ys xs i) [ inl k ↦ inr k | inr k ↦ inl k ]

knotted_together : (acts : ℕ → ℕ → List Act) (b : Bool) (ks ls : List Knot) → knotted acts (put_together b ks ls) ≡ put_together b (knotted acts ks) (knotted acts ls)
knotted_together acts false ks ls = knotted_append acts ks ls
knotted_together acts true ks ls = knotted_append acts ls ks

blocks_together : (acts : ℕ → ℕ → List Act) (b : Bool) (ks ls : List Knot) → blocks_in acts (put_together b ks ls) ≡ put_together b (blocks_in acts ks) (blocks_in acts ls)
blocks_together acts false ks ls = blocks_append acts ks ls
blocks_together acts true ks ls = blocks_append acts ls ks

-- the iterations in their order
in_order : (b : Bool) (f : ℕ → Block) (others : ℕ) → put_together b (f (which b (suc others)) ∷ []) (map (λ j. f (old_trip b j)) (range_with_len 1 others)) ≡ map f (range_with_len 1 (suc others))
in_order false f others = ap (λ (bs : List Block). f 1 ∷ bs) (shifted f 1 others)
in_order true f others = (let same : suc others ≡ 1 + others = omega arith in ap (λ (n : ℕ). map f (range_with_len 1 others) ++ f n ∷ []) same) ∙ one_longer f 1 others

-- what the new statements do
abbrev pub peeled_acts : {t : ProgramTree} {g : ℕ → ℕ} {last : Bool} {p : Peeled} {d : Head} {body : StmtTrees} {s m c all : ℕ} {scope : Scope} {st : Store} → IsPeeledRun t g last p d body s m c all scope st → List Act
peeled_acts {t = t} {g = g} {last = last} {p = p} {d = d} {body = body} {m = m} {scope = scope} {st = st} r =
    put_together last r.taken.fresh (loop_acts (bounds_seen (renumbered g (setting_of t)) (left_head last p.bound d) scope st) (entered_from (renumbered g (setting_of t)) (left_head last p.bound d) body m scope st r.bounds) scope (place_of (renumbered g (setting_of t)) m scope) r.rest.fresh)

module _ (t : ProgramTree) (valid : IsValid t) (g : ℕ → ℕ) (last : Bool) (p : Peeled) (s : ℕ) (loop : LoopOf t s) (contained : IsContained t s) (serial : loop.head.parallel ≡ false) (private : loop.head.private ≡ [])
    (new_numbers : (x : ℕ) → s ≤ x → x < s + (statements_count loop.body + 1 + statements_count loop.body) → ((s ≤ g x) × (g x < s + (statements_count loop.body + 1))) ⊎ (statements_count t.body < g x))
    (room : s ≤ statements_count t.body) (data_bytes : List ℕ) (ends : Ends (run_of t data_bytes).ending) where
  abbrev o : Setting
  o = setting_of t

  abbrev q : Setting
  q = renumbered g (setting_of t)

  abbrev d : Head
  d = loop.head

  abbrev body : StmtTrees
  body = loop.body

  abbrev h : Head
  h = left_head last p.bound loop.head

  abbrev m : ℕ
  m = loop_at last s (statements_count loop.body)

  abbrev all : ℕ
  all = statements_count t.body

  abbrev old_loop : StmtTree
  old_loop = Do loop.head loop.body

  abbrev new : StmtTrees
  new = with_peeled last p loop.head loop.body

  abbrev variables : List (List ℕ)
  variables = loop_variables (Do loop.head loop.body)

  abbrev idle : Cell → Bool
  idle = is_cell_among variables

  abbrev start : Store
  start = store_at_start (lines data_bytes)

  abbrev shown : Cell → Bool
  shown = shown_at_end t

  abbrev size : ℕ
  size = statements_count (alone (Do loop.head loop.body))

  some : 0 < size
  some = omega arith

  own_variable : is_among d.variable variables ≡ true
  own_variable = or_left (is_same_text d.variable d.variable) (is_among d.variable (all_loop_variables body)) (text_itself d.variable)

  new_serial : h.parallel ≡ false
  new_serial = left_parallel last p.bound d ∙ serial

  new_private : h.private ≡ []
  new_private = left_private last p.bound d ∙ private

  no_inner : (f : Head) → f.parallel ≡ false → inner_variables f.parallel body ≡ []
  no_inner f is = ap (λ (b : Bool). inner_variables b body) is

  module _ (scope : Scope) (front behind : List Act) (st : Store) (executed : IsExecuted o t start s size scope front (run o old_loop s scope st).acts behind st) (goes : finish_of (run o old_loop s scope st).ending ≡ goes_on)
      (r : IsPeeledRun t g last p loop.head loop.body s (loop_at last s (statements_count loop.body)) (copy_at last s (statements_count loop.body)) (statements_count t.body) scope st) where
    abbrev e : Entered
    e = entered_from o d body s scope st r.old.bounds

    abbrev z : Entered
    z = entered_from q h body m scope st r.bounds

    abbrev n : ℕ
    n = e.count

    abbrev k0 : ℕ
    k0 = which last e.count

    abbrev at : Place
    at = place_of o s scope

    abbrev new_at : Place
    new_at = place_of q m scope

    abbrev names : Cell → Cell
    names = peel_names scope s k0 all

    abbrev old_entry : Act
    old_entry = loop_entry (bounds_seen o d scope st) e scope at

    abbrev new_entry : Act
    new_entry = loop_entry (bounds_seen q h scope st) z scope new_at

    abbrev old_row : ℕ → List Knot
    old_row k = block k k ∷ control (trip_end e scope at k) ∷ []

    abbrev new_row : ℕ → List Knot
    new_row j = block (old_trip last j) (old_trip last j) ∷ control (trip_end z scope new_at j) ∷ []

    abbrev rest_knots : List Knot
    rest_knots = control (new_entry ∷ []) ∷ flat_map new_row (range_with_len 1 z.count)

    abbrev w : Weave
    w = record {
      names = names;
      idle = idle;
      old = control (old_entry ∷ []) ∷ flat_map old_row (range_with_len 1 e.count);
      new = put_together last (block k0 k0 ∷ []) rest_knots;
      acts = λ i j. r.old.trip i;
      others = λ i j. either_acts r.taken.fresh r.rest.fresh last (i == k0) i;
    }

    -- which iterations there are
    k0_within : (1 ≤ k0) × (k0 ≤ n)
    k0_within = which_within last e.count r.others r.count

    trip_there : (j : ℕ) → 1 ≤ j → j ≤ z.count → (1 ≤ old_trip last j) × (old_trip last j ≤ n) × ((old_trip last j == k0) ≡ false) × (new_trip last (old_trip last j) ≡ j)
    trip_there j from to = go last
      where
        go : (b : Bool) → (1 ≤ old_trip b j) × (old_trip b j ≤ n) × ((old_trip b j == which b e.count) ≡ false) × (new_trip b (old_trip b j) ≡ j)
        go false = let is = r.count in let many = r.new_count in (omega arith, omega (arith, to, is, many), number_differs (j + 1) 1 (λ same. omega (arith, same, from)), omega arith)
        go true = let is = r.count in let many = r.new_count in (from, omega (arith, to, is, many), number_differs j e.count (λ same. omega (arith, same, to, is, many)), refl)

    trip_back : (i : ℕ) → 1 ≤ i → i ≤ n → (i == k0) ≡ false → (1 ≤ new_trip last i) × (new_trip last i ≤ z.count) × (old_trip last (new_trip last i) ≡ i)
    trip_back i from to other = go last other
      where
        go : (b : Bool) → (i == which b e.count) ≡ false → (1 ≤ new_trip b i) × (new_trip b i ≤ z.count) × (old_trip b (new_trip b i) ≡ i)
        go false apart = let is = r.count in let many = r.new_count in let more : 2 ≤ i = above i 1 from apart in (omega (arith, more), omega (arith, to, is, many, more), omega (arith, more))
        go true apart = let is = r.count in let many = r.new_count in let less : i < e.count = below i e.count to apart in (from, omega (arith, less, is, many), refl)

    -- the lists are woven so
    old_is : old_list w ≡ (run o old_loop s scope st).acts
    old_is =
        ap (λ (acts : List Act). old_entry ∷ acts)
        (knotted_rows w.acts old_row (range_with_len 1 e.count)
        ∙ (λ i. flat_map (λ k. r.old.trip k ++ append-nil (trip_end e scope at k) i) (range_with_len 1 e.count))
        ∙ sym (append-nil (trips e scope at r.old.trip 1 e.count))
        ∙ ap (λ (acts : List Act). trips e scope at r.old.trip 1 e.count ++ acts) (sym (close_in_order e scope at serial)))
        ∙ sym r.old.acts

    abbrev new_loop : List Act
    new_loop = loop_acts (bounds_seen q h scope st) z scope new_at r.rest.fresh

    rest_is : knotted w.others rest_knots ≡ new_loop
    rest_is =
        ap (λ (acts : List Act). new_entry ∷ acts)
        (knotted_rows w.others new_row (range_with_len 1 z.count)
        ∙ rows_same (λ j. knotted w.others (new_row j)) (λ j. r.rest.fresh j ++ trip_end z scope new_at j) 1 z.count each
        ∙ sym (append-nil (trips z scope new_at r.rest.fresh 1 z.count))
        ∙ ap (λ (acts : List Act). trips z scope new_at r.rest.fresh 1 z.count ++ acts) (sym (close_in_order z scope new_at new_serial)))
      where
        each : (j : ℕ) → 1 ≤ j → j < 1 + z.count → knotted w.others (new_row j) ≡ r.rest.fresh j ++ trip_end z scope new_at j
        each j from to =
            let there = trip_there j from (omega (arith, to)) in
            (λ i. either_acts r.taken.fresh r.rest.fresh last (there.2 i) (old_trip last j) ++ append-nil (trip_end z scope new_at j) i)
            ∙ ap (λ (k : ℕ). r.rest.fresh k ++ trip_end z scope new_at j) there.3

    taken_is : knotted w.others (block k0 k0 ∷ []) ≡ r.taken.fresh
    taken_is = append-nil (w.others k0 k0) ∙ ap (λ (b : Bool). either_acts r.taken.fresh r.rest.fresh last b k0) (number_itself k0)

    new_is : new_list w ≡ peeled_acts r
    new_is = knotted_together w.others last (block k0 k0 ∷ []) rest_knots ∙ (λ i. put_together last (taken_is i) (rest_is i))

    replayed : Replays (run_all q new s scope) (peeled_acts r) goes_on
    replayed = put_replays q last p d body s scope r.taken.fresh new_loop r.taken.replays r.rest.replays

    -- controls
    variable_idle : idle (cell_of scope d.variable) ≡ true
    variable_idle = cell_among variables scope d.variable ∙ own_variable

    new_variable_idle : idle (cell_of scope h.variable) ≡ true
    new_variable_idle = ap (λ (v : List ℕ). idle (cell_of scope v)) (left_variable last p.bound d) ∙ variable_idle

    old_entry_quiet : AreQuiet idle old_entry.touches
    old_entry_quiet = entry_quiet idle e scope serial private (no_inner d serial) variable_idle (bounds_seen o d scope st) at r.unseen

    pub new_entry_quiet : AreQuiet idle new_entry.touches
    new_entry_quiet = entry_quiet idle z scope new_serial new_private (no_inner h new_serial) new_variable_idle (bounds_seen q h scope st) new_at r.new_unseen

    pub new_exit_quiet : AreQuiet idle (exit_touches z scope)
    new_exit_quiet = exit_quiet idle z scope new_serial new_private (no_inner h new_serial) new_variable_idle

    old_end_quiet : (k : ℕ) (a : Act) → IsIn a (trip_end e scope at k) → AreQuiet idle a.touches
    old_end_quiet k a i = end_quiet idle e scope serial private (no_inner d serial) variable_idle at k a i

    new_end_quiet : (k : ℕ) (a : Act) → IsIn a (trip_end z scope new_at k) → AreQuiet idle a.touches
    new_end_quiet k a i = end_quiet idle z scope new_serial new_private (no_inner h new_serial) new_variable_idle new_at k a i

    of_entry : (b : Act) → AreQuiet idle b.touches → (c a : List Act) → c ≡ b ∷ [] → a ≡ b ∷ [] → AreQuiet idle (touches_of c)
    of_entry b quiet c a same other = subst (λ (acts : List Act). AreQuiet idle (touches_of acts)) (sym same) (quiet_touches idle (b ∷ []) (λ x i. elim i [ inl k ↦ subst (λ (y : Act). AreQuiet idle y.touches) (sym k) quiet | inr k ↦ absurd k ]))

    old_quiet : (c : List Act) → IsIn (control c) w.old → AreQuiet idle (touches_of c)
    old_quiet c (inl k) = of_entry old_entry old_entry_quiet c (old_entry ∷ []) (same_controls c (old_entry ∷ []) k) refl
    old_quiet c (inr i) =
        let row = in_row old_row (range_with_len 1 e.count) (control c) i in
        subst (λ (acts : List Act). AreQuiet idle (touches_of acts)) (sym (control_of_row c (trip_end e scope at row.0) row.0 row.0 row.2)) (quiet_touches idle (trip_end e scope at row.0) (old_end_quiet row.0))

    new_quiet : (c : List Act) → IsIn (control c) w.new → AreQuiet idle (touches_of c)
    new_quiet c i = by (in_together last (control c) (block k0 k0 ∷ []) rest_knots i)
      where
        by : IsIn (control c) (block k0 k0 ∷ []) ⊎ IsIn (control c) rest_knots → AreQuiet idle (touches_of c)
        by (inl (inl k)) = absurd (no_block c k0 k0 k)
        by (inl (inr k)) = absurd k
        by (inr (inl k)) = of_entry new_entry new_entry_quiet c (new_entry ∷ []) (same_controls c (new_entry ∷ []) k) refl
        by (inr (inr k)) =
            let row = in_row new_row (range_with_len 1 z.count) (control c) k in
            subst (λ (acts : List Act). AreQuiet idle (touches_of acts)) (sym (control_of_row c (trip_end z scope new_at row.0) (old_trip last row.0) (old_trip last row.0) row.2)) (quiet_touches idle (trip_end z scope new_at row.0) (new_end_quiet row.0))

    -- blocks
    known : (i j : ℕ) → IsIn (block i j) w.old → (1 ≤ i) × (i ≤ n)
    known i j (inl k) = absurd (no_control (old_entry ∷ []) i j k)
    known i j (inr k) =
        let row = in_row old_row (range_with_len 1 e.count) (block i j) k in
        let is = (block_of_row (trip_end e scope at row.0) row.0 row.0 i j row.2).0 in
        let within = in_range e.count 1 row.0 row.1 in
        let low = within.0 in
        let high = within.1 in
        (omega (arith, is, low), omega (arith, is, high))

    trip_is : (k : ℕ) → 1 ≤ k → k ≤ n → (v : Store) × IsTrip o body s scope e k v (r.old.trip k)
    trip_is k from to = (_, r.old.are k from to)

    trip_unread : (k : ℕ) → 1 ≤ k → k ≤ n → ReadNone idle (r.old.trip k)
    trip_unread k from to =
        let it = trip_is k from to in
        all_unread variables (r.old.trip k) (λ v i. subst (ReadNone (is_cell_of v)) (sym it.1.is) (contained_unread o t s loop v (variables_unnamed t valid s loop v i) contained i scope (frame e k) it.0 refl))

    unread : (i j : ℕ) → IsIn (block i j) w.old → ReadNone idle (w.acts i j)
    unread i j k = let it = known i j k in trip_unread i it.0 it.1

    names_idle : (c : Cell) → idle (names c) ≡ idle c
    names_idle (Scalar x) = refl
    names_idle (Private x path) = refl
    names_idle (Element x js) = refl
    names_idle In = refl
    names_idle Out = refl

    abbrev Alike : List Act → List Act → Type 0
    Alike acts others = Renamed names (without idle acts) (without idle others)

    renamed : (i j : ℕ) → IsIn (block i j) w.old → Renamed names (without idle (w.acts i j)) (without idle (w.others i j))
    renamed i j b = go (i == k0) refl
      where
        low : 1 ≤ i
        low = (known i j b).0

        high : i ≤ n
        high = (known i j b).1

        go : (is : Bool) → (i == k0) ≡ is → Renamed names (without idle (r.old.trip i)) (without idle (either_acts r.taken.fresh r.rest.fresh last (i == k0) i))
        go true same =
            let number : i ≡ k0 = eqb-true i k0 same in
            subst (λ (x : Bool). Alike (r.old.trip i) (either_acts r.taken.fresh r.rest.fresh last x i)) (sym same)
            (subst (λ (k : ℕ). Alike (r.old.trip k) r.taken.fresh) (sym number)
            (likewise_stripped names idle names_idle (copied all) (turns_of (frame e k0 ∷ scope)) (turns_of scope) (r.old.trip k0) r.taken.fresh (trip_unread k0 k0_within.0 k0_within.1)
            (likewise_idle true variables names (copied all) (turns_of (frame e k0 ∷ scope)) (turns_of scope) (r.old.trip k0) r.taken.fresh r.taken.likewise)).0)
        go false other =
            let back = trip_back i low high other in
            subst (λ (x : Bool). Alike (r.old.trip i) (either_acts r.taken.fresh r.rest.fresh last x i)) (sym other)
            (subst (λ (k : ℕ). Alike (r.old.trip k) (r.rest.fresh (new_trip last i))) back.2
            (likewise_stripped names idle names_idle own_number (turns_of (frame e (old_trip last (new_trip last i)) ∷ scope)) (turns_of (frame z (new_trip last i) ∷ scope)) (r.old.trip (old_trip last (new_trip last i))) (r.rest.fresh (new_trip last i))
            (subst (λ (k : ℕ). ReadNone idle (r.old.trip k)) (sym back.2) (trip_unread i low high))
            (likewise_idle true variables names own_number (turns_of (frame e (old_trip last (new_trip last i)) ∷ scope)) (turns_of (frame z (new_trip last i) ∷ scope)) (r.old.trip (old_trip last (new_trip last i))) (r.rest.fresh (new_trip last i)) (r.rest.likewise (new_trip last i) back.0 back.1))).0)

    -- their order stays
    abbrev F : ℕ → Block
    F k = block_at w.acts k k

    old_blocks : blocks_in w.acts w.old ≡ old_trips w.acts n (λ k. k)
    old_blocks = blocks_rows w.acts old_row (range_with_len 1 e.count) ∙ flat_map_single F (range_with_len 1 e.count)

    new_blocks : blocks_in w.acts w.new ≡ new_trips w.acts n (λ k. k)
    new_blocks =
        blocks_together w.acts last (block k0 k0 ∷ []) rest_knots
        ∙ ap (λ (bs : List Block). put_together last (F k0 ∷ []) bs) (blocks_rows w.acts new_row (range_with_len 1 z.count) ∙ flat_map_single (λ j. F (old_trip last j)) (range_with_len 1 z.count))
        ∙ (λ i. put_together last (F (which last (r.count i)) ∷ []) (map (λ j. F (old_trip last j)) (range_with_len 1 (r.new_count i))))
        ∙ in_order last F r.others
        ∙ ap (λ (k : ℕ). map F (range_with_len 1 k)) (sym r.count)

    abbrev Ordered : List Block → List Block → Type 0
    Ordered bs cs = EachOnce bs × IsReordered bs cs × KeepsOrder (block_conflict idle) bs cs

    ordered : Ordered (blocks_in w.acts w.old) (blocks_in w.acts w.new)
    ordered =
        subst (λ (bs : List Block). Ordered bs (blocks_in w.acts w.new)) (sym old_blocks)
        (subst (Ordered (old_trips w.acts n (λ k. k))) (sym new_blocks)
        (trips_stand idle w.acts n (λ k. k) (λ k. k) (record { new = λ k from to. (from, to, refl); old = λ k from to. (from, to, refl) }) (λ k l from less to crossing. absurd (omega (arith, less, crossing)))))

    -- cells that the iterations touch
    abbrev Reached : Cell → Type 0
    Reached c = IsReached o (own_numbers t) scope s n k0 all size room c

    uncopied : (k : ℕ) → (frame e k).private ≡ []
    uncopied k = ap (λ (b : Bool). if b then d.variable ∷ (d.private ++ e.inner) else d.private) serial ∙ private

    pub trip_reached : (k : ℕ) → 1 ≤ k → k ≤ n → (a : Act) → IsIn a (r.old.trip k) → (v : Touch) → IsIn v a.touches → Reached v.cell
    trip_reached k from to a i v j =
        let it = trip_is k from to in
        body_reached o (own_numbers t) scope s n k0 all size room (frame e k) body it.0 (uncopied k) refl from to a (subst (IsIn a) it.1.is i) v j

    quiet_idle : (ts : List Touch) (v : Touch) (c : Cell) → AreQuiet idle ts → IsIn v ts → v.cell ≡ c → idle c ≡ false → Reached c
    quiet_idle ts v c quiet i same counts = absurd (both_ways (idle c) counts (ap idle (sym same) ∙ (quiet v i).1))

    row_reached : (k : ℕ) → (1 ≤ k) × (k < 1 + n) → (a : Act) → IsIn a (knotted w.acts (old_row k)) → (v : Touch) → IsIn v a.touches → (c : Cell) → v.cell ≡ c → idle c ≡ false → Reached c
    row_reached k within a i v j c same counts = elim (in_parts a (r.old.trip k) (trip_end e scope at k ++ []) i) [
      | inl there ↦ subst Reached same (trip_reached k within.0 (let high = within.1 in omega (arith, high)) a there v j)
      | inr there ↦ quiet_idle a.touches v c (old_end_quiet k a (subst (IsIn a) (append-nil (trip_end e scope at k)) there)) j same counts
    ]

    reached : (c : Cell) → touch (counted w) c ≡ true → Reached c
    reached c touched =
        let told = counted_touched w c unread touched in
        let found = touched_in (old_list w) c told.1 in
        by told.0 found.0 (subst (IsIn found.0) (ap (λ (acts : List Act). old_entry ∷ acts) (knotted_rows w.acts old_row (range_with_len 1 e.count))) found.1) found.2 found.3 found.4
      where
        by : idle c ≡ false → (a : Act) → IsIn a (old_entry ∷ flat_map (λ k. knotted w.acts (old_row k)) (range_with_len 1 e.count)) → (v : Touch) → IsIn v a.touches → v.cell ≡ c → Reached c
        by counts a (inl is) v j same = quiet_idle old_entry.touches v c old_entry_quiet (subst (λ (b : Act). IsIn v b.touches) is j) same counts
        by counts a (inr i) v j same =
            let row = in_flat (λ k. knotted w.acts (old_row k)) (range_with_len 1 e.count) a i in
            row_reached row.0 (in_range e.count 1 row.0 row.1) a row.2 v j c same counts

    -- copies inside the DO: nobody else has to do with them
    its : (c : Cell) → IsCopyInside o scope s size c → IsTheirs front behind st c
    its c copy = theirs o scope s size c copy t (lines data_bytes) front (run o old_loop s scope st).acts behind st executed

    hidden : (c : Cell) → IsCopyInside o scope s size c → shown c ≡ false
    hidden c copy = ap shown copy.is

    unwanted_copy : (c : Cell) → IsCopyInside o scope s size c → wants shown behind c ≡ true → ⊥
    unwanted_copy c copy k = both_ways (wants shown behind c) ((its c copy).unwanted shown (hidden c copy)) k

    in_run : (a : Act) → IsIn a behind → IsIn a (run_all o t.body 1 [] start).acts
    in_run a i = subst (IsIn a) (sym executed.whole) (in_right a front ((run o old_loop s scope st).acts ++ behind) (in_right a (run o old_loop s scope st).acts behind i))

    unwanted_far : (c : Cell) → IsFarCopy o (own_numbers t) scope s n k0 all size room c → wants shown behind c ≡ true → ⊥
    unwanted_far c k there = both_ways (wants shown behind c) (far_unwanted t start behind in_run c k.name (iterations_of (turns_of scope)) k.rest k.iteration k.is k.far shown (ap shown k.is)) there

    of_it_copy : (c : Cell) → IsOfIt o (own_numbers t) scope s n k0 all size room c → IsCopyInside o scope s size c
    of_it_copy c k = of_it_inside o (own_numbers t) scope s n k0 all size room size c some k

    fine : has_fault (finish_of (run_all o (alone old_loop) s scope st).ending) ≡ false
    fine = ap (λ (y : Run). has_fault (finish_of y.ending)) (run_alone o old_loop s scope st) ∙ ap has_fault goes

    unneeded_copy : (c : Cell) → IsCopyInside o scope s size c → needs (old_list w) c ≡ true → ⊥
    unneeded_copy c copy k =
        both_ways (needs (old_list w) c)
        (ap (λ (acts : List Act). needs acts c) (old_is ∙ sym (ap (λ (y : Run). y.acts) (run_alone o old_loop s scope st))) ∙ theirs_unneeded o scope s size c copy (alone old_loop) s scope st (its c copy).undefined fine)
        k

    keeps_name : (c : Cell) → (IsCopyInside o scope s size c → ⊥) → names c ≡ c
    keeps_name c other = elim (stays_or_moves o (own_numbers t) scope s n k0 all size room c) [ inl same ↦ same | inr k ↦ absurd (other (of_it_copy c k)) ]

    -- where the stores agree: at first, and behind but for the variables
    abbrev before : Cell → Bool
    before c = wants shown (old_list w ++ behind) c

    abbrev almost : Cell → Bool
    almost c = wants shown behind c && not (idle c)

    suits : Suit idle before almost (old_list w)
    suits = record {
      needed = λ c k. needed_wanted shown (old_list w) behind c k;
      wanted = λ c k. let parts = and_parts (wants shown behind c) (not (idle c)) k in (not_so (idle c) parts.1, wanted_before shown (old_list w) behind c parts.0);
    }

    -- a name that is kept is no other cell's
    free_name : (c : Cell) → wants shown behind c ≡ true → IsFree names (counted w) c
    free_name c wanted f written_there same = elim (stays_or_moves o (own_numbers t) scope s n k0 all size room f) [
      | inl own ↦ sym own ∙ same ∙ stays
      | inr moved ↦ by (reached f (written_touched (touches_of (counted w)) f written_there))
    ]
      where
        stays : names c ≡ c
        stays = keeps_name c (λ copy. unwanted_copy c copy wanted)

        to_c : names f ≡ c
        to_c = same ∙ stays

        by : Reached f → f ≡ c
        by (inl own) = sym (own_stays f own) ∙ to_c
          where
            own_stays : (y : Cell) → IsOwn o scope y → names y ≡ y
            own_stays y (inl k) = ap names k.1 ∙ place_stays off_there refl scope k.0 ∙ sym k.1
              where
                off_there : List Iteration → List Iteration
                off_there = peeled s k0 (copied all)
            own_stays (Scalar x) (inr none) = refl
            own_stays (Private x path) (inr none) = absurd cc
            own_stays (Element x js) (inr none) = refl
            own_stays In (inr none) = refl
            own_stays Out (inr none) = refl
        by (inr deep) = elim (deep_names o (own_numbers t) scope s n k0 all size room f deep) [
          | inl k ↦ absurd (unwanted_copy c (subst (IsCopyInside o scope s size) to_c (of_it_copy (names f) k)) wanted)
          | inr k ↦ absurd (unwanted_far c (subst (λ (y : Cell). IsFarCopy o (own_numbers t) scope s n k0 all size room y) to_c k) wanted)
        ]

    no_steady : (c : List Act) (y : Touch) → IsIn (control c) w.new → IsIn y (touches_of c) → y.manner ≡ reads → ⊥
    no_steady c y i j m = let told = sym m ∙ (new_quiet c i y j).0 in absurd cc

    woven : IsWoven w before almost st
    woven = record {
      controls = λ c i. quiet_within idle (touches_of c) (old_quiet c i);
      new_controls = λ c i. quiet_within idle (touches_of c) (new_quiet c i);
      steady = λ c y i j m. absurd (no_steady c y i j m);
      unread = unread;
      renamed = renamed;
      one_to_one = λ c f i j e. names_differ o (own_numbers t) scope s n k0 all size room c f (reached c i) (reached f j) e;
      idle_names = λ c i. names_idle c ∙ (counted_touched w c unread i).0;
      once = ordered.0;
      reordered = ordered.1;
      kept = ordered.2;
      suit = suits;
      own = λ c k. keeps_name c (λ copy. unneeded_copy c copy (counted_needed w c (λ a i. quiet_within idle (touches_of a) (old_quiet a i)) unread k));
      own_behind = λ c k. let wanted = (and_parts (wants shown behind c) (not (idle c)) k).0 in (keeps_name c (λ copy. unwanted_copy c copy wanted), free_name c wanted);
    }

    fits : Fits (old_list w) st
    fits = subst (λ (acts : List Act). Fits acts st) (sym old_is) ((run_told o old_loop s scope).fits st)

    weak : StandsFor (record { agreed = before; old = old_list w; new = peeled_acts r }) almost st
    weak = subst (λ (acts : List Act). StandsFor (record { agreed = before; old = old_list w; new = acts }) almost st) new_is (woven_stands w before almost st fits woven)

    -- so the new statements do these acts
    new_run : run_all q new s scope st ≡ record { acts = peeled_acts r; ending = ending_with goes_on (store_after (peeled_acts r) st) }
    new_run = replayed st (weak st (λ c k. refl)).0

    pub new_whole : (run_all q new s scope st).acts ≡ peeled_acts r
    new_whole = ap (λ (y : Run). y.acts) new_run

    -- what is wanted behind and has a variable's name nobody writes here
    old_unwritten : (c : Cell) → idle c ≡ true → wants shown behind c ≡ true → written (run o old_loop s scope st).acts c ≡ false
    old_unwritten c i k = unwritten_there t valid s loop contained data_bytes ends scope front behind st executed goes unwanted_copy old_loop refl st c i k

    new_count : statements_count new ≡ statements_count body + 1 + statements_count body
    new_count = go last
      where
        copies : statements_count (copy_of p d body) ≡ statements_count body
        copies = counts_kept d.variable (literal p.value) body

        go : (b : Bool) → statements_count (with_peeled b p d body) ≡ statements_count body + 1 + statements_count body
        go false = let same = copies in let both_are = followed_count (copy_of p d body) (alone (Do (left_head false p.bound d) body)) in omega (arith, same, both_are)
        go true = let same = copies in omega (arith, same)

    new_unwritten : (v : Store) (c : Cell) → idle c ≡ true → wants shown behind c ≡ true → written (run_all q new s scope v).acts c ≡ false
    new_unwritten v c i k = false_unless (written (run_all q new s scope v).acts c) (λ j.
        let found = write_in (run_all q new s scope v).acts c j in
        by (subst (λ (y : Cell). IsOwn q scope y ⊎ IsCopyInside q scope s (statements_count new) y) found.4 (all_reach q new s scope v found.0 found.1 found.2 found.3)))
      where
        by : IsOwn q scope c ⊎ IsCopyInside q scope s (statements_count new) c → ⊥
        by (inl own) = unreached t valid s loop contained data_bytes ends scope front behind st executed goes unwanted_copy c i k (inl own)
        by (inr j) = elim (new_numbers j.statement j.from (let high = j.to in let many = new_count in omega (arith, high, many))) [
          | inl old ↦ unwanted_copy c (record { name = j.name; statement = g j.statement; from = old.0; to = (let high = old.1 in omega (arith, high)); number = j.number; rest = j.rest; is = j.is }) k
          | inr far ↦ unwanted_far c (record { name = j.name; iteration = record { statement = g j.statement; number = j.number }; rest = j.rest; is = j.is; far = far }) k
        ]

    stands : StandsFor (record { agreed = before; old = old_list w; new = peeled_acts r }) (wants shown behind) st
    stands v agree = let a = weak v agree in (a.0, (λ c k. go a.1 c k (idle c) refl))
      where
        go : AgreeIn almost (store_after (old_list w) st) (store_after (peeled_acts r) v) → (c : Cell) → wants shown behind c ≡ true → (b : Bool) → idle c ≡ b → store_after (old_list w) st c ≡ store_after (peeled_acts r) v c
        go most c k false i = most c (both k i)
        go most c k true i =
            let old_none : written (old_list w) c ≡ false = ap (λ (acts : List Act). written acts c) old_is ∙ old_unwritten c i k in
            let new_none : written (peeled_acts r) c ≡ false = ap (λ (acts : List Act). written acts c) (sym new_whole) ∙ new_unwritten st c i k in
            let wanted : before c ≡ true = elim (wanted_before shown (old_list w) behind c k) [ inl j ↦ j | inr j ↦ absurd (both_ways (written (old_list w) c) old_none j) ] in
            after_other (old_list w) st c old_none ∙ agree c wanted ∙ sym (after_other (peeled_acts r) v c new_none)

    -- what is shown of each execution
    pub stands_instead : StandsFor (record { agreed = wants shown ((run o old_loop s scope st).acts ++ behind); old = (run o old_loop s scope st).acts; new = (run_all q new s scope st).acts }) (wants shown behind) st
    stands_instead =
        subst (λ (acts : List Act). StandsFor (record { agreed = wants shown (acts ++ behind); old = acts; new = (run_all q new s scope st).acts }) (wants shown behind) st) old_is
        (subst (λ (acts : List Act). StandsFor (record { agreed = before; old = old_list w; new = acts }) (wants shown behind) st) (sym new_whole) stands)

    pub does_instead : Replays (run_all q new s scope) (run_all q new s scope st).acts goes_on
    does_instead = subst (λ (acts : List Act). Replays (run_all q new s scope) acts goes_on) (sym new_whole) replayed
