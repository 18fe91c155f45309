-- What the one DO does is woven anew of what two DO loops did: each iteration has both bodies, and only one entry and one end.
use Rattle.std.proofs.Common.{Bool, List, [], ap, append-nil, arith, false, if◌then◌else◌, inl, inr, not, refl, subst, sym, true, ℕ, ◌&&◌, ◌++◌, ◌+◌, ◌<◌, ◌∙◌, ◌∷◌, ◌≡◌, ◌≤◌, ◌⊎◌}
use Rattle.std.proofs.lemmas.Bool.{and_parts, both_ways, cases_lt}
use Rattle.std.specs.List.{flat_map, range_with_len}
use Rattle.std.specs.Str.Lines.{lines}
use Rattle.ped_base.specs.Lists.{is_among, is_same_text}
use Rattle.ped_tree.specs.NamesIn.{all_loop_variables}
use Rattle.ped_tree.specs.Numbering.{statement_count, statements_count}
use Rattle.ped_tree.specs.Tree.{Do, Head, ProgramTree, StmtTrees}
use Rattle.ped_rules.proofs.NestLaws.WovenStands.{agreed_wanted, idle_apart, of_block, stands_apart, touches_in, without_from}
use Rattle.ped_rules.specs.ped_loop_runs.proofs.LoopLaws.OneForOneCells.{among_of_scalar, cell_among, touched_in}
use Rattle.ped_rules.specs.ped_loop_runs.proofs.LoopLaws.OneForOneStands.{false_unless, not_so}
use Rattle.ped_rules.specs.ped_loop_runs.proofs.PastingLaws.LeftCopies.{IsOwn, all_reach, run_reaches}
use Rattle.ped_rules.specs.ped_loop_runs.proofs.PastingLaws.TheirCopies.{theirs, theirs_unneeded}
use Rattle.ped_rules.specs.ped_loop_runs.specs.Copies.{IsTheirs}
use Rattle.ped_rules.specs.ped_loop_runs.specs.Executions.{IsCopyInside, IsExecuted}
use Rattle.ped_rules.specs.ped_bodies.specs.Moving.{is_cell_among}
use Rattle.ped_rules.specs.ped_bodies.specs.Trips.{bounds_seen, loop_entry}
use Rattle.ped_rules.specs.ped_steps.proofs.RunLaws.AccessTouches.{write_in}
use Rattle.ped_rules.specs.ped_steps.specs.Runs.Exchanging.{is_of_scalar}
use Rattle.ped_rules.specs.ped_steps.specs.Runs.Renumbering.{renumbered}
use Rattle.ped_rules.specs.ped_laws.proofs.ActLaws.Exchanging.{same_stands}
use Rattle.ped_rules.specs.ped_laws.proofs.ActLaws.Lists.{in_parts}
use Rattle.ped_rules.specs.ped_laws.proofs.ActLaws.Renamings.{after_other, or_left, own_names}
use Rattle.ped_rules.specs.ped_laws.proofs.ActLaws.SameCells.{cell_is, cell_itself, text_itself}
use Rattle.ped_rules.specs.ped_laws.proofs.ActLaws.Stores.{fits_first, fits_rest}
use Rattle.ped_rules.specs.ped_laws.proofs.FlowRunLaws.Names.{no_copy_within}
use Rattle.ped_rules.specs.ped_laws.proofs.RunLaws.StatementsTold.{all_told}
use Rattle.ped_rules.specs.ped_laws.specs.Acts.Conflicts.{IsWriteWithin, ReadNone, WriteWithin, blocks_conflict_outside, without}
use Rattle.ped_rules.specs.ped_laws.specs.Acts.Fitting.{Fits, of_cells, store_after, touches_of}
use Rattle.ped_rules.specs.ped_laws.specs.Acts.Orders.{Block, EachOnce, IsIn, IsReordered, KeepsOrder, acts_in_blocks, block_conflict}
use Rattle.ped_rules.specs.ped_laws.specs.Acts.Pieces.{StandsFor}
use Rattle.ped_rules.specs.ped_laws.specs.Acts.Renaming.{Renamed, touch}
use Rattle.ped_rules.specs.ped_laws.specs.Acts.Sets.{AgreeIn, needed_by, needs, read_first, wants, written}
use Rattle.ped_rules.specs.ped_laws.specs.Runs.Replaying.{ending_with, finish_of, goes_on, has_fault}
use Rattle.ped_rules.specs.ped_laws.specs.Runs.Showing.{shown_at_end}
use Rattle.ped_rules.specs.ped_eval.specs.Evaluation.{Seen}
use Rattle.ped_rules.specs.ped_eval.specs.Loops.{Entered, inner_variables}
use Rattle.ped_rules.specs.ped_eval.specs.Outcomes.{Ends, run_of, setting_of}
use Rattle.ped_rules.specs.ped_eval.specs.Runs.{Run, run, run_all}
use Rattle.ped_rules.specs.ped_eval.specs.Scopes.{Scope, Setting, cell_of, place_of}
use Rattle.ped_rules.specs.ped_store.specs.Acts.{Act, Manner, Place, Touch, is_told, reads, writes}
use Rattle.ped_rules.specs.ped_store.specs.Cells.{Cell, same_cell}
use Rattle.ped_rules.specs.ped_store.specs.Stores.{Store, store_at_start}
use Rattle.ped_rules.specs.ped_weaves.proofs.WeaveLaws.AgreedApart.{agreed_before_or_written, both_stand, needed_agreed}
use Rattle.ped_rules.specs.ped_weaves.proofs.WeaveLaws.CountedActs.{counted_needed, counted_touched}
use Rattle.ped_rules.specs.ped_weaves.proofs.WeaveLaws.KnotLists.{block_is}
use Rattle.ped_rules.specs.ped_weaves.proofs.WeaveLaws.KnotRows.{blocks_append, knotted_append}
use Rattle.ped_rules.specs.ped_weaves.proofs.WeaveLaws.Woven.{woven_stands}
use Rattle.ped_rules.specs.ped_weaves.specs.Apart.{agreed}
use Rattle.ped_rules.specs.ped_weaves.specs.Weaves.{IsSteady, IsWoven, Weave, block, blocks_in, control, counted, knotted, new_list, old_list}
use Rattle.ped_splits.proofs.JoinExits.{dead_behind}
use Rattle.ped_splits.proofs.JoinFacts.{AreJoined, both_loops, one_body, one_head, variables_of}
use Rattle.ped_splits.proofs.JoinNames.{IsMoved, IsReached, among_alike, moved_or_not, names_apart}
use Rattle.ped_splits.proofs.JoinNumbers.{one_count, opened_before, opened_behind, pair_count}
use Rattle.ped_splits.proofs.JoinOrders.{firsts, joined_ordered, seconds, together}
use Rattle.ped_splits.proofs.JoinParts.{pair_acts}
use Rattle.ped_splits.proofs.JoinTouches.{first_cells, first_reads, first_renamed, numbers_rise, second_cells, second_reads, second_renamed}
use Rattle.ped_splits.proofs.SplitControls.{block_known, controls_within}
use Rattle.ped_splits.proofs.SplitKnots.{loop_blocks, loop_knots, loop_list, trip_knots}
use Rattle.ped_splits.proofs.SplitOrders.{units_row}
use Rattle.ped_splits.proofs.SplitSteady.{loop_reads}
use Rattle.ped_rules.specs.KeepMaps.{opened_at}
use Rattle.ped_splits.proofs.JoinRuns as runs

-- what is needed behind touches that don't write it is needed before them
needed_past : (d : Cell → Bool) (ts us : List Touch) (c : Cell) → WriteWithin d ts → d c ≡ false → needed_by us c ≡ true → needed_by (ts ++ us) c ≡ true
needed_past d [] us c within out h = h
needed_past d (y ∷ ts) us c within out h = go (same_cell y.cell c) refl (needed_past d ts us c within.1 out h)
  where
    by : (w : Manner) → IsWriteWithin d w y.cell → same_cell y.cell c ≡ true → needed_by (ts ++ us) c ≡ true → read_first w (needed_by (ts ++ us) c) ≡ true
    by reads k same more = refl
    by writes k same more = absurd (both_ways (d c) out (ap d (sym (cell_is y.cell c same)) ∙ k))
    by is_told k same more = more

    go : (b : Bool) → same_cell y.cell c ≡ b → needed_by (ts ++ us) c ≡ true → (if b then read_first y.manner (needed_by (ts ++ us) c) else needed_by (ts ++ us) c) ≡ true
    go true same more = by y.manner within.0 same more
    go false same more = more

module _ (t u : ProgramTree) (s : ℕ) (x : AreJoined t u s) (data_bytes : List ℕ) (ends : Ends (run_of t data_bytes).ending) (scope : Scope) (front behind : List Act) (v : Store)
    (executed : IsExecuted (setting_of t) t (store_at_start (lines data_bytes)) s (statements_count (both_loops x)) scope front (run_all (setting_of t) (both_loops x) s scope v).acts behind v)
    (goes : finish_of (run_all (setting_of t) (both_loops x) s scope v).ending ≡ goes_on)
    (quiet : (i j : ℕ) → 1 ≤ j → j < i → i ≤ (runs.e t u s x data_bytes scope front behind v executed goes).count → blocks_conflict_outside (is_cell_among (variables_of x)) (runs.old_part t u s x data_bytes scope front behind v executed goes i 0) (runs.old_part t u s x data_bytes scope front behind v executed goes j 1) ≡ false) where
  abbrev p : Setting
  p = setting_of t

  abbrev q : Setting
  q = renumbered (opened_at (s + 1 + statements_count x.own_body)) (setting_of t)

  abbrev m : ℕ
  m = s + 1 + statements_count x.own_body

  abbrev size : ℕ
  size = statements_count (both_loops x)

  abbrev pair : List Act
  pair = (run_all (setting_of t) (both_loops x) s scope v).acts

  abbrev made : List Act
  made = runs.new_acts t u s x data_bytes scope front behind v executed goes

  abbrev e : Entered
  e = runs.e t u s x data_bytes scope front behind v executed goes

  abbrev e2 : Entered
  e2 = runs.e2 t u s x data_bytes scope front behind v executed goes

  abbrev z : Entered
  z = runs.z t u s x data_bytes scope front behind v executed goes

  abbrev seen : List Seen
  seen = runs.seen t u s x data_bytes scope front behind v executed goes

  abbrev between : Store
  between = store_after (run (setting_of t) (Do x.own x.own_body) s scope v).acts v

  abbrev seen2 : List Seen
  seen2 = bounds_seen (setting_of t) x.next scope (store_after (run (setting_of t) (Do x.own x.own_body) s scope v).acts v)

  abbrev old_part : ℕ → ℕ → List Act
  old_part = runs.old_part t u s x data_bytes scope front behind v executed goes

  abbrev new_part : ℕ → ℕ → List Act
  new_part = runs.new_part t u s x data_bytes scope front behind v executed goes

  abbrev names : Cell → Cell
  names = runs.second_names t u s x data_bytes scope front behind v executed goes

  abbrev variables : List (List ℕ)
  variables = variables_of x

  abbrev idle : Cell → Bool
  idle = is_cell_among (variables_of x)

  abbrev shown : Cell → Bool
  shown = shown_at_end t

  abbrev apart : Cell → Bool
  apart = stands_apart (variables_of x)

  abbrev at : Place
  at = place_of p s scope

  abbrev at2 : Place
  at2 = place_of p m scope

  abbrev new_at : Place
  new_at = place_of q s scope

  abbrev entry : Act
  entry = loop_entry seen e scope at

  abbrev new_entry : Act
  new_entry = loop_entry seen z scope new_at

  abbrev its_weave : Weave
  its_weave = record {
    names = names;
    idle = idle;
    old = flat_map (trip_knots e scope at (0 ∷ [])) (range_with_len 1 e.count) ++ loop_knots e2 scope at2 seen2 (1 ∷ []);
    new = flat_map (trip_knots z scope new_at (0 ∷ (1 ∷ []))) (range_with_len 1 z.count);
    acts = old_part;
    others = new_part;
  }

  -- the lists are woven so, behind the entries
  first_rows : (run p (Do x.own x.own_body) s scope v).acts ≡ entry ∷ knotted old_part (flat_map (trip_knots e scope at (0 ∷ [])) (range_with_len 1 e.count))
  first_rows =
      (runs.old t u s x data_bytes scope front behind v executed goes).acts
      ∙ sym (loop_list e scope at old_part (runs.old t u s x data_bytes scope front behind v executed goes).trip seen (0 ∷ []) x.serial (λ i from to. sym (append-nil ((runs.old t u s x data_bytes scope front behind v executed goes).trip i))))

  second_rows : (run p (Do x.next x.next_body) m scope between).acts ≡ knotted old_part (loop_knots e2 scope at2 seen2 (1 ∷ []))
  second_rows =
      (runs.other t u s x data_bytes scope front behind v executed goes).acts
      ∙ sym (loop_list e2 scope at2 old_part (runs.other t u s x data_bytes scope front behind v executed goes).trip seen2 (1 ∷ []) x.next_serial (λ i from to. sym (append-nil ((runs.other t u s x data_bytes scope front behind v executed goes).trip i))))

  whole_old : pair ≡ (entry ∷ []) ++ old_list its_weave
  whole_old =
      pair_acts t u s x scope v goes
      ∙ (λ i. first_rows i ++ second_rows i)
      ∙ ap (λ (acts : List Act). entry ∷ acts) (sym (knotted_append old_part (flat_map (trip_knots e scope at (0 ∷ [])) (range_with_len 1 e.count)) (loop_knots e2 scope at2 seen2 (1 ∷ []))))

  whole_new : made ≡ (new_entry ∷ []) ++ new_list its_weave
  whole_new = sym (loop_list z scope new_at new_part (runs.new_trip t u s x data_bytes scope front behind v executed goes) seen (0 ∷ (1 ∷ [])) x.serial (λ i from to. ap (λ (acts : List Act). new_part i 0 ++ acts) (sym (append-nil (new_part i 1)))))

  -- and so are their blocks
  abbrev Ordered : List Block → List Block → Type 0
  Ordered bs cs = EachOnce bs × IsReordered bs cs × KeepsOrder (block_conflict idle) bs cs

  counts : e2.count ≡ e.count
  counts = runs.counts t u s x data_bytes scope front behind v executed goes

  rows_of : (w : Entered) (place : Place) (ks : List ℕ) (n : ℕ) → w.count ≡ n → blocks_in old_part (flat_map (trip_knots w scope place ks) (range_with_len 1 w.count)) ≡ flat_map (units_row n 2 old_part ks) (range_with_len 1 n)
  rows_of w place ks n is = loop_blocks w scope place 2 old_part [] ks ∙ ap (λ (k : ℕ). flat_map (units_row k 2 old_part ks) (range_with_len 1 k)) is

  old_blocks_are : blocks_in old_part its_weave.old ≡ firsts e.count old_part idle quiet ++ seconds e.count old_part idle quiet
  old_blocks_are =
      blocks_append old_part (flat_map (trip_knots e scope at (0 ∷ [])) (range_with_len 1 e.count)) (loop_knots e2 scope at2 seen2 (1 ∷ []))
      ∙ (λ i. rows_of e at (0 ∷ []) e.count refl i ++ rows_of e2 at2 (1 ∷ []) e.count counts i)

  new_blocks_are : blocks_in old_part its_weave.new ≡ together e.count old_part idle quiet
  new_blocks_are = rows_of z new_at (0 ∷ (1 ∷ [])) e.count refl

  ordered : Ordered (blocks_in old_part its_weave.old) (blocks_in old_part its_weave.new)
  ordered = subst (λ (bs : List Block). Ordered bs (blocks_in old_part its_weave.new)) (sym old_blocks_are) (subst (Ordered (firsts e.count old_part idle quiet ++ seconds e.count old_part idle quiet)) (sym new_blocks_are) (joined_ordered e.count old_part idle quiet))

  -- a block is that of one of the bodies in an iteration
  known : (i k : ℕ) → IsIn (block i k) its_weave.old → (1 ≤ i) × (i ≤ e.count) × ((k ≡ 0) ⊎ (k ≡ 1))
  known i k h = elim (in_parts (block i k) (flat_map (trip_knots e scope at (0 ∷ [])) (range_with_len 1 e.count)) (loop_knots e2 scope at2 seen2 (1 ∷ [])) h) [
    | inl j ↦ (let r = block_known e scope at seen (0 ∷ []) i k (inr j) in (r.0, r.1, inl (one r.2)))
    | inr j ↦ (let r = block_known e2 scope at2 seen2 (1 ∷ []) i k j in let high = r.1 in let many = counts in (r.0, omega (arith, high, many), inr (one r.2)))
  ]
    where
      one : {n : ℕ} → IsIn k (n ∷ []) → k ≡ n
      one (inl same) = same
      one (inr none) = absurd none

  unread : (i k : ℕ) → IsIn (block i k) its_weave.old → ReadNone idle (old_part i k)
  unread i k h = let r = known i k h in elim r.2 [
    | inl first ↦ subst (λ (n : ℕ). ReadNone idle (old_part i n)) (sym first) (first_reads t u s x data_bytes scope front behind v executed goes i r.0 r.1)
    | inr second ↦ subst (λ (n : ℕ). ReadNone idle (old_part i n)) (sym second) (second_reads t u s x data_bytes scope front behind v executed goes i r.0 r.1)
  ]

  renamed_part : (i k : ℕ) → IsIn (block i k) its_weave.old → Renamed names (without idle (old_part i k)) (without idle (new_part i k))
  renamed_part i k h = let r = known i k h in elim r.2 [
    | inl first ↦ subst (λ (n : ℕ). Renamed names (without idle (old_part i n)) (without idle (new_part i n))) (sym first) (first_renamed t u s x data_bytes scope front behind v executed goes i r.0 r.1)
    | inr second ↦ subst (λ (n : ℕ). Renamed names (without idle (old_part i n)) (without idle (new_part i n))) (sym second) (second_renamed t u s x data_bytes scope front behind v executed goes i r.0 r.1)
  ]

  abbrev IsCell : Cell → Type 0
  IsCell c = IsReached p scope s m (numbers_rise t u s x data_bytes scope front behind v executed goes) c

  part_cells : (i k : ℕ) → IsIn (block i k) its_weave.old → (a : Act) → IsIn a (old_part i k) → (y : Touch) → IsIn y a.touches → IsCell y.cell
  part_cells i k h a n y j = let r = known i k h in elim r.2 [
    | inl first ↦ first_cells t u s x data_bytes scope front behind v executed goes i r.0 r.1 a (subst (λ (b : ℕ). IsIn a (old_part i b)) first n) y j
    | inr second ↦ second_cells t u s x data_bytes scope front behind v executed goes i r.0 r.1 a (subst (λ (b : ℕ). IsIn a (old_part i b)) second n) y j
  ]

  reached : (c : Cell) → touch (counted its_weave) c ≡ true → IsCell c
  reached c h =
      let r = touched_in (counted its_weave) c h in
      let a = without_from idle (acts_in_blocks (blocks_in old_part its_weave.old)) r.0 r.1 in
      let b = of_block (blocks_in old_part its_weave.old) a.0 a.1 in
      let k = block_is old_part its_weave.old b.0 b.1 in
      let there : IsIn a.0 (old_part b.0.outer b.0.inner) = subst (λ (w : Block). IsIn a.0 w.acts) k.0 b.2 in
      let y : IsIn r.2 a.0.touches = touches_in idle a.0.touches r.2 (subst (λ (w : Act). IsIn r.2 w.touches) a.2 r.3) in
      subst IsCell r.4 (part_cells b.0.outer b.0.inner k.1 a.0 there r.2 y)

  -- controls write the variable of the DO alone, and those of the one DO read nothing
  own_named : is_among x.own.variable (variables_of x) ≡ true
  own_named = or_left (is_same_text x.own.variable x.own.variable) (is_among x.own.variable (all_loop_variables (one_body x))) (text_itself x.own.variable)

  own_idle : idle (cell_of scope x.own.variable) ≡ true
  own_idle = cell_among (variables_of x) scope x.own.variable ∙ own_named

  none_private : (h : Head) → h.private ≡ [] → (y : List ℕ) → IsIn y h.private → idle (cell_of scope y) ≡ true
  none_private h none y i = absurd (subst (λ (ys : List (List ℕ)). IsIn y ys) none i)

  no_inner : (h : Head) (body : StmtTrees) → h.parallel ≡ false → inner_variables h.parallel body ≡ []
  no_inner h body serial = ap (λ (b : Bool). inner_variables b body) serial

  controls : (c : List Act) → IsIn (control c) its_weave.old → WriteWithin idle (touches_of c)
  controls c i = elim (in_parts (control c) (flat_map (trip_knots e scope at (0 ∷ [])) (range_with_len 1 e.count)) (loop_knots e2 scope at2 seen2 (1 ∷ [])) i) [
    | inl j ↦ controls_within idle e scope x.serial (no_inner x.own x.own_body x.serial) own_idle (none_private x.own x.private) at seen (0 ∷ []) c (inr j)
    | inr j ↦ controls_within idle e2 scope x.next_serial (no_inner x.next x.next_body x.next_serial) (ap (λ (y : List ℕ). idle (cell_of scope y)) x.variable ∙ own_idle) (none_private x.next x.next_private) at2 seen2 (1 ∷ []) c j
  ]

  new_controls : (c : List Act) → IsIn (control c) its_weave.new → WriteWithin idle (touches_of c)
  new_controls c i = controls_within idle z scope x.serial (no_inner x.own x.own_body x.serial) own_idle (none_private x.own x.private) new_at seen (0 ∷ (1 ∷ [])) c (inr i)

  -- copies inside the two: nobody else has to do with them
  size_is : size ≡ statements_count x.own_body + statements_count x.next_body + 2
  size_is = pair_count t u s x

  its : (c : Cell) → IsCopyInside p scope s size c → IsTheirs front behind v c
  its c copy = theirs p scope s size c copy t (lines data_bytes) front pair behind v executed

  unwanted_copy : (c : Cell) → IsCopyInside p scope s size c → wants shown behind c ≡ true → ⊥
  unwanted_copy c copy h = both_ways (wants shown behind c) ((its c copy).unwanted shown (ap shown copy.is)) h

  unagreed_copy : (c : Cell) → IsCopyInside p scope s size c → agreed apart shown behind c ≡ true → ⊥
  unagreed_copy c copy h = unwanted_copy c copy (agreed_wanted apart shown behind c (ap apart copy.is) h)

  abbrev of_variable : Cell → Bool
  of_variable d = same_cell (cell_of scope x.own.variable) d

  unneeded_copy : (c : Cell) → IsCopyInside p scope s size c → needs (old_list its_weave) c ≡ true → ⊥
  unneeded_copy c copy h =
      let fine : has_fault (finish_of (run_all p (both_loops x) s scope v).ending) ≡ false = ap has_fault goes in
      let none = theirs_unneeded p scope s size c copy (both_loops x) s scope v (its c copy).undefined fine in
      both_ways (needs pair c) none (ap (λ (acts : List Act). needs acts c) whole_old ∙ entry_needs h)
    where
      -- the entry writes the variable alone
      entry_writes : WriteWithin of_variable entry.touches
      entry_writes =
          subst (WriteWithin of_variable) (append-nil entry.touches)
          (controls_within of_variable e scope x.serial (no_inner x.own x.own_body x.serial) (cell_itself (cell_of scope x.own.variable)) (λ y i. absurd (subst (λ (ys : List (List ℕ)). IsIn y ys) x.private i)) at seen (0 ∷ []) (entry ∷ []) (inl refl))

      other_cell : of_variable c ≡ false
      other_cell = false_unless (of_variable c) (λ same. no_copy_within scope x.own.variable copy.name (record { statement = copy.statement; number = copy.number }) copy.rest (cell_is (cell_of scope x.own.variable) c same ∙ copy.is))

      entry_needs : needs (old_list its_weave) c ≡ true → needs ((entry ∷ []) ++ old_list its_weave) c ≡ true
      entry_needs needed = needed_past of_variable entry.touches (touches_of (old_list its_weave)) c entry_writes other_cell needed

  moved_copy : (c : Cell) → IsMoved p scope m s c → IsCopyInside p scope s size c
  moved_copy c r = let many = size_is in record { name = r.name; statement = m; from = omega arith; to = omega (arith, many); number = r.number; rest = r.rest; is = r.was }

  keeps_name : (c : Cell) → (IsCopyInside p scope s size c → ⊥) → names c ≡ c
  keeps_name c alone_there = elim (moved_or_not p scope m s c) [ inl same ↦ same | inr r ↦ absurd (alone_there (moved_copy c r)) ]

  named_copy : (c f : Cell) → IsMoved p scope m s f → names f ≡ c → IsCopyInside p scope s size c
  named_copy c f r is = let many = size_is in record { name = r.name; statement = s; from = omega arith; to = omega (arith, many); number = r.number; rest = r.rest; is = sym is ∙ r.is }

  -- the store behind the entry, where the lists begin
  abbrev start_there : Store
  start_there = store_after (entry ∷ []) v

  abbrev middle : Cell → Bool
  middle = agreed apart shown (old_list its_weave ++ behind)

  abbrev almost : Cell → Bool
  almost c = agreed apart shown behind c && not (idle c)

  steady : (c : List Act) (y : Touch) → IsIn (control c) its_weave.new → IsIn y (touches_of c) → y.manner ≡ reads → IsSteady its_weave middle start_there y
  steady c y i j read = absurd (loop_reads z scope x.serial (no_inner x.own x.own_body x.serial) new_at [] (0 ∷ (1 ∷ [])) c (inr i) y j read)

  woven : IsWoven its_weave middle almost start_there
  woven = record {
    controls = controls;
    new_controls = new_controls;
    steady = steady;
    unread = unread;
    renamed = renamed_part;
    one_to_one = λ c d a b same. names_apart p scope s m (numbers_rise t u s x data_bytes scope front behind v executed goes) c d (reached c a) (reached d b) same;
    idle_names = λ c a. among_alike p scope m s (variables_of x) c ∙ (counted_touched its_weave c unread a).0;
    once = ordered.0;
    reordered = ordered.1;
    kept = ordered.2;
    suit = record {
      needed = λ c k. needed_agreed apart shown (old_list its_weave) behind c k;
      wanted = λ c k. (let parts = and_parts (agreed apart shown behind c) (not (idle c)) k in (not_so (idle c) parts.1, agreed_before_or_written apart shown (old_list its_weave) behind c parts.0));
    };
    own = λ c a. keeps_name c (λ copy. unneeded_copy c copy (counted_needed its_weave c controls unread a));
    own_behind = λ c a.
        let asked = (and_parts (agreed apart shown behind c) (not (idle c)) a).0 in
        let stays = keeps_name c (λ copy. unagreed_copy c copy asked) in (
          stays,
          (λ f written_there same. elim (moved_or_not p scope m s f) [
            | inl own ↦ sym own ∙ same ∙ stays
            | inr r ↦ absurd (unagreed_copy c (named_copy c f r (same ∙ stays)) asked)
          ]),
        );
  }

  fits : Fits ((entry ∷ []) ++ old_list its_weave) v
  fits = subst (λ (acts : List Act). Fits acts v) whole_old ((all_told p (both_loops x) s scope).fits v)

  rest_weak : StandsFor (record { agreed = middle; old = old_list its_weave; new = new_list its_weave }) almost start_there
  rest_weak = woven_stands its_weave middle almost start_there (fits_rest (entry ∷ []) (old_list its_weave) v fits) woven

  abbrev before : Cell → Bool
  before = agreed apart shown (((entry ∷ []) ++ old_list its_weave) ++ behind)

  entry_stands : StandsFor (record { agreed = before; old = entry ∷ []; new = new_entry ∷ [] }) middle v
  entry_stands =
      same_stands (entry ∷ []) (new_entry ∷ []) before middle v (own_names (of_cells (touches_of (entry ∷ [])))) (fits_first (entry ∷ []) (old_list its_weave) v fits)
      (needed_agreed apart shown (entry ∷ []) (old_list its_weave ++ behind)) (agreed_before_or_written apart shown (entry ∷ []) (old_list its_weave ++ behind))

  weak : StandsFor (record { agreed = before; old = (entry ∷ []) ++ old_list its_weave; new = (new_entry ∷ []) ++ new_list its_weave }) almost v
  weak = both_stand before middle almost (entry ∷ []) (new_entry ∷ []) (old_list its_weave) (new_list its_weave) v entry_stands rest_weak

  -- so the one DO does these acts
  one_there : run q (Do (one_head x) (one_body x)) s scope v ≡ record { acts = made; ending = ending_with goes_on (store_after made v) }
  one_there = runs.one_replays t u s x data_bytes scope front behind v executed goes v (subst (λ (acts : List Act). Fits acts v) (sym whole_new) (weak v (λ c k. refl)).0)

  -- what is wanted behind and has a variable's name nobody writes here
  unreached : (c : Cell) → idle c ≡ true → wants shown behind c ≡ true → IsOwn p scope c ⊎ IsCopyInside p scope s size c → ⊥
  unreached c i h (inl (inl own)) =
      let named : is_among own.0 variables ≡ true = sym (cell_among variables scope own.0) ∙ ap idle (sym own.1) ∙ i in
      both_ways (wants shown behind c) (ap (wants shown behind) own.1 ∙ dead_behind t u s x data_bytes ends scope front behind v executed goes own.0 named) h
  unreached c i h (inl (inr none)) = both_ways (is_of_scalar c) none (among_of_scalar variables c i)
  unreached c i h (inr copy) = unwanted_copy c copy h

  old_unwritten : (c : Cell) → idle c ≡ true → wants shown behind c ≡ true → written ((entry ∷ []) ++ old_list its_weave) c ≡ false
  old_unwritten c i h = ap (λ (acts : List Act). written acts c) (sym whole_old) ∙ false_unless (written pair c) (λ k.
      let r = write_in pair c k in
      unreached c i h (subst (λ (y : Cell). IsOwn p scope y ⊎ IsCopyInside p scope s size y) r.4 (all_reach p (both_loops x) s scope v r.0 r.1 r.2 r.3)))

  -- copies in the one DO have statements of the two
  as_old : (c : Cell) → IsOwn q scope c ⊎ IsCopyInside q scope s (statement_count (Do (one_head x) (one_body x))) c → IsOwn p scope c ⊎ IsCopyInside p scope s size c
  as_old c (inl own) = inl own
  as_old c (inr copy) =
      let low = copy.from in
      let high = copy.to in
      let many = size_is in
      let one = one_count t u s x in
      let within = opened_within copy.statement in
      let above = within.0 in
      let below = within.1 in
      inr (record { name = copy.name; statement = opened_at m copy.statement; from = omega (arith, low, above); to = omega (arith, high, below, many, one); number = copy.number; rest = copy.rest; is = copy.is })
    where
      opened_within : (k : ℕ) → (k ≤ opened_at m k) × (opened_at m k ≤ k + 1)
      opened_within k = elim (cases_lt k m) [
        | inl less ↦ (let is = opened_before m k less in (omega (arith, is), omega (arith, is)))
        | inr more ↦ (let is = opened_behind m k more in (omega (arith, is), omega (arith, is)))
      ]

  new_unwritten : (c : Cell) → idle c ≡ true → wants shown behind c ≡ true → written ((new_entry ∷ []) ++ new_list its_weave) c ≡ false
  new_unwritten c i h =
      ap (λ (acts : List Act). written acts c) (sym whole_new ∙ ap (λ (r : Run). r.acts) (sym one_there))
      ∙ false_unless (written (run q (Do (one_head x) (one_body x)) s scope v).acts c) (λ k.
      let r = write_in (run q (Do (one_head x) (one_body x)) s scope v).acts c k in
      unreached c i h (subst (λ (y : Cell). IsOwn p scope y ⊎ IsCopyInside p scope s size y) r.4 (as_old r.2.cell (run_reaches q (Do (one_head x) (one_body x)) s scope v r.0 r.1 r.2 r.3))))

  stands : StandsFor (record { agreed = before; old = (entry ∷ []) ++ old_list its_weave; new = (new_entry ∷ []) ++ new_list its_weave }) (agreed apart shown behind) v
  stands w agree = let a = weak w agree in (a.0, (λ c k. go a.1 c k (idle c) refl))
    where
      go : AgreeIn almost (store_after ((entry ∷ []) ++ old_list its_weave) v) (store_after ((new_entry ∷ []) ++ new_list its_weave) w) → (c : Cell) → agreed apart shown behind c ≡ true → (b : Bool) → idle c ≡ b
          → store_after ((entry ∷ []) ++ old_list its_weave) v c ≡ store_after ((new_entry ∷ []) ++ new_list its_weave) w c
      go most c k false i = most c (λ r. k r && not (i r))
      go most c k true i =
          let asked : wants shown behind c ≡ true = agreed_wanted apart shown behind c (idle_apart variables c i) k in
          let one = old_unwritten c i asked in
          let two = new_unwritten c i asked in
          let there : before c ≡ true = elim (agreed_before_or_written apart shown ((entry ∷ []) ++ old_list its_weave) behind c k) [ inl h ↦ h | inr h ↦ absurd (both_ways (written ((entry ∷ []) ++ old_list its_weave) c) one h) ] in
          after_other ((entry ∷ []) ++ old_list its_weave) v c one ∙ agree c there ∙ sym (after_other ((new_entry ∷ []) ++ new_list its_weave) w c two)

  pub joined_stands : StandsFor (record { agreed = agreed (stands_apart (variables_of x)) (shown_at_end t) ((run_all (setting_of t) (both_loops x) s scope v).acts ++ behind); old = (run_all (setting_of t) (both_loops x) s scope v).acts; new = runs.new_acts t u s x data_bytes scope front behind v executed goes }) (agreed (stands_apart (variables_of x)) (shown_at_end t) behind) v
  joined_stands =
      subst (λ (acts : List Act). StandsFor (record { agreed = agreed apart shown (acts ++ behind); old = acts; new = made }) (agreed apart shown behind) v) (sym whole_old)
      (subst (λ (acts : List Act). StandsFor (record { agreed = before; old = (entry ∷ []) ++ old_list its_weave; new = acts }) (agreed apart shown behind) v) (sym whole_new) stands)

  pub one_run : run (renumbered (opened_at (s + 1 + statements_count x.own_body)) (setting_of t)) (Do (one_head x) (one_body x)) s scope v ≡ record { acts = runs.new_acts t u s x data_bytes scope front behind v executed goes; ending = ending_with goes_on (store_after (runs.new_acts t u s x data_bytes scope front behind v executed goes) v) }
  one_run = one_there
