-- What the DO loops do into which a DO is taken apart is woven anew of what its units did: by blocks, and in each by iterations.
use Rattle.std.proofs.Common.{◌⊎◌, length, ◌≡◌, ℕ, ◌+◌, ◌≤◌, ◌<◌, List, [], ◌∷◌, ◌++◌, Bool, true, false, ◌||◌, ◌&&◌, not, refl, sym, ap, subst, ◌∙◌, append_assoc, inl, inr, arith}
use Rattle.std.proofs.lemmas.Bool.{and_parts, both_ways, false_from_ne_true, or_right}
use Rattle.std.specs.List.{flat_map, list_any, range_with_len}
use Rattle.std.specs.Str.Lines.{lines}
use Rattle.ped_tree.specs.Tree.{Do, ProgramTree}
use Rattle.ped_tree.specs.NamesIn.{all_loop_variables, loop_variables}
use Rattle.ped_base.specs.Lists.{is_among}
use Rattle.ped_tree.specs.Numbering.{statement_count, statements_count}
use Rattle.ped_rules.specs.ped_loop_runs.specs.Executions.{IsCopyInside, IsExecuted, as_done}
use Rattle.ped_rules.specs.ped_loop_runs.specs.Numbers.{counted_by}
use Rattle.ped_rules.specs.ped_bodies.specs.Moving.{is_cell_among, own_number}
use Rattle.ped_rules.specs.ped_steps.specs.Replacing.{alone}
use Rattle.ped_rules.specs.ped_steps.specs.Runs.Renumbering.{renumbered}
use Rattle.ped_rules.specs.ped_flow.specs.Questions.{LoopOf}
use Rattle.ped_rules.specs.ped_laws.proofs.ConflictLaws.CoveringRuns.{MakingLaw, SequenceLaw}
use Rattle.ped_rules.specs.ped_laws.proofs.RunLaws.StatementsTold.{run_told}
use Rattle.ped_rules.specs.ped_laws.specs.Acts.Conflicts.{ReadNone, WriteWithin, without}
use Rattle.ped_rules.specs.ped_laws.proofs.ActLaws.Lists.{in_parts, in_right}
use Rattle.ped_rules.specs.ped_laws.proofs.ActLaws.SameCells.{is_cell, text_itself}
use Rattle.ped_rules.specs.ped_laws.specs.Acts.Renaming.{Renamed, touch}
use Rattle.ped_rules.proofs.NestLaws.NestKnots.{in_numbers}
use Rattle.ped_rules.specs.ped_laws.specs.Acts.Fitting.{Fits, store_after, touches_of}
use Rattle.ped_rules.specs.ped_laws.specs.Acts.Grids.{block_at}
use Rattle.ped_rules.specs.ped_laws.specs.Acts.Orders.{Block, EachOnce, IsIn, IsReordered, KeepsOrder, acts_in_blocks, block_conflict}
use Rattle.ped_rules.specs.ped_laws.specs.Acts.Sets.{AgreeIn, needs, wants, written}
use Rattle.ped_rules.specs.ped_loop_runs.proofs.LoopLaws.OneForOneCells as cells
use Rattle.ped_rules.specs.ped_loop_runs.proofs.LoopLaws.OneForOneCells.{among_of_scalar, cell_among, touched_in}
use Rattle.ped_rules.specs.ped_loop_runs.proofs.LoopLaws.OneForOneNames.{variables_unnamed}
use Rattle.ped_rules.specs.ped_loop_runs.proofs.PastingLaws.LeftCopies.{IsOwn, run_reaches}
use Rattle.ped_rules.specs.ped_loop_runs.proofs.PastingLaws.TheirCopies.{theirs, theirs_unneeded}
use Rattle.ped_rules.specs.ped_steps.proofs.RunLaws.AccessTouches.{write_in}
use Rattle.ped_rules.specs.ped_steps.proofs.RunLaws.LeftLoops.{execution_left}
use Rattle.ped_rules.specs.ped_steps.proofs.RunLaws.ScalarNames.{shown_scalar}
use Rattle.ped_rules.specs.ped_steps.specs.Runs.Exchanging.{is_of_scalar}
use Rattle.ped_rules.specs.ped_laws.proofs.FlowRunLaws.DeadExits.{unwanted_behind}
use Rattle.ped_rules.specs.ped_laws.proofs.FlowRunLaws.Stopping.{fitting_stops}
use Rattle.ped_rules.specs.ped_laws.proofs.ActLaws.Renamings.{after_other}
use Rattle.ped_rules.specs.ped_laws.specs.FlowRuns.Exits.{IsExit}
use Rattle.ped_rules.specs.ped_loop_runs.specs.Bounds.{IsOfFixed}
use Rattle.ped_rules.specs.ped_loop_runs.specs.Carried.{AllStoreWithin}
use Rattle.ped_rules.specs.ped_loop_runs.specs.Copies.{IsTheirs}
use Rattle.ped_rules.specs.ped_loop_runs.specs.TrueRejections.{IsTrueOn}
use Rattle.ped_rules.specs.ped_laws.specs.Acts.Pieces.{StandsFor}
use Rattle.ped_rules.specs.ped_laws.specs.Runs.Replaying.{finish_of, goes_on, has_fault}
use Rattle.ped_rules.specs.ped_laws.specs.Runs.Showing.{shown_at_end}
use Rattle.ped_rules.specs.ped_eval.specs.Evaluation.{Seen, cell_seen}
use Rattle.ped_rules.specs.ped_eval.specs.Loops.{Entered, frame, inner_variables}
use Rattle.ped_rules.specs.ped_eval.specs.Outcomes.{Ends, run_of, setting_of}
use Rattle.ped_rules.specs.ped_eval.specs.Runs.{Run, run, run_all}
use Rattle.ped_rules.specs.ped_eval.specs.Scopes.{Scope, Setting, cell_of, place_of, turns_of}
use Rattle.ped_rules.specs.ped_store.specs.Acts.{Act, Touch, iterations_of, reads}
use Rattle.ped_rules.specs.ped_store.specs.Cells.{Cell, Iteration, Private, Scalar, same_cell}
use Rattle.ped_rules.specs.ped_store.specs.Races.{is_write}
use Rattle.ped_rules.specs.ped_store.specs.Stores.{Store, store_at_start}
use Rattle.ped_rules.specs.ped_weaves.specs.Apart.{agreed}
use Rattle.ped_rules.specs.ped_weaves.proofs.WeaveLaws.AgreedApart.{agreed_before_or_written, needed_agreed}
use Rattle.ped_rules.specs.ped_weaves.proofs.WeaveLaws.CountedActs.{counted_needed, counted_touched, counted_writes}
use Rattle.ped_rules.specs.ped_weaves.proofs.WeaveLaws.KnotLists.{block_is, in_blocks}
use Rattle.ped_rules.specs.ped_weaves.proofs.WeaveLaws.KnotRows.{blocks_append, knotted_append}
use Rattle.ped_rules.specs.ped_weaves.proofs.WeaveLaws.Woven.{woven_stands}
use Rattle.ped_rules.specs.ped_weaves.specs.Weaves.{IsSteady, IsWoven, Knot, Weave, block, blocks_in, control, counted, knotted, new_list, old_list}
use Rattle.ped_rules.proofs.NestLaws.WovenStands.{agreed_wanted, idle_apart, of_block, stands_apart, touches_in, without_from}
use Rattle.ped_rules.specs.ped_loop_runs.proofs.LoopLaws.OneForOneStands.{not_so, run_alone}
use Rattle.ped_splits.proofs.SplitFacts.{IsSplit}
use Rattle.ped_splits.proofs.SplitNumbers.{split_numbers}
use Rattle.ped_splits.proofs.SplitPlaces.{end_of}
use Rattle.ped_splits.proofs.SplitConflicts.{AreTwoPieces, pieces_apart}
use Rattle.ped_splits.proofs.SplitOrders.{new_blocks, old_blocks, units_ordered}
use Rattle.ped_splits.proofs.SplitKnots.{loop_blocks, loop_knots, loop_list}
use Rattle.ped_splits.proofs.SplitNames.{names_or_moves, number_of, split_names}
use Rattle.ped_splits.proofs.SplitCells.{IsReached, idle_alike, moved_are, names_are, names_or_moved, number_in, own_unmoved, split_apart}
use Rattle.ped_splits.proofs.SplitTouches.{reads_none, unit_reached}
use Rattle.ped_splits.proofs.SplitEnds.{private_undefined}
use Rattle.ped_splits.proofs.SplitFresh.{fresh_unwanted, new_number, unit_number}
use Rattle.ped_splits.proofs.SplitRenamed.{likewise_renamed}
use Rattle.ped_splits.proofs.SplitSources.{control_own, in_knots, likewise_source, write_has}
use Rattle.ped_splits.proofs.SplitSteady.{fixed_counts, fixed_unwritten, loop_reads, seen_fixed, seen_held}
use Rattle.ped_splits.proofs.SplitPieces.{of_unit, parts_of_run, unit_stores}
use Rattle.ped_splits.proofs.SplitControls.{any_there, block_known, controls_within}
use Rattle.ped_splits.proofs.BlockPlaces.{found_apart, found_rising, rising_range}
use Rattle.ped_splits.proofs.DistributeTrusted.{each_placed}
use Rattle.ped_splits.proofs.SplitRuns as runs
use Rattle.ped_splits.specs.Units.{units}

around : (a b c d f g h : List Act) → a ++ ((b ++ (c ++ (d ++ (f ++ g)))) ++ h) ≡ (a ++ b) ++ (c ++ (d ++ (f ++ (g ++ h))))
around a b c d f g h =
    ap (λ ys. a ++ ys) (append_assoc b (c ++ (d ++ (f ++ g))) h ∙ ap (λ ys. b ++ ys) (append_assoc c (d ++ (f ++ g)) h ∙ ap (λ ys. c ++ ys) (append_assoc d (f ++ g) h ∙ ap (λ ys. d ++ ys) (append_assoc f g h))))
    ∙ sym (append_assoc a b (c ++ (d ++ (f ++ (g ++ h)))))

module _ (making : MakingLaw) (sequence : SequenceLaw) (t : ProgramTree) (s : ℕ) (l : LoopOf t s) (found : List (List ℕ)) (x : IsSplit t s l found) (data_bytes : List ℕ) (holds : IsTrueOn t data_bytes) (ends : Ends (run_of t data_bytes).ending)
    (scope : Scope) (front behind : List Act) (v : Store) (executed : IsExecuted (setting_of t) t (store_at_start (lines data_bytes)) s (statements_count (alone (Do l.head l.body))) scope front (run (setting_of t) (Do l.head l.body) s scope v).acts behind v)
    (goes : finish_of (run (setting_of t) (Do l.head l.body) s scope v).ending ≡ goes_on) where
  abbrev p : Setting
  p = setting_of t

  abbrev q : Setting
  q = renumbered (counted_by (split_numbers t s l.body found)) (setting_of t)

  abbrev old_acts : List Act
  old_acts = (run (setting_of t) (Do l.head l.body) s scope v).acts

  abbrev made : List Act
  made = runs.split_acts t s l found x scope v goes s found

  abbrev e : Entered
  e = runs.e t s l found x scope v goes

  abbrev seen : List Seen
  seen = runs.seen t s l found x scope v goes

  abbrev entered_at : ℕ → Entered
  entered_at = runs.entered_at t s l found x scope v goes

  abbrev old_unit : ℕ → ℕ → List Act
  old_unit = runs.old_unit t s l found x scope v goes

  abbrev new_unit : ℕ → ℕ → List Act
  new_unit = runs.new_unit t s l found x scope v goes

  abbrev many_units : ℕ
  many_units = length (units l.body)

  abbrev variables : List (List ℕ)
  variables = loop_variables (Do l.head l.body)

  -- the variables of the DO and of those in it, and at the place of the DO its PRIVATE names, count for nothing
  abbrev idle : Cell → Bool
  idle c = is_cell_among variables c || list_any (λ y. same_cell (cell_of scope y) c) l.head.private

  abbrev new_knots : ℕ → List (List ℕ) → List Knot
  new_knots at [] = []
  new_knots at (ks ∷ bs) = loop_knots (entered_at at) scope (place_of q at scope) seen ks ++ new_knots (end_of l.body (at + 1) ks) bs

  abbrev its_weave : Weave
  its_weave = record {
    names = split_names t s l found x scope v goes;
    idle = idle;
    old = loop_knots e scope (place_of p s scope) seen (range_with_len 0 many_units);
    new = new_knots s found;
    acts = old_unit;
    others = new_unit;
  }

  -- the lists are woven so
  whole_old : old_acts ≡ old_list its_weave
  whole_old = (runs.old t s l found x scope v goes).acts ∙ sym (loop_list e scope (place_of p s scope) old_unit (runs.old t s l found x scope v goes).trip seen (range_with_len 0 many_units) x.serial (runs.old_parted t s l found x scope v goes))

  lists_are : (at : ℕ) (bs : List (List ℕ)) → runs.split_acts t s l found x scope v goes at bs ≡ knotted new_unit (new_knots at bs)
  lists_are at [] = refl
  lists_are at (ks ∷ bs) =
      (λ i. sym (loop_list (entered_at at) scope (place_of q at scope) new_unit (λ n. flat_map (new_unit n) ks) seen ks x.serial (λ n from to. refl)) i ++ lists_are (end_of l.body (at + 1) ks) bs i)
      ∙ sym (knotted_append new_unit (loop_knots (entered_at at) scope (place_of q at scope) seen ks) (new_knots (end_of l.body (at + 1) ks) bs))

  whole_new : made ≡ new_list its_weave
  whole_new = lists_are s found

  -- and so are their blocks
  abbrev Ordered : List Block → List Block → Type 0
  Ordered bs cs = EachOnce bs × IsReordered bs cs × KeepsOrder (block_conflict idle) bs cs

  blocks_are : (at : ℕ) (bs : List (List ℕ)) → blocks_in old_unit (new_knots at bs) ≡ new_blocks e.count many_units old_unit bs
  blocks_are at [] = refl
  blocks_are at (ks ∷ bs) =
      blocks_append old_unit (loop_knots (entered_at at) scope (place_of q at scope) seen ks) (new_knots (end_of l.body (at + 1) ks) bs)
      ∙ (λ i. loop_blocks (entered_at at) scope (place_of q at scope) many_units old_unit seen ks i ++ blocks_are (end_of l.body (at + 1) ks) bs i)

  ordered : Ordered (blocks_in old_unit its_weave.old) (blocks_in old_unit its_weave.new)
  ordered =
      subst (λ (bs : List Block). Ordered bs (blocks_in old_unit its_weave.new)) (sym (loop_blocks e scope (place_of p s scope) many_units old_unit seen (range_with_len 0 many_units)))
      (subst (Ordered (old_blocks e.count many_units old_unit)) (sym (blocks_are s found))
      (units_ordered e.count many_units old_unit found (found_apart t s l.head l.body found x.are) (found_rising t s l.head l.body found x.are) (rising_range 0 many_units) (each_placed t s l.head l.body found x.are) (runs.units_below t s l found x scope v goes) idle
      (λ i k j h b c from to low high inside within order here there back. pieces_apart making sequence t s l found x data_bytes holds idle k h b c (old_unit i k) (old_unit j h) inside within (two_pieces i k j h from to low high inside within order) (stores_idle i k from to inside) (stores_idle j h low high within) here there back)))
    where
      two_pieces : (i k j h : ℕ) → 1 ≤ i → i ≤ e.count → 1 ≤ j → j ≤ e.count → k < many_units → h < many_units → (i < j) ⊎ ((i ≡ j) × (k < h)) → AreTwoPieces making sequence t s l found x data_bytes holds k h (old_unit i k) (old_unit j h)
      two_pieces i k j h from to low high inside within order =
          let parts = parts_of_run t s l found x scope v goes i k j h from to low high inside within order in
          record {
            front = front ++ parts.before;
            between = parts.between;
            behind = parts.behind ++ behind;
            is = executed.whole ∙ ap (λ (acts : List Act). front ++ (acts ++ behind)) parts.is ∙ around front parts.before (old_unit i k) parts.between (old_unit j h) parts.behind behind;
            outer = turns_of scope;
            first = (frame e i).turn;
            second = (frame e j).turn;
            first_unit = of_unit t s l found x scope v goes i k from to inside;
            second_unit = of_unit t s l found x scope v goes j h low high within;
            first_is = refl;
            second_is = refl;
            order = elim order [ inl less ↦ inl less | inr same ↦ inr (ap (λ (n : ℕ). (frame e n).turn) same.0, same.1) ];
          }

      stores_idle : (i k : ℕ) → 1 ≤ i → i ≤ e.count → k < many_units → AllStoreWithin idle (old_unit i k)
      stores_idle i k from to inside a m touch j own = ap (λ (b : Bool). b || list_any (λ y. same_cell (cell_of scope y) touch.cell) l.head.private) (unit_stores t s l found x scope v goes i k from to inside a m touch j own)

  abbrev before : Cell → Bool
  before = agreed (stands_apart variables) (shown_at_end t) (old_list its_weave ++ behind)

  abbrev wanted : Cell → Bool
  wanted = agreed (stands_apart variables) (shown_at_end t) behind

  abbrev almost : Cell → Bool
  almost c = agreed (stands_apart variables) (shown_at_end t) behind c && not (idle c)

  no_inner : e.inner ≡ []
  no_inner = ap (λ (b : Bool). inner_variables b l.body) x.serial

  variable_idle : idle (cell_of scope l.head.variable) ≡ true
  variable_idle = ap (λ (b : Bool). b || list_any (λ y. same_cell (cell_of scope y) (cell_of scope l.head.variable)) l.head.private)
      (cell_among variables scope l.head.variable ∙ ap (λ (b : Bool). b || is_among l.head.variable (all_loop_variables l.body)) (text_itself l.head.variable))

  private_idle : (y : List ℕ) → IsIn y l.head.private → idle (cell_of scope y) ≡ true
  private_idle y i =
      ap (λ (b : Bool). is_cell_among variables (cell_of scope y) || b) (any_there (λ z. same_cell (cell_of scope z) (cell_of scope y)) l.head.private y i (is_cell (cell_of scope y) (cell_of scope y) refl))
      ∙ or_right (is_cell_among variables (cell_of scope y)) true refl

  new_controls : (at : ℕ) (bs : List (List ℕ)) (c : List Act) → IsIn (control c) (new_knots at bs) → WriteWithin idle (touches_of c)
  new_controls at [] c i = absurd i
  new_controls at (ks ∷ bs) c i = elim (in_parts (control c) (loop_knots (entered_at at) scope (place_of q at scope) seen ks) (new_knots (end_of l.body (at + 1) ks) bs) i) [
    | inl j ↦ controls_within idle (entered_at at) scope x.serial no_inner variable_idle private_idle (place_of q at scope) seen ks c j
    | inr j ↦ new_controls (end_of l.body (at + 1) ks) bs c j
  ]

  known : (i k : ℕ) → IsIn (block i k) its_weave.old → (1 ≤ i) × (i ≤ e.count) × (k < many_units)
  known i k h = let r = block_known e scope (place_of p s scope) seen (range_with_len 0 many_units) i k h in let low = in_numbers many_units 0 k r.2 in let high = low.1 in (r.0, r.1, omega (arith, high))

  -- no unit reads a variable of the DO or of one in it, or a PRIVATE name at the place of the DO
  unit_unread : (i k : ℕ) → 1 ≤ i → i ≤ e.count → k < many_units → ReadNone idle (old_unit i k)
  unit_unread i k from to inside = reads_none t s l found x scope v goes i k from to inside

  unread : (i k : ℕ) → IsIn (block i k) its_weave.old → ReadNone idle (old_unit i k)
  unread i k h = let r = known i k h in unit_unread i k r.0 r.1 r.2

  -- what units touch of cells that count: what names stand for at the place of the DO, and copies in it
  reached : (c : Cell) → touch (counted its_weave) c ≡ true → IsReached t s l found x scope v goes c
  reached c m =
      let r = touched_in (counted its_weave) c m in
      let a = without_from idle (acts_in_blocks (blocks_in old_unit its_weave.old)) r.0 r.1 in
      let b = of_block (blocks_in old_unit its_weave.old) a.0 a.1 in
      let k = block_is old_unit its_weave.old b.0 b.1 in
      let n = known b.0.outer b.0.inner k.1 in
      let there : IsIn a.0 (old_unit b.0.outer b.0.inner) = subst (λ (z : Block). IsIn a.0 z.acts) k.0 b.2 in
      let y : IsIn r.2 a.0.touches = touches_in idle a.0.touches r.2 (subst (λ (z : Act). IsIn r.2 z.touches) a.2 r.3) in
      subst (IsReached t s l found x scope v goes) r.4 (unit_reached t s l found x scope v goes b.0.outer b.0.inner n.0 n.1 n.2 a.0 there r.2 y)

  -- copies inside the DO: nobody else has to do with them
  abbrev size : ℕ
  size = statements_count (alone (Do l.head l.body))

  some : 0 < size
  some = omega arith

  its : (c : Cell) → IsCopyInside p scope s size c → IsTheirs front behind v c
  its c copy = theirs p scope s size c copy t (lines data_bytes) front old_acts behind v executed

  unwanted_copy : (c : Cell) → IsCopyInside p scope s size c → wants (shown_at_end t) behind c ≡ true → ⊥
  unwanted_copy c copy m = both_ways (wants (shown_at_end t) behind c) ((its c copy).unwanted (shown_at_end t) (ap (shown_at_end t) copy.is)) m

  fine : has_fault (finish_of (run_all p (alone (Do l.head l.body)) s scope v).ending) ≡ false
  fine = ap (λ (r : Run). has_fault (finish_of r.ending)) (run_alone p (Do l.head l.body) s scope v) ∙ ap has_fault goes

  unneeded_copy : (c : Cell) → IsCopyInside p scope s size c → needs (old_list its_weave) c ≡ true → ⊥
  unneeded_copy c copy m =
      both_ways (needs old_acts c)
      (ap (λ (r : Run). needs r.acts c) (sym (run_alone p (Do l.head l.body) s scope v)) ∙ theirs_unneeded p scope s size c copy (alone (Do l.head l.body)) s scope v (its c copy).undefined fine)
      (ap (λ (acts : List Act). needs acts c) whole_old ∙ m)

  keeps_name : (c : Cell) → (IsCopyInside p scope s size c → ⊥) → split_names t s l found x scope v goes c ≡ c
  keeps_name c other = elim (names_or_moves t s l found x scope v goes c) [ inl e ↦ e | inr k ↦ absurd (other (cells.inside p scope s size c some k)) ]

  -- a unit does the same in the new DO on cells by their new names
  unit_renamed : (i k : ℕ) → 1 ≤ i → i ≤ e.count → k < many_units → Renamed (split_names t s l found x scope v goes) (without idle (old_unit i k)) (without idle (new_unit i k))
  unit_renamed i k from to inside = likewise_renamed making t s l found x data_bytes scope front behind v executed goes i k from to inside

  controls : (c : List Act) → IsIn (control c) its_weave.old → WriteWithin idle (touches_of c)
  controls c i = controls_within idle e scope x.serial no_inner variable_idle private_idle (place_of p s scope) seen (range_with_len 0 many_units) c i

  -- what the new entries read is steady
  new_reads : (at : ℕ) (bs : List (List ℕ)) (c : List Act) (y : Touch) → IsIn (control c) (new_knots at bs) → IsIn y (touches_of c) → y.manner ≡ reads → IsIn (cell_seen y.cell y.content) seen
  new_reads at [] c y i j m = absurd i
  new_reads at (ks ∷ bs) c y i j m = elim (in_parts (control c) (loop_knots (entered_at at) scope (place_of q at scope) seen ks) (new_knots (end_of l.body (at + 1) ks) bs) i) [
    | inl k ↦ loop_reads (entered_at at) scope x.serial no_inner (place_of q at scope) seen ks c k y j m
    | inr k ↦ new_reads (end_of l.body (at + 1) ks) bs c y k j m
  ]

  no_scalar : (y n : List ℕ) (path : List Iteration) → Scalar y ≡ Private n path → ⊥
  no_scalar y n path same = absurd cc

  own_source : (f c : Cell) → IsOfFixed p.constants t s c → split_names t s l found x scope v goes f ≡ c → f ≡ c
  own_source f c fixed named = elim (names_or_moved t s l found x scope v goes f) [
    | inl same ↦ sym same ∙ named
    | inr k ↦ absurd (no_scalar fixed.0 k.name (iterations_of (turns_of scope) ++ record { statement = k.of; number = k.number } ∷ k.rest) (sym fixed.1 ∙ sym named ∙ k.is))
  ]

  steady : (c : List Act) (y : Touch) → IsIn (control c) its_weave.new → IsIn y (touches_of c) → y.manner ≡ reads → IsSteady its_weave before v y
  steady c y i j m =
      let k = new_reads s found c y i j m in
      let fixed = seen_fixed t s l found x data_bytes scope front behind v executed goes y.cell y.content k in
      let counts = fixed_counts t s l found x data_bytes scope front behind v executed goes y.cell fixed in
      record {
        held = seen_held t s l found x data_bytes scope front behind v executed goes y.cell y.content k;
        agreed = ap (λ (b : Bool). not b || wants (shown_at_end t) (old_list its_weave ++ behind) y.cell) counts.1;
        counts = counts.0;
        unwritten = λ f w named. both_ways (written (old_list its_weave) f)
            (ap (λ (acts : List Act). written acts f) (sym whole_old) ∙ fixed_unwritten t s l found x data_bytes scope front behind v executed goes f (subst (IsOfFixed p.constants t s) (sym (own_source f y.cell fixed named)) fixed))
            (counted_writes its_weave f w);
      }

  -- nobody wants behind the DO a copy in the new ones
  behind_in_run : (a : Act) → IsIn a behind → IsIn a (run_of t data_bytes).acts
  behind_in_run a i = subst (IsIn a) (sym executed.whole) (in_right a front (old_acts ++ behind) (in_right a old_acts behind i))

  unwanted_new : (c : Cell) (name : List ℕ) (i : Iteration) (rest : List Iteration) → c ≡ Private name (iterations_of (turns_of scope) ++ i ∷ rest) → (i.statement ≡ s) ⊎ (statements_count t.body + 1 ≤ i.statement) → wants (shown_at_end t) behind c ≡ true → ⊥
  unwanted_new c name i rest is (inl same) m =
      unwanted_copy c (record { name = name; statement = s; from = omega arith; to = omega (arith, some); number = i.number; rest = rest; is = is ∙ (λ k. Private name (iterations_of (turns_of scope) ++ record { statement = same k; number = i.number } ∷ rest)) }) m
  unwanted_new c name i rest is (inr fresh) m = fresh_unwanted t data_bytes behind behind_in_run (shown_at_end t) c name (iterations_of (turns_of scope)) i rest is fresh (ap (shown_at_end t) is) m

  -- a copy on which the stores agree behind the DO is wanted there
  unagreed : (c : Cell) (name : List ℕ) (path : List Iteration) (i : Iteration) (rest : List Iteration) → c ≡ Private name (path ++ i ∷ rest) → agreed (stands_apart variables) (shown_at_end t) behind c ≡ true → (wants (shown_at_end t) behind c ≡ true → ⊥) → ⊥
  unagreed c name path i rest is asked none = none (agreed_wanted (stands_apart variables) (shown_at_end t) behind c (ap (stands_apart variables) is) asked)

  woven : IsWoven its_weave before almost v
  woven = record {
    controls = controls;
    new_controls = new_controls s found;
    steady = steady;
    unread = unread;
    renamed = λ i k h. (let r = known i k h in unit_renamed i k r.0 r.1 r.2);
    one_to_one = λ c d m n e. split_apart t s l found x scope v goes c d (reached c m) (reached d n) e;
    idle_names = λ c m. idle_alike t s l found x scope v goes variables l.head.private c (split_names t s l found x scope v goes c) (names_or_moved t s l found x scope v goes c) ∙ (counted_touched its_weave c unread m).0;
    once = ordered.0;
    reordered = ordered.1;
    kept = ordered.2;
    suit = record {
      needed = λ c k. needed_agreed (stands_apart variables) (shown_at_end t) (old_list its_weave) behind c k;
      wanted = λ c k. (let parts = and_parts (agreed (stands_apart variables) (shown_at_end t) behind c) (not (idle c)) k in (not_so (idle c) parts.1, agreed_before_or_written (stands_apart variables) (shown_at_end t) (old_list its_weave) behind c parts.0));
    };
    own = λ c m. keeps_name c (λ copy. unneeded_copy c copy (counted_needed its_weave c controls unread m));
    own_behind = λ c m.
        let asked = (and_parts (agreed (stands_apart variables) (shown_at_end t) behind c) (not (idle c)) m).0 in
        let stays = keeps_name c (λ copy. unagreed c copy.name (iterations_of (turns_of scope)) (record { statement = copy.statement; number = copy.number }) copy.rest copy.is asked (λ more. unwanted_copy c copy more)) in (
          stays,
          (λ f q r. elim (names_or_moves t s l found x scope v goes f) [
            | inl same ↦ sym same ∙ r ∙ stays
            | inr k ↦ (
                let is = sym stays ∙ sym r ∙ ap (split_names t s l found x scope v goes) k.is ∙ names_are t s l found x scope v goes k.name k.number k.rest in
                let i : Iteration = record { statement = number_in t s l found x scope v goes k.name k.rest; number = k.number } in
                absurd (unagreed c k.name (iterations_of (turns_of scope)) i k.rest is asked (λ more. unwanted_new c k.name i k.rest is (new_number t s l found x scope v goes k.name k.rest) more))
                )
          ]),
        );
  }

  fits : Fits (old_list its_weave) v
  fits = subst (λ (acts : List Act). Fits acts v) whole_old ((run_told p (Do l.head l.body) s scope).fits v)

  weak : StandsFor (record { agreed = before; old = old_list its_weave; new = new_list its_weave }) almost v
  weak = woven_stands its_weave before almost v fits woven

  -- nobody wants behind the DO what a variable of it stands for, or a copy inside it
  exit : IsExit p t (store_at_start (lines data_bytes)) s scope behind
  exit = execution_left p t (store_at_start (lines data_bytes)) s l scope v ends executed.place (as_done executed) goes

  dead : (y : List ℕ) → is_among y variables ≡ true → wants (shown_at_end t) behind (cell_of scope y) ≡ false
  dead y i = unwanted_behind p (λ m n same. same) t y (variables_unnamed t x.valid s l y i) (fitting_stops t x.valid.fits) (store_at_start (lines data_bytes)) s scope behind exit ((x.contained y (record { loop = l; among = i })).1) (shown_at_end t) (shown_scalar t y scope)

  unreached : (c : Cell) → is_cell_among variables c ≡ true → wants (shown_at_end t) behind c ≡ true → IsOwn p scope c ⊎ IsCopyInside p scope s (statements_count (alone (Do l.head l.body))) c → ⊥
  unreached c i m (inl (inl own)) =
      let named : is_among own.0 variables ≡ true = sym (cell_among variables scope own.0) ∙ ap (is_cell_among variables) (sym own.1) ∙ i in
      both_ways (wants (shown_at_end t) behind c) (ap (wants (shown_at_end t) behind) own.1 ∙ dead own.0 named) m
  unreached c i m (inl (inr none)) = both_ways (is_of_scalar c) none (among_of_scalar variables c i)
  unreached c i m (inr copy) = unwanted_copy c copy m

  old_unwritten : (c : Cell) → is_cell_among variables c ≡ true → wants (shown_at_end t) behind c ≡ true → written (old_list its_weave) c ≡ false
  old_unwritten c i m = ap (λ (acts : List Act). written acts c) (sym whole_old) ∙ false_from_ne_true (written old_acts c) (λ k.
      let r = write_in old_acts c k in
      unreached c i m (subst (λ (y : Cell). IsOwn p scope y ⊎ IsCopyInside p scope s (statements_count (alone (Do l.head l.body))) y) r.4
      (subst (λ (n : ℕ). IsOwn p scope r.2.cell ⊎ IsCopyInside p scope s n r.2.cell) (let many : statement_count (Do l.head l.body) ≡ statements_count (alone (Do l.head l.body)) = omega arith in many) (run_reaches p (Do l.head l.body) s scope v r.0 r.1 r.2 r.3))))

  new_unwritten : (c : Cell) → is_cell_among variables c ≡ true → wants (shown_at_end t) behind c ≡ true → written (new_list its_weave) c ≡ false
  new_unwritten c i m = false_from_ne_true (written (new_list its_weave) c) (λ k.
      let r = write_in (new_list its_weave) c k in
      elim (in_knots new_unit its_weave.new r.0 r.1) [
        | inl b ↦ of_block_there b.0 b.1 b.2 r.0 b.3 r.2 r.3 r.4 r.5
        | inr b ↦ unreached c i m (inl (subst (IsOwn p scope) r.4 (new_own s found b.0 b.1 r.0 b.2 r.2 r.3)))
      ])
    where
      new_own : (at : ℕ) (bs : List (List ℕ)) (a : List Act) → IsIn (control a) (new_knots at bs) → (b : Act) → IsIn b a → (y : Touch) → IsIn y b.touches → IsOwn p scope y.cell
      new_own at [] a h b j y k = absurd h
      new_own at (ks ∷ bs) a h b j y k = elim (in_parts (control a) (loop_knots (entered_at at) scope (place_of q at scope) seen ks) (new_knots (end_of l.body (at + 1) ks) bs) h) [
        | inl there ↦ control_own p scope l.head v (entered_at at) x.serial (place_of q at scope) ks a there b j y k
        | inr there ↦ new_own (end_of l.body (at + 1) ks) bs a there b j y k
      ]

      of_block_there : (n k : ℕ) → IsIn (block n k) its_weave.new → (a : Act) → IsIn a (new_unit n k) → (y : Touch) → IsIn y a.touches → y.cell ≡ c → is_write y.manner ≡ true → ⊥
      of_block_there n k h a j y z is writes =
          let old = (block_is old_unit its_weave.old (block_at old_unit n k) (ordered.1.same.none_added (block_at old_unit n k) (in_blocks old_unit its_weave.new n k h))).1 in
          let within = known n k old in
          let w = likewise_source (runs.unit_names t s l found x scope v goes k) own_number (turns_of (frame e n ∷ scope)) (turns_of (frame (entered_at (runs.loop_at t s l found x scope v goes k)) n ∷ scope)) (old_unit n k) (new_unit n k) (runs.new_units_are t s l found x scope v goes n k within.0 within.1 within.2).likewise a j y z (write_has y.manner writes) in
          by w.2.cell (unit_reached t s l found x scope v goes n k within.0 within.1 within.2 w.0 w.1 w.2 w.3) (sym is ∙ w.4) within.2
        where
          by : (d : Cell) → IsReached t s l found x scope v goes d → c ≡ runs.unit_names t s l found x scope v goes k d → k < many_units → ⊥
          by d (inl own) named less = unreached c i m (inl (subst (IsOwn p scope) (sym (named ∙ own_unmoved t s l found x scope v goes (number_of t s l found x scope v goes k) d own)) own))
          by d (inr copy) named less =
              let j : Iteration = record { statement = number_of t s l found x scope v goes k; number = copy.number } in
              unwanted_new c copy.name j copy.rest (named ∙ ap (runs.unit_names t s l found x scope v goes k) copy.is ∙ moved_are t s l found x scope v goes (number_of t s l found x scope v goes k) copy.name copy.number copy.rest)
              (unit_number t s l found x scope v goes k less) m

  -- at the place of the DO its PRIVATE names are undefined behind both lists
  private_same : (w : Store) (c : Cell) → list_any (λ y. same_cell (cell_of scope y) c) l.head.private ≡ true → store_after (old_list its_weave) v c ≡ store_after (new_list its_weave) w c
  private_same w c i = ap (λ (acts : List Act). store_after acts v c) (sym whole_old) ∙ private_undefined t s l found x scope v goes c i w ∙ ap (λ (acts : List Act). store_after acts w c) whole_new

  stands : StandsFor (record { agreed = before; old = old_list its_weave; new = new_list its_weave }) wanted v
  stands w agree = let a = weak w agree in (a.0, (λ c m. go a.1 c m (is_cell_among variables c) (list_any (λ y. same_cell (cell_of scope y) c) l.head.private) refl refl))
    where
      go : AgreeIn almost (store_after (old_list its_weave) v) (store_after (new_list its_weave) w) → (c : Cell) → wanted c ≡ true → (a b : Bool) → is_cell_among variables c ≡ a → list_any (λ y. same_cell (cell_of scope y) c) l.head.private ≡ b
          → store_after (old_list its_weave) v c ≡ store_after (new_list its_weave) w c
      go most c m a true i j = private_same w c j
      go most c m false false i j = most c (λ k. m k && not (i k || j k))
      go most c m true false i j =
          let asked : wants (shown_at_end t) behind c ≡ true = agreed_wanted (stands_apart variables) (shown_at_end t) behind c (idle_apart variables c i) m in
          let first = old_unwritten c i asked in
          let second = new_unwritten c i asked in
          let there : before c ≡ true = elim (agreed_before_or_written (stands_apart variables) (shown_at_end t) (old_list its_weave) behind c m) [ inl k ↦ k | inr k ↦ absurd (both_ways (written (old_list its_weave) c) first k) ] in
          after_other (old_list its_weave) v c first ∙ agree c there ∙ sym (after_other (new_list its_weave) w c second)

  pub stands_made : StandsFor (record { agreed = agreed (stands_apart (loop_variables (Do l.head l.body))) (shown_at_end t) (old_acts ++ behind); old = old_acts; new = made }) (agreed (stands_apart (loop_variables (Do l.head l.body))) (shown_at_end t) behind) v
  stands_made =
      subst (λ (acts : List Act). StandsFor (record { agreed = agreed (stands_apart variables) (shown_at_end t) (acts ++ behind); old = acts; new = made }) wanted v) (sym whole_old)
      (subst (λ (acts : List Act). StandsFor (record { agreed = before; old = old_list its_weave; new = acts }) wanted v) (sym whole_new) stands)
