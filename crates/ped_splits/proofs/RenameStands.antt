-- In each execution the DO with the variable of another may stand for the old one.
use Rattle.std.proofs.Common.{◌≡◌, ℕ, suc, ◌+◌, ◌-◌, List, [], ◌∷◌, ◌++◌, Bool, true, false, ◌&&◌, ◌||◌, ◌==◌, not, IsTrue, inl, inr, refl, sym, ap, subst, ◌∙◌, arith, if◌then◌else◌}
use Rattle.std.specs.List.{flat_map, range_with_len}
use Rattle.std.specs.Str.Lines.{lines}
use Rattle.std.proofs.lemmas.Bool.{and_parts, both_ways}
use Rattle.ped_base.proofs.NameEquality.{same_is, same_itself}
use Rattle.ped_base.specs.Lists.{is_among, is_same_text}
use Rattle.ped_tree.specs.Accesses.{constant_names}
use Rattle.ped_tree.specs.NamesIn.{all_loop_variables, loop_variables}
use Rattle.ped_tree.specs.Numbering.{statements_count}
use Rattle.ped_tree.specs.Tree.{Do, Head, ProgramTree, StmtTree, StmtTrees, Var}
use Rattle.ped_rules.specs.ped_affine.specs.Assigned.{assigned_in, assigned_in_all}
use Rattle.ped_rules.specs.ped_bodies.proofs.BodyLaws.TripLists.{close_in_order}
use Rattle.ped_rules.specs.ped_bodies.specs.Moving.{is_cell_among}
use Rattle.ped_rules.specs.ped_bodies.specs.Trips.{IsMadeOfTrips, bounds_seen, entered_from, loop_close, loop_entry, trip_end, trips}
use Rattle.ped_rules.specs.ped_loop_runs.proofs.LoopLaws.OneForOneCells.{exit_unread, needed_counts}
use Rattle.ped_rules.specs.ped_loop_runs.proofs.LoopLaws.OneForOneNames.{variables_unnamed}
use Rattle.ped_rules.specs.ped_loop_runs.proofs.LoopLaws.OneForOneStands.{both, false_unless, in_range, not_so}
use Rattle.ped_rules.specs.ped_loop_runs.proofs.LoopLaws.UnwantedNames.{unwritten_there}
use Rattle.ped_rules.specs.ped_loop_runs.proofs.PastingLaws.TheirCopies.{theirs}
use Rattle.ped_rules.specs.ped_loop_runs.specs.Copies.{IsTheirs}
use Rattle.ped_rules.specs.ped_loop_runs.specs.Executions.{IsCopyInside, IsExecuted, as_done}
use Rattle.ped_rules.specs.ped_steps.proofs.RunLaws.AccessTouches.{write_in}
use Rattle.ped_rules.specs.ped_steps.proofs.RunLaws.LeftLoops.{execution_left}
use Rattle.ped_rules.specs.ped_steps.proofs.RunLaws.ScalarNames.{shown_scalar}
use Rattle.ped_rules.specs.ped_steps.specs.Replacing.{alone}
use Rattle.ped_symbolic.specs.Substitution.{statements_substituted}
use Rattle.ped_rules.specs.ped_weaves.proofs.WeaveLaws.AgreedApart.{both_stand}
use Rattle.ped_rules.specs.ped_weaves.proofs.WeaveLaws.PutFor.{kept_stands, put_stands}
use Rattle.ped_rules.specs.ped_weaves.specs.Puttings.{IsPutFor, Suit}
use Rattle.ped_rules.specs.ped_laws.proofs.ActLaws.Exchanging.{needed_wanted, wanted_before}
use Rattle.ped_rules.specs.ped_laws.proofs.ActLaws.Outside.{dropped_first, none_append}
use Rattle.ped_rules.specs.ped_laws.proofs.ActLaws.Renamings.{after_other, or_left}
use Rattle.ped_rules.specs.ped_laws.proofs.FlowRunLaws.DeadExits.{unwanted_behind}
use Rattle.ped_rules.specs.ped_laws.proofs.FlowRunLaws.Stopping.{fitting_stops}
use Rattle.ped_rules.specs.ped_laws.proofs.FlowRunLaws.Writing.{unassigned}
use Rattle.ped_rules.specs.ped_laws.proofs.RunLaws.StatementsTold.{run_told}
use Rattle.ped_rules.specs.ped_laws.specs.Acts.Changes.{AreSameOutside}
use Rattle.ped_rules.specs.ped_laws.specs.Acts.Conflicts.{LeaveUnread, ReadNone, WriteWithin, touches_without}
use Rattle.ped_rules.specs.ped_laws.specs.Acts.Fitting.{Fits, of_cells, store_after}
use Rattle.ped_rules.specs.ped_laws.specs.Acts.Orders.{IsIn}
use Rattle.ped_rules.specs.ped_laws.specs.Acts.Pieces.{StandsFor}
use Rattle.ped_rules.specs.ped_laws.specs.Acts.Renaming.{AreRenamed, own_name}
use Rattle.ped_rules.specs.ped_laws.specs.Acts.Sets.{AgreeIn, nothing, wants, written}
use Rattle.ped_rules.specs.ped_laws.specs.FlowRuns.Covering.{is_cell_of, some_stops_in_loop}
use Rattle.ped_rules.specs.ped_laws.specs.FlowRuns.Exits.{IsExit, IsOneToOne}
use Rattle.ped_rules.specs.ped_laws.specs.Runs.Replaying.{Replays, act, ending_with, finish_of, goes_on}
use Rattle.ped_rules.specs.ped_laws.specs.Runs.Showing.{shown_at_end}
use Rattle.ped_rules.specs.ped_eval.specs.Evaluation.{Seen, cell_seen, index_seen, numbered}
use Rattle.ped_rules.specs.ped_eval.specs.Loops.{Entered, exit_touches, exit_when_none, inner_variables, left_in_variable, undefined_all, undefined_by}
use Rattle.ped_rules.specs.ped_eval.specs.Outcomes.{Ends, run_of, setting_of}
use Rattle.ped_rules.specs.ped_eval.specs.Runs.{Run, run}
use Rattle.ped_rules.specs.ped_eval.specs.Scopes.{Scope, Setting, cell_of, place_of}
use Rattle.ped_rules.specs.ped_eval.specs.Statements.{write_touch}
use Rattle.ped_rules.specs.ped_store.specs.Acts.{Act, Place, Touch, ended_turn}
use Rattle.ped_rules.specs.ped_store.specs.Cells.{Cell}
use Rattle.ped_rules.specs.ped_store.specs.Cells as cells
use Rattle.ped_rules.specs.ped_store.specs.Stores.{Store, store_at_start}
use Rattle.ped_rules.specs.ped_flow.specs.Questions.{LoopOf}
use Rattle.ped_rules.proofs.NameLaws.ValuesBut.{AreBeside}
use Rattle.ped_rules.proofs.NameLaws.UnnamedCells.{all_assigned_named}
use Rattle.ped_splits.proofs.RenameActs.{AreTurned, IsTurnedAct, turned_stripped, turned_writes}
use Rattle.ped_splits.proofs.RenameFacts.{IsRenaming}
use Rattle.ped_splits.proofs.RenameGaps.{next_loop, own_loop}
use Rattle.ped_splits.proofs.RenamePaths.{live_before}
use Rattle.ped_splits.proofs.RenameShown.{MayBeShown, wanted_more}
use Rattle.ped_splits.proofs.RenameTrips.{text_turned}
use Rattle.ped_splits.proofs.RenameTrips as trips_of
use Rattle.ped_splits.specs.Neighbours.{Neighbour, next_number}

rows_unread : (idle : Cell → Bool) (f : ℕ → List Act) (ks : List ℕ) → ((k : ℕ) → IsIn k ks → ReadNone idle (f k)) → ReadNone idle (flat_map f ks)
rows_unread idle f [] h = tt
rows_unread idle f (k ∷ ks) h = none_append idle (f k) (flat_map f ks) (h k (inl refl)) (rows_unread idle f ks (λ j i. h j (inr i)))

-- a cell among names that isn't of the first one is among the rest
rest_among : (y : List ℕ) (names : List (List ℕ)) (c : Cell) → is_cell_of y c ≡ false → is_cell_among (y ∷ names) c ≡ true → is_cell_among names c ≡ true
rest_among y names (cells.Scalar w) q i = by (is_same_text w y) refl i
  where
    by : (b : Bool) → is_same_text w y ≡ b → b || is_among w names ≡ true → is_among w names ≡ true
    by true e m = absurd (both_ways (is_same_text y w) q (text_turned w y e))
    by false e m = m
rest_among y names (cells.Private w path) q i = by (is_same_text w y) refl i
  where
    by : (b : Bool) → is_same_text w y ≡ b → b || is_among w names ≡ true → is_among w names ≡ true
    by true e m = absurd (both_ways (is_same_text y w) q (text_turned w y e))
    by false e m = m
rest_among y names (cells.Element w js) q i = absurd cc
rest_among y names cells.In q i = absurd cc
rest_among y names cells.Out q i = absurd cc

module _ (t : ProgramTree) (s : ℕ) (x : Neighbour t s) (r : IsRenaming t s x) (shown : Cell → Bool) (may : MayBeShown t shown) (data_bytes : List ℕ) (ends : Ends (run_of t data_bytes).ending) where
  abbrev p : Setting
  p = setting_of t

  abbrev k : ℕ
  k = next_number x

  abbrev I : List ℕ
  I = x.own.variable

  abbrev J : List ℕ
  J = x.next.variable

  abbrev d : Head
  d = x.next

  abbrev h : Head
  h = record x.next { variable = x.own.variable }

  abbrev body : StmtTrees
  body = x.next_body

  abbrev new_body : StmtTrees
  new_body = statements_substituted x.next.variable (Var x.own.variable) x.next_body

  abbrev old_loop : StmtTree
  old_loop = Do x.next x.next_body

  abbrev new_loop : StmtTree
  new_loop = Do (record x.next { variable = x.own.variable }) (statements_substituted x.next.variable (Var x.own.variable) x.next_body)

  abbrev variables : List (List ℕ)
  variables = x.own.variable ∷ loop_variables (Do x.next x.next_body)

  abbrev idle : Cell → Bool
  idle = is_cell_among (x.own.variable ∷ loop_variables (Do x.next x.next_body))

  abbrev start : Store
  start = store_at_start (lines data_bytes)

  abbrev count : ℕ
  count = statements_count (alone (Do x.next x.next_body))

  abbrev loop : LoopOf t (next_number x)
  loop = next_loop x

  one : IsOneToOne p.number
  one m n e = e

  unstopping : some_stops_in_loop t.body ≡ false
  unstopping = fitting_stops t r.valid.fits

  I_among : is_among I (loop_variables (Do x.own x.own_body)) ≡ true
  I_among = or_left (is_same_text I I) (is_among I (all_loop_variables x.own_body)) (same_itself I)

  I_constant : is_among I (constant_names t.decls) ≡ false
  I_constant = variables_unnamed t r.valid s (own_loop x) I I_among

  -- the second DO doesn't assign the variable of the first
  I_unassigned : is_among I (assigned_in old_loop) ≡ false
  I_unassigned =
      let rest = all_assigned_named I body r.absent in
      (λ i. r.differ i || is_among I (r.private i ++ assigned_in_all body)) ∙ rest

  module _ (scope other : Scope) (near : AreBeside x.next.variable scope other) (front behind : List Act) (v : Store) (executed : IsExecuted p t start k count scope front (run p old_loop k scope v).acts behind v) (goes : finish_of (run p old_loop k scope v).ending ≡ goes_on) where
    abbrev made : IsMadeOfTrips p d body k scope v
    made = trips_of.old t s x r scope other near v goes

    abbrev fresh : ℕ → List Act
    fresh = (trips_of.made t s x r scope other near v goes).fresh

    abbrev e : Entered
    e = entered_from p d body k scope v made.bounds

    abbrev z : Entered
    z = entered_from p h new_body k other v made.bounds

    abbrev at : Place
    at = place_of p k scope

    abbrev new_at : Place
    new_at = place_of p k other

    abbrev old_seen : List Seen
    old_seen = bounds_seen p d scope v

    abbrev new_seen : List Seen
    new_seen = bounds_seen p h other v

    abbrev old_entry : Act
    old_entry = loop_entry old_seen e scope at

    abbrev new_entry : Act
    new_entry = loop_entry new_seen z other new_at

    abbrev rest : List Act
    rest = trips e scope at made.trip 1 e.count ++ loop_close e scope at

    abbrev new_rest : List Act
    new_rest = trips z other new_at fresh 1 z.count ++ loop_close z other new_at

    abbrev old_acts : List Act
    old_acts = old_entry ∷ rest

    abbrev new_acts : List Act
    new_acts = new_entry ∷ new_rest

    old_idle : idle (cell_of scope J) ≡ true
    old_idle = trips_of.old_idle t s x r scope

    new_idle : idle (cell_of other I) ≡ true
    new_idle = trips_of.new_idle t s x r other

    rests : AreTurned (cell_of scope J) (cell_of other I) rest new_rest
    rests = trips_of.rests_turned t s x r scope other near v goes

    entries_turned : IsTurnedAct (cell_of scope J) (cell_of other I) old_entry new_entry
    entries_turned = trips_of.entry_turned t s x r scope other near v goes

    pub all_turned : AreTurned (cell_of scope x.next.variable) (cell_of other x.own.variable) old_acts new_acts
    all_turned = (entries_turned, rests)

    pub whole_old : (run p old_loop k scope v).acts ≡ old_acts
    whole_old = made.acts

    replayed : Replays (run p new_loop k other) new_acts goes_on
    replayed = (trips_of.made t s x r scope other near v goes).replays

    -- what follows the entry reads no cell of the variables
    none_unread : (n : ℕ) → LeaveUnread idle (exit_when_none n e scope)
    none_unread n = go (n == 0)
      where
        go : (b : Bool) → LeaveUnread idle (if b then exit_touches e scope else [])
        go true = exit_unread idle scope e
        go false = tt

    end_unread : (j : ℕ) → ReadNone idle (trip_end e scope at j)
    end_unread j = go d.parallel
      where
        go : (b : Bool) → ReadNone idle (if b then [] else act (ended_turn (e.count - j)) at (exit_when_none (e.count - j) e scope) ∷ [])
        go true = tt
        go false = (none_unread (e.count - j), tt)

    close_unread : ReadNone idle (loop_close e scope at)
    close_unread = subst (ReadNone idle) (sym (close_in_order e scope at r.serial)) tt

    rest_unread : ReadNone idle rest
    rest_unread =
        none_append idle (trips e scope at made.trip 1 e.count) (loop_close e scope at)
        (rows_unread idle (λ j. made.trip j ++ trip_end e scope at j) (range_with_len 1 e.count)
        (λ j i. let within = in_range e.count 1 j i in let high = within.1 in none_append idle (made.trip j) (trip_end e scope at j) (trips_of.trip_unread t s x r scope other near v goes j within.0 (omega (arith, high))) (end_unread j)))
        close_unread

    -- copies inside the DO: nobody else has to do with them
    its : (c : Cell) → IsCopyInside p scope k count c → IsTheirs front behind v c
    its c copy = theirs p scope k count c copy t (lines data_bytes) front (run p old_loop k scope v).acts behind v executed

    hidden : (c : Cell) → IsCopyInside p scope k count c → shown_at_end t c ≡ false
    hidden c copy = ap (shown_at_end t) copy.is

    unwanted_copy : (c : Cell) → IsCopyInside p scope k count c → wants (shown_at_end t) behind c ≡ true → ⊥
    unwanted_copy c copy m = both_ways (wants (shown_at_end t) behind c) ((its c copy).unwanted (shown_at_end t) (hidden c copy)) m

    -- nobody wants the variable of the first DO behind the second
    exit : IsExit p t start k scope behind
    exit = execution_left p t start k loop scope v ends executed.place (as_done executed) goes

    first_dead : wants shown behind (cell_of scope I) ≡ false
    first_dead =
        unwanted_behind p one t I I_constant unstopping start k scope behind exit
        (λ live. (r.own_contained I (record { loop = own_loop x; among = is_so (is_among I (loop_variables (Do x.own x.own_body))) I_among })).1 (live_before t s x r.serial r.private I r.differ live)) shown (λ h. shown_scalar t I scope (may.at_end (cell_of scope I) h))
      where
        is_so : (b : Bool) → b ≡ true → IsTrue b
        is_so b q = q

    same_first : cell_of other I ≡ cell_of scope I
    same_first = near.cell I (turned_text I r.differ)
      where
        turned_text : (y : List ℕ) → is_same_text y J ≡ false → is_same_text J y ≡ false
        turned_text y apart = false_unless (is_same_text J y) (λ q. both_ways (is_same_text y J) apart (ap (λ (w : List ℕ). is_same_text w J) (sym (same_is J y q)) ∙ same_itself J))

    -- where the stores agree: at first, behind the entry, and behind the rest but for the variables
    abbrev before : Cell → Bool
    before c = wants shown (old_acts ++ behind) c

    abbrev middle : Cell → Bool
    middle c = wants shown (rest ++ behind) c && not (idle c)

    abbrev almost : Cell → Bool
    almost c = wants shown behind c && not (idle c)

    fits : Fits old_acts v
    fits = subst (λ (acts : List Act). Fits acts v) whole_old ((run_told p old_loop k scope).fits v)

    entry_suits : Suit idle before middle (old_entry ∷ [])
    entry_suits = record {
      needed = λ c n. needed_wanted shown (old_entry ∷ []) (rest ++ behind) c n;
      wanted = λ c n.
          let parts = and_parts (wants shown (rest ++ behind) c) (not (idle c)) n in
          (not_so (idle c) parts.1, wanted_before shown (old_entry ∷ []) (rest ++ behind) c parts.0);
    }

    none_left : (y : Entered) (S : Scope) → y.head.private ≡ [] → y.inner ≡ [] → idle (cell_of S y.head.variable) ≡ true → touches_without idle (exit_touches y S) ≡ []
    none_left y S private inner named =
        dropped_first idle (write_touch (cell_of S y.head.variable) (left_in_variable y) 0) (undefined_by S y.behind_bounds y.head.private ++ undefined_all S y.inner) named
        ∙ (λ i. touches_without idle (undefined_by S y.behind_bounds (private i) ++ undefined_all S (inner i)))

    entries : IsPutFor idle old_entry new_entry
    entries = record {
      reading = numbered 1 old_seen;
      rest = exit_when_none e.count e scope;
      new_reading = numbered 1 new_seen;
      new_rest = exit_when_none z.count z other;
      in_old = refl;
      in_new = refl;
      writes_nothing = no_writes 1 old_seen;
      new_writes_nothing = no_writes 1 new_seen;
      among = λ y i m. (y, subst (λ (seen : List Seen). IsIn y (numbered 1 seen)) (trips_of.same_seen t s x r scope other near v goes) i, m, refl, refl);
      same = go (e.count == 0);
    }
      where
        no_writes : (n : ℕ) (seen : List Seen) → WriteWithin nothing (numbered n seen)
        no_writes n [] = tt
        no_writes n (cell_seen c content ∷ more) = (tt, no_writes (suc n) more)
        no_writes n (index_seen c m ∷ more) = (tt, no_writes n more)

        go : (b : Bool) → AreSameOutside idle (if b then exit_touches e scope else []) (if b then exit_touches z other else [])
        go true = (
          exit_unread idle scope e,
          subst (λ (ts : List Touch). AreRenamed own_name (of_cells ts) (of_cells (touches_without idle (exit_touches z other)))) (sym (none_left e scope r.private (ap (λ (b : Bool). inner_variables b body) r.serial) old_idle))
              (subst (λ (us : List Touch). AreRenamed own_name (of_cells []) (of_cells us)) (sym (none_left z other r.private (ap (λ (b : Bool). inner_variables b new_body) r.serial) new_idle)) tt),
        )
        go false = (tt, tt)

    entry_stands : StandsFor (record { agreed = before; old = old_entry ∷ []; new = new_entry ∷ [] }) middle v
    entry_stands = put_stands idle before middle old_entry new_entry v (fits.0, tt) entry_suits entries

    rest_suits : Suit idle middle almost rest
    rest_suits = record {
      needed = λ c n. both (needed_wanted shown rest behind c n) (needed_counts idle rest c rest_unread n);
      wanted = λ c n.
          let parts = and_parts (wants shown behind c) (not (idle c)) n in
          let out = not_so (idle c) parts.1 in
          (out, elim (wanted_before shown rest behind c parts.0) [ inl m ↦ inl (both m out) | inr m ↦ inr m ]);
    }

    weak : StandsFor (record { agreed = before; old = old_acts; new = new_acts }) almost v
    weak =
        both_stand before middle almost (old_entry ∷ []) (new_entry ∷ []) rest new_rest v entry_stands
        (kept_stands idle middle almost rest new_rest (store_after (old_entry ∷ []) v) fits.1 rest_suits rest_unread (turned_stripped (cell_of scope J) (cell_of other I) idle old_idle new_idle rest new_rest rests))

    -- so the new DO does these acts
    new_run : run p new_loop k other v ≡ record { acts = new_acts; ending = ending_with goes_on (store_after new_acts v) }
    new_run = replayed v (weak v (λ c n. refl)).0

    pub new_whole : (run p new_loop k other v).acts ≡ new_acts
    new_whole = ap (λ (y : Run). y.acts) new_run

    -- what is wanted behind and has a variable's name nobody writes here
    old_unwritten : (c : Cell) → idle c ≡ true → wants shown behind c ≡ true → written old_acts c ≡ false
    old_unwritten c i m = ap (λ (acts : List Act). written acts c) (sym whole_old) ∙ by (is_cell_of I c) refl
      where
        by : (b : Bool) → is_cell_of I c ≡ b → written (run p old_loop k scope v).acts c ≡ false
        by true q = unassigned p I old_loop k scope v c I_unassigned q
        by false q = unwritten_there t r.valid k loop r.contained data_bytes ends scope front behind v executed goes unwanted_copy old_loop refl v c (rest_among I (loop_variables old_loop) c q i)
            (wanted_more shown (shown_at_end t) behind c (may.at_end c) m)

    new_unwritten : (c : Cell) → idle c ≡ true → wants shown behind c ≡ true → written new_acts c ≡ false
    new_unwritten c i m = false_unless (written new_acts c) (λ n.
        let w = write_in new_acts c n in
        elim (turned_writes (cell_of scope J) (cell_of other I) old_acts new_acts all_turned w.0 w.1 w.2 w.3 w.5) [
          | inl o ↦ both_ways (written old_acts c) (old_unwritten c i m) (subst (λ (y : Cell). written old_acts y ≡ true) w.4 o)
          | inr o ↦ both_ways (wants shown behind c) (ap (wants shown behind) (sym w.4 ∙ o ∙ same_first) ∙ first_dead) m
        ])

    stands : StandsFor (record { agreed = before; old = old_acts; new = new_acts }) (wants shown behind) v
    stands u agree = let a = weak u agree in (a.0, (λ c m. go a.1 c m (idle c) refl))
      where
        go : AgreeIn almost (store_after old_acts v) (store_after new_acts u) → (c : Cell) → wants shown behind c ≡ true → (b : Bool) → idle c ≡ b → store_after old_acts v c ≡ store_after new_acts u c
        go most c m false i = most c (both m i)
        go most c m true i =
            let first = old_unwritten c i m in
            let second = new_unwritten c i m in
            let wanted : before c ≡ true = elim (wanted_before shown old_acts behind c m) [ inl n ↦ n | inr n ↦ absurd (both_ways (written old_acts c) first n) ] in
            after_other old_acts v c first ∙ agree c wanted ∙ sym (after_other new_acts u c second)

    -- what is shown of each execution
    pub stands_renamed : StandsFor (record { agreed = wants shown ((run p old_loop k scope v).acts ++ behind); old = (run p old_loop k scope v).acts; new = (run p new_loop k other v).acts }) (wants shown behind) v
    stands_renamed =
        subst (λ (acts : List Act). StandsFor (record { agreed = wants shown (acts ++ behind); old = acts; new = (run p new_loop k other v).acts }) (wants shown behind) v) (sym whole_old)
        (subst (λ (acts : List Act). StandsFor (record { agreed = before; old = old_acts; new = acts }) (wants shown behind) v) (sym new_whole) stands)

    pub does_renamed : Replays (run p new_loop k other) (run p new_loop k other v).acts goes_on
    does_renamed = subst (λ (acts : List Act). Replays (run p new_loop k other) acts goes_on) (sym new_whole) replayed

    pub turned_renamed : AreTurned (cell_of scope x.next.variable) (cell_of other x.own.variable) (run p old_loop k scope v).acts (run p new_loop k other v).acts
    turned_renamed = subst (λ (acts : List Act). AreTurned (cell_of scope J) (cell_of other I) acts (run p new_loop k other v).acts) (sym whole_old) (subst (AreTurned (cell_of scope J) (cell_of other I) old_acts) (sym new_whole) all_turned)
