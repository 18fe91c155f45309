-- In each execution a DO whose inner DO has given way may stand for the old one.
use Rattle.std.proofs.Common.{◌≡◌, ℕ, zero, suc, ◌+◌, ◌-◌, ◌<◌, ◌≤◌, List, [], ◌∷◌, ◌++◌, Bool, true, false, ◌==◌, ◌&&◌, not, Some, Ok, refl, sym, ap, ◌∙◌, subst, inl, inr, arith, append-nil, if◌then◌else◌}
use Rattle.std.specs.Str.Lines.{lines}
use Rattle.std.specs.List.{flat_map, range_with_len}
use Rattle.std.proofs.lemmas.Bool.{and_parts, both_ways}
use Rattle.ped_base.specs.Lists.{is_same_text, is_among}
use Rattle.ped_tree.specs.NamesIn.{loop_variables, all_loop_variables}
use Rattle.ped_tree.specs.Numbering.{statement_count, statements_count}
use Rattle.ped_tree.specs.Tree.{Head, StmtTree, StmtTrees, Do, ProgramTree}
use Rattle.ped_rules.specs.ped_store.specs.Cells.{Cell}
use Rattle.ped_rules.specs.ped_store.specs.Stores.{Store, store_at_start}
use Rattle.ped_rules.specs.ped_store.specs.Acts.{Manner, reads, writes, is_told, Touch, Place, Act, ended_turn, closed}
use Rattle.ped_rules.specs.ped_laws.specs.Acts.Fitting.{Fits, store_after}
use Rattle.ped_rules.specs.ped_laws.specs.Acts.Sets.{nothing, AgreeIn, written, wants}
use Rattle.ped_rules.specs.ped_laws.specs.Acts.Conflicts.{IsNoReadOf, LeaveUnread, ReadNone}
use Rattle.ped_rules.specs.ped_laws.specs.Acts.Orders.{IsIn}
use Rattle.ped_rules.specs.ped_laws.specs.Acts.Pieces.{StandsFor}
use Rattle.ped_rules.specs.ped_laws.proofs.ActLaws.Renamings.{or_left, or_right, after_other}
use Rattle.ped_rules.specs.ped_laws.proofs.ActLaws.Outside.{none_append}
use Rattle.ped_rules.specs.ped_laws.proofs.ActLaws.SameCells.{text_itself}
use Rattle.ped_rules.specs.ped_laws.proofs.ActLaws.Exchanging.{needed_wanted, wanted_before}
use Rattle.ped_rules.specs.ped_laws.specs.Runs.Showing.{shown_at_end}
use Rattle.ped_rules.specs.ped_laws.specs.Runs.Replaying.{goes_on, finish_of, ending_with, act, Replays}
use Rattle.ped_rules.specs.ped_laws.proofs.RunLaws.StatementsTold.{run_told}
use Rattle.ped_rules.specs.ped_laws.specs.FlowRuns.Covering.{is_cell_of}
use Rattle.ped_rules.specs.ped_laws.proofs.FlowRunLaws.TripReads.{contained_unread}
use Rattle.ped_rules.specs.ped_eval.specs.Scopes.{Setting, Frame, Scope, cell_of, names_in, place_of}
use Rattle.ped_rules.specs.ped_eval.specs.Loops.{Entered, Limits, limits, frame, exit_touches, exit_when_none}
use Rattle.ped_rules.specs.ped_eval.specs.Runs.{Run, run}
use Rattle.ped_rules.specs.ped_eval.specs.Outcomes.{setting_of, run_of, Ends}
use Rattle.ped_rules.specs.ped_symbols.specs.Kinds.{kind_in}
use Rattle.ped_rules.specs.ped_symbols.specs.NameRefusals.{IsValid}
use Rattle.ped_rules.specs.ped_flow.specs.Questions.{LoopOf, IsContained}
use Rattle.ped_rules.specs.ped_steps.specs.Replacing.{alone, program_with}
use Rattle.ped_rules.specs.ped_weaves.specs.Puttings.{Suit}
use Rattle.ped_rules.specs.ped_weaves.proofs.WeaveLaws.PutFor.{kept_stands}
use Rattle.ped_rules.specs.ped_weaves.proofs.WeaveLaws.AgreedApart.{both_stand}
use Rattle.ped_rules.specs.ped_bodies.specs.Moving.{is_cell_among}
use Rattle.ped_rules.specs.ped_bodies.specs.Trips.{IsMadeOfTrips, bounds_seen, loop_close, loop_entry, trip_end, trips}
use Rattle.ped_rules.specs.ped_loop_runs.specs.Executions.{IsCopyInside, IsExecuted}
use Rattle.ped_rules.specs.ped_loop_runs.specs.Copies.{IsTheirs}
use Rattle.ped_rules.specs.ped_loop_runs.proofs.PastingLaws.TheirCopies.{theirs}
use Rattle.ped_rules.specs.ped_loop_runs.proofs.LoopLaws.OneForOneNames.{variables_unnamed}
use Rattle.ped_rules.specs.ped_loop_runs.proofs.LoopLaws.OneForOneCells.{cell_among, all_unread, needed_counts, exit_unread}
use Rattle.ped_rules.specs.OnlyLoops.{only_loop}
use Rattle.ped_rules.proofs.NestLaws.OnlyBodies.{pair, only_counted, only_tells}
use Rattle.ped_reindex.proofs.SkewedActs.{AreKept, act_itself, acts_themselves, kept_stripped}
use Rattle.ped_reindex.proofs.SkewedLoops.{HasLaterTrips, outer, outer_entered, store_at, old_rest, new_rest, rests_kept, new_replays}
use Rattle.ped_rules.specs.ped_loop_runs.proofs.LoopLaws.OneForOneStands.{not_so, both}
use Rattle.ped_rules.specs.ped_loop_runs.proofs.LoopLaws.UnwantedNames.{unwritten_there}

-- nothing is read where no cell counts
manner_unread : (m : Manner) (c : Cell) → IsNoReadOf nothing m c
manner_unread reads c = refl
manner_unread writes c = tt
manner_unread is_told c = tt

touches_unread : (ts : List Touch) → LeaveUnread nothing ts
touches_unread [] = tt
touches_unread (t ∷ ts) = (manner_unread t.manner t.cell, touches_unread ts)

acts_unread : (acts : List Act) → ReadNone nothing acts
acts_unread [] = tt
acts_unread (a ∷ acts) = (touches_unread a.touches, acts_unread acts)

in_range : (m a k : ℕ) → IsIn k (range_with_len a m) → (a ≤ k) × (k < a + m)
in_range zero a k i = absurd i
in_range (suc m) a k (inl e) = (omega (arith, e), omega (arith, e))
in_range (suc m) a k (inr i) = let r = in_range m (a + 1) k i in (omega (arith, r.0), omega (arith, r.1))

rows_unread : (idle : Cell → Bool) (f : ℕ → List Act) (ks : List ℕ) → ((k : ℕ) → IsIn k ks → ReadNone idle (f k)) → ReadNone idle (flat_map f ks)
rows_unread idle f [] h = tt
rows_unread idle f (k ∷ ks) h = none_append idle (f k) (flat_map f ks) (h k (inl refl)) (rows_unread idle f ks (λ j i. h j (inr i)))

-- a program in which the one DO in another has given way to one with the same variable, the same lists and the same DO loops in it; in each iteration of the outer one that is executed it has as many iterations, which do likewise
pub record IsInnerChange (t u : ProgramTree) (l : ℕ) (loop : LoopOf t l) (g h : Head) (inside others other_body : StmtTrees) : Type 0 where
  pub valid : IsValid t
  pub new_valid : IsValid u
  pub new : u ≡ program_with (λ z. alone (Do loop.head other_body)) l t
  pub kinds : (y : List ℕ) → kind_in u y ≡ kind_in t y
  pub only : only_loop loop.body ≡ Some (pair g inside)
  pub new_only : only_loop other_body ≡ Some (pair h others)
  pub variable : h.variable ≡ g.variable
  pub private : h.private ≡ g.private
  pub parallel : h.parallel ≡ g.parallel
  pub loops : all_loop_variables others ≡ all_loop_variables inside
  pub counted : statements_count others ≡ statements_count inside
  pub contained : IsContained t l
  pub later : (data_bytes : List ℕ) (scope : Scope) (front behind : List Act) (s : Store) → IsExecuted (setting_of t) t (store_at_start (lines data_bytes)) l (statements_count (alone (Do loop.head loop.body))) scope front (run (setting_of t) (Do loop.head loop.body) l scope s).acts behind s
      → (goes : finish_of (run (setting_of t) (Do loop.head loop.body) l scope s).ending ≡ goes_on) (k : ℕ) → 1 ≤ k → k ≤ (outer_entered (setting_of t) loop.head loop.body l scope s goes).count → (old : Limits)
      → (limits (names_in (setting_of t) (frame (outer_entered (setting_of t) loop.head loop.body l scope s goes) k ∷ scope)) g (store_at (setting_of t) loop.head loop.body l scope s goes k)).result ≡ Ok old
      → HasLaterTrips (setting_of t) g h inside others (l + 1) (frame (outer_entered (setting_of t) loop.head loop.body l scope s goes) k ∷ scope) (store_at (setting_of t) loop.head loop.body l scope s goes k) old

module _ (t u : ProgramTree) (l : ℕ) (loop : LoopOf t l) (g h : Head) (inside others other_body : StmtTrees) (x : IsInnerChange t u l loop g h inside others other_body) (data_bytes : List ℕ) (ends : Ends (run_of t data_bytes).ending) where
  abbrev p : Setting
  p = setting_of t

  abbrev d : Head
  d = loop.head

  abbrev body : StmtTrees
  body = loop.body

  abbrev old_loop : StmtTree
  old_loop = Do loop.head loop.body

  abbrev new_loop : StmtTree
  new_loop = Do loop.head other_body

  abbrev variables : List (List ℕ)
  variables = loop_variables (Do loop.head loop.body)

  abbrev idle : Cell → Bool
  idle = is_cell_among (loop_variables (Do loop.head loop.body))

  abbrev start : Store
  start = store_at_start (lines data_bytes)

  abbrev shown : Cell → Bool
  shown = shown_at_end t

  abbrev count : ℕ
  count = statements_count (alone (Do loop.head loop.body))

  -- the inner variable is one of the DO's
  inner_among : is_among g.variable variables ≡ true
  inner_among =
      or_right (is_same_text g.variable d.variable) (is_among g.variable (all_loop_variables body))
      (ap (is_among g.variable) (only_tells g inside loop_variables all_loop_variables (λ (xs ys : List (List ℕ)). xs ++ ys) [] (λ xs. refl) (λ xs. append-nil xs) refl (λ z rest. refl) (λ text. refl) body x.only)
      ∙ or_left (is_same_text g.variable g.variable) (is_among g.variable (all_loop_variables inside)) (text_itself g.variable))

  as_many : statement_count new_loop ≡ statement_count old_loop
  as_many = let one = only_counted g inside body x.only in let two = only_counted h others other_body x.new_only in let same = x.counted in omega (arith, one, two, same)

  module _ (scope : Scope) (front behind : List Act) (s : Store) (executed : IsExecuted p t start l count scope front (run p old_loop l scope s).acts behind s) (goes : finish_of (run p old_loop l scope s).ending ≡ goes_on) where
    abbrev made : IsMadeOfTrips p d body l scope s
    made = outer p d body l scope s goes

    abbrev e : Entered
    e = outer_entered p d body l scope s goes

    abbrev at : Place
    at = place_of p l scope

    stored : (f : Frame) → idle (cell_of (f ∷ scope) g.variable) ≡ true
    stored f = cell_among variables (f ∷ scope) g.variable ∙ inner_among

    abbrev Later : Type 0
    Later = (k : ℕ) → 1 ≤ k → k ≤ e.count → (old : Limits) → (limits (names_in p (frame e k ∷ scope)) g (store_at p d body l scope s goes k)).result ≡ Ok old → HasLaterTrips p g h inside others (l + 1) (frame e k ∷ scope) (store_at p d body l scope s goes k) old

    later : Later
    later = x.later data_bytes scope front behind s executed goes

    abbrev entry : Act
    entry = loop_entry (bounds_seen p d scope s) e scope at

    abbrev rest : List Act
    rest = old_rest p g h inside others x.variable x.private x.parallel x.loops idle d body other_body x.only x.new_only l scope s goes stored later

    abbrev new_rests : List Act
    new_rests = new_rest p g h inside others x.variable x.private x.parallel x.loops idle d body other_body x.only x.new_only l scope s goes stored later

    abbrev old_acts : List Act
    old_acts = entry ∷ rest

    abbrev new_acts : List Act
    new_acts = entry ∷ new_rests

    kept : AreKept idle rest new_rests
    kept = rests_kept p g h inside others x.variable x.private x.parallel x.loops idle d body other_body x.only x.new_only l scope s goes stored later

    whole_old : (run p old_loop l scope s).acts ≡ old_acts
    whole_old = made.acts

    replayed : Replays (run p new_loop l scope) new_acts goes_on
    replayed = new_replays p g h inside others x.variable x.private x.parallel x.loops idle d body other_body x.only x.new_only l scope s goes stored later

    -- what follows the entry reads no variable of the DO loops
    trip_unread : (k : ℕ) → 1 ≤ k → k ≤ e.count → ReadNone idle (made.trip k)
    trip_unread k from hi =
        let it = made.are k from hi in
        all_unread variables (made.trip k) (λ v i. subst (ReadNone (is_cell_of v)) (sym it.is) (contained_unread p t l loop v (variables_unnamed t x.valid l loop v i) x.contained i scope (frame e k) (store_at p d body l scope s goes k) refl))

    none_unread : (m : ℕ) → LeaveUnread idle (exit_when_none m e scope)
    none_unread m = go (m == 0)
      where
        go : (b : Bool) → LeaveUnread idle (if b then exit_touches e scope else [])
        go true = exit_unread idle scope e
        go false = tt

    end_unread : (k : ℕ) → ReadNone idle (trip_end e scope at k)
    end_unread k = go e.head.parallel
      where
        go : (b : Bool) → ReadNone idle (if b then [] else act (ended_turn (e.count - k)) at (exit_when_none (e.count - k) e scope) ∷ [])
        go true = tt
        go false = (none_unread (e.count - k), tt)

    close_unread : ReadNone idle (loop_close e scope at)
    close_unread = go (e.head.parallel && not (e.count == 0))
      where
        go : (b : Bool) → ReadNone idle (if b then act closed at (exit_touches e scope) ∷ [] else [])
        go true = (exit_unread idle scope e, tt)
        go false = tt

    rest_unread : ReadNone idle rest
    rest_unread =
        none_append idle (trips e scope at made.trip 1 e.count) (loop_close e scope at)
        (rows_unread idle (λ k. made.trip k ++ trip_end e scope at k) (range_with_len 1 e.count)
        (λ k i. let within = in_range e.count 1 k i in let high = within.1 in none_append idle (made.trip k) (trip_end e scope at k) (trip_unread k within.0 (omega (arith, high))) (end_unread k)))
        close_unread

    -- copies inside the DO: nobody else has to do with them
    its : (c : Cell) → IsCopyInside p scope l count c → IsTheirs front behind s c
    its c copy = theirs p scope l count c copy t (lines data_bytes) front (run p old_loop l scope s).acts behind s executed

    hidden : (c : Cell) → IsCopyInside p scope l count c → shown c ≡ false
    hidden c copy = ap shown copy.is

    unwanted_copy : (c : Cell) → IsCopyInside p scope l count c → wants shown behind c ≡ true → ⊥
    unwanted_copy c copy m = both_ways (wants shown behind c) ((its c copy).unwanted shown (hidden c copy)) m

    -- where the stores agree: at first, behind the entry, and behind the rest but for the variables
    abbrev before : Cell → Bool
    before c = wants shown (old_acts ++ behind) c

    abbrev middle : Cell → Bool
    middle c = wants shown (rest ++ behind) c && not (idle c)

    abbrev almost : Cell → Bool
    almost c = wants shown behind c && not (idle c)

    fits : Fits old_acts s
    fits = subst (λ (acts : List Act). Fits acts s) whole_old ((run_told p old_loop l scope).fits s)

    entry_suits : Suit nothing before middle (entry ∷ [])
    entry_suits = record {
      needed = λ c k. needed_wanted shown (entry ∷ []) (rest ++ behind) c k;
      wanted = λ c k.
          let parts = and_parts (wants shown (rest ++ behind) c) (not (idle c)) k in
          (refl, wanted_before shown (entry ∷ []) (rest ++ behind) c parts.0);
    }

    entry_stands : StandsFor (record { agreed = before; old = entry ∷ []; new = entry ∷ [] }) middle s
    entry_stands = kept_stands nothing before middle (entry ∷ []) (entry ∷ []) s (fits.0, tt) entry_suits (acts_unread (entry ∷ [])) (kept_stripped nothing (entry ∷ []) (entry ∷ []) (acts_themselves nothing (entry ∷ [])))

    rest_suits : Suit idle middle almost rest
    rest_suits = record {
      needed = λ c k. both (needed_wanted shown rest behind c k) (needed_counts idle rest c rest_unread k);
      wanted = λ c k.
          let parts = and_parts (wants shown behind c) (not (idle c)) k in
          let out = not_so (idle c) parts.1 in
          (out, elim (wanted_before shown rest behind c parts.0) [ inl m ↦ inl (both m out) | inr m ↦ inr m ]);
    }

    weak : StandsFor (record { agreed = before; old = old_acts; new = new_acts }) almost s
    weak =
        both_stand before middle almost (entry ∷ []) (entry ∷ []) rest new_rests s entry_stands
        (kept_stands idle middle almost rest new_rests (store_after (entry ∷ []) s) fits.1 rest_suits rest_unread (kept_stripped idle rest new_rests kept))

    -- so the new DO does these acts
    new_run : run p new_loop l scope s ≡ record { acts = new_acts; ending = ending_with goes_on (store_after new_acts s) }
    new_run = replayed s (weak s (λ c k. refl)).0

    new_whole : (run p new_loop l scope s).acts ≡ new_acts
    new_whole = ap (λ (r : Run). r.acts) new_run

    -- what is wanted behind and has a variable's name nobody writes here
    unwritten_by : (z : StmtTree) → statement_count z ≡ statement_count old_loop → (v : Store) (c : Cell) → idle c ≡ true → wants shown behind c ≡ true → written (run p z l scope v).acts c ≡ false
    unwritten_by z many v c i m = unwritten_there t x.valid l loop x.contained data_bytes ends scope front behind s executed goes unwanted_copy z many v c i m

    stands : StandsFor (record { agreed = before; old = old_acts; new = new_acts }) (wants shown behind) s
    stands v agree = let a = weak v agree in (a.0, (λ c m. go a.1 c m (idle c) refl))
      where
        go : AgreeIn almost (store_after old_acts s) (store_after new_acts v) → (c : Cell) → wants shown behind c ≡ true → (b : Bool) → idle c ≡ b → store_after old_acts s c ≡ store_after new_acts v c
        go most c m false i = most c (both m i)
        go most c m true i =
            let first : written old_acts c ≡ false = ap (λ (acts : List Act). written acts c) (sym whole_old) ∙ unwritten_by old_loop refl s c i m in
            let second : written new_acts c ≡ false = ap (λ (acts : List Act). written acts c) (sym new_whole) ∙ unwritten_by new_loop as_many s c i m in
            let wanted : before c ≡ true = elim (wanted_before shown old_acts behind c m) [ inl k ↦ k | inr k ↦ absurd (both_ways (written old_acts c) first k) ] in
            after_other old_acts s c first ∙ agree c wanted ∙ sym (after_other new_acts v c second)

    -- what is shown of each execution
    pub stands_instead : StandsFor (record { agreed = wants shown ((run p old_loop l scope s).acts ++ behind); old = (run p old_loop l scope s).acts; new = (run p new_loop l scope s).acts }) (wants shown behind) s
    stands_instead =
        subst (λ (acts : List Act). StandsFor (record { agreed = wants shown (acts ++ behind); old = acts; new = (run p new_loop l scope s).acts }) (wants shown behind) s) (sym whole_old)
        (subst (λ (acts : List Act). StandsFor (record { agreed = before; old = old_acts; new = acts }) (wants shown behind) s) (sym new_whole) stands)

    pub does_instead : Replays (run p new_loop l scope) (run p new_loop l scope s).acts goes_on
    does_instead = subst (λ (acts : List Act). Replays (run p new_loop l scope) acts goes_on) (sym new_whole) replayed

    pub kept_instead : AreKept idle (run p old_loop l scope s).acts (run p new_loop l scope s).acts
    kept_instead = subst (λ (acts : List Act). AreKept idle acts (run p new_loop l scope s).acts) (sym whole_old) (subst (AreKept idle old_acts) (sym new_whole) (act_itself idle entry, kept))
