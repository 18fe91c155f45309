-- A program in which statements have been exchanged for others: its run is made of that of the old one, and each execution knows what it is. Round it, the iterations of PARALLEL DO loops may have other copies.
use Rattle.std.proofs.Common.{◌==◌, ◌⊎◌, ◌≡◌, ℕ, suc, ◌+◌, ◌-◌, ◌≤◌, ◌<◌, List, [], ◌∷◌, ◌++◌, Bool, true, false, Some, inl, inr, if◌then◌else◌, refl, sym, ap, subst, ◌∙◌, arith}
use Rattle.std.proofs.lemmas.List.{append-nil, append_assoc}
use Rattle.ped_bodies.specs.ped_flow.specs.ped_tree.specs.Tree.{CondTree, Head, StmtTree, StmtTrees, If, Do, no_stmts, more_stmts, ProgramTree}
use Rattle.ped_bodies.specs.ped_flow.specs.ped_tree.specs.NamesIn.{cond_names, head_names, stmt_names, stmts_names}
use Rattle.ped_bodies.specs.ped_flow.specs.ped_tree.specs.Numbering.{numbered, all_numbered, statement_with, statement_count, statements_count}
use Rattle.ped_bodies.specs.ped_store.specs.Stores.{Store}
use Rattle.ped_bodies.specs.ped_store.specs.Acts.{Act, Touch, did, entered, ended_turn, closed, store_behind}
use Rattle.ped_bodies.specs.ped_laws.specs.Acts.Fitting.{store_after}
use Rattle.ped_bodies.specs.ped_laws.specs.Acts.Pieces.{Part, changed, old_parts, new_parts}
use Rattle.ped_bodies.specs.ped_eval.specs.Scopes.{Setting, Frame, Scope, turns_of, names_in, place_of}
use Rattle.ped_bodies.specs.ped_eval.specs.Evaluation.{Seen, numbered as numbered_reads, number_behind}
use Rattle.ped_bodies.specs.ped_eval.specs.Values.{truth}
use Rattle.ped_bodies.specs.ped_eval.specs.Loops.{Limits, limits, increment, iteration_count, Entered, entered_with, frame, inner_variables, exit_touches, exit_when_none, entry_touches}
use Rattle.ped_bodies.specs.ped_eval.specs.Runs.{Run, then_run, does, on, run_if, run_entered, run_from_entry, run_do, run, run_all}
use Rattle.ped_bodies.specs.ped_eval.specs.Outcomes.{Ends}
use Rattle.ped_bodies.specs.ped_laws.specs.Runs.Replaying.{Finish, goes_on, finish_of, act, Replays, IsToldByActs}
use Rattle.ped_bodies.specs.ped_laws.proofs.RunLaws.Touches.{Each}
use Rattle.ped_bodies.specs.ped_laws.proofs.RunLaws.Told.{found_reads, found_reads_first}
use Rattle.ped_bodies.specs.ped_laws.proofs.RunLaws.StatementsTold.{run_told, all_told}
use Rattle.ped_bodies.specs.ped_laws.proofs.RunLaws.Numbers.{run_same, all_same}
use Rattle.ped_bodies.specs.ped_flow.specs.PlainBounds.{loops_round, all_loops_round, nest_round, outermost_or}
use Rattle.ped_bodies.specs.ped_laws.specs.FlowRuns.Covering.{some_stop}
use Rattle.ped_bodies.specs.ped_laws.specs.FlowRuns.Exits.{IsOneToOne}
use Rattle.ped_bodies.specs.ped_laws.proofs.FlowRunLaws.Unstopped.{all_unstopped}
use Rattle.ped_bodies.specs.ped_laws.proofs.FlowRunLaws.Standing.{Stand, whole_stands, first_stands, rest_stands, inner_stands, else_stands, is_there}
use Rattle.ped_bodies.specs.ped_steps.specs.Replacing.{followed}
use Rattle.ped_bodies.specs.ped_steps.specs.Runs.Gaps.{Gap, at_front, past, in_then, in_else, in_body, filled, number_at}
use Rattle.ped_bodies.specs.ped_steps.specs.Runs.Pasting.{AgreeInBounds, IsPlaceOf, IsPartOf, is_in_parallel, HaveSameIndices}
use Rattle.ped_bodies.specs.ped_steps.proofs.RunLaws.SameNames.{inner_alike}
use Rattle.ped_bodies.specs.ped_steps.proofs.RunLaws.FilledGaps.{counted, number_from, number_room, count_filled, indices_filled}
use Rattle.ped_bodies.specs.ped_steps.proofs.RunLaws.OwnBounds.{agree_left, agree_right, truth_same, limits_same, with_bounds, run_bounds, all_bounds}
use Rattle.ped_bodies.specs.ped_steps.proofs.RunLaws.LoopsRound.{none_before, all_none_before, all_none_from, one_more}
use Rattle.ped_loop_runs.specs.Executions.{IsExecuted}
use Rattle.ped_loop_runs.specs.Pasting.{CountAlike, IsPasted, DoInstead}
use Rattle.ped_loop_runs.proofs.PastingLaws.JoinedParts.{IsJoined, AreJoined, joined_near, joined_then, joined_on}
use Rattle.ped_loop_runs.proofs.PastingLaws.LeftPlaces.{LeaveAll, left_none, left_own, left_run, left_all}
use Rattle.ped_loop_runs.proofs.PastingLaws.LeftCopies.{IsOwn, condition_own}
use Rattle.std.proofs.lemmas.Bool.{both_ways}
use Rattle.ped_bodies.specs.ped_flow.specs.ped_base.specs.Lists.{is_among}
use Rattle.ped_bodies.specs.ped_flow.specs.ped_tree.specs.NamesIn.{all_loop_variables}
use Rattle.ped_bodies.specs.ped_store.specs.Cells.{Cell}
use Rattle.ped_bodies.specs.ped_store.specs.Acts.{Place, Step}
use Rattle.ped_bodies.specs.ped_laws.specs.Acts.Orders.{IsIn}
use Rattle.ped_bodies.specs.ped_laws.specs.Acts.Sets.{nothing}
use Rattle.ped_bodies.specs.ped_laws.specs.FlowRuns.Exits.{AreIterationsOf, is_exit}
use Rattle.ped_bodies.specs.ped_laws.specs.Runs.Touching.{is_own_store}
use Rattle.ped_bodies.specs.ped_eval.specs.Scopes.{cell_of}
use Rattle.ped_bodies.specs.ped_eval.specs.Evaluation.{cell_seen, index_seen}
use Rattle.ped_bodies.specs.ped_eval.specs.Statements.{write_touch}
use Rattle.ped_bodies.specs.ped_eval.specs.Loops.{undefined_by, undefined_all, left_in_variable}
use Rattle.ped_bodies.specs.ped_laws.proofs.ActLaws.Lists.{in_left, in_right}
use Rattle.ped_loop_runs.specs.OtherCopies.{AreNear, HaveSameIndicesBut, OfParallelRound, HasOtherCopies, IsPastedBut, IsOfThese, IsParallelRound, LeavesParallel, LeaveApart, IsOtherExit, IsExchangedNear, DoNear}
use Rattle.ped_loop_runs.specs.Pasting.{IsExchanged, AreChangedBy}
use Rattle.ped_bodies.specs.ped_laws.proofs.RunLaws.Turning.{once_among}
use Rattle.ped_loop_runs.proofs.PastingLaws.ActNumbers.{IsActIn, run_in, all_in}
use Rattle.ped_loop_runs.proofs.PastingLaws.FilledIndices.{index_filled, copied_same, inner_same_name}
use Rattle.ped_loop_runs.proofs.PastingLaws.NearPlaces.{LeaveTouches, LeaveActs, all_near, run_near, truth_near, limits_near, exit_when_near, named_same, private_near, near_more, near_itself}
use Rattle.ped_loop_runs.proofs.PastingLaws.PastedLoops.{run_followed, IsReached, reached_with, reached_place, parallel_round, reached_body, none_left, none_first, must_go, inside_outer, in_whole, IsHere, here_first, here_only, here_rest, outermost_is, executing, enter, entered_come, whole_first, whole_rest}

-- statements behind others
module _ (t : ProgramTree) where
  followed_stands : (xs rest : StmtTrees) (n : ℕ) → Stand t n (all_numbered (followed xs rest)) → Stand t (n + statements_count xs) (all_numbered rest)
  followed_stands no_stmts rest n w = subst (λ (m : ℕ). Stand t m (all_numbered rest)) (omega arith) w
  followed_stands (more_stmts x xs) rest n w =
      subst (λ (m : ℕ). Stand t m (all_numbered rest)) (omega arith) (followed_stands xs rest (n + statement_count x) (rest_stands t x (followed xs rest) n w))

-- what is done at the two places, and what is known of it
module _ (names : List (List ℕ)) (apart : Cell → Bool) (p q : Setting) (t : ProgramTree) (start : Store) (l : ℕ) (old new : StmtTrees) where
  -- all PARALLEL DO loops round the statements find the same variables in them
  abbrev pub AreSame : Type 0
  AreSame = is_in_parallel t l ≡ true → HaveSameIndices old new

  -- new acts for each execution
  abbrev pub OfExecution : (List Act → List Act → Store → List Act → List Act → Type 0) → Type 0
  OfExecution By =
      (scope other : Scope) (front behind : List Act) (u : Store) → AreNear names apart scope other → (AreSame → other ≡ scope) → IsExecuted p t start l (statements_count old) scope front (run_all p old l scope u).acts behind u → finish_of (run_all p old l scope u).ending ≡ goes_on
      → (fresh : List Act) × By front behind u (run_all p old l scope u).acts fresh × Replays (run_all q new l other) fresh goes_on

  -- exits of PARALLEL DO loops round them
  abbrev pub OfExit : (List Act → List Act → Store → List Act → List Act → Type 0) → Type 0
  OfExit By = (front behind : List Act) (u : Store) (a b : List Act) → IsOtherExit names apart p t start l front behind u a b → (AreSame → b ≡ a) → (b ≡ a) ⊎ By front behind u a b

reads_not_own : (n : ℕ) (seen : List Seen) (x : Touch) → IsIn x (numbered_reads n seen) → is_own_store x ≡ false
reads_not_own n [] x i = absurd i
reads_not_own n (cell_seen c content ∷ more) x i = elim i [ inl e ↦ ap is_own_store e | inr j ↦ reads_not_own (suc n) more x j ]
reads_not_own n (index_seen c v ∷ more) x i = elim i [ inl e ↦ ap is_own_store e | inr j ↦ reads_not_own n more x j ]

same_body : (h k : Head) (b c : StmtTrees) → Some (Do h b) ≡ Some (Do k c) → b ≡ c
same_body h k b c e = cc

same_head : (h k : Head) (b c : StmtTrees) → Some (Do h b) ≡ Some (Do k c) → h ≡ k
same_head h k b c e = cc

abbrev first_touches : List Act → List Touch
first_touches [] = []
first_touches (a ∷ acts) = a.touches

module _ (names : List (List ℕ)) (apart : Cell → Bool) (p q : Setting) (t : ProgramTree) (start : Store) (l : ℕ) (old new : StmtTrees) (By : List Act → List Act → Store → List Act → List Act → Type 0)
    (constants : p.constants ≡ q.constants) (one : IsOneToOne p.number) (alike : CountAlike p q l (statements_count old) (statements_count new) (statements_count t.body)) (some : 0 < statements_count old) (stop : some_stop old ≡ false)
    (indices : is_in_parallel t l ≡ true → HaveSameIndicesBut names old new) (quiet : LeaveApart apart p t l (statements_count old) (run_all p t.body 1 [] start).acts)
    (each : OfExecution names apart p q t start l old new By) (exits : OfExit names apart p q t start l old new By) where
  abbrev Ran : List Act
  Ran = (run_all p t.body 1 [] start).acts

  abbrev AllSame : Type 0
  AllSame = AreSame names apart p q t start l old new

  -- a run of a statement with these numbers at a place, and what comes of it
  abbrev Comes : Scope → (n count : ℕ) → (Store → Run) → (Store → Run) → Type 0
  Comes scope n count = AreJoined By (IsHere p t start l scope n count)

  abbrev IsAmong : List Act → List Act → List Act → Store → Type 0
  IsAmong front acts behind u = Ran ≡ front ++ (acts ++ behind)

  abbrev Goes : (Store → Run) → (Store → Run) → Type 0
  Goes = AreJoined By IsAmong

  -- the gap is in the first of two, or in the rest
  first_comes : (scope : Scope) (n some lo more : ℕ) (f g other others : Store → Run) → lo ≤ n → n + some ≤ lo + more → IsToldByActs f → ((v : Store) → LeaveAll p scope n some (g v).acts) → Comes scope n some f other → Goes g others
      → Comes scope lo more (λ u. then_run (f u) g) (λ u. then_run (other u) others)
  first_comes scope n some lo more f g other others below above told leave h k =
      joined_then By (IsHere p t start l scope lo more) (IsHere p t start l scope n some) IsAmong f g other others told
      (λ front behind u v d. here_first p t start l scope lo more n some front (f u).acts (g v).acts behind u below above (leave v) d)
      (λ front behind u d. here_only p t start l scope lo more n some front (f u).acts behind u below above d)
      (λ front behind u d. whole_rest p t start l front (f u).acts (g (store_after (f u).acts u)).acts behind d.whole) h k

  rest_comes : (scope : Scope) (n some lo more : ℕ) (f g other others : Store → Run) → lo ≤ n → n + some ≤ lo + more → IsToldByActs f → ((v : Store) → LeaveAll p scope n some (f v).acts) → Goes f other → Comes scope n some g others
      → Comes scope lo more (λ u. then_run (f u) g) (λ u. then_run (other u) others)
  rest_comes scope n some lo more f g other others below above told leave h k =
      joined_then By (IsHere p t start l scope lo more) IsAmong (IsHere p t start l scope n some) f g other others told
      (λ front behind u v d. whole_first p t start l front (f u).acts (g v).acts behind d.whole) (λ front behind u d. d.whole)
      (λ front behind u d. here_rest p t start l scope lo more n some front (f u).acts (g (store_after (f u).acts u)).acts behind u below above (leave u) d) h k

  before_same : (n count : ℕ) → n + count ≤ l → (k : ℕ) → k < count → p.number (n + k) ≡ q.number (n + k)
  before_same n count h k j = sym (alike.before (n + k) (omega (arith, h, j)))

  behind_same : (n m count : ℕ) → l + statements_count old ≤ n → m + statements_count old ≡ n + statements_count new → n + count ≤ statements_count t.body + 1 → (k : ℕ) → k < count → p.number (n + k) ≡ q.number (m + k)
  behind_same n m count h e within k j =
      let d = n + k - (l + statements_count old) in
      let first : n + k ≡ l + statements_count old + d = omega (arith, h) in
      let second : l + statements_count new + d ≡ m + k = omega (arith, h, e) in
      ap p.number first ∙ (sym (alike.behind d (omega (arith, h, within, j))) ∙ ap q.number second)

  -- acts of other statements leave cells alone that stand apart
  leaves : (n count : ℕ) (a : Act) → (n + count ≤ l) ⊎ (l + statements_count old ≤ n) → IsActIn p t n count a → IsOfThese p l (statements_count old) a ⊎ LeavesParallel p t l a → ⊥
  leaves n count a ranges x (inl these) =
      let number : x.number ≡ these.0 = one x.number these.0 (sym x.is ∙ these.3) in
      let from = x.from in
      let to = x.to in
      let lo = these.1 in
      let hi = these.2 in
      elim ranges [ inl before ↦ omega (arith, number, before, to, lo) | inr behind ↦ omega (arith, number, behind, from, hi) ]
  leaves n count a ranges x (inr exit) =
      let number : x.number ≡ exit.0 = one x.number exit.0 (sym x.is ∙ exit.2) in
      let d = x.ends exit.3 in
      let body : d.1 ≡ exit.1.loop.body = same_body d.0 exit.1.loop.head d.1 exit.1.loop.body (sym d.2 ∙ (ap (λ (k : ℕ). statement_with k t) number ∙ exit.1.loop.is)) in
      let count_of : statements_count d.1 ≡ statements_count exit.1.loop.body = ap statements_count body in
      let less = d.3 in
      let reach = exit.1.to in
      let later = exit.1.from in
      let from = x.from in
      elim ranges [ inl before ↦ omega (arith, number, count_of, less, reach, before) | inr behind ↦ omega (arith, number, later, from, behind) ]

  leave_around : (n count : ℕ) (acts : List Act) → (n + count ≤ l) ⊎ (l + statements_count old ≤ n) → Each (IsActIn p t n count) acts → ((a : Act) → IsIn a acts → IsIn a Ran) → LeaveActs apart acts
  leave_around n count acts ranges are within a i x j = go (apart x.cell) refl
    where
      either : IsOfThese p l (statements_count old) a ⊎ (LeavesParallel p t l a × (is_own_store x ≡ true)) → IsOfThese p l (statements_count old) a ⊎ LeavesParallel p t l a
      either (inl k) = inl k
      either (inr k) = inr k.0

      go : (b : Bool) → apart x.cell ≡ b → apart x.cell ≡ false
      go true e = absurd (leaves n count a ranges (are a i) (either (quiet a (within a i) x j e)))
      go false e = e

  among_all : (front acts behind : List Act) → Ran ≡ front ++ (acts ++ behind) → (a : Act) → IsIn a acts → IsIn a Ran
  among_all front acts behind e a i = subst (IsIn a) (sym e) (in_right a front (acts ++ behind) (in_left a acts behind i))

  -- an act of a statement before the gap leaves them alone, unless it is a PARALLEL DO that is left; what such a DO reads does, too
  quiet_act : (a : Act) → IsIn a Ran → (n : ℕ) → n < l → a.place.statement ≡ p.number n → (is_exit a.step ≡ true → IsParallelRound t l n → ⊥) → LeaveTouches apart a.touches
  quiet_act a i n before is none x j = go (apart x.cell) refl
    where
      not_so : IsOfThese p l (statements_count old) a ⊎ (LeavesParallel p t l a × (is_own_store x ≡ true)) → ⊥
      not_so (inl k) = let number : n ≡ k.0 = one n k.0 (sym is ∙ k.3) in let lo = k.1 in omega (arith, number, lo, before)
      not_so (inr k) = none k.0.3 (subst (IsParallelRound t l) (sym (one n k.0.0 (sym is ∙ k.0.2))) k.0.1)

      go : (b : Bool) → apart x.cell ≡ b → apart x.cell ≡ false
      go true e = absurd (not_so (quiet a i x j e))
      go false e = e

  quiet_reads : (a : Act) → IsIn a Ran → (n : ℕ) → n < l → a.place.statement ≡ p.number n → (seen : List Seen) → ((x : Touch) → IsIn x (numbered_reads 1 seen) → IsIn x a.touches) → LeaveTouches apart (numbered_reads 1 seen)
  quiet_reads a i n before is seen within x j = go (apart x.cell) refl
    where
      not_so : IsOfThese p l (statements_count old) a ⊎ (LeavesParallel p t l a × (is_own_store x ≡ true)) → ⊥
      not_so (inl k) = let number : n ≡ k.0 = one n k.0 (sym is ∙ k.3) in let lo = k.1 in omega (arith, number, lo, before)
      not_so (inr k) = both_ways (is_own_store x) (reads_not_own 1 seen x j) k.1

      go : (b : Bool) → apart x.cell ≡ b → apart x.cell ≡ false
      go true e = absurd (not_so (quiet a i x (within x j) e))
      go false e = e

  -- what stands in the gap
  in_place : (scope other : Scope) → AreNear names apart scope other → (AllSame → other ≡ scope) → IsPlaceOf p t l scope → Comes scope l (statements_count old) (run_all p old l scope) (run_all q new l other)
  in_place scope other near same place front behind u d e =
      let goes : finish_of (run_all p old l scope u).ending ≡ goes_on = must_go (run_all p old l scope u).ending e (all_unstopped p old l scope u stop) in
      let outer = inside_outer p t start l scope (run_all p old l scope u).acts u d.inside in
      let executed : IsExecuted p t start l (statements_count old) scope front (run_all p old l scope u).acts behind u =
      record { place = place; whole = d.whole; from = d.from; outer = outer.0; entered = outer.1; unused_before = d.before.0; unused_behind = d.after.0; only_before = d.before.1; only_behind = d.after.1 } in
      let made = each scope other front behind u near same executed goes in
      record {
        parts = changed (run_all p old l scope u).acts made.0 ∷ [];
        old_is = append-nil (run_all p old l scope u).acts;
        exchanged = (made.1, tt);
        replays = subst (λ (acts : List Act). Replays (run_all q new l other) acts (finish_of (run_all p old l scope u).ending)) (sym (append-nil made.0))
            (subst (λ (finish : Finish). Replays (run_all q new l other) made.0 finish) (sym goes) made.2);
      }

  -- the old program with the bounds of the new one
  abbrev Between : Setting
  Between = with_bounds p q.bounds

  abbrev Agree : List (List ℕ) → Type 0
  Agree = AgreeInBounds p.bounds q.bounds

  -- statements before the gap and behind it
  module _ (scope other : Scope) (near : AreNear names apart scope other) where
    one_before : (x : StmtTree) (n : ℕ) → Stand t n (numbered x) → Agree (stmt_names x) → n + statement_count x ≤ l → Goes (run p x n scope) (run q x n other)
    one_before x n stand agree h = joined_near By IsAmong (run p x n scope) (run q x n other) (λ front behind u d.
        subst (λ (f : Store → Run). Replays f (run p x n scope u).acts (finish_of (run p x n scope u).ending))
        (run_bounds p q.bounds x n other agree ∙ run_same Between q refl constants x n n other (before_same n (statement_count x) h))
        (run_near names apart scope other near p x n u
        (leave_around n (statement_count x) (run p x n scope u).acts (inl h) (run_in p t x n scope u stand) (among_all front (run p x n scope u).acts behind d))))

    all_before : (ts : StmtTrees) (n : ℕ) → Stand t n (all_numbered ts) → Agree (stmts_names ts) → n + statements_count ts ≤ l → Goes (run_all p ts n scope) (run_all q ts n other)
    all_before ts n stand agree h = joined_near By IsAmong (run_all p ts n scope) (run_all q ts n other) (λ front behind u d.
        subst (λ (f : Store → Run). Replays f (run_all p ts n scope u).acts (finish_of (run_all p ts n scope u).ending))
        (all_bounds p q.bounds ts n other agree ∙ all_same Between q refl constants ts n n other (before_same n (statements_count ts) h))
        (all_near names apart scope other near p ts n u
        (leave_around n (statements_count ts) (run_all p ts n scope u).acts (inl h) (all_in p t ts n scope u stand) (among_all front (run_all p ts n scope u).acts behind d))))

    all_behind : (ts : StmtTrees) (n m : ℕ) → Stand t n (all_numbered ts) → Agree (stmts_names ts) → l + statements_count old ≤ n → m + statements_count old ≡ n + statements_count new → n + statements_count ts ≤ statements_count t.body + 1 → Goes (run_all p ts n scope) (run_all q ts m other)
    all_behind ts n m stand agree h count within = joined_near By IsAmong (run_all p ts n scope) (run_all q ts m other) (λ front behind u d.
        subst (λ (f : Store → Run). Replays f (run_all p ts n scope u).acts (finish_of (run_all p ts n scope u).ending))
        (all_bounds p q.bounds ts n other agree ∙ all_same Between q refl constants ts n m other (behind_same n m (statements_count ts) h count within))
        (all_near names apart scope other near p ts n u
        (leave_around n (statements_count ts) (run_all p ts n scope u).acts (inr h) (all_in p t ts n scope u stand) (among_all front (run_all p ts n scope u).acts behind d))))

    -- a statement, and others behind it
    with_rest : (x y : StmtTree) (rest : StmtTrees) (n : ℕ) → Stand t (n + statement_count x) (all_numbered rest) → Agree (stmts_names rest) → l + statements_count old ≤ n + statement_count x → statement_count y + statements_count old ≡ statement_count x + statements_count new → n + statements_count (more_stmts x rest) ≤ statements_count t.body + 1
        → Comes scope n (statement_count x) (run p x n scope) (run q y n other) → Comes scope n (statements_count (more_stmts x rest)) (run_all p (more_stmts x rest) n scope) (run_all q (more_stmts y rest) n other)
    with_rest x y rest n stand agree h count within first =
        first_comes scope n (statement_count x) n (statements_count (more_stmts x rest)) (run p x n scope) (run_all p rest (n + statement_count x) scope) (run q y n other) (run_all q rest (n + statement_count y) other) (omega arith) (omega arith) (run_told p x n scope)
        (λ v. left_all p one t rest (n + statement_count x) scope v n (statement_count x) stand (inr (omega arith))) first
        (all_behind rest (n + statement_count x) (n + statement_count y) stand agree h (omega (arith, count)) (omega (arith, within)))

    -- what a place tells a statement round it
    names_same : names_in q other ≡ names_in Between other
    names_same i = record { bounds = q.bounds; constants = sym constants i; cell = (names_in p other).cell; index = (names_in p other).index }

    place_same : (n : ℕ) → n < l → place_of q n other ≡ place_of p n scope
    place_same n e j = record { statement = alike.before n e j; turns = near.turns j }

    if_same : (n : ℕ) (c : CondTree) (first second : Store → Run) → n < l → Agree (cond_names c)
        → (λ u. on (place_of p n scope) (truth (names_in p other) c u) λ seen b. does did (place_of p n scope) (numbered_reads 1 seen) (if b then first else second) u) ≡ run_if (names_in q other) (place_of q n other) c first second
    if_same n c first second e agree =
        let holds = truth_same (names_in p other) q.bounds c agree in
        (λ j u. on (place_of p n scope) (holds j u) λ seen b. does did (place_of p n scope) (numbered_reads 1 seen) (if b then first else second) u)
        ∙ (λ j. run_if (sym names_same j) (sym (place_same n e) j) c first second)

    -- the part of an IF that is done
    then_part : (lo some : ℕ) (first second one_part two_part : Store → Run) → Comes scope lo some first one_part → Goes second two_part → (holds : Bool) → Comes scope lo some (if holds then first else second) (if holds then one_part else two_part)
    then_part lo some first second one_part two_part h k true = h
    then_part lo some first second one_part two_part h k false = λ front behind u d ends. k front behind u d.whole ends

    else_part : (lo some : ℕ) (first second one_part two_part : Store → Run) → Goes first one_part → Comes scope lo some second two_part → (holds : Bool) → Comes scope lo some (if holds then first else second) (if holds then one_part else two_part)
    else_part lo some first second one_part two_part h k true = λ front behind u d ends. h front behind u d.whole ends
    else_part lo some first second one_part two_part h k false = k

    if_comes : (n lo some : ℕ) (c : CondTree) (a b : StmtTrees) (first second one_part two_part : Store → Run) → n < lo → lo + some ≤ n + statement_count (If c a b) → n < l → Agree (cond_names c)
        → ((holds : Bool) → Comes scope lo some (if holds then first else second) (if holds then one_part else two_part))
        → Comes scope n (statement_count (If c a b)) (run_if (names_in p scope) (place_of p n scope) c first second) (run_if (names_in q other) (place_of q n other) c one_part two_part)
    if_comes n lo some c a b first second one_part two_part below above e agree part front behind u d ends =
        subst (λ (r : Store → Run). IsJoined By (run_if (names_in p scope) (place_of p n scope) c first second u) r front behind u) (if_same n c one_part two_part e agree)
        (joined_on By (place_of p n scope) (truth (names_in p scope) c) (truth (names_in p other) c) (λ seen holds. did) (λ seen holds. numbered_reads 1 seen) (λ seen holds. numbered_reads 1 seen)
        (λ seen holds. if holds then first else second) (λ seen holds. if holds then one_part else two_part) (λ seen holds u f. found_reads seen 1 u f)
        (λ (r : Run). IsHere p t start l scope n (statement_count (If c a b)) front r.acts behind u) front behind u
        (λ seen holds is here going.
        let condition : Act = act did (place_of p n scope) (numbered_reads 1 seen) in
        let v = store_behind (numbered_reads 1 seen) u in
        let there : IsIn condition Ran = in_whole p t start l front condition (((if holds then first else second) v).acts ++ behind) here.whole in
        record {
          comes = truth_near names apart scope other near p c u seen holds is (quiet_act condition there n e refl (λ exit round. both_ways false refl exit));
          first = inl refl;
          rest = part holds (front ++ condition ∷ []) behind v
              (here_rest p t start l scope n (statement_count (If c a b)) lo some front (condition ∷ []) ((if holds then first else second) v).acts behind u (omega (arith, below)) above
              (left_own p one scope n lo some did (numbered_reads 1 seen) below (subst (λ (z : List Seen). Each (λ (w : Touch). IsOwn p scope w.cell) (numbered_reads 1 z)) (ap (λ r. r.seen) is) (condition_own p scope c u))) here) going;
        })
        d ends)

    -- a DO round the gap
    module _ (n : ℕ) (h : Head) (b next : StmtTrees) (there : statement_with n t ≡ Some (Do h b)) (before : n < l) (reach : l ≤ n + statements_count b) (same : AllSame → other ≡ scope)
        (inner_if : AllSame → inner_variables h.parallel next ≡ inner_variables h.parallel b)
        (inner_but : h.parallel ≡ true → (x : List ℕ) → is_among x names ≡ false → is_among x (all_loop_variables next) ≡ is_among x (all_loop_variables b))
        (round_it : h.parallel ≡ true → (is_among h.variable names ≡ false) × ((x : List ℕ) → is_among x h.private ≡ true → is_among x names ≡ false))
        (copies : h.parallel ≡ true → (x : List ℕ) → is_among x names ≡ true → (is_among x (all_loop_variables next) ≡ is_among x (all_loop_variables b)) ⊎ ((S : Scope) (seen : List Seen) (m : Limits) (k : ℕ) → apart (cell_of (frame (entered_with p n h b seen m) k ∷ S) x) ≡ true))
        (its : AreIterationsOf p t scope) (went : h.parallel ≡ true → (x : List ℕ) → is_among x names ≡ true → is_among x (all_loop_variables b) ≡ true → ((S : Scope) (seen : List Seen) (m : Limits) (k : ℕ) → apart (cell_of (frame (entered_with p n h b seen m) k ∷ S) x) ≡ true) → is_among x (all_loop_variables next) ≡ false) where
      abbrev Old : List Seen → Limits → Entered
      Old seen m = entered_with p n h b seen m

      abbrev Now : List Seen → Limits → Entered
      Now seen m = record {
        number = p.number n;
        head = h;
        first = m.first;
        step = increment p.constants h;
        count = iteration_count m.first m.last (increment p.constants h);
        behind_bounds = number_behind 1 seen;
        inner = inner_variables h.parallel next;
      }

      no_inner : (xs : StmtTrees) → h.parallel ≡ false → inner_variables h.parallel xs ≡ []
      no_inner xs e = ap (λ (z : Bool). inner_variables z xs) e

      now_with : (seen : List Seen) (m : Limits) → inner_variables h.parallel next ≡ inner_variables h.parallel b → Now seen m ≡ Old seen m
      now_with seen m e i = record {
        number = p.number n;
        head = h;
        first = m.first;
        step = increment p.constants h;
        count = iteration_count m.first m.last (increment p.constants h);
        behind_bounds = number_behind 1 seen;
        inner = e i;
      }

      now_same : (seen : List Seen) (m : Limits) → h.parallel ≡ false → Now seen m ≡ Old seen m
      now_same seen m e = now_with seen m (no_inner next e ∙ sym (no_inner b e))

      -- whether an iteration has a copy of a name, where such statements are in the body
      abbrev copied : List ℕ → Bool → StmtTrees → Bool
      copied x z xs = is_among x (if z then h.variable ∷ (h.private ++ inner_variables z xs) else h.private)

      -- an iteration further in
      copies_near : (seen : List Seen) (m : Limits) (k : ℕ) (x : List ℕ) → (is_among x (frame (Now seen m) k).private ≡ is_among x (frame (Old seen m) k).private) ⊎ ((is_among x names ≡ true) × (apart (cell_of (frame (Old seen m) k ∷ scope) x) ≡ true))
      copies_near seen m k x = by_kind h.parallel refl
        where
          by_name : (z : Bool) → is_among x names ≡ z → h.parallel ≡ true → (copied x h.parallel next ≡ copied x h.parallel b) ⊎ ((is_among x names ≡ true) × (apart (cell_of (frame (Old seen m) k ∷ scope) x) ≡ true))
          by_name false none e = inl (copied_same x h.parallel h b next (inner_but e x none))
          by_name true among e = elim (copies e x among) [ inl is ↦ inl (copied_same x h.parallel h b next is) | inr stands ↦ inr (among, stands scope seen m k) ]

          by_kind : (z : Bool) → h.parallel ≡ z → (copied x h.parallel next ≡ copied x h.parallel b) ⊎ ((is_among x names ≡ true) × (apart (cell_of (frame (Old seen m) k ∷ scope) x) ≡ true))
          by_kind true e = by_name (is_among x names) refl e
          by_kind false e = inl (ap (λ (z : Bool). copied x z next) e ∙ sym (ap (λ (z : Bool). copied x z b) e))

      near_inside : (seen : List Seen) (m : Limits) (k : ℕ) → AreNear names apart (frame (Old seen m) k ∷ scope) (frame (Now seen m) k ∷ other)
      near_inside seen m k = near_more names apart scope other near (frame (Old seen m) k) (frame (Now seen m) k) refl refl (copies_near seen m k)

      same_inside : (seen : List Seen) (m : Limits) (k : ℕ) → AllSame → frame (Now seen m) k ∷ other ≡ frame (Old seen m) k ∷ scope
      same_inside seen m k s i = frame (now_with seen m (inner_if s) i) k ∷ same s i

      not_round : h.parallel ≡ false → IsParallelRound t l n → ⊥
      not_round e r = both_ways h.parallel e (ap (λ (g : Head). g.parallel) (same_head h r.loop.head b r.loop.body (sym there ∙ r.loop.is)) ∙ r.parallel)

      is_round : h.parallel ≡ true → IsParallelRound t l n
      is_round e = record { loop = record { head = h; body = b; is = there }; parallel = e; from = before; to = reach }

      module _ (seen : List Seen) (m : Limits) where
        abbrev E : Entered
        E = Old seen m

        abbrev F : Entered
        F = Now seen m

        at : Place
        at = place_of p n scope

        -- what the exit of a PARALLEL DO undefines by its head, at both places
        abbrev By_head : Scope → List Touch
        By_head S = write_touch (cell_of S h.variable) (left_in_variable E) 0 ∷ undefined_by S E.behind_bounds h.private

        head_parts : h.parallel ≡ true → By_head other ≡ By_head scope
        head_parts e i =
            write_touch (named_same names apart scope other near h.variable (round_it e).0 i) (left_in_variable E) 0 ∷ private_near names apart scope other near E.behind_bounds h.private (round_it e).1 i

        -- the exit of a PARALLEL DO, behind some touches
        other_exit : (step : Step) (before_it : List Touch) (front behind : List Act) (u : Store) → h.parallel ≡ true → is_exit step ≡ true
            → Ran ≡ front ++ ((act step (place_of p n scope) (before_it ++ exit_touches E scope) ∷ []) ++ behind) → u ≡ store_after front start
            → (before_it ++ exit_touches F other ≡ before_it ++ exit_touches E scope) ⊎ By front behind u (act step (place_of p n scope) (before_it ++ exit_touches E scope) ∷ []) (act step (place_of p n scope) (before_it ++ exit_touches F other) ∷ [])
        unfolding is_round
        other_exit step before_it front behind u e leaving whole from =
            let a : Act = act step (place_of p n scope) (before_it ++ exit_touches E scope) in
            let c : Act = act step (place_of p n scope) (before_it ++ exit_touches F other) in
            let k : IsOtherExit names apart p t start l front behind u (a ∷ []) (c ∷ []) = record {
              number = n;
              round = is_round e;
              scope = scope;
              other = other;
              near = near;
              step = step;
              leaves = leaving;
              first = before_it ++ By_head scope;
              undefined = E.inner;
              undefined_now = F.inner;
              iterations = its;
              undefined_is = ap (λ (z : Bool). inner_variables z b) e;
              alike = λ x none. ap (λ (z : Bool). is_among x (inner_variables z next)) e ∙ (inner_same_name x b next (inner_but e x none) ∙ sym (ap (λ (z : Bool). is_among x (inner_variables z b)) e));
              went = λ x among there stands.
                  ap (λ (z : Bool). is_among x (inner_variables z next)) e ∙ once_among x (all_loop_variables next)
                  ∙ went e x among (sym (once_among x (all_loop_variables b)) ∙ sym (ap (λ (z : Bool). is_among x (inner_variables z b)) e) ∙ there) stands;
              old_is = ap (λ (ts : List Touch). act step (place_of p n scope) ts ∷ []) (sym (append_assoc before_it (By_head scope) (undefined_all scope E.inner)));
              new_is = ap (λ (ts : List Touch). act step (place_of p n scope) ts ∷ [])
                  (ap (λ (ts : List Touch). before_it ++ (ts ++ undefined_all other F.inner)) (head_parts e) ∙ sym (append_assoc before_it (By_head scope) (undefined_all other F.inner)));
              whole = whole;
              from = from;
            } in
            elim (exits front behind u (a ∷ []) (c ∷ []) k (λ s i. act step (place_of p n scope) (before_it ++ exit_touches (now_with seen m (inner_if s) i) (same s i)) ∷ [])) [
              | inl is ↦ inl (ap first_touches is)
              | inr by ↦ inr by
            ]

        -- an entry with these touches stays, or is changed
        abbrev Answer : List Act → List Act → Store → List Touch → List Touch → Type 0
        Answer front behind u ts us = (us ≡ ts) ⊎ By front behind u (act (entered E.count) (place_of p n scope) ts ∷ []) (act (entered E.count) (place_of p n scope) us ∷ [])

        -- the entry stays, or it leaves a PARALLEL DO
        entry_comes : (front more behind : List Act) (u : Store) → Ran ≡ front ++ ((act (entered E.count) (place_of p n scope) (entry_touches seen E scope) ∷ more) ++ behind) → u ≡ store_after front start
            → (entry_touches seen F other ≡ entry_touches seen E scope)
            ⊎ By front (more ++ behind) u (act (entered E.count) (place_of p n scope) (entry_touches seen E scope) ∷ []) (act (entered E.count) (place_of p n scope) (entry_touches seen F other) ∷ [])
        entry_comes front more behind u whole from = by_kind h.parallel refl
          where
            none_left_out : (z : Bool) → (E.count == 0) ≡ z → h.parallel ≡ true → Answer front (more ++ behind) u (numbered_reads 1 seen ++ (if z then exit_touches E scope else [])) (numbered_reads 1 seen ++ (if z then exit_touches F other else []))
            none_left_out false c e = inl refl
            none_left_out true c e =
                other_exit (entered E.count) (numbered_reads 1 seen) front (more ++ behind) u e c
                (whole ∙ ap (λ (z : Bool). front ++ (act (entered E.count) (place_of p n scope) (numbered_reads 1 seen ++ (if z then exit_touches E scope else [])) ∷ (more ++ behind))) c) from

            by_kind : (z : Bool) → h.parallel ≡ z → Answer front (more ++ behind) u (entry_touches seen E scope) (entry_touches seen F other)
            by_kind true e = none_left_out (E.count == 0) refl e
            by_kind false e =
                let leave = quiet_act (act (entered E.count) (place_of p n scope) (entry_touches seen E scope)) (in_whole p t start l front (act (entered E.count) (place_of p n scope) (entry_touches seen E scope)) (more ++ behind) whole) n before refl (λ exit round. not_round e round) in
                let exit = exit_when_near names apart scope other near E.count E (λ x i. leave x (in_right x (numbered_reads 1 seen) (exit_when_none E.count E scope) i)) in
                inl (ap (λ (z : Entered). entry_touches seen z other) (now_same seen m e) ∙ ap (λ (ts : List Touch). numbered_reads 1 seen ++ ts) exit)

        ends_stay : h.parallel ≡ false → (left : ℕ) → IsIn (act (ended_turn left) (place_of p n scope) (exit_when_none left E scope)) Ran → exit_when_none left F other ≡ exit_when_none left E scope
        ends_stay e left i =
            ap (λ (z : Entered). exit_when_none left z other) (now_same seen m e)
            ∙ exit_when_near names apart scope other near left E (quiet_act (act (ended_turn left) (place_of p n scope) (exit_when_none left E scope)) i n before refl (λ exit round. not_round e round))

        closes : h.parallel ≡ true → (front behind : List Act) (u : Store) → (Ran ≡ front ++ ((act closed (place_of p n scope) (exit_touches E scope) ∷ []) ++ behind)) × (u ≡ store_after front start)
            → (exit_touches F other ≡ exit_touches E scope) ⊎ By front behind u (act closed (place_of p n scope) (exit_touches E scope) ∷ []) (act closed (place_of p n scope) (exit_touches F other) ∷ [])
        closes e front behind u d = other_exit closed [] front behind u e refl d.0 d.1

      do_same : (body : Frame → Store → Run) → Agree (head_names h)
          → run_do q n other h next body ≡ (λ u. on (place_of p n scope) (limits (names_in p other) h u) λ seen m. run_from_entry seen (Now seen m) other (place_of p n scope) body u)
      do_same body agree =
          let ends = limits_same (names_in p other) q.bounds h agree in
          let place = place_same n before in
          (λ i u. on (place i) (limits (names_same i) h u) λ seen m. run_from_entry seen (record {
            number = (place i).statement;
            head = h;
            first = m.first;
            step = increment (sym constants i) h;
            count = iteration_count m.first m.last (increment (sym constants i) h);
            behind_bounds = number_behind 1 seen;
            inner = inner_variables h.parallel next;
          }) other (place i) body u)
          ∙ (λ i u. on (place_of p n scope) (sym ends i u) λ seen m. run_from_entry seen (Now seen m) other (place_of p n scope) body u)

      do_comes : (body : Frame → Store → Run) → (scope ≡ [] → n ≡ outermost_or l (nest_round t l)) → Agree (head_names h)
          → ((seen : List Seen) (m : Limits) (k : ℕ) → Comes (frame (Old seen m) k ∷ scope) (n + 1) (statements_count b) (run_all p b (n + 1) (frame (Old seen m) k ∷ scope)) (body (frame (Now seen m) k)))
          → Comes scope n (statement_count (Do h b)) (run p (Do h b) n scope) (run_do q n other h next body)
      do_comes body outermost agree comes front behind u d ends =
          subst (λ (r : Store → Run). IsJoined By (run p (Do h b) n scope u) r front behind u) (sym (do_same body agree))
          (joined_on By (place_of p n scope) (limits (names_in p scope) h) (limits (names_in p other) h)
          (λ seen m. entered (Old seen m).count) (λ seen m. entry_touches seen (Old seen m) scope) (λ seen m. entry_touches seen (Now seen m) other)
          (λ seen m. run_entered h.parallel (Old seen m).count (Old seen m) scope (place_of p n scope) (λ f. run_all p b (n + 1) (f ∷ scope)))
          (λ seen m. run_entered h.parallel (Now seen m).count (Now seen m) other (place_of p n scope) body)
          (λ seen m u f. found_reads_first seen 1 _ u f)
          (λ (r : Run). IsHere p t start l scope n (statement_count (Do h b)) front r.acts behind u × (run p (Do h b) n scope u ≡ r)) front behind u
          (λ seen m is here going.
          let e = Old seen m in
          let v = store_behind (entry_touches seen e scope) u in
          let more = (run_entered h.parallel e.count e scope (place_of p n scope) (λ f. run_all p b (n + 1) (f ∷ scope)) v).acts in
          let entry : Act = act (entered e.count) (place_of p n scope) (entry_touches seen e scope) in
          let part : IsPartOf Ran start (entry ∷ more) u = record { front = front; behind = behind; is = here.0.whole; from = here.0.from } in
          let x = executing p t start l scope n h b seen m more u there is (ap (λ (r : Run). r.acts) here.1) outermost (omega (arith, before)) reach ends part here.0.inside in
          let first = in_whole p t start l front entry (more ++ behind) here.0.whole in
          record {
            comes = limits_near names apart scope other near p h u seen m is (quiet_reads entry first n before refl seen (λ y i. in_left y (numbered_reads 1 seen) (exit_when_none e.count e scope) i));
            first = entry_comes seen m front more behind u here.0.whole here.0.from;
            rest = entered_come p t start l scope n h b seen m one By other (Now seen m) body (λ k lo hi. comes seen m k) h.parallel (ends_stay seen m) (closes seen m) e.count refl
                (front ++ entry ∷ []) behind v
                (enter p t start l scope n h b seen m one (statement_count (Do h b)) front more behind u (omega arith) x is here.0) going;
          })
          (d, refl) ends)

  inner_same : (gap : Gap) (parallel : Bool) → (parallel ≡ true → HaveSameIndices old new) → inner_variables parallel (filled gap new) ≡ inner_variables parallel (filled gap old)
  inner_same gap true same = inner_alike (filled gap new) (filled gap old) (λ x. indices_filled old new (same refl) x gap)
  inner_same gap false same = refl

  -- the loops that are left
  into_first : (x : StmtTree) (rest : StmtTrees) (n : ℕ) (scope : Scope) → l ≤ n + statement_count x → IsReached p t l scope n (all_numbered (more_stmts x rest)) (all_loops_round l (more_stmts x rest) n) → IsReached p t l scope n (numbered x) (loops_round l x n)
  into_first x rest n scope h =
      reached_with p t l scope n n (all_numbered (more_stmts x rest)) (numbered x) (all_loops_round l (more_stmts x rest) n) (loops_round l x n) (first_stands t n (numbered x) (all_numbered rest))
      (none_left (loops_round l x n) (all_loops_round l rest (n + statement_count x)) (all_none_from l rest (n + statement_count x) h))

  into_rest : (x : StmtTree) (rest : StmtTrees) (n : ℕ) (scope : Scope) → n + statement_count x ≤ l → IsReached p t l scope n (all_numbered (more_stmts x rest)) (all_loops_round l (more_stmts x rest) n)
      → IsReached p t l scope (n + statement_count x) (all_numbered rest) (all_loops_round l rest (n + statement_count x))
  into_rest x rest n scope h =
      reached_with p t l scope n (n + statement_count x) (all_numbered (more_stmts x rest)) (all_numbered rest) (all_loops_round l (more_stmts x rest) n) (all_loops_round l rest (n + statement_count x)) (rest_stands t x rest n)
      (none_first (loops_round l x n) (all_loops_round l rest (n + statement_count x)) (none_before l x n h))

  into_then : (c : CondTree) (a b : StmtTrees) (n : ℕ) (scope : Scope) → l ≤ n + 1 + statements_count a → IsReached p t l scope n (numbered (If c a b)) (loops_round l (If c a b) n) → IsReached p t l scope (n + 1) (all_numbered a) (all_loops_round l a (n + 1))
  into_then c a b n scope h =
      reached_with p t l scope n (n + 1) (numbered (If c a b)) (all_numbered a) (loops_round l (If c a b) n) (all_loops_round l a (n + 1))
      (λ w. first_stands t (n + 1) (all_numbered a) (all_numbered b) (inner_stands t (If c a b) (all_numbered a ++ all_numbered b) n w))
      (none_left (all_loops_round l a (n + 1)) (all_loops_round l b (n + 1 + statements_count a)) (all_none_from l b (n + 1 + statements_count a) h))

  into_else : (c : CondTree) (a b : StmtTrees) (n : ℕ) (scope : Scope) → n + 1 + statements_count a ≤ l → IsReached p t l scope n (numbered (If c a b)) (loops_round l (If c a b) n)
      → IsReached p t l scope (n + 1 + statements_count a) (all_numbered b) (all_loops_round l b (n + 1 + statements_count a))
  into_else c a b n scope h =
      reached_with p t l scope n (n + 1 + statements_count a) (numbered (If c a b)) (all_numbered b) (loops_round l (If c a b) n) (all_loops_round l b (n + 1 + statements_count a))
      (λ w. else_stands t a b (n + 1) (inner_stands t (If c a b) (all_numbered a ++ all_numbered b) n w))
      (none_first (all_loops_round l a (n + 1)) (all_loops_round l b (n + 1 + statements_count a)) (all_none_before l a (n + 1) h))

  here_comes : (rest : StmtTrees) (n : ℕ) (scope other : Scope) → AreNear names apart scope other → (AllSame → other ≡ scope) → Stand t n (all_numbered (followed old rest)) → Agree (stmts_names rest) → n ≡ l → n + statements_count (followed old rest) ≤ statements_count t.body + 1 → IsPlaceOf p t l scope
      → Comes scope n (statements_count (followed old rest)) (run_all p (followed old rest) n scope) (run_all q (followed new rest) n other)
  here_comes rest n scope other near same stand agree e within place =
      let size = counted old rest in
      subst (λ (f : Store → Run). Comes scope n (statements_count (followed old rest)) f (run_all q (followed new rest) n other)) (sym (run_followed p old rest n scope))
      (subst (Comes scope n (statements_count (followed old rest)) (λ u. then_run (run_all p old n scope u) (run_all p rest (n + statements_count old) scope))) (sym (run_followed q new rest n other))
      (first_comes scope n (statements_count old) n (statements_count (followed old rest)) (run_all p old n scope) (run_all p rest (n + statements_count old) scope) (run_all q new n other) (run_all q rest (n + statements_count new) other) (omega arith) (omega (arith, size)) (all_told p old n scope)
      (λ v. left_all p one t rest (n + statements_count old) scope v n (statements_count old) (followed_stands t old rest n stand) (inr (omega arith)))
      (subst (λ (m : ℕ). Comes scope m (statements_count old) (run_all p old m scope) (run_all q new m other)) (sym e) (in_place scope other near same place))
      (all_behind scope other near rest (n + statements_count old) (n + statements_count new) (followed_stands t old rest n stand) agree (omega (arith, e)) (omega arith) (omega (arith, size, within)))))

  rest_names : (xs rest : StmtTrees) → Agree (stmts_names (followed xs rest)) → Agree (stmts_names rest)
  rest_names no_stmts rest h = h
  rest_names (more_stmts x xs) rest h = rest_names xs rest (agree_right p.bounds q.bounds (stmt_names x) (stmts_names (followed xs rest)) h)

  all_come : (gap : Gap) (n : ℕ) (scope other : Scope) → AreNear names apart scope other → (AllSame → other ≡ scope) → OfParallelRound (HasOtherCopies names apart p old new) gap n → number_at gap n ≡ l → n + statements_count (filled gap old) ≤ statements_count t.body + 1 → Agree (stmts_names (filled gap old))
      → IsReached p t l scope n (all_numbered (filled gap old)) (all_loops_round l (filled gap old) n)
      → Comes scope n (statements_count (filled gap old)) (run_all p (filled gap old) n scope) (run_all q (filled gap new) n other)
  all_come (at_front rest) n scope other near same round e within agree r =
      here_comes rest n scope other near same r.stand (rest_names old rest agree) e within
      (reached_place p t l scope n (all_numbered (followed old rest)) (all_loops_round l (followed old rest) n) (all_none_from l (followed old rest) n (omega (arith, e))) r)
  all_come (past x gap) n scope other near same round e within agree r =
      let from = number_from gap (n + statement_count x) in
      let earlier : n + statement_count x ≤ l = omega (arith, from, e) in
      rest_comes scope (n + statement_count x) (statements_count (filled gap old)) n (statements_count (more_stmts x (filled gap old))) (run p x n scope) (run_all p (filled gap old) (n + statement_count x) scope) (run q x n other) (run_all q (filled gap new) (n + statement_count x) other)
      (omega arith) (omega arith) (run_told p x n scope) (λ v. left_run p one t x n scope v (n + statement_count x) (statements_count (filled gap old)) (first_stands t n (numbered x) (all_numbered (filled gap old)) r.stand) (inl (omega arith)))
      (one_before scope other near x n (first_stands t n (numbered x) (all_numbered (filled gap old)) r.stand) (agree_left p.bounds q.bounds (stmt_names x) (stmts_names (filled gap old)) agree) earlier)
      (all_come gap (n + statement_count x) scope other near same round e (omega (arith, within)) (agree_right p.bounds q.bounds (stmt_names x) (stmts_names (filled gap old)) agree) (into_rest x (filled gap old) n scope earlier r))
  all_come (in_then c gap b rest) n scope other near same round e within agree r =
      let a = filled gap old in
      let from = number_from gap (n + 1) in
      let room = number_room gap old (n + 1) in
      let count = count_filled old new gap in
      let inside : l + statements_count old ≤ n + statement_count (If c a b) = omega (arith, room, e) in
      let first = agree_left p.bounds q.bounds (stmt_names (If c a b)) (stmts_names rest) agree in
      let begin = agree_left p.bounds q.bounds (cond_names c ++ stmts_names a) (stmts_names b) first in
      let parts = inner_stands t (If c a b) (all_numbered a ++ all_numbered b) n (first_stands t n (numbered (If c a b)) (all_numbered rest) r.stand) in
      with_rest scope other near (If c a b) (If c (filled gap new) b) rest n (rest_stands t (If c a b) rest n r.stand) (agree_right p.bounds q.bounds (stmt_names (If c a b)) (stmts_names rest) agree) inside (omega (arith, count)) within
      (if_comes scope other near n (n + 1) (statements_count a) c a b (run_all p a (n + 1) scope) (run_all p b (n + 1 + statements_count a) scope) (run_all q (filled gap new) (n + 1) other) (run_all q b (n + 1 + statements_count (filled gap new)) other) (omega arith) (omega arith) (omega (arith, from, e))
      (agree_left p.bounds q.bounds (cond_names c) (stmts_names a) begin)
      (then_part scope other near (n + 1) (statements_count a) (run_all p a (n + 1) scope) (run_all p b (n + 1 + statements_count a) scope) (run_all q (filled gap new) (n + 1) other) (run_all q b (n + 1 + statements_count (filled gap new)) other)
      (all_come gap (n + 1) scope other near same round e (omega (arith, within)) (agree_right p.bounds q.bounds (cond_names c) (stmts_names a) begin) (into_then c a b n scope (omega (arith, room, e)) (into_first (If c a b) rest n scope (omega (arith, inside)) r)))
      (all_behind scope other near b (n + 1 + statements_count a) (n + 1 + statements_count (filled gap new)) (else_stands t a b (n + 1) parts) (agree_right p.bounds q.bounds (cond_names c ++ stmts_names a) (stmts_names b) first) (omega (arith, room, e)) (omega (arith, count)) (omega (arith, within)))))
  all_come (in_else c a gap rest) n scope other near same round e within agree r =
      let b = filled gap old in
      let from = number_from gap (n + 1 + statements_count a) in
      let room = number_room gap old (n + 1 + statements_count a) in
      let count = count_filled old new gap in
      let inside : l + statements_count old ≤ n + statement_count (If c a b) = omega (arith, room, e) in
      let first = agree_left p.bounds q.bounds (stmt_names (If c a b)) (stmts_names rest) agree in
      let begin = agree_left p.bounds q.bounds (cond_names c ++ stmts_names a) (stmts_names b) first in
      let parts = inner_stands t (If c a b) (all_numbered a ++ all_numbered b) n (first_stands t n (numbered (If c a b)) (all_numbered rest) r.stand) in
      with_rest scope other near (If c a b) (If c a (filled gap new)) rest n (rest_stands t (If c a b) rest n r.stand) (agree_right p.bounds q.bounds (stmt_names (If c a b)) (stmts_names rest) agree) inside (omega (arith, count)) within
      (if_comes scope other near n (n + 1 + statements_count a) (statements_count b) c a b (run_all p a (n + 1) scope) (run_all p b (n + 1 + statements_count a) scope) (run_all q a (n + 1) other) (run_all q (filled gap new) (n + 1 + statements_count a) other) (omega arith) (omega arith) (omega (arith, from, e))
      (agree_left p.bounds q.bounds (cond_names c) (stmts_names a) begin)
      (else_part scope other near (n + 1 + statements_count a) (statements_count b) (run_all p a (n + 1) scope) (run_all p b (n + 1 + statements_count a) scope) (run_all q a (n + 1) other) (run_all q (filled gap new) (n + 1 + statements_count a) other)
      (all_before scope other near a (n + 1) (first_stands t (n + 1) (all_numbered a) (all_numbered b) parts) (agree_right p.bounds q.bounds (cond_names c) (stmts_names a) begin) (omega (arith, from, e)))
      (all_come gap (n + 1 + statements_count a) scope other near same round e (omega (arith, within)) (agree_right p.bounds q.bounds (cond_names c ++ stmts_names a) (stmts_names b) first)
      (into_else c a b n scope (omega (arith, from, e)) (into_first (If c a b) rest n scope (omega (arith, inside)) r)))))
  all_come (in_body h gap rest) n scope other near same round e within agree r =
      let b = filled gap old in
      let from = number_from gap (n + 1) in
      let room = number_room gap old (n + 1) in
      let count = count_filled old new gap in
      let inside : l + statements_count old ≤ n + statement_count (Do h b) = omega (arith, room, e) in
      let reached = into_first (Do h b) rest n scope (omega (arith, inside)) r in
      let loops = one_more l h b n (omega (arith, from, e)) (omega (arith, room, e, some)) in
      let first = agree_left p.bounds q.bounds (stmt_names (Do h b)) (stmts_names rest) agree in
      let parallel : h.parallel ≡ true → is_in_parallel t l ≡ true = (λ k. parallel_round p t l scope n h (Do h b ∷ all_numbered b) (loops_round l (Do h b) n) (all_loops_round l b (n + 1)) loops k reached) in
      let there = is_there t (Do h b) (all_numbered b) n reached.stand in
      let before : n < l = omega (arith, from, e) in
      let reach : l ≤ n + statements_count b = omega (arith, room, e, some) in
      let inner_if : AllSame → inner_variables h.parallel (filled gap new) ≡ inner_variables h.parallel b = (λ s. inner_same gap h.parallel (λ k. s (parallel k))) in
      let inner_but : h.parallel ≡ true → (x : List ℕ) → is_among x names ≡ false → is_among x (all_loop_variables (filled gap new)) ≡ is_among x (all_loop_variables b) = (λ k x none. index_filled x old new (indices (parallel k) x none) gap) in
      let named : h.parallel ≡ true → (is_among h.variable names ≡ false) × ((x : List ℕ) → is_among x h.private ≡ true → is_among x names ≡ false) = (λ k. ((round.0 k).variable, (round.0 k).private)) in
      let copies : h.parallel ≡ true → (x : List ℕ) → is_among x names ≡ true → (is_among x (all_loop_variables (filled gap new)) ≡ is_among x (all_loop_variables b)) ⊎ ((S : Scope) (seen : List Seen) (m : Limits) (k : ℕ) → apart (cell_of (frame (entered_with p n h b seen m) k ∷ S) x) ≡ true)
      = (λ k. (round.0 k).copies) in
      let its : AreIterationsOf p t scope = reached.iterations in
      let went : h.parallel ≡ true → (x : List ℕ) → is_among x names ≡ true → is_among x (all_loop_variables b) ≡ true → ((S : Scope) (seen : List Seen) (m : Limits) (k : ℕ) → apart (cell_of (frame (entered_with p n h b seen m) k ∷ S) x) ≡ true) → is_among x (all_loop_variables (filled gap new)) ≡ false
      = (λ k. (round.0 k).went) in
      with_rest scope other near (Do h b) (Do h (filled gap new)) rest n (rest_stands t (Do h b) rest n r.stand) (agree_right p.bounds q.bounds (stmt_names (Do h b)) (stmts_names rest) agree) inside (omega (arith, count)) within
      (do_comes scope other near n h b (filled gap new) there before reach same inner_if inner_but named copies its went (λ f. run_all q (filled gap new) (n + 1) (f ∷ other))
      (λ none. outermost_is p t start l scope n h (Do h b ∷ all_numbered b) (loops_round l (Do h b) n) (all_loops_round l b (n + 1)) (ap turns_of none) loops reached)
      (agree_left p.bounds q.bounds (head_names h) (stmts_names b) first)
      (λ seen m k. all_come gap (n + 1) (frame (entered_with p n h b seen m) k ∷ scope) (frame (Now scope other near n h b (filled gap new) there before reach same inner_if inner_but named copies its went seen m) k ∷ other)
      (near_inside scope other near n h b (filled gap new) there before reach same inner_if inner_but named copies its went seen m k) (same_inside scope other near n h b (filled gap new) there before reach same inner_if inner_but named copies its went seen m k)
      round.1 e (omega (arith, within)) (agree_right p.bounds q.bounds (head_names h) (stmts_names b) first)
      (reached_body p t l scope n k h b seen m (loops_round l (Do h b) n) (all_loops_round l b (n + 1)) loops reached)))

-- parts of a run, of which the changed ones are changed so; another run does the new parts
abbrev pub IsMadeOf : (List Act → List Act → Store → List Act → List Act → Type 0) → List Act → Store → (Store → Run) → Finish → Type 0
IsMadeOf By acts start r finish = (parts : List Part) × (old_parts parts ≡ acts) × AreChangedBy By [] parts [] start × Replays r (new_parts parts) finish

-- the whole program
pub changed_program : (names : List (List ℕ)) (apart : Cell → Bool) (p q : Setting) (gap : Gap) (old new : StmtTrees) (t u : ProgramTree) (start : Store) (By : List Act → List Act → Store → List Act → List Act → Type 0) → IsPastedBut names apart p q gap old new t u
    → LeaveApart apart p t (number_at gap 1) (statements_count old) (run_all p t.body 1 [] start).acts → OfExecution names apart p q t start (number_at gap 1) old new By → OfExit names apart p q t start (number_at gap 1) old new By
    → Ends (run_all p t.body 1 [] start).ending → IsMadeOf By (run_all p t.body 1 [] start).acts start (run_all q u.body 1 []) (finish_of (run_all p t.body 1 [] start).ending)
changed_program names apart p q gap old new t u start By pasting quiet each exits ends =
    let l = number_at gap 1 in
    let reached : IsReached p t l [] 1 (all_numbered (filled gap old)) (all_loops_round l (filled gap old) 1) = record {
      stand = subst (λ (ts : StmtTrees). Stand t 1 (all_numbered ts)) pasting.old_body (whole_stands t);
      iterations = tt;
      front = [];
      nest = ap (λ (ts : StmtTrees). all_loops_round l ts 1) pasting.old_body;
      turns = tt;
    } in
    let agree = subst (λ (ts : StmtTrees). AgreeInBounds p.bounds q.bounds (stmts_names ts)) pasting.old_body pasting.bounds in
    let size : statements_count t.body ≡ statements_count (filled gap old) = ap statements_count pasting.old_body in
    let comes = all_come names apart p q t start l old new By pasting.constants pasting.one_each pasting.numbers pasting.some pasting.unstopped pasting.indices quiet each exits gap 1 [] [] (near_itself names apart []) (λ s. refl) pasting.round refl (omega (arith, size)) agree reached in
    let Joined : (Store → Run) → (Store → Run) → Type 0 = AreJoined By (IsHere p t start l [] 1 (statements_count (filled gap old))) in
    let bodies = subst (λ (ts : StmtTrees). Joined (run_all p t.body 1 []) (run_all q ts 1 [])) (sym pasting.new_body) (subst (λ (ts : StmtTrees). Joined (run_all p ts 1 []) (run_all q (filled gap new) 1 [])) (sym pasting.old_body) comes) in
    let here : IsHere p t start l [] 1 (statements_count (filled gap old)) [] (run_all p t.body 1 [] start).acts [] start = record {
      whole = sym (append-nil (run_all p t.body 1 [] start).acts);
      from = refl;
      inside = tt;
      before = left_none p [] 1 (statements_count (filled gap old));
      after = left_none p [] 1 (statements_count (filled gap old));
    } in
    let h = bodies [] [] start here ends in
    (h.parts, h.old_is, h.exchanged, h.replays)

-- each PARALLEL DO has copies of the same names where no name comes or goes
no_names_round : (p : Setting) (old new : StmtTrees) (gap : Gap) (n : ℕ) → OfParallelRound (HasOtherCopies [] nothing p old new) gap n
no_names_round p old new (at_front rest) n = tt
no_names_round p old new (past x gap) n = no_names_round p old new gap (n + statement_count x)
no_names_round p old new (in_then c gap b rest) n = no_names_round p old new gap (n + 1)
no_names_round p old new (in_else c a gap rest) n = no_names_round p old new gap (n + 1 + statements_count a)
no_names_round p old new (in_body h gap rest) n = (λ parallel. record { variable = refl; private = λ x h. refl; copies = λ x h. absurd (both_ways false refl h); went = λ x h. absurd (both_ways false refl h) }, no_names_round p old new gap (n + 1))

pub no_names : (p q : Setting) (gap : Gap) (old new : StmtTrees) (t u : ProgramTree) → IsPasted p q gap old new t u → IsPastedBut [] nothing p q gap old new t u
no_names p q gap old new t u pasting = record {
  old_body = pasting.old_body;
  new_body = pasting.new_body;
  bounds = pasting.bounds;
  constants = pasting.constants;
  one_each = pasting.one_each;
  numbers = pasting.numbers;
  some = pasting.some;
  unstopped = pasting.unstopped;
  indices = λ parallel x none. pasting.indices parallel x;
  round = no_names_round p old new gap 1;
}

-- parts of a run, of which the changed ones are executions; another run does the new parts
abbrev pub Exchanged : Setting → ProgramTree → Store → (l count : ℕ) → (Scope → Store → Run) → (Scope → Store → List Act) → (Store → Run) → Finish → Type 0
Exchanged p t start l count piece fresh r finish = IsMadeOf (IsExchanged p t start l count piece fresh) (run_all p t.body 1 [] start).acts start r finish

-- the whole program, where no name comes or goes
pub exchanged : (p q : Setting) (gap : Gap) (old new : StmtTrees) (t u : ProgramTree) (start : Store) (fresh : Scope → Store → List Act) → IsPasted p q gap old new t u → DoInstead p q t start (number_at gap 1) (statements_count old) (run_all p old (number_at gap 1)) new fresh
    → Ends (run_all p t.body 1 [] start).ending → Exchanged p t start (number_at gap 1) (statements_count old) (run_all p old (number_at gap 1)) fresh (run_all q u.body 1 []) (finish_of (run_all p t.body 1 [] start).ending)
exchanged p q gap old new t u start fresh pasting each ends =
    changed_program [] nothing p q gap old new t u start (IsExchanged p t start (number_at gap 1) (statements_count old) (run_all p old (number_at gap 1)) fresh) (no_names p q gap old new t u pasting)
    (λ a i x j e. absurd (both_ways false refl e))
    (λ scope other front behind v near same executed goes. (
      fresh scope v,
      record { scope = scope; executed = executed; goes = goes; old_is = refl; new_is = refl },
      subst (λ (S : Scope). Replays (run_all q new (number_at gap 1) S) (fresh scope v) goes_on) (sym (same pasting.indices)) (each scope front behind v executed goes),
    ))
    (λ front behind v a b exit same. inl (same pasting.indices)) ends

-- and where names come or go
pub exchanged_near : (names : List (List ℕ)) (apart : Cell → Bool) (p q : Setting) (gap : Gap) (old new : StmtTrees) (t u : ProgramTree) (start : Store) (fresh : (scope other : Scope) → Store → List Act) → IsPastedBut names apart p q gap old new t u
    → LeaveApart apart p t (number_at gap 1) (statements_count old) (run_all p t.body 1 [] start).acts → DoNear names apart p q t start (number_at gap 1) (statements_count old) (run_all p old (number_at gap 1)) new fresh
    → Ends (run_all p t.body 1 [] start).ending
    → IsMadeOf (λ front behind v a b. IsExchangedNear names apart p t start (number_at gap 1) (statements_count old) (run_all p old (number_at gap 1)) fresh front behind v a b ⊎ IsOtherExit names apart p t start (number_at gap 1) front behind v a b)
    (run_all p t.body 1 [] start).acts start (run_all q u.body 1 []) (finish_of (run_all p t.body 1 [] start).ending)
exchanged_near names apart p q gap old new t u start fresh pasting quiet each ends =
    changed_program names apart p q gap old new t u start
    (λ front behind v a b. IsExchangedNear names apart p t start (number_at gap 1) (statements_count old) (run_all p old (number_at gap 1)) fresh front behind v a b ⊎ IsOtherExit names apart p t start (number_at gap 1) front behind v a b) pasting quiet
    (λ scope other front behind v near same executed goes. (
      fresh scope other v,
      inl (record { scope = scope; other = other; near = near; executed = executed; goes = goes; old_is = refl; new_is = refl }),
      each scope other front behind v near executed goes,
    ))
    (λ front behind v a b exit same. inr (inr exit)) ends
