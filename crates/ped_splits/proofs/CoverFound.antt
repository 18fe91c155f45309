-- Each act of a run of a program is one of an execution of some of its statements, or stands in no iteration of a DO among them.
use Rattle.std.proofs.Common.{◌≡◌, ◌⊎◌, ℕ, zero, suc, ◌+◌, ◌<◌, ◌≤◌, List, [], ◌∷◌, ◌++◌, Bool, true, false, Result, Ok, Err, Some, inl, inr, if◌then◌else◌, refl, sym, ap, ◌∙◌, subst, append-nil, append_assoc, arith}
use Rattle.ped_tree.specs.Numbering.{numbered, all_numbered, statement_with, statement_count, statements_count}
use Rattle.ped_tree.specs.Tree.{CondTree, Head, StmtTree, StmtTrees, If, Do, more_stmts, ProgramTree}
use Rattle.ped_rules.specs.ped_loop_runs.specs.Executions.{IsExecuted}
use Rattle.ped_rules.specs.ped_loop_runs.proofs.PastingLaws.ActNumbers.{all_in}
use Rattle.ped_rules.specs.ped_loop_runs.proofs.PastingLaws.LeftCopies.{IsOwn, condition_own, exit_own, exit_when_own}
use Rattle.ped_rules.specs.ped_loop_runs.proofs.PastingLaws.LeftPlaces.{LeaveAll, left_none, left_own, left_run, left_all, left_append, left_body, left_end, left_turns, left_parallel}
use Rattle.ped_rules.specs.ped_loop_runs.proofs.PastingLaws.PastedLoops.{run_followed, IsReached, reached_with, reached_place, reached_body, none_left, none_first, must_go, inside_outer, IsHere, here_first, here_only, here_rest, outermost_is, executing, enter, IsInLoop, whole_first, whole_rest, from_rest}
use Rattle.ped_rules.specs.ped_steps.proofs.RunLaws.FilledGaps.{counted, number_from, number_room}
use Rattle.ped_rules.specs.ped_steps.proofs.RunLaws.LoopsRound.{none_before, all_none_before, all_none_from, one_more}
use Rattle.ped_rules.specs.ped_steps.specs.Replacing.{followed}
use Rattle.ped_rules.specs.ped_steps.specs.Runs.Gaps.{Gap, at_front, past, in_then, in_else, in_body, filled, number_at}
use Rattle.ped_rules.specs.ped_steps.specs.Runs.Pasting.{IsPlaceOf, IsPartOf, IsInExecution}
use Rattle.ped_rules.specs.ped_flow.specs.PlainBounds.{loops_round, all_loops_round, nest_round, outermost_or}
use Rattle.ped_rules.specs.ped_laws.proofs.ActLaws.Lists.{in_parts}
use Rattle.ped_rules.specs.ped_laws.proofs.ActLaws.Stores.{after_append}
use Rattle.ped_rules.specs.ped_laws.proofs.FlowRunLaws.Standing.{Stand, whole_stands, first_stands, rest_stands, inner_stands, else_stands, is_there}
use Rattle.ped_rules.specs.ped_laws.proofs.FlowRunLaws.Unstopped.{all_unstopped}
use Rattle.ped_rules.specs.ped_laws.proofs.RunLaws.StatementsTold.{run_told, all_told, parallel_told}
use Rattle.ped_rules.specs.ped_laws.proofs.RunLaws.Told.{own_run}
use Rattle.ped_rules.specs.ped_laws.proofs.RunLaws.Touches.{Each}
use Rattle.ped_rules.specs.ped_laws.specs.Acts.Fitting.{store_after}
use Rattle.ped_rules.specs.ped_laws.specs.Acts.Orders.{IsIn}
use Rattle.ped_rules.specs.ped_laws.specs.FlowRuns.Covering.{some_stop}
use Rattle.ped_rules.specs.ped_laws.specs.FlowRuns.Exits.{IsOneToOne}
use Rattle.ped_rules.specs.ped_laws.specs.Runs.Replaying.{Finish, goes_on, stops, faults, finish_of, ending_with, act, IsToldByActs}
use Rattle.ped_rules.specs.ped_eval.specs.Evaluation.{Seen, numbered as numbered_reads}
use Rattle.ped_rules.specs.ped_eval.specs.Loops.{Limits, limits, Entered, entered_with, frame, exit_touches, exit_when_none, entry_touches}
use Rattle.ped_rules.specs.ped_eval.specs.Outcomes.{Ends, setting_of}
use Rattle.ped_rules.specs.ped_eval.specs.Runs.{Ending, going, stopped, failed, Run, nothing_done, followed_by, then_run, does, on_value, turns, parallel_turns, run_entered, run_from_entry, run_if, run, run_all}
use Rattle.ped_rules.specs.ped_eval.specs.Scopes.{Setting, Frame, Scope, turns_of, names_in, place_of}
use Rattle.ped_rules.specs.ped_eval.specs.Values.{truth}
use Rattle.ped_rules.specs.ped_store.specs.Acts.{Act, Place, Step, Touch, did, entered, ended_turn, closed, store_behind}
use Rattle.ped_rules.specs.ped_store.specs.Stores.{Store}
use Rattle.ped_splits.proofs.CoverGaps.{followed_numbered}
use Rattle.ped_splits.proofs.CoverTurns.{AreOutside, one_within, outside_deeper, outside_other, stands_within}

first_ends : (acts : List Act) (e : Ending) (next : Store → Run) → Ends (followed_by acts e next).ending → Ends e
first_ends acts (going u) next h = tt
first_ends acts (stopped u) next h = h
first_ends acts (failed fault n) next h = h

-- an IF whose condition has come to this, and a DO whose bounds have
abbrev if_from : Setting → Scope → ℕ → (first second : Store → Run) → Store → List Seen → Result Bool ℕ → Run
if_from p scope n first second u seen r = on_value (place_of p n scope) seen r (λ seen holds. does did (place_of p n scope) (numbered_reads 1 seen) (if holds then first else second) u)

abbrev do_from : Setting → Scope → ℕ → Head → StmtTrees → Store → List Seen → Result Limits ℕ → Run
do_from p S n h b u seen r = on_value (place_of p n S) seen r (λ seen m. run_from_entry seen (entered_with p n h b seen m) S (place_of p n S) (λ f. run_all p b (n + 1) (f ∷ S)) u)

-- where acts of a DO are done, some of them are done
part_first : (whole : List Act) (start : Store) (acts others : List Act) (u : Store) → IsPartOf whole start (acts ++ others) u → IsPartOf whole start acts u
part_first whole start acts others u d = record { front = d.front; behind = others ++ d.behind; is = d.is ∙ ap (λ (z : List Act). d.front ++ z) (append_assoc acts others d.behind); from = d.from }

part_rest : (whole : List Act) (start : Store) (acts others : List Act) (u : Store) → IsPartOf whole start (acts ++ others) u → IsPartOf whole start others (store_after acts u)
part_rest whole start acts others u d = record {
  front = d.front ++ acts;
  behind = d.behind;
  is = d.is ∙ (ap (λ (z : List Act). d.front ++ z) (append_assoc acts others d.behind) ∙ sym (append_assoc d.front acts (others ++ d.behind)));
  from = ap (store_after acts) d.from ∙ sym (after_append d.front acts start);
}

module _ (p : Setting) (t : ProgramTree) (start : Store) (l : ℕ) (S : Scope) (n : ℕ) (h : Head) (b : StmtTrees) (seen : List Seen) (m : Limits) where
  abbrev Going : Entered
  Going = entered_with p n h b seen m

  abbrev inner_first : (acts others : List Act) (u : Store) → IsInExecution p t start l (acts ++ others) u → IsInExecution p t start l acts u
  inner_first acts others u x = record { loop = x.loop; from = x.from; to = x.to; first = x.first; execution = x.execution; ends = x.ends; part = part_first _ x.first acts others u x.part }

  abbrev inner_rest : (acts others : List Act) (u : Store) → IsInExecution p t start l (acts ++ others) u → IsInExecution p t start l others (store_after acts u)
  inner_rest acts others u x = record { loop = x.loop; from = x.from; to = x.to; first = x.first; execution = x.execution; ends = x.ends; part = part_rest _ x.first acts others u x.part }

  in_trip : (k : ℕ) (front acts others behind : List Act) (u : Store) → 1 ≤ k → k ≤ Going.count → LeaveAll p (frame Going k ∷ S) (n + 1) (statements_count b) others → IsInLoop p t start l S n h b seen m k front (acts ++ others) behind u
      → IsHere p t start l (frame Going k ∷ S) (n + 1) (statements_count b) front acts (others ++ behind) u
  in_trip k front acts others behind u lo hi leave d = record {
    whole = whole_first p t start l front acts others behind d.whole;
    from = d.from;
    inside = (inner_first acts others u d.entering.0, d.entering.1 k lo hi);
    before = d.before k (omega arith);
    after = left_append p (frame Going k ∷ S) (n + 1) (statements_count b) others behind leave (d.after k (omega arith));
  }

  in_last_trip : (k : ℕ) (front acts behind : List Act) (u : Store) → 1 ≤ k → k ≤ Going.count → IsInLoop p t start l S n h b seen m k front acts behind u → IsHere p t start l (frame Going k ∷ S) (n + 1) (statements_count b) front acts behind u
  in_last_trip k front acts behind u lo hi d = record { whole = d.whole; from = d.from; inside = (d.entering.0, d.entering.1 k lo hi); before = d.before k (omega arith); after = d.after k (omega arith) }

  further_on : (k j : ℕ) (front acts others behind : List Act) (u : Store) → k ≤ j → ((i : ℕ) → j ≤ i → LeaveAll p (frame Going i ∷ S) (n + 1) (statements_count b) acts) → IsInLoop p t start l S n h b seen m k front (acts ++ others) behind u
      → IsInLoop p t start l S n h b seen m j (front ++ acts) others behind (store_after acts u)
  further_on k j front acts others behind u later leave d = record {
    whole = whole_rest p t start l front acts others behind d.whole;
    from = from_rest p t start l front acts u d.from;
    entering = (inner_rest acts others u d.entering.0, d.entering.1);
    before = λ i e. left_append p (frame Going i ∷ S) (n + 1) (statements_count b) front acts (d.before i (omega (arith, later, e))) (leave i e);
    after = λ i e. d.after i (omega (arith, later, e));
  }

  before_last : (k : ℕ) (front acts others behind : List Act) (u : Store) → ((i : ℕ) → k ≤ i → LeaveAll p (frame Going i ∷ S) (n + 1) (statements_count b) others) → IsInLoop p t start l S n h b seen m k front (acts ++ others) behind u
      → IsInLoop p t start l S n h b seen m k front acts (others ++ behind) u
  before_last k front acts others behind u leave d = record {
    whole = whole_first p t start l front acts others behind d.whole;
    from = d.from;
    entering = (inner_first acts others u d.entering.0, d.entering.1);
    before = d.before;
    after = λ i e. left_append p (frame Going i ∷ S) (n + 1) (statements_count b) others behind (leave i e) (d.after i e);
  }

module _ (t : ProgramTree) (start : Store) (l : ℕ) (old : StmtTrees) (some : 0 < statements_count old) (stop : some_stop old ≡ false) where
  abbrev p : Setting
  p = setting_of t

  one : IsOneToOne (setting_of t).number
  one m n e = e

  abbrev count : ℕ
  count = statements_count old

  -- an act of an execution of the statements
  pub record IsFound (a : Act) : Type 0 where
    pub scope : Scope
    pub front : List Act
    pub behind : List Act
    pub store : Store
    pub executed : IsExecuted (setting_of t) t start l (statements_count old) scope front (run_all (setting_of t) old l scope store).acts behind store
    pub goes : finish_of (run_all (setting_of t) old l scope store).ending ≡ goes_on
    pub among : IsIn a (run_all (setting_of t) old l scope store).acts
    pub from : l ≤ a.place.statement
    pub to : a.place.statement < l + statements_count old

  -- it is one, or stands in no iteration of a DO among them
  abbrev pub IsPlaced : Act → Type 0
  IsPlaced a = IsFound a ⊎ AreOutside l (l + statements_count old) a.place.turns

  -- of a piece of the program's run that ends without a fault, where acts are done, each act is so
  abbrev AreFound : (List Act → List Act → List Act → Store → Type 0) → (Store → Run) → Type 0
  AreFound Around r = (front behind : List Act) (u : Store) → Around front (r u).acts behind u → Ends (r u).ending → (a : Act) → IsIn a (r u).acts → IsPlaced a

  abbrev Here : Scope → (n many : ℕ) → List Act → List Act → List Act → Store → Type 0
  Here = IsHere (setting_of t) t start l

  abbrev anywhere : List Act → List Act → List Act → Store → Type 0
  anywhere front acts behind u = Unit {0}

  abbrev Out : Act → Type 0
  Out a = AreOutside l (l + statements_count old) a.place.turns

  -- one run and then another
  module _ (Around First Rest : List Act → List Act → List Act → Store → Type 0) (g : Store → Run) (front behind : List Act) (u : Store) (acts : List Act)
      (to_first : (v : Store) → Around front (acts ++ (g v).acts) behind u → First front acts ((g v).acts ++ behind) u) (only : Around front acts behind u → First front acts behind u)
      (to_rest : Around front (acts ++ (g (store_after acts u)).acts) behind u → Rest (front ++ acts) (g (store_after acts u)).acts behind (store_after acts u)) where
    placed : (finish : Finish) → ((b : List Act) → First front acts b u → (a : Act) → IsIn a acts → IsPlaced a) → AreFound Rest g → Around front (followed_by acts (ending_with finish (store_after acts u)) g).acts behind u
        → Ends (followed_by acts (ending_with finish (store_after acts u)) g).ending → (a : Act) → IsIn a (followed_by acts (ending_with finish (store_after acts u)) g).acts → IsPlaced a
    placed goes_on first k d e a i =
        let v = store_after acts u in
        elim (in_parts a acts (g v).acts i) [
          | inl j ↦ first ((g v).acts ++ behind) (to_first v d) a j
          | inr j ↦ k (front ++ acts) behind v (to_rest d) e a j
        ]
    placed stops first k d e a i = first behind (only d) a i
    placed (faults fault n) first k d e a i = absurd e

  then_found : (Around First Rest : List Act → List Act → List Act → Store → Type 0) (f g : Store → Run) → IsToldByActs f
      → ((front behind : List Act) (u v : Store) → Around front ((f u).acts ++ (g v).acts) behind u → First front (f u).acts ((g v).acts ++ behind) u)
      → ((front behind : List Act) (u : Store) → Around front (f u).acts behind u → First front (f u).acts behind u)
      → ((front behind : List Act) (u : Store) → Around front ((f u).acts ++ (g (store_after (f u).acts u)).acts) behind u → Rest (front ++ (f u).acts) (g (store_after (f u).acts u)).acts behind (store_after (f u).acts u))
      → AreFound First f → AreFound Rest g → AreFound Around (λ u. then_run (f u) g)
  then_found Around First Rest f g told to_first only to_rest h k front behind u d e =
      let own = own_run f told u in
      subst (λ (r : Run). Around front (then_run r g).acts behind u → Ends (then_run r g).ending → (a : Act) → IsIn a (then_run r g).acts → IsPlaced a) (sym own)
      (λ done ends a i. placed Around First Rest g front behind u (f u).acts (to_first front behind u) (only front behind u) (to_rest front behind u) (finish_of (f u).ending) (λ b r. h front b u r (first_ends (f u).acts (f u).ending g e)) k done ends a i)
      d e

  -- an act and then a run
  does_found : (step : Step) (at : Place) (touches : List Touch) (next : Store → Run) (u : Store) → AreOutside l (l + statements_count old) at.turns → ((a : Act) → IsIn a (next (store_behind touches u)).acts → IsPlaced a)
      → (a : Act) → IsIn a (does step at touches next u).acts → IsPlaced a
  does_found step at touches next u out h a (inl e) = inr (subst (λ (b : Act). AreOutside l (l + statements_count old) b.place.turns) (sym e) out)
  does_found step at touches next u out h a (inr i) = h a i

  -- other statements
  out_one : (x : StmtTree) (n : ℕ) (scope : Scope) → (n + statement_count x ≤ l) ⊎ (l + count ≤ n) → AreOutside l (l + statements_count old) (turns_of scope) → (u : Store) (a : Act) → IsIn a (run p x n scope u).acts → Out a
  out_one x n scope apart out u a i = outside_other l (l + count) n (n + statement_count x) apart (turns_of scope) a out (one_within t x n scope u a i)

  out_all : (ts : StmtTrees) (n : ℕ) (scope : Scope) → (n + statements_count ts ≤ l) ⊎ (l + count ≤ n) → AreOutside l (l + statements_count old) (turns_of scope) → (u : Store) (a : Act) → IsIn a (run_all p ts n scope u).acts → Out a
  out_all ts n scope apart out u a i = outside_other l (l + count) n (n + statements_count ts) apart (turns_of scope) a out (stands_within t ts n scope u a i)

  -- the statements are in the first of two, or in the rest
  with_first : (scope : Scope) (n many lo more : ℕ) (f g : Store → Run) → lo ≤ n → n + many ≤ lo + more → IsToldByActs f → ((v : Store) → LeaveAll p scope n many (g v).acts) → AreFound (Here scope n many) f → ((v : Store) (a : Act) → IsIn a (g v).acts → Out a)
      → AreFound (Here scope lo more) (λ u. then_run (f u) g)
  with_first scope n many lo more f g below above told leave h out =
      then_found (Here scope lo more) (Here scope n many) anywhere f g told
      (λ front behind u v d. here_first p t start l scope lo more n many front (f u).acts (g v).acts behind u below above (leave v) d)
      (λ front behind u d. here_only p t start l scope lo more n many front (f u).acts behind u below above d)
      (λ front behind u d. tt) h (λ front behind u d e a i. inr (out u a i))

  with_rest : (scope : Scope) (n many lo more : ℕ) (f g : Store → Run) → lo ≤ n → n + many ≤ lo + more → IsToldByActs f → ((v : Store) → LeaveAll p scope n many (f v).acts) → ((v : Store) (a : Act) → IsIn a (f v).acts → Out a) → AreFound (Here scope n many) g
      → AreFound (Here scope lo more) (λ u. then_run (f u) g)
  with_rest scope n many lo more f g below above told leave out h =
      then_found (Here scope lo more) anywhere (Here scope n many) f g told
      (λ front behind u v d. tt) (λ front behind u d. tt)
      (λ front behind u d. here_rest p t start l scope lo more n many front (f u).acts (g (store_after (f u).acts u)).acts behind u below above (leave u) d) (λ front behind u d e a i. inr (out u a i)) h

  -- the statements themselves
  in_place : (scope : Scope) → Stand t l (all_numbered old) → IsPlaceOf p t l scope → AreFound (Here scope l count) (run_all p old l scope)
  in_place scope stand place front behind u d e a i =
      let goes : finish_of (run_all p old l scope u).ending ≡ goes_on = must_go (run_all p old l scope u).ending e (all_unstopped p old l scope u stop) in
      let outer = inside_outer p t start l scope (run_all p old l scope u).acts u d.inside in
      let k = all_in p t old l scope u stand a i in
      let is : a.place.statement ≡ k.number = k.is in
      let from = k.from in
      let to = k.to in
      inl (record {
        scope = scope;
        front = front;
        behind = behind;
        store = u;
        executed = record { place = place; whole = d.whole; from = d.from; outer = outer.0; entered = outer.1; unused_before = d.before.0; unused_behind = d.after.0; only_before = d.before.1; only_behind = d.after.1 };
        goes = goes;
        among = i;
        from = omega (arith, is, from);
        to = omega (arith, is, to);
      })

  -- an IF round them
  then_part : (scope : Scope) (lo many : ℕ) (first second : Store → Run) → AreFound (Here scope lo many) first → ((v : Store) (a : Act) → IsIn a (second v).acts → Out a) → (holds : Bool) → AreFound (Here scope lo many) (if holds then first else second)
  then_part scope lo many first second h out true = h
  then_part scope lo many first second h out false = λ front behind u d e a i. inr (out u a i)

  else_part : (scope : Scope) (lo many : ℕ) (first second : Store → Run) → ((v : Store) (a : Act) → IsIn a (first v).acts → Out a) → AreFound (Here scope lo many) second → (holds : Bool) → AreFound (Here scope lo many) (if holds then first else second)
  else_part scope lo many first second out h true = λ front behind u d e a i. inr (out u a i)
  else_part scope lo many first second out h false = h

  if_found : (scope : Scope) (n lo many : ℕ) (c : CondTree) (a b : StmtTrees) (first second : Store → Run) → n < lo → lo + many ≤ n + statement_count (If c a b) → AreOutside l (l + statements_count old) (turns_of scope)
      → ((holds : Bool) → AreFound (Here scope lo many) (if holds then first else second)) → AreFound (Here scope n (statement_count (If c a b))) (run_if (names_in p scope) (place_of p n scope) c first second)
  if_found scope n lo many c a b first second below above out part front behind u d ends x i = by (truth (names_in p scope) c u).seen (truth (names_in p scope) c u).result refl d ends i
    where
      by : (seen : List Seen) (r : Result Bool ℕ) → truth (names_in p scope) c u ≡ record { seen = seen; result = r } → Here scope n (statement_count (If c a b)) front (if_from p scope n first second u seen r).acts behind u → Ends (if_from p scope n first second u seen r).ending → IsIn x (if_from p scope n first second u seen r).acts → IsPlaced x
      by seen (Err fault) is here ended j = absurd ended
      by seen (Ok holds) is here ended j =
          let condition : Act = act did (place_of p n scope) (numbered_reads 1 seen) in
          let v = store_behind (numbered_reads 1 seen) u in
          does_found did (place_of p n scope) (numbered_reads 1 seen) (if holds then first else second) u out
          (λ y k. part holds (front ++ condition ∷ []) behind v
          (here_rest p t start l scope n (statement_count (If c a b)) lo many front (condition ∷ []) ((if holds then first else second) v).acts behind u (omega (arith, below)) above
          (left_own p one scope n lo many did (numbered_reads 1 seen) below (subst (λ (z : List Seen). Each (λ (w : Touch). IsOwn p scope w.cell) (numbered_reads 1 z)) (ap (λ r. r.seen) is) (condition_own p scope c u))) here) ended y k) x j

  -- a DO round them
  module _ (S : Scope) (n : ℕ) (h : Head) (b : StmtTrees) (out : AreOutside l (l + statements_count old) (turns_of S)) (before : n < l) where
    module _ (seen : List Seen) (m : Limits) (comes : (k : ℕ) → AreFound (Here (frame (entered_with p n h b seen m) k ∷ S) (n + 1) (statements_count b)) (run_all p b (n + 1) (frame (entered_with p n h b seen m) k ∷ S))) where
      abbrev e : Entered
      e = entered_with p n h b seen m

      abbrev Trip : Frame → Store → Run
      Trip f = run_all p b (n + 1) (f ∷ S)

      abbrev Looping : ℕ → List Act → List Act → List Act → Store → Type 0
      Looping = IsInLoop p t start l S n h b seen m

      abbrev Ended : ℕ → Act
      Ended left = act (ended_turn left) (place_of p n S) (exit_when_none left e S)

      abbrev Closing : Act
      Closing = act closed (place_of p n S) (exit_touches e S)

      turns_found : (left k : ℕ) → 1 ≤ k → k + left ≡ e.count + 1 → AreFound (Looping k) (turns left k e S (place_of p n S) Trip)
      turns_found zero k lo whole = λ front behind u d ends a i. absurd i
      turns_found (suc left) k lo whole =
          let ending : (i : ℕ) → LeaveAll p (frame e i ∷ S) (n + 1) (statements_count b) (Ended left ∷ []) =
          λ i. left_end p one n h b seen m S i (n + 1) (statements_count b) (ended_turn left) (exit_when_none left e S) (omega arith) (exit_when_own p S left e) in
          let hi : k ≤ e.count = omega (arith, whole) in
          then_found (Looping k) (Here (frame e k ∷ S) (n + 1) (statements_count b)) (Looping (k + 1)) (Trip (frame e k))
          (does (ended_turn left) (place_of p n S) (exit_when_none left e S) (turns left (k + 1) e S (place_of p n S) Trip)) (all_told p b (n + 1) (frame e k ∷ S))
          (λ front behind u v d. in_trip p t start l S n h b seen m k front (Trip (frame e k) u).acts (Ended left ∷ (turns left (k + 1) e S (place_of p n S) Trip (store_behind (exit_when_none left e S) v)).acts) behind u lo hi
          (left_append p (frame e k ∷ S) (n + 1) (statements_count b) (Ended left ∷ []) (turns left (k + 1) e S (place_of p n S) Trip (store_behind (exit_when_none left e S) v)).acts (ending k)
          (left_turns p one n h b seen m S left (k + 1) (store_behind (exit_when_none left e S) v) k (n + 1) (statements_count b) (omega arith) (omega arith))) d)
          (λ front behind u d. in_last_trip p t start l S n h b seen m k front (Trip (frame e k) u).acts behind u lo hi d)
          (λ front behind u d.
          let v = store_after (Trip (frame e k) u).acts u in
          further_on p t start l S n h b seen m k (k + 1) front (Trip (frame e k) u).acts (Ended left ∷ (turns left (k + 1) e S (place_of p n S) Trip (store_behind (exit_when_none left e S) v)).acts) behind u (omega arith)
          (λ i q. left_body p one n h b seen m S i k u (n + 1) (statements_count b) (λ same. omega (arith, q, same))) d)
          (comes k)
          (λ front behind u d ends a i. does_found (ended_turn left) (place_of p n S) (exit_when_none left e S) (turns left (k + 1) e S (place_of p n S) Trip) u out
          (turns_found left (k + 1) (omega arith) (omega (arith, whole)) (front ++ Ended left ∷ []) behind (store_behind (exit_when_none left e S) u)
          (further_on p t start l S n h b seen m (k + 1) (k + 1) front (Ended left ∷ []) (turns left (k + 1) e S (place_of p n S) Trip (store_behind (exit_when_none left e S) u)).acts behind u (omega arith) (λ i q. ending i) d) ends) a i)

      parallel_found : (left k : ℕ) → 1 ≤ k → k + left ≡ e.count + 1 → AreFound (Looping k) (parallel_turns left k e Trip)
      parallel_found zero k lo whole = λ front behind u d ends a i. absurd i
      parallel_found (suc left) k lo whole =
          let hi : k ≤ e.count = omega (arith, whole) in
          then_found (Looping k) (Here (frame e k ∷ S) (n + 1) (statements_count b)) (Looping (k + 1)) (Trip (frame e k)) (parallel_turns left (k + 1) e Trip) (all_told p b (n + 1) (frame e k ∷ S))
          (λ front behind u v d. in_trip p t start l S n h b seen m k front (Trip (frame e k) u).acts (parallel_turns left (k + 1) e Trip v).acts behind u lo hi (left_parallel p one n h b seen m S left (k + 1) v k (n + 1) (statements_count b) (omega arith)) d)
          (λ front behind u d. in_last_trip p t start l S n h b seen m k front (Trip (frame e k) u).acts behind u lo hi d)
          (λ front behind u d. further_on p t start l S n h b seen m k (k + 1) front (Trip (frame e k) u).acts (parallel_turns left (k + 1) e Trip (store_after (Trip (frame e k) u).acts u)).acts behind u (omega arith)
          (λ i q. left_body p one n h b seen m S i k u (n + 1) (statements_count b) (λ same. omega (arith, q, same))) d)
          (comes k) (parallel_found left (k + 1) (omega arith) (omega (arith, whole)))

      entered_found : (parallel : Bool) (so_many : ℕ) → so_many ≡ e.count → AreFound (Looping 1) (run_entered parallel so_many e S (place_of p n S) Trip)
      entered_found parallel zero is = λ front behind u d ends a i. absurd i
      entered_found false (suc more) is = turns_found (suc more) 1 (omega arith) (omega (arith, is))
      entered_found true (suc more) is =
          then_found (Looping 1) (Looping 1) anywhere (parallel_turns (suc more) 1 e Trip) (does closed (place_of p n S) (exit_touches e S) nothing_done)
          (parallel_told e Trip (λ f. all_told p b (n + 1) (f ∷ S)) (suc more) 1)
          (λ front behind u v d. before_last p t start l S n h b seen m 1 front (parallel_turns (suc more) 1 e Trip u).acts (Closing ∷ []) behind u
          (λ i q. left_end p one n h b seen m S i (n + 1) (statements_count b) closed (exit_touches e S) (omega arith) (exit_own p S e)) d)
          (λ front behind u d. d)
          (λ front behind u d. tt)
          (parallel_found (suc more) 1 (omega arith) (omega (arith, is)))
          (λ front behind u d ends a i. does_found closed (place_of p n S) (exit_touches e S) nothing_done u out (λ y k. absurd k) a i)

    do_found : statement_with n t ≡ Some (Do h b) → l ≤ n + statements_count b → (S ≡ [] → n ≡ outermost_or l (nest_round t l))
        → ((seen : List Seen) (m : Limits) (k : ℕ) → AreFound (Here (frame (entered_with p n h b seen m) k ∷ S) (n + 1) (statements_count b)) (run_all p b (n + 1) (frame (entered_with p n h b seen m) k ∷ S)))
        → AreFound (Here S n (statement_count (Do h b))) (run p (Do h b) n S)
    do_found there reach outermost comes front behind u d ends x i = by (limits (names_in p S) h u).seen (limits (names_in p S) h u).result refl (d, refl) ends i
      where
        by : (seen : List Seen) (r : Result Limits ℕ) → limits (names_in p S) h u ≡ record { seen = seen; result = r } → Here S n (statement_count (Do h b)) front (do_from p S n h b u seen r).acts behind u × (run p (Do h b) n S u ≡ do_from p S n h b u seen r) → Ends (do_from p S n h b u seen r).ending → IsIn x (do_from p S n h b u seen r).acts → IsPlaced x
        by seen (Err fault) is here ended j = absurd ended
        by seen (Ok m) is here ended j =
            let e = entered_with p n h b seen m in
            let v = store_behind (entry_touches seen e S) u in
            let more = (run_entered h.parallel e.count e S (place_of p n S) (λ f. run_all p b (n + 1) (f ∷ S)) v).acts in
            let entry : Act = act (entered e.count) (place_of p n S) (entry_touches seen e S) in
            let part : IsPartOf (run_all p t.body 1 [] start).acts start (entry ∷ more) u = record { front = front; behind = behind; is = here.0.whole; from = here.0.from } in
            let y = executing p t start l S n h b seen m more u there is (ap (λ (r : Run). r.acts) here.1) outermost (omega (arith, before)) reach ends part here.0.inside in
            does_found (entered e.count) (place_of p n S) (entry_touches seen e S) (run_entered h.parallel e.count e S (place_of p n S) (λ f. run_all p b (n + 1) (f ∷ S))) u out
            (entered_found seen m (comes seen m) h.parallel e.count refl (front ++ entry ∷ []) behind v (enter p t start l S n h b seen m one (statement_count (Do h b)) front more behind u (omega arith) y is here.0) ended) x j

  -- the loops that are left
  into_first : (x : StmtTree) (rest : StmtTrees) (n : ℕ) (scope : Scope) → l ≤ n + statement_count x → IsReached p t l scope n (all_numbered (more_stmts x rest)) (all_loops_round l (more_stmts x rest) n) → IsReached p t l scope n (numbered x) (loops_round l x n)
  into_first x rest n scope h =
      reached_with p t l scope n n (all_numbered (more_stmts x rest)) (numbered x) (all_loops_round l (more_stmts x rest) n) (loops_round l x n) (first_stands t n (numbered x) (all_numbered rest))
      (none_left (loops_round l x n) (all_loops_round l rest (n + statement_count x)) (all_none_from l rest (n + statement_count x) h))

  into_rest : (x : StmtTree) (rest : StmtTrees) (n : ℕ) (scope : Scope) → n + statement_count x ≤ l → IsReached p t l scope n (all_numbered (more_stmts x rest)) (all_loops_round l (more_stmts x rest) n)
      → IsReached p t l scope (n + statement_count x) (all_numbered rest) (all_loops_round l rest (n + statement_count x))
  into_rest x rest n scope h =
      reached_with p t l scope n (n + statement_count x) (all_numbered (more_stmts x rest)) (all_numbered rest) (all_loops_round l (more_stmts x rest) n) (all_loops_round l rest (n + statement_count x)) (rest_stands t x rest n)
      (none_first (loops_round l x n) (all_loops_round l rest (n + statement_count x)) (none_before l x n h))

  into_then : (c : CondTree) (a b : StmtTrees) (n : ℕ) (scope : Scope) → l ≤ n + 1 + statements_count a → IsReached p t l scope n (numbered (If c a b)) (loops_round l (If c a b) n) → IsReached p t l scope (n + 1) (all_numbered a) (all_loops_round l a (n + 1))
  into_then c a b n scope h =
      reached_with p t l scope n (n + 1) (numbered (If c a b)) (all_numbered a) (loops_round l (If c a b) n) (all_loops_round l a (n + 1))
      (λ w. first_stands t (n + 1) (all_numbered a) (all_numbered b) (inner_stands t (If c a b) (all_numbered a ++ all_numbered b) n w))
      (none_left (all_loops_round l a (n + 1)) (all_loops_round l b (n + 1 + statements_count a)) (all_none_from l b (n + 1 + statements_count a) h))

  into_else : (c : CondTree) (a b : StmtTrees) (n : ℕ) (scope : Scope) → n + 1 + statements_count a ≤ l → IsReached p t l scope n (numbered (If c a b)) (loops_round l (If c a b) n)
      → IsReached p t l scope (n + 1 + statements_count a) (all_numbered b) (all_loops_round l b (n + 1 + statements_count a))
  into_else c a b n scope h =
      reached_with p t l scope n (n + 1 + statements_count a) (numbered (If c a b)) (all_numbered b) (loops_round l (If c a b) n) (all_loops_round l b (n + 1 + statements_count a))
      (λ w. else_stands t a b (n + 1) (inner_stands t (If c a b) (all_numbered a ++ all_numbered b) n w))
      (none_first (all_loops_round l a (n + 1)) (all_loops_round l b (n + 1 + statements_count a)) (all_none_before l a (n + 1) h))

  -- the way down to them
  all_found : (gap : Gap) (n : ℕ) (scope : Scope) → AreOutside l (l + statements_count old) (turns_of scope) → number_at gap n ≡ l → IsReached p t l scope n (all_numbered (filled gap old)) (all_loops_round l (filled gap old) n)
      → AreFound (Here scope n (statements_count (filled gap old))) (run_all p (filled gap old) n scope)
  all_found (at_front rest) n scope out e r =
      let size = counted old rest in
      let stood : Stand t n (all_numbered old ++ all_numbered rest) = subst (Stand t n) (followed_numbered old rest) r.stand in
      subst (λ (f : Store → Run). AreFound (Here scope n (statements_count (followed old rest))) f) (sym (run_followed p old rest n scope))
      (with_first scope n count n (statements_count (followed old rest)) (run_all p old n scope) (run_all p rest (n + count) scope) (omega arith) (omega (arith, size)) (all_told p old n scope)
      (λ v. left_all p one t rest (n + count) scope v n count (else_stands t old rest n stood) (inr (omega arith)))
      (subst (λ (k : ℕ). AreFound (Here scope k count) (run_all p old k scope)) (sym e)
      (in_place scope (subst (λ (k : ℕ). Stand t k (all_numbered old)) e (first_stands t n (all_numbered old) (all_numbered rest) stood))
      (reached_place p t l scope n (all_numbered (followed old rest)) (all_loops_round l (followed old rest) n) (all_none_from l (followed old rest) n (omega (arith, e))) r)))
      (out_all rest (n + count) scope (inr (omega (arith, e))) out))
  all_found (past x gap) n scope out e r =
      let from = number_from gap (n + statement_count x) in
      let earlier : n + statement_count x ≤ l = omega (arith, from, e) in
      with_rest scope (n + statement_count x) (statements_count (filled gap old)) n (statements_count (more_stmts x (filled gap old))) (run p x n scope) (run_all p (filled gap old) (n + statement_count x) scope)
      (omega arith) (omega arith) (run_told p x n scope) (λ v. left_run p one t x n scope v (n + statement_count x) (statements_count (filled gap old)) (first_stands t n (numbered x) (all_numbered (filled gap old)) r.stand) (inl (omega arith)))
      (out_one x n scope (inl earlier) out)
      (all_found gap (n + statement_count x) scope out e (into_rest x (filled gap old) n scope earlier r))
  all_found (in_then c gap b rest) n scope out e r =
      let a = filled gap old in
      let from = number_from gap (n + 1) in
      let room = number_room gap old (n + 1) in
      let inside : l + count ≤ n + statement_count (If c a b) = omega (arith, room, e) in
      with_first scope n (statement_count (If c a b)) n (statements_count (more_stmts (If c a b) rest)) (run p (If c a b) n scope) (run_all p rest (n + statement_count (If c a b)) scope) (omega arith) (omega arith) (run_told p (If c a b) n scope)
      (λ v. left_all p one t rest (n + statement_count (If c a b)) scope v n (statement_count (If c a b)) (rest_stands t (If c a b) rest n r.stand) (inr (omega arith)))
      (if_found scope n (n + 1) (statements_count a) c a b (run_all p a (n + 1) scope) (run_all p b (n + 1 + statements_count a) scope) (omega arith) (omega arith) out
      (then_part scope (n + 1) (statements_count a) (run_all p a (n + 1) scope) (run_all p b (n + 1 + statements_count a) scope)
      (all_found gap (n + 1) scope out e (into_then c a b n scope (omega (arith, room, e)) (into_first (If c a b) rest n scope (omega (arith, inside)) r)))
      (out_all b (n + 1 + statements_count a) scope (inr (omega (arith, room, e))) out)))
      (out_all rest (n + statement_count (If c a b)) scope (inr inside) out)
  all_found (in_else c a gap rest) n scope out e r =
      let b = filled gap old in
      let from = number_from gap (n + 1 + statements_count a) in
      let room = number_room gap old (n + 1 + statements_count a) in
      let inside : l + count ≤ n + statement_count (If c a b) = omega (arith, room, e) in
      with_first scope n (statement_count (If c a b)) n (statements_count (more_stmts (If c a b) rest)) (run p (If c a b) n scope) (run_all p rest (n + statement_count (If c a b)) scope) (omega arith) (omega arith) (run_told p (If c a b) n scope)
      (λ v. left_all p one t rest (n + statement_count (If c a b)) scope v n (statement_count (If c a b)) (rest_stands t (If c a b) rest n r.stand) (inr (omega arith)))
      (if_found scope n (n + 1 + statements_count a) (statements_count b) c a b (run_all p a (n + 1) scope) (run_all p b (n + 1 + statements_count a) scope) (omega arith) (omega arith) out
      (else_part scope (n + 1 + statements_count a) (statements_count b) (run_all p a (n + 1) scope) (run_all p b (n + 1 + statements_count a) scope)
      (out_all a (n + 1) scope (inl (omega (arith, from, e))) out)
      (all_found gap (n + 1 + statements_count a) scope out e (into_else c a b n scope (omega (arith, from, e)) (into_first (If c a b) rest n scope (omega (arith, inside)) r)))))
      (out_all rest (n + statement_count (If c a b)) scope (inr inside) out)
  all_found (in_body h gap rest) n scope out e r =
      let b = filled gap old in
      let from = number_from gap (n + 1) in
      let room = number_room gap old (n + 1) in
      let inside : l + count ≤ n + statement_count (Do h b) = omega (arith, room, e) in
      let before : n < l = omega (arith, from, e) in
      let loops = one_more l h b n (omega (arith, from, e)) (omega (arith, room, e, some)) in
      let reached = into_first (Do h b) rest n scope (omega (arith, inside)) r in
      with_first scope n (statement_count (Do h b)) n (statements_count (more_stmts (Do h b) rest)) (run p (Do h b) n scope) (run_all p rest (n + statement_count (Do h b)) scope) (omega arith) (omega arith) (run_told p (Do h b) n scope)
      (λ v. left_all p one t rest (n + statement_count (Do h b)) scope v n (statement_count (Do h b)) (rest_stands t (Do h b) rest n r.stand) (inr (omega arith)))
      (do_found scope n h b out before (is_there t (Do h b) (all_numbered b) n reached.stand) (omega (arith, room, e, some))
      (λ none. outermost_is p t start l scope n h (Do h b ∷ all_numbered b) (loops_round l (Do h b) n) (all_loops_round l b (n + 1)) (ap turns_of none) loops reached)
      (λ seen m k. all_found gap (n + 1) (frame (entered_with p n h b seen m) k ∷ scope) (outside_deeper l (l + count) (turns_of scope) (frame (entered_with p n h b seen m) k).turn before out) e
      (reached_body p t l scope n k h b seen m (loops_round l (Do h b) n) (all_loops_round l b (n + 1)) loops reached)))
      (out_all rest (n + statement_count (Do h b)) scope (inr inside) out)

  -- the whole program
  pub each_placed : (gap : Gap) → t.body ≡ filled gap old → number_at gap 1 ≡ l → Ends (run_all (setting_of t) t.body 1 [] start).ending → (a : Act) → IsIn a (run_all (setting_of t) t.body 1 [] start).acts → IsPlaced a
  each_placed gap body at =
      let reached : IsReached p t l [] 1 (all_numbered (filled gap old)) (all_loops_round l (filled gap old) 1) = record {
        stand = subst (λ (ts : StmtTrees). Stand t 1 (all_numbered ts)) body (whole_stands t);
        iterations = tt;
        front = [];
        nest = ap (λ (ts : StmtTrees). all_loops_round l ts 1) body;
        turns = tt;
      } in
      let here : Here [] 1 (statements_count (filled gap old)) [] (run_all p t.body 1 [] start).acts [] start = record {
        whole = sym (append-nil (run_all p t.body 1 [] start).acts);
        from = refl;
        inside = tt;
        before = left_none p [] 1 (statements_count (filled gap old));
        after = left_none p [] 1 (statements_count (filled gap old));
      } in
      let found = subst (λ (ts : StmtTrees). AreFound (Here [] 1 (statements_count (filled gap old))) (run_all p ts 1 [])) (sym body) (all_found gap 1 [] tt at reached) in
      found [] [] start here
