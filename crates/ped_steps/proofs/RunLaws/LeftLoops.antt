-- What comes behind an execution of a DO, and the entry of the outermost DO round one.
use Rattle.std.proofs.Common.{◌≡◌, ℕ, zero, suc, ◌+◌, ◌≤◌, List, [], ◌∷◌, ◌++◌, Bool, true, false, eqb-true, ◌&&◌, Some, Result, Ok, Err, refl, sym, ap, subst, ◌∙◌, arith}
use Rattle.std.specs.Prelude.{◌==◌}
use Rattle.std.proofs.lemmas.List.{append-nil, append_assoc}
use Rattle.ped_tree.specs.Tree.{Head, StmtTrees, Do, ProgramTree}
use Rattle.ped_tree.specs.Nests.{Loop}
use Rattle.ped_tree.specs.Numbering.{statement_with, statements_count}
use Rattle.ped_weaves.specs.ped_store.specs.Stores.{Store}
use Rattle.ped_weaves.specs.ped_store.specs.Acts.{Place, Act, entered, ended_turn, closed, store_behind}
use Rattle.ped_weaves.specs.ped_eval.specs.Scopes.{Setting, Frame, Scope, names_in, place_of}
use Rattle.ped_weaves.specs.ped_eval.specs.Evaluation.{Seen}
use Rattle.ped_weaves.specs.ped_eval.specs.Loops.{Limits, limits, Entered, entered_with, frame, exit_touches, exit_when_none, entry_touches}
use Rattle.ped_weaves.specs.ped_eval.specs.Runs.{Ending, going, stopped, failed, Run, nothing_done, followed_by, does, on_value, turns, parallel_turns, run_entered, run_from_entry, run, run_all}
use Rattle.ped_weaves.specs.ped_eval.specs.Outcomes.{Ends}
use Rattle.ped_weaves.specs.ped_laws.specs.Runs.Replaying.{goes_on, finish_of, act}
use Rattle.ped_weaves.specs.ped_flow.specs.Questions.{LoopOf}
use Rattle.ped_weaves.specs.ped_flow.specs.PlainBounds.{nest_round, outermost_or}
use Rattle.ped_weaves.specs.ped_laws.specs.FlowRuns.Entries.{IsEntry}
use Rattle.ped_weaves.specs.ped_laws.specs.FlowRuns.Exits.{is_exit, IsExit}
use Rattle.ped_steps.specs.Runs.Pasting.{AreTurnsOf, IsPlaceOf, IsPartOf, IsDone, IsInExecution}

-- the last act of a DO leaves it
record IsLeft (at : Place) (acts : List Act) : Type 0 where
  front : List Act
  last : Act
  whole : acts ≡ front ++ last ∷ []
  exit : is_exit last.step ≡ true
  place : last.place ≡ at

left_behind : (at : Place) (acts others : List Act) → IsLeft at others → IsLeft at (acts ++ others)
left_behind at acts others h = record { front = acts ++ h.front; last = h.last; whole = ap (λ (z : List Act). acts ++ z) h.whole ∙ sym (append_assoc acts h.front (h.last ∷ [])); exit = h.exit; place = h.place }

after_body : (at : Place) (acts : List Act) (e : Ending) (next : Store → Run) → finish_of (followed_by acts e next).ending ≡ goes_on → ((u : Store) → finish_of (next u).ending ≡ goes_on → IsLeft at (next u).acts) → IsLeft at (followed_by acts e next).acts
after_body at acts (going u) next h k = left_behind at acts (next u).acts (k u h)
after_body at acts (stopped u) next h k = absurd cc
after_body at acts (failed fault n) next h k = absurd cc

module _ (e : Entered) (scope : Scope) (at : Place) (body : Frame → Store → Run) where
  turns_left : (n k : ℕ) (s : Store) → finish_of (turns (suc n) k e scope at body s).ending ≡ goes_on → IsLeft at (turns (suc n) k e scope at body s).acts
  turns_left zero k s h =
      after_body at (body (frame e k) s).acts (body (frame e k) s).ending (does (ended_turn zero) at (exit_when_none zero e scope) (turns zero (k + 1) e scope at body)) h
      (λ u g. record { front = []; last = act (ended_turn 0) at (exit_when_none 0 e scope); whole = refl; exit = refl; place = refl })
  turns_left (suc n) k s h =
      after_body at (body (frame e k) s).acts (body (frame e k) s).ending (does (ended_turn (suc n)) at (exit_when_none (suc n) e scope) (turns (suc n) (k + 1) e scope at body)) h
      (λ u g. left_behind at (act (ended_turn (suc n)) at (exit_when_none (suc n) e scope) ∷ []) (turns (suc n) (k + 1) e scope at body (store_behind (exit_when_none (suc n) e scope) u)).acts
      (turns_left n (k + 1) (store_behind (exit_when_none (suc n) e scope) u) g))

  entered_left : (parallel : Bool) (n : ℕ) (s : Store) (entry : Act) → entry.place ≡ at → entry.step ≡ entered n → finish_of (run_entered parallel n e scope at body s).ending ≡ goes_on → IsLeft at (entry ∷ (run_entered parallel n e scope at body s).acts)
  entered_left parallel zero s entry p q h = record { front = []; last = entry; whole = refl; exit = ap is_exit q; place = p }
  entered_left false (suc n) s entry p q h = left_behind at (entry ∷ []) (turns (suc n) 1 e scope at body s).acts (turns_left n 1 s h)
  entered_left true (suc n) s entry p q h =
      left_behind at (entry ∷ []) (run_entered true (suc n) e scope at body s).acts
      (after_body at (parallel_turns (suc n) 1 e body s).acts (parallel_turns (suc n) 1 e body s).ending (does closed at (exit_touches e scope) nothing_done) h
      (λ u g. record { front = []; last = act closed at (exit_touches e scope); whole = refl; exit = refl; place = refl }))

do_left : (p : Setting) (h : Head) (b : StmtTrees) (n : ℕ) (scope : Scope) (s : Store) → finish_of (run p (Do h b) n scope s).ending ≡ goes_on → IsLeft (place_of p n scope) (run p (Do h b) n scope s).acts
do_left p h b n scope s g = by (limits (names_in p scope) h s).seen (limits (names_in p scope) h s).result g
  where
    Body : Frame → Store → Run
    Body f = run_all p b (n + 1) (f ∷ scope)

    by : (seen : List Seen) (r : Result Limits ℕ) → finish_of (on_value (place_of p n scope) seen r (λ seen m. run_from_entry seen (entered_with p n h b seen m) scope (place_of p n scope) Body s)).ending ≡ goes_on
        → IsLeft (place_of p n scope) (on_value (place_of p n scope) seen r (λ seen m. run_from_entry seen (entered_with p n h b seen m) scope (place_of p n scope) Body s)).acts
    by seen (Ok m) k =
        let e = entered_with p n h b seen m in
        entered_left e scope (place_of p n scope) Body h.parallel e.count (store_behind (entry_touches seen e scope) s) (act (entered e.count) (place_of p n scope) (entry_touches seen e scope)) refl refl k
    by seen (Err fault) k = absurd cc

number_itself : (n : ℕ) → (n == n) ≡ true
number_itself n = grind (arith, eqb-true)

pub execution_left : (p : Setting) (t : ProgramTree) (start : Store) (l : ℕ) (loop : LoopOf t l) (scope : Scope) (u : Store) → Ends (run_all p t.body 1 [] start).ending → IsPlaceOf p t l scope
    → (done : IsDone p t start l scope (run p (Do loop.head loop.body) l scope u).acts u) → finish_of (run p (Do loop.head loop.body) l scope u).ending ≡ goes_on → IsExit p t start l scope done.part.behind
execution_left p t start l loop scope u ends place done goes =
    let h = do_left p loop.head loop.body l scope u goes in
    record {
      ends = ends;
      front = done.part.front ++ h.front;
      act = h.last;
      whole = done.part.is ∙ (ap (λ (z : List Act). done.part.front ++ (z ++ done.part.behind)) h.whole
          ∙ (ap (λ (z : List Act). done.part.front ++ z) (append_assoc h.front (h.last ∷ []) done.part.behind) ∙ sym (append_assoc done.part.front h.front (h.last ∷ done.part.behind))));
      leaves = (λ i. ((h.place i).statement == p.number l) && h.exit i) ∙ ap (λ (b : Bool). b && true) (number_itself (p.number l));
      iterations = place.iterations;
      place = h.place;
    }

-- acts are a part of themselves
part_itself : (acts : List Act) (u : Store) → IsPartOf acts u acts u
part_itself acts u = record { front = []; behind = []; is = sym (append-nil acts); from = refl }

-- the outermost DO round an execution is entered
pub execution_entered : (p : Setting) (t : ProgramTree) (start : Store) (l : ℕ) (acts : List Act) (u : Store) → (x : IsInExecution p t start l acts u) → IsEntry p t start l x.execution.front
execution_entered p t start l acts u x = by (limits (names_in p []) x.loop.head x.first).seen (limits (names_in p []) x.loop.head x.first).result x.ends x.execution.is
  where
    m : ℕ
    m = outermost_or l (nest_round t l)

    Entered : List Seen → Result Limits ℕ → Run
    Entered seen r = on_value (place_of p m []) seen r (λ seen k. run_from_entry seen (entered_with p m x.loop.head x.loop.body seen k) [] (place_of p m []) (λ f. run_all p x.loop.body (m + 1) (f ∷ [])) x.first)

    by : (seen : List Seen) (r : Result Limits ℕ) → Ends (Entered seen r).ending → (run_all p t.body 1 [] start).acts ≡ x.execution.front ++ ((Entered seen r).acts ++ x.execution.behind) → IsEntry p t start l x.execution.front
    by seen (Ok k) ends is =
        let e = entered_with p m x.loop.head x.loop.body seen k in
        record {
          act = act (entered e.count) (place_of p m []) (entry_touches seen e []);
          behind = (run_entered x.loop.head.parallel e.count e [] (place_of p m []) (λ f. run_all p x.loop.body (m + 1) (f ∷ [])) (store_behind (entry_touches seen e []) x.first)).acts ++ x.execution.behind;
          whole = is;
          count = e.count;
          enters = refl;
          outermost = refl;
          number = m;
          loop = x.loop;
          is = refl;
          from = x.from;
          to = x.to;
        }
    by seen (Err fault) ends is = absurd ends

-- of a DO that is the outermost itself, the execution is this one
no_turns : (number : ℕ → ℕ) (nest : List Loop) → AreTurnsOf number nest [] → nest ≡ []
no_turns number [] h = refl
no_turns number (m ∷ ms) h = absurd h

pub going_ends : (e : Ending) → finish_of e ≡ goes_on → Ends e
going_ends (going u) h = tt
going_ends (stopped u) h = absurd cc
going_ends (failed fault n) h = absurd cc

pub loop_entered : (p : Setting) (t : ProgramTree) (start : Store) (l : ℕ) (loop : LoopOf t l) (scope : Scope) (u : Store) → IsPlaceOf p t l scope → IsDone p t start l scope (run p (Do loop.head loop.body) l scope u).acts u
    → finish_of (run p (Do loop.head loop.body) l scope u).ending ≡ goes_on → IsInExecution p t start l (run p (Do loop.head loop.body) l scope u).acts u
loop_entered p t start l loop (f ∷ fs) u place done goes = done.outer
loop_entered p t start l loop [] u place done goes =
    let is : l ≡ outermost_or l (nest_round t l) = sym (ap (outermost_or l) (no_turns p.number (nest_round t l) place.turns)) in
    record {
      loop = record { head = loop.head; body = loop.body; is = subst (λ (m : ℕ). statement_with m t ≡ Some (Do loop.head loop.body)) is loop.is };
      from = subst (λ (m : ℕ). m ≤ l) is (omega arith);
      to = subst (λ (m : ℕ). l ≤ m + statements_count loop.body) is (omega arith);
      first = u;
      execution = subst (λ (m : ℕ). IsPartOf (run_all p t.body 1 [] start).acts start (run p (Do loop.head loop.body) m [] u).acts u) is done.part;
      ends = subst (λ (m : ℕ). Ends (run p (Do loop.head loop.body) m [] u).ending) is (going_ends (run p (Do loop.head loop.body) l [] u).ending goes);
      part = subst (λ (m : ℕ). IsPartOf (run p (Do loop.head loop.body) m [] u).acts u (run p (Do loop.head loop.body) l [] u).acts u) is (part_itself (run p (Do loop.head loop.body) l [] u).acts u);
    }
