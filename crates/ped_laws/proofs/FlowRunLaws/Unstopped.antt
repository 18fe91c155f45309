-- Statements without a STOP don't stop a run.
use Rattle.std.proofs.Common.{◌≡◌, ℕ, zero, suc, ◌+◌, List, ◌∷◌, Bool, true, false, Option, Some, None, Result, Ok, Err, if◌then◌else◌, sym}
use Rattle.ped_flow.specs.ped_tree.specs.Tree.{StmtTree, StmtTrees, Assign, If, Do, Print, Read, Stop, Comment, no_stmts, more_stmts}
use Rattle.ped_flow.specs.ped_tree.specs.Numbering.{statement_count, statements_count}
use Rattle.ped_eval.specs.ped_store.specs.Stores.{Store}
use Rattle.ped_eval.specs.ped_store.specs.Acts.{Place, did, ended_turn, Act, store_behind}
use Rattle.ped_eval.specs.Scopes.{Frame, Scope, Setting, names_in, place_of}
use Rattle.ped_eval.specs.Evaluation.{Seen, numbered}
use Rattle.ped_eval.specs.Values.{truth}
use Rattle.ped_eval.specs.Statements.{assigned, assignment_touches, printed_line, print_touches, Taking, reading}
use Rattle.ped_eval.specs.Loops.{limits, Entered, entered_with, frame, exit_when_none, entry_touches}
use Rattle.ped_eval.specs.Runs.{Ending, going, stopped, failed, Run, followed_by, on_value, does, nothing_done, run_taking, turns, parallel_turns, run_entered, run_from_entry, run, run_all}
use Rattle.ped_flow.proofs.Truths.{untrue, or_none}
use Rattle.ped_laws.specs.FlowRuns.Covering.{has_stop, some_stop}

-- no STOP has ended the run
abbrev pub IsUnstopped : Ending → Type 0
IsUnstopped (going s) = Unit {0}
IsUnstopped (stopped s) = ⊥
IsUnstopped (failed fault n) = Unit {0}

followed_unstopped : (acts : List Act) (e : Ending) (next : Store → Run) → IsUnstopped e → ((u : Store) → IsUnstopped (next u).ending) → IsUnstopped (followed_by acts e next).ending
followed_unstopped acts (going s) next h k = k s
followed_unstopped acts (stopped s) next h k = h
followed_unstopped acts (failed fault n) next h k = tt

on_unstopped : {A : Type 0} (at : Place) (seen : List Seen) (r : Result A ℕ) (next : List Seen → A → Run) → ((a : A) → IsUnstopped (next seen a).ending) → IsUnstopped (on_value at seen r next).ending
on_unstopped at seen (Ok a) next h = h a
on_unstopped at seen (Err n) next h = tt

taking_unstopped : (at : Place) (t : Taking) (o : Option ℕ) (s : Store) → IsUnstopped (run_taking at t o s).ending
taking_unstopped at t None s = tt
taking_unstopped at t (Some n) s = tt

module _ (e : Entered) (S : Scope) (at : Place) (body : Frame → Store → Run) (h : (f : Frame) (u : Store) → IsUnstopped (body f u).ending) where
  turns_unstopped : (n k : ℕ) (s : Store) → IsUnstopped (turns n k e S at body s).ending
  turns_unstopped zero k s = tt
  turns_unstopped (suc n) k s =
      followed_unstopped (body (frame e k) s).acts (body (frame e k) s).ending (does (ended_turn n) at (exit_when_none n e S) (turns n (k + 1) e S at body)) (h (frame e k) s)
      (λ u. turns_unstopped n (k + 1) (store_behind (exit_when_none n e S) u))

  parallel_unstopped : (n k : ℕ) (s : Store) → IsUnstopped (parallel_turns n k e body s).ending
  parallel_unstopped zero k s = tt
  parallel_unstopped (suc n) k s = followed_unstopped (body (frame e k) s).acts (body (frame e k) s).ending (parallel_turns n (k + 1) e body) (h (frame e k) s) (parallel_unstopped n (k + 1))

  entered_unstopped : (parallel : Bool) (n : ℕ) (s : Store) → IsUnstopped (run_entered parallel n e S at body s).ending
  entered_unstopped true zero s = tt
  entered_unstopped false zero s = tt
  entered_unstopped false (suc n) s = turns_unstopped (suc n) 1 s
  entered_unstopped true (suc n) s = followed_unstopped (parallel_turns (suc n) 1 e body s).acts (parallel_turns (suc n) 1 e body s).ending _ (parallel_unstopped (suc n) 1 s) (λ u. tt)

part_unstopped : (holds : Bool) (a b : Store → Run) (s : Store) → ((u : Store) → IsUnstopped (a u).ending) → ((u : Store) → IsUnstopped (b u).ending) → IsUnstopped ((if holds then a else b) s).ending
part_unstopped true a b s h k = h s
part_unstopped false a b s h k = k s

module _ (p : Setting) where
  mutual
    pub unstopped : (t : StmtTree) (n : ℕ) (S : Scope) (s : Store) → has_stop t ≡ false → IsUnstopped (run p t n S s).ending
    unstopped (Assign left right) n S s h = on_unstopped (place_of p n S) (assigned (names_in p S) left right s).seen (assigned (names_in p S) left right s).result (λ seen w. does did (place_of p n S) (assignment_touches seen w) nothing_done s) (λ w. tt)
    unstopped (If condition a b) n S s h =
        on_unstopped (place_of p n S) (truth (names_in p S) condition s).seen (truth (names_in p S) condition s).result
        (λ seen holds. does did (place_of p n S) (numbered 1 seen) (if holds then run_all p a (n + 1) S else run_all p b (n + 1 + statements_count a) S) s)
        (λ holds. part_unstopped holds (run_all p a (n + 1) S) (run_all p b (n + 1 + statements_count a) S) (store_behind (numbered 1 (truth (names_in p S) condition s).seen) s)
        (λ u. all_unstopped a (n + 1) S u (or_none (some_stop a) (some_stop b) h).0) (λ u. all_unstopped b (n + 1 + statements_count a) S u (or_none (some_stop a) (some_stop b) h).1))
    unstopped (Do h b) n S s k =
        on_unstopped (place_of p n S) (limits (names_in p S) h s).seen (limits (names_in p S) h s).result (λ seen l. run_from_entry seen (entered_with p n h b seen l) S (place_of p n S) (λ f. run_all p b (n + 1) (f ∷ S)) s)
        (λ l. entered_unstopped (entered_with p n h b (limits (names_in p S) h s).seen l) S (place_of p n S) (λ f. run_all p b (n + 1) (f ∷ S)) (λ f u. all_unstopped b (n + 1) (f ∷ S) u k)
        h.parallel (entered_with p n h b (limits (names_in p S) h s).seen l).count (store_behind (entry_touches (limits (names_in p S) h s).seen (entered_with p n h b (limits (names_in p S) h s).seen l) S) s))
    unstopped (Print items) n S s h = on_unstopped (place_of p n S) (printed_line (names_in p S) items s).seen (printed_line (names_in p S) items s).result (λ seen line. does did (place_of p n S) (print_touches seen line s) nothing_done s) (λ w. tt)
    unstopped (Read items) n S s h = taking_unstopped (place_of p n S) (reading (names_in p S) items s) (reading (names_in p S) items s).fault s
    unstopped Stop n S s h = untrue (sym h)
    unstopped (Comment text) n S s h = tt

    pub all_unstopped : (ts : StmtTrees) (n : ℕ) (S : Scope) (s : Store) → some_stop ts ≡ false → IsUnstopped (run_all p ts n S s).ending
    all_unstopped no_stmts n S s h = tt
    all_unstopped (more_stmts t rest) n S s h =
        followed_unstopped (run p t n S s).acts (run p t n S s).ending (run_all p rest (n + statement_count t) S) (unstopped t n S s (or_none (has_stop t) (some_stop rest) h).0)
        (λ u. all_unstopped rest (n + statement_count t) S u (or_none (has_stop t) (some_stop rest) h).1)
