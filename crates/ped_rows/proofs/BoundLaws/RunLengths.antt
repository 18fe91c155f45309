-- How many acts a piece of a run has at most.
use Rattle.std.proofs.Common.{◌≡◌, ℕ, zero, suc, ◌+◌, ◌*◌, ◌≤◌, List, ◌∷◌, length, Bool, true, false, Option, Some, None, Result, Ok, Err, refl, arith, if◌then◌else◌}
use Rattle.std.proofs.lemmas.List.{length-append}
use Rattle.ped_laws.specs.ped_flow.specs.ped_tree.specs.Tree.{StmtTree, StmtTrees, Assign, If, Do, Print, Read, Stop, Comment, no_stmts, more_stmts}
use Rattle.ped_laws.specs.ped_flow.specs.ped_tree.specs.Numbering.{statement_count, statements_count}
use Rattle.ped_laws.specs.ped_eval.specs.ped_store.specs.Stores.{Store}
use Rattle.ped_laws.specs.ped_eval.specs.ped_store.specs.Acts.{Place, Act, ended_turn, closed, store_behind}
use Rattle.ped_laws.specs.ped_eval.specs.Scopes.{Setting, Frame, Scope, names_in, place_of}
use Rattle.ped_laws.specs.ped_eval.specs.Evaluation.{Seen, numbered}
use Rattle.ped_laws.specs.ped_eval.specs.Values.{truth}
use Rattle.ped_laws.specs.ped_eval.specs.Statements.{assigned, printed_line, Taking, reading}
use Rattle.ped_laws.specs.ped_eval.specs.Loops.{limits, Entered, entered_with, frame, exit_touches, exit_when_none, entry_touches}
use Rattle.ped_laws.specs.ped_eval.specs.Runs.{Ending, going, stopped, failed, Run, nothing_done, followed_by, does, on_value, run_taking, turns, parallel_turns, run_entered, run, run_all}
use Rattle.ped_rows.specs.Bounded.{iterations_at_most, steps_at_most, all_steps_at_most}
use Rattle.ped_rows.proofs.BoundLaws.IterationCounts.{count_at_most}

-- acts and a run after them
followed_long : (acts : List Act) (e : Ending) (next : Store → Run) (m n : ℕ) → length acts ≤ m → ((u : Store) → length (next u).acts ≤ n) → length (followed_by acts e next).acts ≤ m + n
followed_long acts (going u) next m n h k = let both = length-append acts (next u).acts in let rest = k u in omega (arith, h, both, rest)
followed_long acts (stopped u) next m n h k = omega (arith, h)
followed_long acts (failed fault statement) next m n h k = omega (arith, h)

on_long : {A : Type 0} (at : Place) (seen : List Seen) (r : Result A ℕ) (next : List Seen → A → Run) (m : ℕ) → 1 ≤ m → ((x : A) → r ≡ Ok x → length (next seen x).acts ≤ m) → length (on_value at seen r next).acts ≤ m
on_long at seen (Ok x) next m h k = k x refl
on_long at seen (Err fault) next m h k = h

taking_long : (at : Place) (x : Taking) (fault : Option ℕ) (s : Store) → length (run_taking at x fault s).acts ≤ 1
taking_long at x None s = omega arith
taking_long at x (Some k) s = omega arith

part_long : (f g : Store → Run) (m n : ℕ) → ((u : Store) → length (f u).acts ≤ m) → ((u : Store) → length (g u).acts ≤ n) → (b : Bool) (u : Store) → length ((if b then f else g) u).acts ≤ m + n
part_long f g m n h k true u = let most = h u in omega (arith, most)
part_long f g m n h k false u = let most = k u in omega (arith, most)

times_more : (n w : ℕ) → suc n * w ≡ w + n * w
times_more n w = grind arith

times_most : (n m w : ℕ) → n ≤ m → n * w ≤ m * w
times_most n m w h = grind arith

-- iterations of a DO, whose body has so many acts at most
module _ (e : Entered) (scope : Scope) (at : Place) (body : Frame → Store → Run) (w : ℕ) (bodies : (k : ℕ) (u : Store) → length (body (frame e k) u).acts ≤ w) where
  turns_long : (left k : ℕ) (s : Store) → length (turns left k e scope at body s).acts ≤ left * (w + 1)
  turns_long zero k s = omega arith
  turns_long (suc left) k s =
      let next = does (ended_turn left) at (exit_when_none left e scope) (turns left (k + 1) e scope at body) in
      let all = followed_long (body (frame e k) s).acts (body (frame e k) s).ending next w (1 + left * (w + 1)) (bodies k s)
      (λ u. (let rest = turns_long left (k + 1) (store_behind (exit_when_none left e scope) u) in omega (arith, rest))) in
      let product = times_more left (w + 1) in
      omega (arith, all, product)

  parallel_long : (left k : ℕ) (s : Store) → length (parallel_turns left k e body s).acts ≤ left * (w + 1)
  parallel_long zero k s = omega arith
  parallel_long (suc left) k s =
      let all = followed_long (body (frame e k) s).acts (body (frame e k) s).ending (parallel_turns left (k + 1) e body) w (left * (w + 1)) (bodies k s) (parallel_long left (k + 1)) in
      let product = times_more left (w + 1) in
      omega (arith, all, product)

  entered_long : (parallel : Bool) (count : ℕ) (s : Store) → length (run_entered parallel count e scope at body s).acts ≤ count * (w + 1) + 1
  entered_long parallel zero s = omega arith
  entered_long false (suc count) s = let all = turns_long (suc count) 1 s in omega (arith, all)
  entered_long true (suc count) s =
      followed_long (parallel_turns (suc count) 1 e body s).acts (parallel_turns (suc count) 1 e body s).ending (does closed at (exit_touches e scope) nothing_done) (suc count * (w + 1)) 1 (parallel_long (suc count) 1 s) (λ u. omega arith)

module _ (p : Setting) where
  mutual
    run_long : (x : StmtTree) (n : ℕ) (scope : Scope) (s : Store) → length (run p x n scope s).acts ≤ steps_at_most p.constants x
    run_long (Assign left right) n scope s = let e = assigned (names_in p scope) left right s in on_long (place_of p n scope) e.seen e.result _ 1 (omega arith) (λ x o. omega arith)
    run_long (If c a b) n scope s =
        let e = truth (names_in p scope) c s in
        let m : ℕ = all_steps_at_most p.constants a in
        let k : ℕ = all_steps_at_most p.constants b in
        on_long (place_of p n scope) e.seen e.result _ (1 + m + k) (omega arith)
        (λ holds o. (let part = part_long (run_all p a (n + 1) scope) (run_all p b (n + 1 + statements_count a) scope) m k (all_long a (n + 1) scope) (all_long b (n + 1 + statements_count a) scope) holds (store_behind (numbered 1 e.seen) s) in omega (arith, part)))
    run_long (Do h b) n scope s =
        let e = limits (names_in p scope) h s in
        let w : ℕ = all_steps_at_most p.constants b in
        let most : ℕ = iterations_at_most p.constants h in
        on_long (place_of p n scope) e.seen e.result _ (2 + most * (w + 1)) (omega arith)
        (λ l o. (
        let loop = entered_with p n h b e.seen l in
        let all = entered_long loop scope (place_of p n scope) (λ f. run_all p b (n + 1) (f ∷ scope)) w (λ k u. all_long b (n + 1) (frame loop k ∷ scope) u) h.parallel loop.count (store_behind (entry_touches e.seen loop scope) s) in
        let product = times_most loop.count most (w + 1) (count_at_most (names_in p scope) h s l o) in
        omega (arith, all, product)
        ))
    run_long (Print items) n scope s = let e = printed_line (names_in p scope) items s in on_long (place_of p n scope) e.seen e.result _ 1 (omega arith) (λ x o. omega arith)
    run_long (Read items) n scope s = taking_long (place_of p n scope) (reading (names_in p scope) items s) (reading (names_in p scope) items s).fault s
    run_long Stop n scope s = omega arith
    run_long (Comment text) n scope s = omega arith

    pub all_long : (xs : StmtTrees) (n : ℕ) (scope : Scope) (s : Store) → length (run_all p xs n scope s).acts ≤ all_steps_at_most p.constants xs
    all_long no_stmts n scope s = omega arith
    all_long (more_stmts x rest) n scope s =
        followed_long (run p x n scope s).acts (run p x n scope s).ending (run_all p rest (n + statement_count x) scope) (steps_at_most p.constants x) (all_steps_at_most p.constants rest) (run_long x n scope s) (all_long rest (n + statement_count x) scope)
