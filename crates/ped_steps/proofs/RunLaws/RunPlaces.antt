-- What holds of each act at a place, and is kept from an iteration of a DO to the place of the DO, holds of each act of a run there.
use Rattle.std.proofs.Common.{◌≡◌, ℕ, zero, suc, ◌+◌, List, [], ◌∷◌, ◌++◌, Bool, true, false, Option, Some, None, sym, ◌∙◌, append_assoc, append-nil, if◌then◌else◌}
use Rattle.ped_tree.specs.Tree.{Head, StmtTree, StmtTrees, Assign, If, Do, Print, Read, Stop, Comment, no_stmts, more_stmts}
use Rattle.ped_tree.specs.Numbering.{statement_count, statements_count}
use Rattle.ped_weaves.specs.ped_store.specs.Stores.{Store}
use Rattle.ped_weaves.specs.ped_store.specs.Acts.{Touch, Turn, Step, Act, did, entered, ended_turn, closed, faulted}
use Rattle.ped_weaves.specs.ped_laws.specs.Acts.Orders.{IsIn}
use Rattle.ped_weaves.specs.ped_eval.specs.Scopes.{Setting, Frame, Scope, turns_of, names_in, place_of}
use Rattle.ped_weaves.specs.ped_eval.specs.Evaluation.{Seen, numbered}
use Rattle.ped_weaves.specs.ped_eval.specs.Values.{truth}
use Rattle.ped_weaves.specs.ped_eval.specs.Statements.{Taking, assigned, printed_line, reading}
use Rattle.ped_weaves.specs.ped_eval.specs.Loops.{Limits, limits, Entered, entered_with, frame, exit_touches, exit_when_none, entry_touches}
use Rattle.ped_weaves.specs.ped_eval.specs.Runs.{Run, nothing_done, does, run_taking, turns, parallel_turns, run_entered, run, run_all}
use Rattle.ped_weaves.specs.ped_laws.specs.Runs.Replaying.{act}
use Rattle.ped_weaves.specs.ped_laws.proofs.RunLaws.Touches.{Each, each_none, each_more, then_each, does_each, on_each, any_result}
use Rattle.ped_steps.proofs.RunLaws.RunCells.{EachDo, EachDos}

module _ (p : Setting) (Q : ℕ → Head → StmtTrees → Type 0) (P : Scope → Act → Type 0) (here : (S : Scope) (n : ℕ) (step : Step) (touches : List Touch) → P S (act step (place_of p n S) touches))
    (outward : (n : ℕ) (h : Head) (body : StmtTrees) (seen : List Seen) (m : Limits) (k : ℕ) (S : Scope) (u : Store) (a : Act) → Q n h body
    → IsIn a (run_all p body (n + 1) (frame (entered_with p n h body seen m) k ∷ S) u).acts → P (frame (entered_with p n h body seen m) k ∷ S) a → P S a) where
  module _ (n : ℕ) (S : Scope) where
    module _ (e : Entered) (body : Frame → Store → Run) (bodies : (k : ℕ) (s : Store) → Each (P S) (body (frame e k) s).acts) where
      turns_each : (left k : ℕ) (s : Store) → Each (P S) (turns left k e S (place_of p n S) body s).acts
      turns_each zero k s = each_none (P S)
      turns_each (suc left) k s =
          then_each (P S) (body (frame e k) s) (does (ended_turn left) (place_of p n S) (exit_when_none left e S) (turns left (k + 1) e S (place_of p n S) body)) (bodies k s)
          (λ u. does_each (P S) (ended_turn left) (place_of p n S) (exit_when_none left e S) (turns left (k + 1) e S (place_of p n S) body) u (here S n (ended_turn left) (exit_when_none left e S)) (turns_each left (k + 1)))

      parallel_each : (left k : ℕ) (s : Store) → Each (P S) (parallel_turns left k e body s).acts
      parallel_each zero k s = each_none (P S)
      parallel_each (suc left) k s = then_each (P S) (body (frame e k) s) (parallel_turns left (k + 1) e body) (bodies k s) (parallel_each left (k + 1))

      entered_each : (b : Bool) (count : ℕ) (s : Store) → Each (P S) (run_entered b count e S (place_of p n S) body s).acts
      entered_each b zero s = each_none (P S)
      entered_each false (suc count) s = turns_each (suc count) 1 s
      entered_each true (suc count) s =
          then_each (P S) (parallel_turns (suc count) 1 e body s) (does closed (place_of p n S) (exit_touches e S) nothing_done) (parallel_each (suc count) 1 s)
          (λ u. does_each (P S) closed (place_of p n S) (exit_touches e S) nothing_done u (here S n closed (exit_touches e S)) (λ v. each_none (P S)))

    one_each : (step : Step) (touches : List Touch) → Each (P S) (act step (place_of p n S) touches ∷ [])
    one_each step touches = each_more (P S) (act step (place_of p n S) touches) [] (here S n step touches) (each_none (P S))

    part_each : (f g : Store → Run) → ((u : Store) → Each (P S) (f u).acts) → ((u : Store) → Each (P S) (g u).acts) → (b : Bool) (u : Store) → Each (P S) ((if b then f else g) u).acts
    part_each f g h k true u = h u
    part_each f g h k false u = k u

    taking_each : (t : Taking) (fault : Option ℕ) (s : Store) → Each (P S) (run_taking (place_of p n S) t fault s).acts
    taking_each t None s = one_each did _
    taking_each t (Some k) s = one_each faulted _

  mutual
    pub run_each : (t : StmtTree) (n : ℕ) (S : Scope) (s : Store) → EachDo Q t n → Each (P S) (run p t n S s).acts
    run_each (Assign left right) n S s q =
        let e = assigned (names_in p S) left right s in
        on_each (P S) _ (place_of p n S) e.seen e.result _ (any_result e.result) (here S n faulted (numbered 1 e.seen)) (λ x o. one_each n S did _)
    run_each (If c a b) n S s q =
        let e = truth (names_in p S) c s in
        on_each (P S) _ (place_of p n S) e.seen e.result _ (any_result e.result) (here S n faulted (numbered 1 e.seen))
        (λ holds o. does_each (P S) did (place_of p n S) (numbered 1 e.seen) (if holds then run_all p a (n + 1) S else run_all p b (n + 1 + statements_count a) S) s (here S n did (numbered 1 e.seen))
        (part_each n S (run_all p a (n + 1) S) (run_all p b (n + 1 + statements_count a) S) (λ u. all_each a (n + 1) S u q.0) (λ u. all_each b (n + 1 + statements_count a) S u q.1) holds))
    run_each (Do h body) n S s q =
        let l = limits (names_in p S) h s in
        on_each (P S) _ (place_of p n S) l.seen l.result _ (any_result l.result) (here S n faulted (numbered 1 l.seen))
        (λ m o.
        let e = entered_with p n h body l.seen m in
        does_each (P S) (entered e.count) (place_of p n S) (entry_touches l.seen e S) (run_entered h.parallel e.count e S (place_of p n S) (λ f. run_all p body (n + 1) (f ∷ S))) s (here S n (entered e.count) (entry_touches l.seen e S))
        (entered_each n S e (λ f. run_all p body (n + 1) (f ∷ S))
        (λ k u a i. outward n h body l.seen m k S u a q.0 i (all_each body (n + 1) (frame e k ∷ S) u q.1 a i))
        h.parallel e.count))
    run_each (Print items) n S s q =
        let e = printed_line (names_in p S) items s in
        on_each (P S) _ (place_of p n S) e.seen e.result _ (any_result e.result) (here S n faulted (numbered 1 e.seen)) (λ x o. one_each n S did _)
    run_each (Read items) n S s q = taking_each n S (reading (names_in p S) items s) (reading (names_in p S) items s).fault s
    run_each Stop n S s q = one_each n S did []
    run_each (Comment text) n S s q = each_none (P S)

    pub all_each : (ts : StmtTrees) (n : ℕ) (S : Scope) (s : Store) → EachDos Q ts n → Each (P S) (run_all p ts n S s).acts
    all_each no_stmts n S s q = each_none (P S)
    all_each (more_stmts t rest) n S s q = then_each (P S) (run p t n S s) (run_all p rest (n + statement_count t) S) (run_each t n S s q.0) (λ u. all_each rest (n + statement_count t) S u q.1)

-- each DO is of any kind
mutual
  any_do : (t : StmtTree) (n : ℕ) → EachDo (λ k h body. Unit {0}) t n
  any_do (Assign left right) n = tt
  any_do (If c a b) n = (any_dos a (n + 1), any_dos b (n + 1 + statements_count a))
  any_do (Do h body) n = (tt, any_dos body (n + 1))
  any_do (Print items) n = tt
  any_do (Read items) n = tt
  any_do Stop n = tt
  any_do (Comment text) n = tt

  any_dos : (ts : StmtTrees) (n : ℕ) → EachDos (λ k h body. Unit {0}) ts n
  any_dos no_stmts n = tt
  any_dos (more_stmts t rest) n = (any_do t n, any_dos rest (n + statement_count t))

-- an act that stands in these iterations, and in others further inside
abbrev pub StandsIn : List Turn → Act → Type 0
StandsIn ts a = (more : List Turn) × (a.place.turns ≡ ts ++ more)

-- each act of a run stands in the iterations round it
pub stands_in : (p : Setting) (ts : StmtTrees) (n : ℕ) (S : Scope) (s : Store) (a : Act) → IsIn a (run_all p ts n S s).acts → StandsIn (turns_of S) a
stands_in p ts n S s a i =
    all_each p (λ k h body. Unit {0}) (λ T b. StandsIn (turns_of T) b) (λ T k step touches. ([], sym (append-nil (turns_of T))))
    (λ k h body seen m j T u b q there inside. let t = (frame (entered_with p k h body seen m) j).turn in (t ∷ inside.0, inside.1 ∙ append_assoc (turns_of T) (t ∷ []) inside.0))
    ts n S s (any_dos ts n) a i
