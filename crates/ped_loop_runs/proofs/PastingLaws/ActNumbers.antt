-- Each act of a run of statements is one of a statement there; and where it leaves a DO, that ends there.
use Rattle.std.proofs.Common.{◌≡◌, ℕ, zero, suc, ◌+◌, ◌<◌, ◌≤◌, List, [], ◌∷◌, ◌++◌, Bool, true, false, Option, Some, None, refl, arith, if◌then◌else◌}
use Rattle.std.proofs.lemmas.Bool.{both_ways}
use Rattle.ped_bodies.specs.ped_flow.specs.ped_tree.specs.Tree.{Head, StmtTree, StmtTrees, Assign, If, Do, Print, Read, Stop, Comment, no_stmts, more_stmts, ProgramTree}
use Rattle.ped_bodies.specs.ped_flow.specs.ped_tree.specs.Numbering.{numbered, all_numbered, statement_with, statement_count, statements_count}
use Rattle.ped_bodies.specs.ped_store.specs.Stores.{Store}
use Rattle.ped_bodies.specs.ped_store.specs.Acts.{Touch, Step, Act, did, entered, ended_turn, closed, faulted}
use Rattle.ped_bodies.specs.ped_laws.specs.FlowRuns.Exits.{is_exit}
use Rattle.ped_bodies.specs.ped_laws.specs.Runs.Replaying.{act}
use Rattle.ped_bodies.specs.ped_eval.specs.Scopes.{Setting, Frame, Scope, names_in, place_of}
use Rattle.ped_bodies.specs.ped_eval.specs.Evaluation.{numbered as numbered_reads}
use Rattle.ped_bodies.specs.ped_eval.specs.Values.{truth}
use Rattle.ped_bodies.specs.ped_eval.specs.Statements.{Taking, assigned, printed_line, reading}
use Rattle.ped_bodies.specs.ped_eval.specs.Loops.{limits, Entered, entered_with, frame, exit_touches, exit_when_none, entry_touches}
use Rattle.ped_bodies.specs.ped_eval.specs.Runs.{Run, nothing_done, does, run_taking, turns, parallel_turns, run_entered, run, run_all}
use Rattle.ped_bodies.specs.ped_laws.proofs.FlowRunLaws.Standing.{Stand, first_stands, rest_stands, inner_stands, else_stands, is_there}
use Rattle.ped_bodies.specs.ped_laws.proofs.RunLaws.Touches.{Each, each_none, each_more, then_each, does_each, on_each, any_result}

-- an act of one of so many statements from number n on; where it leaves a DO, that one ends among them
pub record IsActIn (p : Setting) (t : ProgramTree) (n count : ℕ) (a : Act) : Type 0 where
  pub number : ℕ
  pub from : n ≤ number
  pub to : number < n + count
  pub is : a.place.statement ≡ p.number number
  pub ends : is_exit a.step ≡ true → (h : Head) × (b : StmtTrees) × (statement_with number t ≡ Some (Do h b)) × (number + statements_count b < n + count)

module _ (p : Setting) (t : ProgramTree) where
  abbrev In : ℕ → ℕ → Act → Type 0
  In n count = IsActIn p t n count

  wider : (n count m more : ℕ) (acts : List Act) → m ≤ n → n + count ≤ m + more → Each (In n count) acts → Each (In m more) acts
  wider n count m more acts below above each a i =
      let x = each a i in
      let from = x.from in
      let to = x.to in
      record {
        number = x.number;
        from = omega (arith, from, below);
        to = omega (arith, to, above);
        is = x.is;
        ends = λ e. (let d = x.ends e in let less = d.3 in (d.0, d.1, d.2, omega (arith, less, above)));
      }

  -- an act of the first statement that leaves no DO, and one of a DO
  own : (n count : ℕ) (S : Scope) (step : Step) (touches : List Touch) → 0 < count → is_exit step ≡ false → In n count (act step (place_of p n S) touches)
  own n count S step touches some none = record { number = n; from = omega arith; to = omega (arith, some); is = refl; ends = λ e. absurd (both_ways (is_exit step) none e) }

  of_do : (n : ℕ) (h : Head) (b : StmtTrees) (S : Scope) (step : Step) (touches : List Touch) → statement_with n t ≡ Some (Do h b) → In n (statements_count b + 1) (act step (place_of p n S) touches)
  of_do n h b S step touches there = record { number = n; from = omega arith; to = omega arith; is = refl; ends = λ e. (h, b, there, omega arith) }

  one_in : (n count : ℕ) (S : Scope) (step : Step) (touches : List Touch) → 0 < count → is_exit step ≡ false → Each (In n count) (act step (place_of p n S) touches ∷ [])
  one_in n count S step touches some none = each_more (In n count) (act step (place_of p n S) touches) [] (own n count S step touches some none) (each_none (In n count))

  module _ (n : ℕ) (h : Head) (b : StmtTrees) (S : Scope) (there : statement_with n t ≡ Some (Do h b)) (e : Entered) (body : Frame → Store → Run) (bodies : (k : ℕ) (s : Store) → Each (In n (statements_count b + 1)) (body (frame e k) s).acts) where
    abbrev Within : Act → Type 0
    Within = In n (statements_count b + 1)

    turns_in : (left k : ℕ) (s : Store) → Each Within (turns left k e S (place_of p n S) body s).acts
    turns_in zero k s = each_none Within
    turns_in (suc left) k s =
        then_each Within (body (frame e k) s) (does (ended_turn left) (place_of p n S) (exit_when_none left e S) (turns left (k + 1) e S (place_of p n S) body)) (bodies k s)
        (λ u. does_each Within (ended_turn left) (place_of p n S) (exit_when_none left e S) (turns left (k + 1) e S (place_of p n S) body) u (of_do n h b S (ended_turn left) (exit_when_none left e S) there) (turns_in left (k + 1)))

    parallel_in : (left k : ℕ) (s : Store) → Each Within (parallel_turns left k e body s).acts
    parallel_in zero k s = each_none Within
    parallel_in (suc left) k s = then_each Within (body (frame e k) s) (parallel_turns left (k + 1) e body) (bodies k s) (parallel_in left (k + 1))

    entered_in : (parallel : Bool) (count : ℕ) (s : Store) → Each Within (run_entered parallel count e S (place_of p n S) body s).acts
    entered_in parallel zero s = each_none Within
    entered_in false (suc count) s = turns_in (suc count) 1 s
    entered_in true (suc count) s =
        then_each Within (parallel_turns (suc count) 1 e body s) (does closed (place_of p n S) (exit_touches e S) nothing_done) (parallel_in (suc count) 1 s)
        (λ u. does_each Within closed (place_of p n S) (exit_touches e S) nothing_done u (of_do n h b S closed (exit_touches e S) there) (λ v. each_none Within))

  part_in : (n count : ℕ) (f g : Store → Run) → ((u : Store) → Each (In n count) (f u).acts) → ((u : Store) → Each (In n count) (g u).acts) → (b : Bool) (u : Store) → Each (In n count) ((if b then f else g) u).acts
  part_in n count f g h k true u = h u
  part_in n count f g h k false u = k u

  taking_in : (n : ℕ) (S : Scope) (x : Taking) (fault : Option ℕ) (s : Store) → Each (In n 1) (run_taking (place_of p n S) x fault s).acts
  taking_in n S x None s = one_in n 1 S did _ (omega arith) refl
  taking_in n S x (Some k) s = one_in n 1 S faulted _ (omega arith) refl

  mutual
    pub run_in : (x : StmtTree) (n : ℕ) (S : Scope) (s : Store) → Stand t n (numbered x) → Each (In n (statement_count x)) (run p x n S s).acts
    run_in (Assign left right) n S s w =
        let e = assigned (names_in p S) left right s in
        on_each (In n 1) _ (place_of p n S) e.seen e.result _ (any_result e.result) (own n 1 S faulted (numbered_reads 1 e.seen) (omega arith) refl) (λ x o. one_in n 1 S did _ (omega arith) refl)
    run_in (If c a b) n S s w =
        let e = truth (names_in p S) c s in
        let count : ℕ = statement_count (If c a b) in
        let inside = inner_stands t (If c a b) (all_numbered a ++ all_numbered b) n w in
        on_each (In n count) _ (place_of p n S) e.seen e.result _ (any_result e.result) (own n count S faulted (numbered_reads 1 e.seen) (omega arith) refl)
        (λ holds o. does_each (In n count) did (place_of p n S) (numbered_reads 1 e.seen) (if holds then run_all p a (n + 1) S else run_all p b (n + 1 + statements_count a) S) s (own n count S did (numbered_reads 1 e.seen) (omega arith) refl)
        (part_in n count (run_all p a (n + 1) S) (run_all p b (n + 1 + statements_count a) S)
        (λ u. wider (n + 1) (statements_count a) n count (run_all p a (n + 1) S u).acts (omega arith) (omega arith) (all_in a (n + 1) S u (first_stands t (n + 1) (all_numbered a) (all_numbered b) inside)))
        (λ u. wider (n + 1 + statements_count a) (statements_count b) n count (run_all p b (n + 1 + statements_count a) S u).acts (omega arith) (omega arith) (all_in b (n + 1 + statements_count a) S u (else_stands t a b (n + 1) inside)))
        holds))
    run_in (Do h b) n S s w =
        let l = limits (names_in p S) h s in
        let there = is_there t (Do h b) (all_numbered b) n w in
        on_each (In n (statements_count b + 1)) _ (place_of p n S) l.seen l.result _ (any_result l.result) (own n (statements_count b + 1) S faulted (numbered_reads 1 l.seen) (omega arith) refl)
        (λ m o.
        let e = entered_with p n h b l.seen m in
        does_each (In n (statements_count b + 1)) (entered e.count) (place_of p n S) (entry_touches l.seen e S) (run_entered h.parallel e.count e S (place_of p n S) (λ f. run_all p b (n + 1) (f ∷ S))) s (of_do n h b S (entered e.count) (entry_touches l.seen e S) there)
        (entered_in n h b S there e (λ f. run_all p b (n + 1) (f ∷ S))
        (λ k u. wider (n + 1) (statements_count b) n (statements_count b + 1) (run_all p b (n + 1) (frame e k ∷ S) u).acts (omega arith) (omega arith) (all_in b (n + 1) (frame e k ∷ S) u (inner_stands t (Do h b) (all_numbered b) n w)))
        h.parallel e.count))
    run_in (Print items) n S s w =
        let e = printed_line (names_in p S) items s in
        on_each (In n 1) _ (place_of p n S) e.seen e.result _ (any_result e.result) (own n 1 S faulted (numbered_reads 1 e.seen) (omega arith) refl) (λ x o. one_in n 1 S did _ (omega arith) refl)
    run_in (Read items) n S s w = taking_in n S (reading (names_in p S) items s) (reading (names_in p S) items s).fault s
    run_in Stop n S s w = one_in n 1 S did [] (omega arith) refl
    run_in (Comment text) n S s w = each_none (In n 0)

    pub all_in : (xs : StmtTrees) (n : ℕ) (S : Scope) (s : Store) → Stand t n (all_numbered xs) → Each (In n (statements_count xs)) (run_all p xs n S s).acts
    all_in no_stmts n S s w = each_none (In n 0)
    all_in (more_stmts x rest) n S s w =
        let count : ℕ = statement_count x + statements_count rest in
        then_each (In n count) (run p x n S s) (run_all p rest (n + statement_count x) S)
        (wider n (statement_count x) n count (run p x n S s).acts (omega arith) (omega arith) (run_in x n S s (first_stands t n (numbered x) (all_numbered rest) w)))
        (λ u. wider (n + statement_count x) (statements_count rest) n count (run_all p rest (n + statement_count x) S u).acts (omega arith) (omega arith) (all_in rest (n + statement_count x) S u (rest_stands t x rest n w)))
