-- Where the acts of a piece of a run stand: in its statements, and in the iterations round it or further in.
use Rattle.std.proofs.Common.{◌≡◌, ℕ, zero, suc, ◌+◌, ◌<◌, ◌≤◌, List, [], ◌∷◌, ◌++◌, Bool, true, false, Option, Some, None, sym, ◌∙◌, arith, append_assoc, append-nil, if◌then◌else◌}
use Rattle.ped_laws.specs.ped_flow.specs.ped_tree.specs.Tree.{StmtTree, StmtTrees, Assign, If, Do, Print, Read, Stop, Comment, no_stmts, more_stmts, ProgramTree}
use Rattle.ped_laws.specs.ped_flow.specs.ped_tree.specs.Numbering.{statement_count, statements_count}
use Rattle.ped_laws.specs.ped_eval.specs.ped_store.specs.Stores.{Store}
use Rattle.ped_laws.specs.ped_eval.specs.ped_store.specs.Acts.{Touch, Turn, Step, Act, did, entered, ended_turn, closed, faulted}
use Rattle.ped_laws.specs.ped_eval.specs.Scopes.{Setting, Frame, Scope, turns_of, names_in, place_of}
use Rattle.ped_laws.specs.ped_eval.specs.Evaluation.{numbered}
use Rattle.ped_laws.specs.ped_eval.specs.Values.{truth}
use Rattle.ped_laws.specs.ped_eval.specs.Statements.{assigned, printed_line, Taking, reading}
use Rattle.ped_laws.specs.ped_eval.specs.Loops.{limits, Entered, entered_with, frame, exit_touches, exit_when_none, entry_touches}
use Rattle.ped_laws.specs.ped_eval.specs.Runs.{Run, nothing_done, does, run_taking, turns, parallel_turns, run_entered, run, run_all}
use Rattle.ped_laws.specs.ped_eval.specs.Outcomes.{setting_of}
use Rattle.ped_laws.proofs.RunLaws.Touches.{Each, each_none, each_more, then_each, does_each, on_each, any_result}

module _ (t : ProgramTree) where
  abbrev p : Setting
  p = setting_of t

  -- an act of statements with numbers from lo to below hi, in these iterations or further in
  pub record ActInside (scope : Scope) (lo hi : ℕ) (a : Act) : Type 0 where
    pub further : List Turn
    pub turns : a.place.turns ≡ turns_of scope ++ further
    pub least : lo ≤ a.place.statement
    pub below : a.place.statement < hi

  outwards : (scope : Scope) (f : Frame) (lo hi : ℕ) (a : Act) → ActInside (f ∷ scope) lo hi a → ActInside scope lo hi a
  outwards scope f lo hi a h = record { further = f.turn ∷ h.further; turns = h.turns ∙ append_assoc (turns_of scope) (f.turn ∷ []) h.further; least = h.least; below = h.below }

  module _ (scope : Scope) (n lo hi : ℕ) (from : lo ≤ n) (to : n < hi) where
    act_inside : (step : Step) (touches : List Touch) → ActInside scope lo hi (record { step = step; place = place_of p n scope; touches = touches })
    act_inside step touches = record { further = []; turns = sym (append-nil (turns_of scope)); least = from; below = to }

    one_inside : (step : Step) (touches : List Touch) → Each (ActInside scope lo hi) (record { step = step; place = place_of p n scope; touches = touches } ∷ [])
    one_inside step touches = each_more (ActInside scope lo hi) (record { step = step; place = place_of p n scope; touches = touches }) [] (act_inside step touches) (each_none (ActInside scope lo hi))

    taking_inside : (x : Taking) (fault : Option ℕ) (s : Store) → Each (ActInside scope lo hi) (run_taking (place_of p n scope) x fault s).acts
    taking_inside x None s = one_inside did _
    taking_inside x (Some k) s = one_inside faulted _

    module _ (e : Entered) (body : Frame → Store → Run) (bodies : (k : ℕ) (s : Store) → Each (ActInside scope lo hi) (body (frame e k) s).acts) where
      turns_inside : (left k : ℕ) (s : Store) → Each (ActInside scope lo hi) (turns left k e scope (place_of p n scope) body s).acts
      turns_inside zero k s = each_none (ActInside scope lo hi)
      turns_inside (suc left) k s =
          then_each (ActInside scope lo hi) (body (frame e k) s) (does (ended_turn left) (place_of p n scope) (exit_when_none left e scope) (turns left (k + 1) e scope (place_of p n scope) body)) (bodies k s)
          (λ u. does_each (ActInside scope lo hi) (ended_turn left) (place_of p n scope) (exit_when_none left e scope) (turns left (k + 1) e scope (place_of p n scope) body) u (act_inside (ended_turn left) (exit_when_none left e scope)) (turns_inside left (k + 1)))

      parallel_inside : (left k : ℕ) (s : Store) → Each (ActInside scope lo hi) (parallel_turns left k e body s).acts
      parallel_inside zero k s = each_none (ActInside scope lo hi)
      parallel_inside (suc left) k s = then_each (ActInside scope lo hi) (body (frame e k) s) (parallel_turns left (k + 1) e body) (bodies k s) (parallel_inside left (k + 1))

      entered_inside : (b : Bool) (count : ℕ) (s : Store) → Each (ActInside scope lo hi) (run_entered b count e scope (place_of p n scope) body s).acts
      entered_inside b zero s = each_none (ActInside scope lo hi)
      entered_inside false (suc count) s = turns_inside (suc count) 1 s
      entered_inside true (suc count) s =
          then_each (ActInside scope lo hi) (parallel_turns (suc count) 1 e body s) (does closed (place_of p n scope) (exit_touches e scope) nothing_done) (parallel_inside (suc count) 1 s)
          (λ u. does_each (ActInside scope lo hi) closed (place_of p n scope) (exit_touches e scope) nothing_done u (act_inside closed (exit_touches e scope)) (λ v. each_none (ActInside scope lo hi)))

  part_inside : (scope : Scope) (lo hi : ℕ) (f g : Store → Run) → ((u : Store) → Each (ActInside scope lo hi) (f u).acts) → ((u : Store) → Each (ActInside scope lo hi) (g u).acts) → (b : Bool) (u : Store) → Each (ActInside scope lo hi) ((if b then f else g) u).acts
  part_inside scope lo hi f g h k true u = h u
  part_inside scope lo hi f g h k false u = k u

  mutual
    pub run_inside : (x : StmtTree) (n lo hi : ℕ) (scope : Scope) (u : Store) → lo ≤ n → n + statement_count x ≤ hi → Each (ActInside scope lo hi) (run p x n scope u).acts
    run_inside (Assign left right) n lo hi scope u from to =
        let e = assigned (names_in p scope) left right u in
        on_each (ActInside scope lo hi) _ (place_of p n scope) e.seen e.result _ (any_result e.result) (act_inside scope n lo hi from (omega (arith, to)) faulted (numbered 1 e.seen)) (λ x o. one_inside scope n lo hi from (omega (arith, to)) did _)
    run_inside (If c a b) n lo hi scope u from to =
        let e = truth (names_in p scope) c u in
        on_each (ActInside scope lo hi) _ (place_of p n scope) e.seen e.result _ (any_result e.result) (act_inside scope n lo hi from (omega (arith, to)) faulted (numbered 1 e.seen))
        (λ holds o. does_each (ActInside scope lo hi) did (place_of p n scope) (numbered 1 e.seen) (if holds then run_all p a (n + 1) scope else run_all p b (n + 1 + statements_count a) scope) u (act_inside scope n lo hi from (omega (arith, to)) did (numbered 1 e.seen))
        (part_inside scope lo hi (run_all p a (n + 1) scope) (run_all p b (n + 1 + statements_count a) scope)
        (λ v. all_inside a (n + 1) lo hi scope v (omega (arith, from)) (omega (arith, to)))
        (λ v. all_inside b (n + 1 + statements_count a) lo hi scope v (omega (arith, from)) (omega (arith, to)))
        holds))
    run_inside (Do h b) n lo hi scope u from to =
        let l = limits (names_in p scope) h u in
        on_each (ActInside scope lo hi) _ (place_of p n scope) l.seen l.result _ (any_result l.result) (act_inside scope n lo hi from (omega (arith, to)) faulted (numbered 1 l.seen))
        (λ bounds o.
        let e = entered_with p n h b l.seen bounds in
        does_each (ActInside scope lo hi) (entered e.count) (place_of p n scope) (entry_touches l.seen e scope) (run_entered h.parallel e.count e scope (place_of p n scope) (λ f. run_all p b (n + 1) (f ∷ scope))) u
        (act_inside scope n lo hi from (omega (arith, to)) (entered e.count) (entry_touches l.seen e scope))
        (entered_inside scope n lo hi from (omega (arith, to)) e (λ f. run_all p b (n + 1) (f ∷ scope))
        (λ k v a i. outwards scope (frame e k) lo hi a (all_inside b (n + 1) lo hi (frame e k ∷ scope) v (omega (arith, from)) (omega (arith, to)) a i))
        h.parallel e.count))
    run_inside (Print items) n lo hi scope u from to =
        let e = printed_line (names_in p scope) items u in
        on_each (ActInside scope lo hi) _ (place_of p n scope) e.seen e.result _ (any_result e.result) (act_inside scope n lo hi from (omega (arith, to)) faulted (numbered 1 e.seen)) (λ x o. one_inside scope n lo hi from (omega (arith, to)) did _)
    run_inside (Read items) n lo hi scope u from to = taking_inside scope n lo hi from (omega (arith, to)) (reading (names_in p scope) items u) (reading (names_in p scope) items u).fault u
    run_inside Stop n lo hi scope u from to = one_inside scope n lo hi from (omega (arith, to)) did []
    run_inside (Comment text) n lo hi scope u from to = each_none (ActInside scope lo hi)

    pub all_inside : (xs : StmtTrees) (n lo hi : ℕ) (scope : Scope) (u : Store) → lo ≤ n → n + statements_count xs ≤ hi → Each (ActInside scope lo hi) (run_all p xs n scope u).acts
    all_inside no_stmts n lo hi scope u from to = each_none (ActInside scope lo hi)
    all_inside (more_stmts x rest) n lo hi scope u from to =
        then_each (ActInside scope lo hi) (run p x n scope u) (run_all p rest (n + statement_count x) scope) (run_inside x n lo hi scope u from (omega (arith, to)))
        (λ v. all_inside rest (n + statement_count x) lo hi scope v (omega (arith, from)) (omega (arith, to)))
