-- Two DO loops and the one have the same variables of DO loops, and no STOP.
use Rattle.std.proofs.Common.{Bool, List, ap, append-nil, append_assoc, arith, false, refl, sym, true, ℕ, ◌++◌, ◌+◌, ◌||◌, ◌∙◌, ◌≡◌}
use Rattle.ped_base.specs.Lists.{is_among, is_same_text}
use Rattle.ped_tree.proofs.NameLaws.Collected.{among_append}
use Rattle.ped_tree.specs.NamesIn.{all_loop_variables, loop_variables}
use Rattle.ped_tree.specs.Numbering.{statements_count}
use Rattle.ped_tree.specs.Tree.{Assign, Comment, Do, If, Print, ProgramTree, Read, StmtTree, StmtTrees, Stop, more_stmts, no_stmts}
use Rattle.ped_rules.specs.ped_steps.specs.Replacing.{alone, followed}
use Rattle.ped_rules.specs.ped_laws.proofs.FlowRunLaws.Stopping.{loop_stops}
use Rattle.ped_rules.specs.ped_laws.specs.FlowRuns.Covering.{some_stop}
use Rattle.ped_splits.proofs.JoinFacts.{AreJoined, both_loops, one_body, one_head, one_loop}
use Rattle.ped_splits.proofs.JoinParts.{first_loop, second_loop}

-- comments have neither a STOP nor a DO
pub quiet_stop : (ts us : StmtTrees) → statements_count ts ≡ 0 → some_stop (followed ts us) ≡ some_stop us
quiet_stop no_stmts us none = refl
quiet_stop (more_stmts (Comment text) rest) us none = quiet_stop rest us (omega (arith, none))
quiet_stop (more_stmts (Assign left right) rest) us none = absurd (omega (arith, none))
quiet_stop (more_stmts (If c a b) rest) us none = absurd (omega (arith, none))
quiet_stop (more_stmts (Do h b) rest) us none = absurd (omega (arith, none))
quiet_stop (more_stmts (Print items) rest) us none = absurd (omega (arith, none))
quiet_stop (more_stmts (Read items) rest) us none = absurd (omega (arith, none))
quiet_stop (more_stmts Stop rest) us none = absurd (omega (arith, none))

pub quiet_loops : (ts us : StmtTrees) → statements_count ts ≡ 0 → all_loop_variables (followed ts us) ≡ all_loop_variables us
quiet_loops no_stmts us none = refl
quiet_loops (more_stmts (Comment text) rest) us none = quiet_loops rest us (omega (arith, none))
quiet_loops (more_stmts (Assign left right) rest) us none = absurd (omega (arith, none))
quiet_loops (more_stmts (If c a b) rest) us none = absurd (omega (arith, none))
quiet_loops (more_stmts (Do h b) rest) us none = absurd (omega (arith, none))
quiet_loops (more_stmts (Print items) rest) us none = absurd (omega (arith, none))
quiet_loops (more_stmts (Read items) rest) us none = absurd (omega (arith, none))
quiet_loops (more_stmts Stop rest) us none = absurd (omega (arith, none))

followed_loops : (ts us : StmtTrees) → all_loop_variables (followed ts us) ≡ all_loop_variables ts ++ all_loop_variables us
followed_loops no_stmts us = refl
followed_loops (more_stmts z rest) us = ap (λ (ys : List (List ℕ)). loop_variables z ++ ys) (followed_loops rest us) ∙ sym (append_assoc (loop_variables z) (all_loop_variables rest) (all_loop_variables us))

once_more : (a b c : Bool) → a || (b || c) ≡ a || (b || (a || c))
once_more true b c = refl
once_more false true c = refl
once_more false false c = refl

module _ (t u : ProgramTree) (s : ℕ) (x : AreJoined t u s) where
  abbrev m : ℕ
  m = s + 1 + statements_count x.own_body

  abbrev one_do : StmtTree
  one_do = Do (one_head x) (one_body x)

  pub none_stops : some_stop (both_loops x) ≡ false
  none_stops =
      let one = loop_stops t s (first_loop t u s x) x.unstopped in
      let two = quiet_stop x.between (alone (Do x.next x.next_body)) x.comments ∙ (λ i. loop_stops t m (second_loop t u s x) x.unstopped i || false) in
      λ i. one i || two i

  pub same_indices : (y : List ℕ) → is_among y (all_loop_variables (one_loop x)) ≡ is_among y (all_loop_variables (both_loops x))
  same_indices y =
      ap (is_among y) (append-nil (loop_variables one_do))
      ∙ ap (λ (ys : List (List ℕ)). is_same_text y x.own.variable || is_among y ys) (followed_loops x.own_body (followed x.between x.next_body) ∙ ap (λ (ys : List (List ℕ)). all_loop_variables x.own_body ++ ys) (quiet_loops x.between x.next_body x.comments))
      ∙ ap (λ (b : Bool). is_same_text y x.own.variable || b) (among_append y (all_loop_variables x.own_body) (all_loop_variables x.next_body))
      ∙ once_more (is_same_text y x.own.variable) (is_among y (all_loop_variables x.own_body)) (is_among y (all_loop_variables x.next_body))
      ∙ ap (λ (w : List ℕ). is_same_text y x.own.variable || (is_among y (all_loop_variables x.own_body) || (is_same_text y w || is_among y (all_loop_variables x.next_body)))) (sym x.variable)
      ∙ ap (λ (ys : List (List ℕ)). is_same_text y x.own.variable || (is_among y (all_loop_variables x.own_body) || is_among y ys)) (sym (append-nil (loop_variables (Do x.next x.next_body))))
      ∙ ap (λ (ys : List (List ℕ)). is_same_text y x.own.variable || (is_among y (all_loop_variables x.own_body) || is_among y ys)) (sym (quiet_loops x.between (alone (Do x.next x.next_body)) x.comments))
      ∙ ap (λ (b : Bool). is_same_text y x.own.variable || b) (sym (among_append y (all_loop_variables x.own_body) (all_loop_variables (followed x.between (alone (Do x.next x.next_body))))))
