use Rattle.std.proofs.Common.{List, ap, sym, ◌∙◌, ◌+◌, drop}
use Rattle.ped_tree.specs.Tree.{StmtTree}
use Rattle.ped_tree.specs.Views.{stmt_tree, stmt_trees, program_tree}
use Rattle.ped_tree.specs.Views.{head_of}
use Rattle.ped_tree.proofs.Levels.{stmt_tree-If}
use Rattle.ped_tree.specs.declared.statements.Stmt.{Stmt}
use Rattle.ped_tree.specs.NamesIn.{loop_variables, all_loop_variables}
use Rattle.ped_flow.specs.Escapes.{either_escape, escapes_of}
use Rattle.ped_flow.proofs.ScalarSteps.{rest_is}
use Rattle.ped_flow.proofs.Escaping.{escapes-append, escapes_next}
use Rattle.ped_flow.proofs.escapes.+escapes.Goals as goal

pub escapes_in-loop-s-preserved : goal.escapes_in-loop-s-preserved
escapes_in-loop-s-preserved t c =
    let others = drop (c.loop-s.s-index + 1) c.args.statements.now in
    escapes_next (program_tree c.args.l.now.flow.now.program.now) c.args.l.now.number (head_of c.args.l.now.body.now) (stmt_trees c.args.l.now.body.now.body.items)
    (all_loop_variables (stmt_trees (drop c.loop-s.s-index c.args.statements.now))) (loop_variables (stmt_tree c.s-item.result)) (all_loop_variables (stmt_trees others))
    c.loop-s.escape c.escapes_of.result c.or-escape.result _ c.loop-s.invariant
    (ap (λ (ss : List Stmt). all_loop_variables (stmt_trees ss)) (rest_is c.args.statements.now c.loop-s.s-index c.s-item.result c.loop-s-test.true c.s-item.is))
    c.escapes_of.ensures c.or-escape.ensures

pub escapes_of-returns-in-If : goal.escapes_of-returns-in-If
escapes_of-returns-in-If t c =
    let T = program_tree c.args.l.now.flow.now.program.now in
    let l = c.args.l.now.number in
    let h = head_of c.args.l.now.body.now in
    let b = stmt_trees c.args.l.now.body.now.body.items in
    c.or.ensures
    ∙ (λ i. either_escape (c.escapes_in.ensures i) (c.escapes_in-in-If.ensures i))
    ∙ (λ i. either_escape (escapes_of T l h b (all_loop_variables (stmt_trees (c.deref.ensures.value i)))) (escapes_of T l h b (all_loop_variables (stmt_trees (c.deref-in-If.ensures.value i)))))
    ∙ sym (escapes-append T l h b (all_loop_variables (stmt_trees c.in-If.then_part.items)) (all_loop_variables (stmt_trees c.in-If.else_part.items)))
    ∙ ap (λ (s : StmtTree). escapes_of T l h b (loop_variables s)) (sym (ap stmt_tree c.in-If.is ∙ stmt_tree-If c.in-If.condition c.in-If.then_part c.in-If.else_part))
