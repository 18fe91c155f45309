use Rattle.std.proofs.Common.{◌≡◌, ◌≤◌, ◌-◌, List, map, length, refl, sym, ap, ◌∙◌, arith}
use Rattle.std.proofs.lemmas.List.{drop_all}
use Rattle.std.proofs.lemmas.Result.{on_ok_weaker}
use Rattle.ped_tree.specs.Tree.{StmtTrees, If, Do, Print, Read, Stop, Comment}
use Rattle.ped_tree.specs.Views.{expr_tree, cond_tree, item_tree, stmt_tree, stmt_trees, do_tree, head_of}
use Rattle.ped_tree.specs.declared.statements.Stmt.{Stmt}
use Rattle.ped_links.specs.ped_units.specs.Expanding.{behind_stmts}
use Rattle.ped_links.specs.ped_units.specs.Verdicts.{calls_count, first_calls}
use Rattle.ped_calls.proofs.CourseSteps.{packed_behind}
use Rattle.ped_calls.proofs.FirstCalls.{kept_here, copied_here}
use Rattle.ped_links.proofs.StatementTrees.{tree-If, tree-Do, tree-Stop, tree-Comment, tree-Print, tree-Read}
use Rattle.ped_calls.proofs.first_calls.+first_calls.Goals as goal

pub first_calls-returns-clause-statements : goal.first_calls-returns-clause-statements
first_calls-returns-clause-statements t c =
    let ended : length c.args.statements.now ≤ c.loop-statement.statement-index = omega (arith, c.loop-statement-test.false, c.loop-statement.auto.statement-index-end) in
    let none = ap stmt_trees (drop_all c.loop-statement.statement-index c.args.statements.now ended) in
    packed_behind (map stmt_tree c.loop-statement.copies.items)
    ∙ ap (λ (ts : StmtTrees). behind_stmts (map stmt_tree c.loop-statement.copies.items) (first_calls c.loop-statement.left ts)) (sym none)
    ∙ c.loop-statement.invariant.kept

pub add_first_calls-returns-in_ok-push-in-If-clause-statements : goal.add_first_calls-returns-in_ok-push-in-If-clause-statements
add_first_calls-returns-in_ok-push-in-If-clause-statements t c rest =
    let m = c.args.left.now in
    let a : List Stmt = c.in-If.then_part.items in
    let b : List Stmt = c.in-If.else_part.items in
    let same = ap stmt_tree c.in-If.is ∙ tree-If c.in-If.condition c.in-If.then_part c.in-If.else_part in
    let at : c.deref.result.now ≡ a = cc (c.deref.ensures.value) in
    let also : c.deref-in-If.result.now ≡ b = cc (c.deref-in-If.ensures.value) in
    let first : stmt_trees c.in_ok-then_part-in-If.then_part.items ≡ first_calls m (stmt_trees a) =
    c.in_ok-then_part-in-If.ensures.statements ∙ ap (λ (ss : List Stmt). first_calls m (stmt_trees ss)) at in
    let fewer : c.first_calls.new.left ≡ m - calls_count (stmt_trees a) = c.in_ok-then_part-in-If.ensures.left ∙ ap (λ (ss : List Stmt). m - calls_count (stmt_trees ss)) at in
    let second : stmt_trees c.in_ok-else_part-in-If.else_part.items ≡ first_calls (m - calls_count (stmt_trees a)) (stmt_trees b) =
    c.in_ok-else_part-in-If.ensures.statements ∙ (λ i. first_calls (fewer i) (stmt_trees (also i))) in
    ap (λ (ss : List Stmt). behind_stmts (map stmt_tree ss) rest) c.in_ok-push-in-If.ensures.items
    ∙ kept_here c.args.copies.now.items c.in_ok-with_condition-in-If.field-0 m (stmt_tree c.args.statement.now) (If (cond_tree c.in-If.condition) (stmt_trees a) (stmt_trees b)) rest same
    (c.in_ok-with_condition-in-If.ensures ∙ (λ i. If (cond_tree c.in-If.condition) (first i) (second i))) refl

pub add_first_calls-returns-in_ok-push-in-Do-clause-statements : goal.add_first_calls-returns-in_ok-push-in-Do-clause-statements
add_first_calls-returns-in_ok-push-in-Do-clause-statements t c rest =
    let m = c.args.left.now in
    let d = c.in-Do.d in
    let same = ap stmt_tree c.in-Do.is ∙ tree-Do d in
    let at : c.deref-in-Do.result.now ≡ d.body.items = cc (c.deref-in-Do.ensures.value) in
    let body : stmt_trees c.in_ok-body-in-Do.body.items ≡ first_calls m (stmt_trees d.body.items) =
    c.in_ok-body-in-Do.ensures.statements ∙ ap (λ (ss : List Stmt). first_calls m (stmt_trees ss)) at in
    ap (λ (ss : List Stmt). behind_stmts (map stmt_tree ss) rest) c.in_ok-push-in-Do.ensures.items
    ∙ kept_here c.args.copies.now.items c.of_loop.result m (stmt_tree c.args.statement.now) (do_tree d) rest same
    (c.of_loop.ensures ∙ c.in_ok-with_body-in-Do.ensures ∙ ap (λ (ss : StmtTrees). Do (head_of d) ss) body) refl

pub add_first_calls-returns-in-Print-clause-statements : goal.add_first_calls-returns-in-Print-clause-statements
add_first_calls-returns-in-Print-clause-statements t c =
    let same = ap stmt_tree c.in-Print.is ∙ tree-Print c.in-Print.field-0 in
    on_ok_weaker c.add_copy.result
    (λ h rest. h rest ∙ copied_here (map stmt_tree c.args.copies.now.items) c.args.left.now (stmt_tree c.args.statement.now) (Print (map item_tree c.in-Print.field-0.items)) rest same refl) c.add_copy.ensures

pub add_first_calls-returns-in-Read-clause-statements : goal.add_first_calls-returns-in-Read-clause-statements
add_first_calls-returns-in-Read-clause-statements t c =
    let same = ap stmt_tree c.in-Read.is ∙ tree-Read c.in-Read.field-0 in
    on_ok_weaker c.add_copy-in-Read.result
    (λ h rest. h rest ∙ copied_here (map stmt_tree c.args.copies.now.items) c.args.left.now (stmt_tree c.args.statement.now) (Read (map expr_tree c.in-Read.field-0.items)) rest same refl) c.add_copy-in-Read.ensures

pub add_first_calls-returns-in-Stop-clause-statements : goal.add_first_calls-returns-in-Stop-clause-statements
add_first_calls-returns-in-Stop-clause-statements t c =
    let same = ap stmt_tree c.in-Stop.is ∙ tree-Stop in
    on_ok_weaker c.add_copy-in-Stop.result
    (λ h rest. h rest ∙ copied_here (map stmt_tree c.args.copies.now.items) c.args.left.now (stmt_tree c.args.statement.now) Stop rest same refl) c.add_copy-in-Stop.ensures

pub add_first_calls-returns-in-Comment-clause-statements : goal.add_first_calls-returns-in-Comment-clause-statements
add_first_calls-returns-in-Comment-clause-statements t c =
    let same = ap stmt_tree c.in-Comment.is ∙ tree-Comment c.in-Comment.field-0 in
    on_ok_weaker c.add_copy-in-Comment.result
    (λ h rest. h rest ∙ copied_here (map stmt_tree c.args.copies.now.items) c.args.left.now (stmt_tree c.args.statement.now) (Comment c.in-Comment.field-0) rest same refl) c.add_copy-in-Comment.ensures
