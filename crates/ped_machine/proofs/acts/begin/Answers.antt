use Rattle.std.proofs.Common.{◌≡◌, ◌+◌, ℕ, List, map, Ok, true, false, sym, ap, subst, ◌∙◌}
use Rattle.ped_tree.specs.Tree.{StmtTree, Assign, Print, Read}
use Rattle.ped_tree.specs.Numbering.{statements_count}
use Rattle.ped_tree.specs.declared.statements.Stmt.{Stmt}
use Rattle.ped_tree.specs.declared.statements.PrintItem.{PrintItem}
use Rattle.ped_tree.specs.declared.expressions.Expr.{Expr}
use Rattle.ped_tree.specs.Views.{expr_tree, cond_tree, item_tree, stmt_tree, stmt_trees}
use Rattle.ped_tree.proofs.Levels.{stmt_tree-If}
use Rattle.ped_store.specs.Keeping.{memory_of}
use Rattle.ped_interleavings.specs.ped_eval.specs.Readiness.{CanDo, CanRun}
use Rattle.ped_interleavings.specs.ped_eval.proofs.Parts.{then_can, else_can, tree-Assign, tree-Print, tree-Read}
use Rattle.ped_interleavings.specs.Lefts.{left_of_all}
use Rattle.ped_machine.specs.Parts.{parts_of, parts_left}
use Rattle.ped_machine.proofs.Acting.{acted_as, acted_or_not, pushed_can, branched}
use Rattle.ped_machine.proofs.acts.begin.Goals as goal

pub returns-in-Assign-clause-does : goal.returns-in-Assign-clause-does
returns-in-Assign-clause-does c l =
    acted_as c.args.symbols.now c.args.state.now.scope c.args.number (stmt_tree c.args.stmt.now) (Assign (expr_tree c.in-Assign.left) (expr_tree c.in-Assign.right)) (memory_of c.args.state.now.store) (memory_of c.do_assignment.new.state.store) c.do_assignment.result
    (ap stmt_tree c.in-Assign.is ∙ tree-Assign c.in-Assign.left c.in-Assign.right) c.do_assignment.ensures.does l (parts_left (parts_of c.args.parts.now) c.args.state.now.scope)

pub returns-in-Print-clause-does : goal.returns-in-Print-clause-does
returns-in-Print-clause-does c =
    acted_or_not c.do_print.result c.args.symbols.now c.args.state.now.scope c.args.number (stmt_tree c.args.stmt.now) (Print (map item_tree c.deref-in-Print.result.now)) (memory_of c.args.state.now.store) (memory_of c.do_print.new.state.store)
    (ap stmt_tree c.in-Print.is ∙ tree-Print c.in-Print.items ∙ ap (λ (items : List PrintItem). Print (map item_tree items)) (sym c.deref-in-Print.ensures.value)) c.do_print.ensures.does (parts_left (parts_of c.args.parts.now) c.args.state.now.scope)

pub returns-in-Read-clause-does : goal.returns-in-Read-clause-does
returns-in-Read-clause-does c l =
    acted_as c.args.symbols.now c.args.state.now.scope c.args.number (stmt_tree c.args.stmt.now) (Read (map expr_tree c.deref-in-Read.result.now)) (memory_of c.args.state.now.store) (memory_of c.do_read.new.state.store) c.do_read.result
    (ap stmt_tree c.in-Read.is ∙ tree-Read c.in-Read.items ∙ ap (λ (items : List Expr). Read (map expr_tree items)) (sym c.deref-in-Read.ensures.value)) c.do_read.ensures.does l (parts_left (parts_of c.args.parts.now) c.args.state.now.scope)

pub returns-in-Ok-true-clause-does : goal.returns-in-Ok-true-clause-does
returns-in-Ok-true-clause-does c =
    let table = c.args.symbols.now in
    let scope = c.args.state.now.scope in
    let old = memory_of c.args.state.now.store in
    let rest = parts_left (parts_of c.args.parts.now) scope in
    let is = ap stmt_tree c.in-If.is ∙ stmt_tree-If c.in-If.condition c.in-If.then_part c.in-If.else_part in
    let a = stmt_trees c.in-If.then_part.items in
    branched c.push_block.result (parts_of c.args.parts.now) (parts_of c.push_block.new.parts) (stmt_trees c.deref.result.now) (c.args.number + 1) c.push_block.ensures.ok
    table scope c.args.number old c.requires.ready.bounds (stmt_tree c.args.stmt.now) (cond_tree c.in-If.condition) a (stmt_trees c.in-If.else_part.items) true
    is (sym c.do_condition.ensures ∙ c.in-Ok-true.is ∙ ap Ok c.in-Ok-true.field-0-test)
    (ap (λ (ss : List Stmt). left_of_all (stmt_trees ss) (c.args.number + 1) scope rest) c.deref.ensures.value) c.push_block.ensures.done

pub returns-in-Ok-true-clause-go : goal.returns-in-Ok-true-clause-go
returns-in-Ok-true-clause-go c =
    let table = c.args.symbols.now in
    let scope = c.args.state.now.scope in
    let is = ap stmt_tree c.in-If.is ∙ stmt_tree-If c.in-If.condition c.in-If.then_part c.in-If.else_part in
    let can = then_can table scope c.args.number (cond_tree c.in-If.condition) (stmt_trees c.in-If.then_part.items) (stmt_trees c.in-If.else_part.items) (subst (λ (x : StmtTree). CanDo table scope c.args.number x) is c.requires.can) in
    pushed_can c.push_block.result (parts_of c.args.parts.now) (parts_of c.push_block.new.parts) (stmt_trees c.deref.result.now) (c.args.number + 1) c.push_block.ensures.ok
    table scope (subst (λ (ss : List Stmt). CanRun table scope (c.args.number + 1) (stmt_trees ss)) (sym c.deref.ensures.value) can) c.requires.go c.push_block.ensures.err

pub returns-in-Ok-false-clause-does : goal.returns-in-Ok-false-clause-does
returns-in-Ok-false-clause-does c =
    let table = c.args.symbols.now in
    let scope = c.args.state.now.scope in
    let old = memory_of c.args.state.now.store in
    let rest = parts_left (parts_of c.args.parts.now) scope in
    let is = ap stmt_tree c.in-If.is ∙ stmt_tree-If c.in-If.condition c.in-If.then_part c.in-If.else_part in
    let a = stmt_trees c.in-If.then_part.items in
    let b = stmt_trees c.in-If.else_part.items in
    let count : c.count_statements.result ≡ statements_count a = c.count_statements.ensures ∙ ap (λ (ss : List Stmt). statements_count (stmt_trees ss)) c.deref-in-Ok-false.ensures.value in
    branched c.push_block-in-Ok-false.result (parts_of c.args.parts.now) (parts_of c.push_block-in-Ok-false.new.parts) (stmt_trees c.deref-in-Ok-false-2.result.now) (c.args.number + 1 + c.count_statements.result) c.push_block-in-Ok-false.ensures.ok
    table scope c.args.number old c.requires.ready.bounds (stmt_tree c.args.stmt.now) (cond_tree c.in-If.condition) a b false
    is (sym c.do_condition.ensures ∙ c.in-Ok-false.is ∙ ap Ok c.in-Ok-false.field-0-test)
    (λ i. left_of_all (stmt_trees (c.deref-in-Ok-false-2.ensures.value i)) (c.args.number + 1 + count i) scope rest) c.push_block-in-Ok-false.ensures.done

pub returns-in-Ok-false-clause-go : goal.returns-in-Ok-false-clause-go
returns-in-Ok-false-clause-go c =
    let table = c.args.symbols.now in
    let scope = c.args.state.now.scope in
    let n = c.args.number in
    let is = ap stmt_tree c.in-If.is ∙ stmt_tree-If c.in-If.condition c.in-If.then_part c.in-If.else_part in
    let a = stmt_trees c.in-If.then_part.items in
    let b = stmt_trees c.in-If.else_part.items in
    let count : c.count_statements.result ≡ statements_count a = c.count_statements.ensures ∙ ap (λ (ss : List Stmt). statements_count (stmt_trees ss)) c.deref-in-Ok-false.ensures.value in
    let can = else_can table scope n (cond_tree c.in-If.condition) a b (subst (λ (x : StmtTree). CanDo table scope n x) is c.requires.can) in
    let counted : CanRun table scope (n + 1 + c.count_statements.result) b = subst (λ (k : ℕ). CanRun table scope (n + 1 + k) b) (sym count) can in
    pushed_can c.push_block-in-Ok-false.result (parts_of c.args.parts.now) (parts_of c.push_block-in-Ok-false.new.parts) (stmt_trees c.deref-in-Ok-false-2.result.now) (n + 1 + c.count_statements.result) c.push_block-in-Ok-false.ensures.ok
    table scope (subst (λ (ss : List Stmt). CanRun table scope (n + 1 + c.count_statements.result) (stmt_trees ss)) (sym c.deref-in-Ok-false-2.ensures.value) counted) c.requires.go c.push_block-in-Ok-false.ensures.err
