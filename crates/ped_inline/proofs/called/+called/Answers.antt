use Rattle.std.proofs.Common.{◌≡◌, ◌+◌, ◌++◌, List, length, map, sym, ap, ◌∙◌, arith}
use Rattle.std.proofs.lemmas.Result.{on_ok_weaker}
use Rattle.ped_tree.specs.Tree.{StmtTree, StmtTrees, If}
use Rattle.ped_tree.specs.Views.{cond_tree, stmt_tree, stmt_trees}
use Rattle.ped_tree.specs.Numbering.{numbered, all_numbered, statements_count}
use Rattle.ped_tree.specs.declared.statements.Stmt.{Stmt}
use Rattle.ped_tree.proofs.Levels.{stmt_tree-If}
use Rattle.ped_tree.proofs.Numbers.{length-all_numbered, stmt_trees-drop}
use Rattle.ped_inline.specs.CallsPane.{called_at, called_from}
use Rattle.ped_inline.specs.CodeFolding.{called_seen}
use Rattle.ped_inline.proofs.PlacedBlocks.{if_called, called_left}
use Rattle.ped_inline.proofs.called.+called.Goals as goal

pub push_all-loop-statement-preserved : goal.push_all-loop-statement-preserved
push_all-loop-statement-preserved t c =
    let all = c.args.statements.now in
    let i = c.loop-statement.statement-index in
    let s = c.statement-item.result in
    let added = c.in_ok-push_statement.ensures in
    let tree = ap statements_count (stmt_trees-drop all i s c.loop-statement-test.true c.statement-item.is) in
    let before = c.loop-statement.invariant.next in
    let number = added.next in
    record {
      found = called_left all i s c.loop-statement.next c.push_statement.new.next (map called_seen c.loop-statement.found.items) (map called_seen c.push_statement.new.found.items) (map called_seen c.args.found.now.items ++ called_from c.args.next.now (all_numbered (stmt_trees all)))
          c.loop-statement-test.true c.statement-item.is number added.found c.loop-statement.invariant.found;
      next = omega (arith, tree, before, number);
    }

pub push_statement-returns-in_ok-push_all-in-If-clause-found :
    goal.push_statement-returns-in_ok-push_all-in-If-clause-found
push_statement-returns-in_ok-push_all-in-If-clause-found t c =
    let n = c.args.next.now in
    let a : StmtTrees = stmt_trees c.in-If.then_part.items in
    let b : StmtTrees = stmt_trees c.in-If.else_part.items in
    let statement : StmtTree = If (cond_tree c.in-If.condition) a b in
    let tree : stmt_tree c.args.statement.now ≡ statement = ap stmt_tree c.in-If.is ∙ stmt_tree-If c.in-If.condition c.in-If.then_part c.in-If.else_part in
    let old = map called_seen c.args.found.now.items in
    let one = map called_seen c.push_own.new.found.items in
    let two = map called_seen c.push_all.new.found.items in
    let three = map called_seen c.push_all-in-If.new.found.items in
    let then_is = c.deref.ensures.value in
    let else_is = c.deref-in-If.ensures.value in
    let own : one ≡ old ++ called_at n statement = c.in_ok-push_own-in-If.ensures ∙ ap (λ (s : StmtTree). old ++ called_at n s) tree in
    let first : two ≡ one ++ called_from (n + 1) (all_numbered a) = c.in_ok-push_all-in-If.ensures.found ∙ ap (λ (ss : List Stmt). one ++ called_from (n + 1) (all_numbered (stmt_trees ss))) then_is in
    let counted : statements_count (stmt_trees c.deref.result.now) ≡ statements_count a = ap (λ (ss : List Stmt). statements_count (stmt_trees ss)) then_is in
    let next = c.in_ok-push_all-in-If.ensures.next in
    let long = length-all_numbered a in
    let number : c.push_all.new.next ≡ n + 1 + length (all_numbered a) = omega (arith, next, counted, long) in
    on_ok_weaker c.push_all-in-If.result
    (λ e. if_called statement (all_numbered a) (all_numbered b) n c.push_all.new.next old one two three own first number
    (e ∙ ap (λ (ss : List Stmt). two ++ called_from c.push_all.new.next (all_numbered (stmt_trees ss))) else_is)
    ∙ ap (λ (s : StmtTree). old ++ called_from n (numbered s)) (sym tree))
    c.push_all-in-If.ensures.found
