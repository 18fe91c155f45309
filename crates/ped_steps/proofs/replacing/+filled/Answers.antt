use Rattle.std.proofs.Common.{◌≡◌, ◌+◌, List, ap, sym, ◌∙◌, subst, arith}
use Rattle.std.specs.Prelude.{OnOk}
use Rattle.ped_tree.specs.Tree.{StmtTrees}
use Rattle.std.proofs.lemmas.List.{drop_all}
use Rattle.ped_tree.specs.Views.{stmt_trees}
use Rattle.ped_tree.specs.declared.statements.Stmt.{Stmt}
use Rattle.ped_steps.specs.Replacing.{followed}
use Rattle.ped_steps.specs.Placing.{all_placed}
use Rattle.ped_steps.proofs.Followed.{count_next, placed_next, followed-none, placed_loop}
use Rattle.ped_steps.proofs.replacing.+filled.Goals as goal

pub filled-loop-statement-preserved : goal.filled-loop-statement-preserved
filled-loop-statement-preserved t c =
    let next = ap (λ k. c.loop-statement.next + k) c.count_statement-next.ensures in
    record {
      number = count_next c.args.statements.now c.loop-statement.statement-index c.statement-item.result c.loop-statement-test.true c.statement-item.is c.loop-statement.next _ next _ c.loop-statement.invariant.number;
      filled = placed_next c.args.statements.now c.loop-statement.statement-index c.statement-item.result c.loop-statement-test.true c.statement-item.is c.loop-statement.next _ next
          c.args.place.now _ _ _ c.loop-statement.invariant.filled c.in_ok-add.ensures;
    }

pub filled-returns : goal.filled-returns
filled-returns t c =
    let all = stmt_trees c.loop-statement.all.items in
    let left = drop_all c.loop-statement.statement-index c.args.statements.now (omega (arith, c.loop-statement-test.false)) in
    sym (followed-none all) ∙ ap (λ (ss : List Stmt). followed all (all_placed c.args.place.now (stmt_trees ss) c.loop-statement.next)) (sym left) ∙ c.loop-statement.invariant.filled

pub add-returns-in-Do : goal.add-returns-in-Do
add-returns-in-Do t c =
    let d = c.in-Do.d in
    let all = stmt_trees c.args.all.now.items in
    let placed_here = placed_loop c.args.place.now c.args.statement.now c.in_ok-new-in-Do.new d c.args.number c.in_ok-body-in-Do.body.items c.deref-in-Do.result.now c.in-Do.is c.if-number-place-2.false c.deref-in-Do.ensures.value
    c.in_ok-body-in-Do.ensures c.in_ok-new-in-Do.ensures in
    subst (λ (ss : StmtTrees). OnOk c.add_one-in-Do.result (stmt_trees c.add_one-in-Do.new.all.items ≡ followed all ss)) placed_here c.add_one-in-Do.ensures
