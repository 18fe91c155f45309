use Rattle.std.proofs.Common.{◌≡◌, ◌<◌, List, length, get_or, subst}
use Rattle.ped_tree.specs.declared.statements.Stmt.{Stmt}
use Rattle.ped_reduce.proofs.ListAnswers.{statement_more}
use Rattle.ped_reduce.proofs.lists.with_list.Goals as goal

pub loop-statement-preserved : goal.loop-statement-preserved
loop-statement-preserved c =
    let k = c.loop-statement.statement-index in
    let s = c.statement-item.result in
    let all = c.deref-statement-items.ensures.value in
    let within = subst (λ (ss : List Stmt). k < length ss) all c.loop-statement-test.true in
    let there = subst (λ (ss : List Stmt). s ≡ get_or ss k s) all c.statement-item.is in
    statement_more c.args.names.now c.args.d.now.body.items k s within there c.loop-statement.body.items c.push.new.self.items c.in_ok-copy.field-0 c.in_ok-push.ensures.items c.in_ok-copy.ensures c.loop-statement.invariant
