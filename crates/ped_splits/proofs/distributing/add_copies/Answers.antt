use Rattle.ped_tree.specs.Views.{stmt_trees}
use Rattle.ped_rules.specs.ped_steps.specs.Replacing.{followed}
use Rattle.ped_splits.proofs.JoinedUnits.{next_copy, all_copied}
use Rattle.ped_splits.proofs.distributing.add_copies.Goals as goal

pub loop-statement-preserved : goal.loop-statement-preserved
loop-statement-preserved c =
    next_copy c.loop-statement.all.items c.push.new.self.items c.args.statements.now c.loop-statement.statement-index c.statement-item.result c.in_ok-copy.field-0 (followed (stmt_trees c.args.all.now.items) (stmt_trees c.args.statements.now))
    c.in_ok-push.ensures.items c.in_ok-copy.ensures c.loop-statement-test.true c.statement-item.is c.loop-statement.invariant

pub returns : goal.returns
returns c = all_copied c.loop-statement.all.items c.args.statements.now c.loop-statement.statement-index (followed (stmt_trees c.args.all.now.items) (stmt_trees c.args.statements.now)) c.loop-statement-test.false c.loop-statement.invariant
