use Rattle.std.proofs.Common.{◌≡◌, drop}
use Rattle.ped_tree.specs.Views.{stmt_trees}
use Rattle.ped_rules.specs.ped_steps.specs.Replacing.{followed}
use Rattle.ped_splits.proofs.distributing.add_copies.Given as goal

abbrev pub invariant-loop-statement : goal.invariant-loop-statement
invariant-loop-statement l =
    followed (stmt_trees l.all.items) (stmt_trees (drop l.statement-index l.statements)) ≡ followed (stmt_trees l.initial.all.items) (stmt_trees l.statements)
