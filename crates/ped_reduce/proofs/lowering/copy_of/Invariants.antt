use Rattle.std.proofs.Common.{◌≡◌, drop}
use Rattle.ped_tree.specs.Views.{stmt_trees}
use Rattle.ped_rules.specs.ped_steps.specs.Replacing.{followed}
use Rattle.ped_reduce.proofs.lowering.copy_of.Given as goal

abbrev pub invariant-loop-statement : goal.invariant-loop-statement
invariant-loop-statement l = followed (stmt_trees l.body.items) (stmt_trees (drop l.statement-index l.statement-items)) ≡ stmt_trees l.statement-items
