use Rattle.std.proofs.Common.{◌≡◌, drop}
use Rattle.ped_tree.specs.Views.{stmt_trees}
use Rattle.ped_rules.specs.OnlyLoops.{only_loop}
use Rattle.ped_rules.proofs.only_loops.only_loop.Given as goal

abbrev pub invariant-loop-i : goal.invariant-loop-i
invariant-loop-i l = only_loop (stmt_trees (drop l.i l.statements)) ≡ only_loop (stmt_trees l.statements)
