use Rattle.std.proofs.Common.{◌≡◌, drop}
use Rattle.ped_base.specs.Lists.{is_among}
use Rattle.ped_tree.specs.Views.{stmt_trees}
use Rattle.ped_tree.specs.NamesIn.{all_loop_variables}
use Rattle.ped_rules.proofs.indices.+loops.Given as goal

abbrev pub invariant-is_index_of-loop-statement : goal.invariant-is_index_of-loop-statement
invariant-is_index_of-loop-statement l =
    is_among l.name (all_loop_variables (stmt_trees (drop l.statement-index l.statements))) ≡ is_among l.name (all_loop_variables (stmt_trees l.statements))
