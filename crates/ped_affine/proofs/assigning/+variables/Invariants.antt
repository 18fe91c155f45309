use Rattle.std.proofs.Common.{◌≡◌, drop}
use Rattle.ped_tree.specs.Views.{stmt_trees}
use Rattle.ped_tree.specs.Names.Collecting.{with_names}
use Rattle.ped_tree.specs.NamesIn.{all_loop_variables}
use Rattle.ped_affine.proofs.assigning.+variables.Given as goal

abbrev pub invariant-add_variables-loop-statement : goal.invariant-add_variables-loop-statement
invariant-add_variables-loop-statement l =
    with_names l.names (all_loop_variables (stmt_trees (drop l.statement-index l.statements))) ≡ with_names l.fn.names (all_loop_variables (stmt_trees l.statements))
