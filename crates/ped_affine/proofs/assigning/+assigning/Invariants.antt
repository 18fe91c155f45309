use Rattle.std.proofs.Common.{◌≡◌, drop}
use Rattle.ped_tree.specs.Views.{stmt_trees}
use Rattle.ped_tree.specs.Names.Collecting.{with_names}
use Rattle.ped_affine.specs.Assigned.{assigned_in_all}
use Rattle.ped_affine.proofs.assigning.+assigning.Given as goal

abbrev pub invariant-add_assigned-loop-statement : goal.invariant-add_assigned-loop-statement
invariant-add_assigned-loop-statement l =
    with_names l.names (assigned_in_all (stmt_trees (drop l.statement-index l.statements))) ≡ with_names l.fn.names (assigned_in_all (stmt_trees l.statements))
