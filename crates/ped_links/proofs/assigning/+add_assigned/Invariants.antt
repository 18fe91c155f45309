use Rattle.std.proofs.Common.{◌≡◌, drop}
use Rattle.ped_tree.specs.Views.{stmt_trees}
use Rattle.ped_tree.specs.Names.Collecting.{with_names}
use Rattle.ped_units.specs.Linking.{all_assigned_in}
use Rattle.ped_links.proofs.assigning.+add_assigned.Given as goal

abbrev pub invariant-add_assigned-loop-statement : goal.invariant-add_assigned-loop-statement
invariant-add_assigned-loop-statement l = with_names l.names (all_assigned_in (stmt_trees (drop l.statement-index l.statements))) ≡ with_names l.initial.names (all_assigned_in (stmt_trees l.statements))
