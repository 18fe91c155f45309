use Rattle.std.proofs.Common.{◌≡◌, drop}
use Rattle.ped_tree.specs.NamesIn.{all_loop_variables}
use Rattle.ped_tree.specs.Views.{stmt_trees}
use Rattle.ped_tree.specs.Names.Collecting.{with_names}
use Rattle.ped_links.proofs.assigning.+add_indexes.Given as goal

abbrev pub invariant-add_indexes-loop-statement : goal.invariant-add_indexes-loop-statement
invariant-add_indexes-loop-statement l = with_names l.names (all_loop_variables (stmt_trees (drop l.statement-index l.statements))) ≡ with_names l.initial.names (all_loop_variables (stmt_trees l.statements))
