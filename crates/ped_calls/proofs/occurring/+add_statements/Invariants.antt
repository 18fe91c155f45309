use Rattle.std.proofs.Common.{◌≡◌, drop}
use Rattle.ped_tree.specs.NamesIn.{stmts_names}
use Rattle.ped_tree.specs.Views.{stmt_trees}
use Rattle.ped_tree.specs.Names.Collecting.{with_names}
use Rattle.ped_links.specs.ped_units.specs.Units.{all_with_calls}
use Rattle.ped_links.specs.ped_units.specs.Expanding.{naming_arguments}
use Rattle.ped_calls.proofs.occurring.+add_statements.Given as goal

abbrev pub invariant-add_statements-loop-statement : goal.invariant-add_statements-loop-statement
invariant-add_statements-loop-statement l = with_names l.names (stmts_names (all_with_calls naming_arguments (stmt_trees (drop l.statement-index l.statements)))) ≡ with_names l.initial.names (stmts_names (all_with_calls naming_arguments (stmt_trees l.statements)))
