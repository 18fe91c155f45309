use Rattle.std.proofs.Common.{◌≡◌, drop}
use Rattle.ped_tree.specs.NamesIn.{stmts_names}
use Rattle.ped_tree.specs.Views.{stmt_trees}
use Rattle.ped_tree.specs.Names.Collecting.{with_names}
use Rattle.ped_refusals.proofs.occurrences.+statements.Given as goal

abbrev pub invariant-add_stmts-loop-statement : goal.invariant-add_stmts-loop-statement
invariant-add_stmts-loop-statement l = with_names l.names (stmts_names (stmt_trees (drop l.statement-index l.statements))) ≡ with_names l.initial.names (stmts_names (stmt_trees l.statements))
