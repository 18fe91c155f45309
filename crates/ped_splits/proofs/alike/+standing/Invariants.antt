use Rattle.std.proofs.Common.{◌≡◌, drop}
use Rattle.ped_base.specs.Lists.{is_among}
use Rattle.ped_tree.specs.NamesIn.{stmts_names}
use Rattle.ped_tree.specs.Views.{stmt_trees}
use Rattle.ped_splits.proofs.alike.+standing.Given as goal

abbrev pub invariant-name_in_all-loop-statement : goal.invariant-name_in_all-loop-statement
invariant-name_in_all-loop-statement l = is_among l.x (stmts_names (stmt_trees (drop l.statement-index l.statements))) ≡ is_among l.x (stmts_names (stmt_trees l.statements))
