use Rattle.std.proofs.Common.{◌≡◌, drop}
use Rattle.ped_tree.specs.Grammar.Literals.{stmts_have_large_literal}
use Rattle.ped_tree.specs.Views.{stmt_trees}
use Rattle.ped_limits.proofs.literals.+stmt_literals.Given as goal

abbrev pub invariant-stmts_have_large_literal-loop-statement : goal.invariant-stmts_have_large_literal-loop-statement
invariant-stmts_have_large_literal-loop-statement l = stmts_have_large_literal (stmt_trees (drop l.statement-index l.statements)) ≡ stmts_have_large_literal (stmt_trees l.statements)
