use Rattle.std.proofs.Common.{◌≡◌, map, take}
use Rattle.ped_tree.specs.Views.{expr_tree, stmt_tree}
use Rattle.ped_symbolic.specs.Substitution.{statement_substituted}
use Rattle.ped_symbolic.proofs.substitution.statements.+substitute_in_statement.Given as goal

abbrev pub invariant-substitute_in_statements-loop-statement : goal.invariant-substitute_in_statements-loop-statement
invariant-substitute_in_statements-loop-statement l =
    map stmt_tree l.new.items ≡ map (statement_substituted l.name (expr_tree l.by)) (map stmt_tree (take l.statement-index l.statements))
