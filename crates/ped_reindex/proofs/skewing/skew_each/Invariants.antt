use Rattle.std.proofs.Common.{◌≡◌, map, take}
use Rattle.ped_tree.specs.Views.{stmt_tree}
use Rattle.ped_reindex.specs.CodeSkewing.{skewed_statement}
use Rattle.ped_reindex.proofs.skewing.skew_each.Given as goal

abbrev pub invariant-loop-statement : goal.invariant-loop-statement
invariant-loop-statement l = map stmt_tree l.new.items ≡ map (skewed_statement l.factor l.outer) (map stmt_tree (take l.statement-index l.statements))
