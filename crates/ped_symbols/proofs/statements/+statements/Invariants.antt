use Rattle.std.proofs.Common.{take}
use Rattle.ped_tree.specs.Views.{stmt_trees}
use Rattle.ped_symbols.specs.Sites.{stmts_sites}
use Rattle.ped_symbols.specs.Passes.{Goes}
use Rattle.ped_symbols.proofs.statements.+statements.Given as goal

abbrev pub invariant-statements-loop-statement : goal.invariant-statements-loop-statement
invariant-statements-loop-statement l = Goes l.known l.initial.kinds l.kinds l.fn.found l.next (stmts_sites (stmt_trees (take l.statement-index l.all)))
