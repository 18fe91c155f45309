use Rattle.ped_tree.specs.Views.{stmt_tree}
use Rattle.ped_units.specs.Views.{called_of}
use Rattle.ped_units.proofs.unit_refusals.passes_limit.Goals.{then-stmt_has_large_literal, else-stmt_has_large_literal}
use Rattle.ped_units.proofs.CallLimits.{large_call, long_call}
use Rattle.ped_units.proofs.unit_refusals.passes_limit.Goals as goal

pub returns : goal.returns
returns c = elim c.if-stmt_has_large_literal.branch [
  | then-stmt_has_large_literal w ↦ large_call (called_of c.args.called.now) (stmt_tree c.in_ok-statement.statement) c.stmt_has_large_literal.result c.if-stmt_has_large_literal.passes c.stmt_has_large_literal.ensures c.in_ok-statement.ensures w.if-stmt_has_large_literal.true w.passes-is
  | else-stmt_has_large_literal w ↦ long_call (called_of c.args.called.now) (stmt_tree c.in_ok-statement.statement) c.stmt_has_large_literal.result c.if-stmt_has_large_literal.passes w.length.result c.stmt_has_large_literal.ensures c.in_ok-statement.ensures w.if-stmt_has_large_literal.false w.length.ensures w.passes-is
]
