use Rattle.std.proofs.Common.{◌≡◌, map, length, ◌≤◌}
use Rattle.ped_tree.specs.Views.{value_tree}
use Rattle.ped_expressions.specs.ExpressionReading.{saturated}
use Rattle.ped_statements.specs.Listing.{several}
use Rattle.ped_statements.specs.StatementReading.{value_of}
use Rattle.ped_statements.proofs.Gathered.{ahead}
use Rattle.ped_statements.proofs.declarations.constants.Given as goal

abbrev pub invariant-loop-constants : goal.invariant-loop-constants
invariant-loop-constants l = record {
  rest : ahead (map value_tree l.constants.items) (several (value_of saturated) l.left) ≡ several (value_of saturated) l.text;
  shorter : length l.left ≤ length l.text;
}

abbrev pub decreases-loop-constants : goal.decreases-loop-constants
decreases-loop-constants l = length l.left
