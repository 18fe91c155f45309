use Rattle.std.proofs.Common.{◌≡◌, map, length, ◌≤◌}
use Rattle.ped_tree.specs.Views.{expr_tree}
use Rattle.ped_expressions.specs.ExpressionReading.{expr_of, saturated}
use Rattle.ped_valid.specs.ped_parse.specs.ped_statements.specs.Listing.{several}
use Rattle.ped_valid.specs.ped_parse.specs.ped_statements.proofs.Gathered.{ahead}
use Rattle.ped_units.proofs.forms.expressions.Given as goal

abbrev pub invariant-loop-expressions : goal.invariant-loop-expressions
invariant-loop-expressions l = record {
  rest : ahead (map expr_tree l.expressions.items) (several (expr_of saturated) l.left) ≡ several (expr_of saturated) l.text;
  shorter : length l.left ≤ length l.text;
}

abbrev pub decreases-loop-expressions : goal.decreases-loop-expressions
decreases-loop-expressions l = length l.left
