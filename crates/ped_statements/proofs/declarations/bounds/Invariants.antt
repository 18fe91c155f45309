use Rattle.std.proofs.Common.{◌≡◌, map, length, ◌≤◌}
use Rattle.ped_tree.specs.Views.{bound_tree}
use Rattle.ped_expressions.specs.ExpressionReading.{saturated}
use Rattle.ped_statements.specs.Listing.{several}
use Rattle.ped_statements.specs.StatementReading.{bound_of}
use Rattle.ped_statements.proofs.Gathered.{ahead}
use Rattle.ped_statements.proofs.declarations.bounds.Given as goal

abbrev pub invariant-loop-bounds : goal.invariant-loop-bounds
invariant-loop-bounds l = record {
  rest : ahead (map bound_tree l.bounds.items) (several (bound_of saturated) l.left) ≡ several (bound_of saturated) l.text;
  shorter : length l.left ≤ length l.text;
}

abbrev pub decreases-loop-bounds : goal.decreases-loop-bounds
decreases-loop-bounds l = length l.left
