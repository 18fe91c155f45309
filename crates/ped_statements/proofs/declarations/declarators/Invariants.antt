use Rattle.std.proofs.Common.{◌≡◌, map, length, ◌≤◌}
use Rattle.ped_tree.specs.Views.{declarator_tree}
use Rattle.ped_expressions.specs.ExpressionReading.{saturated}
use Rattle.ped_statements.specs.Listing.{several}
use Rattle.ped_statements.specs.StatementReading.{declarator_of}
use Rattle.ped_statements.proofs.Gathered.{ahead}
use Rattle.ped_statements.proofs.declarations.declarators.Given as goal

abbrev pub invariant-loop-declarators : goal.invariant-loop-declarators
invariant-loop-declarators l = record {
  rest : ahead (map declarator_tree l.declarators.items) (several (declarator_of saturated) l.left) ≡ several (declarator_of saturated) l.text;
  shorter : length l.left ≤ length l.text;
}

abbrev pub decreases-loop-declarators : goal.decreases-loop-declarators
decreases-loop-declarators l = length l.left
