use Rattle.std.proofs.Common.{◌≡◌, map, length}
use Rattle.ped_tree.specs.Views.{item_tree}
use Rattle.ped_expressions.specs.ExpressionReading.{saturated}
use Rattle.ped_statements.specs.Listing.{each_behind_comma}
use Rattle.ped_statements.specs.StatementReading.{print_item_of}
use Rattle.ped_statements.proofs.SimpleSteps.{all_ahead}
use Rattle.ped_statements.proofs.simple_statements.items.Given as goal

abbrev pub invariant-loop-left : goal.invariant-loop-left
invariant-loop-left l = all_ahead (map item_tree l.items.items) (each_behind_comma (print_item_of saturated) l.left) ≡ each_behind_comma (print_item_of saturated) l.text

abbrev pub decreases-loop-left : goal.decreases-loop-left
decreases-loop-left l = length l.left
