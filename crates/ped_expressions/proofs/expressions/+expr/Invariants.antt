use Rattle.std.proofs.Common.{◌≡◌, map, length, ◌≤◌, ◌+◌, ◌*◌}
use Rattle.ped_tree.specs.Views.{expr_tree}
use Rattle.ped_expressions.specs.ExpressionReading.{saturated, sums_of, products_of, exprs_of}
use Rattle.ped_expressions.proofs.Lists.{ahead}
use Rattle.ped_expressions.proofs.expressions.+expr.Given as goal

abbrev pub decreases-exprs : goal.decreases-exprs
decreases-exprs l = 8 * length l.text.now + 6

abbrev pub decreases-expr : goal.decreases-expr
decreases-expr l = 8 * length l.text.now + 5

abbrev pub decreases-sums : goal.decreases-sums
decreases-sums l = 8 * length l.text.now + 5

abbrev pub decreases-term : goal.decreases-term
decreases-term l = 8 * length l.text.now + 4

abbrev pub decreases-products : goal.decreases-products
decreases-products l = 8 * length l.text.now + 5

abbrev pub decreases-factor : goal.decreases-factor
decreases-factor l = 8 * length l.text.now + 3

abbrev pub decreases-primary : goal.decreases-primary
decreases-primary l = 8 * length l.text.now + 2

abbrev pub decreases-named : goal.decreases-named
decreases-named l = 8 * length l.text.now + 1

abbrev pub invariant-exprs-loop-exprs : goal.invariant-exprs-loop-exprs
invariant-exprs-loop-exprs l = record {
  rest : ahead (map expr_tree l.exprs.items) (exprs_of saturated l.left) ≡ exprs_of saturated l.text;
  shorter : length l.left ≤ length l.text;
}

abbrev pub decreases-exprs-loop-exprs : goal.decreases-exprs-loop-exprs
decreases-exprs-loop-exprs l = length l.left

abbrev pub invariant-products-loop-operator : goal.invariant-products-loop-operator
invariant-products-loop-operator l = record {
  rest : products_of saturated (expr_tree l.product) l.rest ≡ products_of saturated (expr_tree l.fn.first) l.text;
  shorter : length l.rest ≤ length l.text;
}

abbrev pub decreases-products-loop-operator : goal.decreases-products-loop-operator
decreases-products-loop-operator l = length l.rest

abbrev pub invariant-sums-loop-operator : goal.invariant-sums-loop-operator
invariant-sums-loop-operator l = record {
  rest : sums_of saturated (expr_tree l.sum) l.rest ≡ sums_of saturated (expr_tree l.fn.first) l.text;
  shorter : length l.rest ≤ length l.text;
}

abbrev pub decreases-sums-loop-operator : goal.decreases-sums-loop-operator
decreases-sums-loop-operator l = length l.rest
