use Rattle.std.proofs.Common.{◌≡◌, map, take}
use Rattle.ped_tree.specs.Views.{expr_tree}
use Rattle.ped_tree.proofs.+copy_expr.Given as goal

abbrev pub invariant-copying::expressions::copy_exprs-loop-expr :
    goal.invariant-copying::expressions::copy_exprs-loop-expr
invariant-copying::expressions::copy_exprs-loop-expr l =
    map expr_tree l.copies.items ≡ map expr_tree (take l.expr-index l.exprs)
