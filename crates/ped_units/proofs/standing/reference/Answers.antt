use Rattle.std.proofs.Common.{◌≡◌, ℕ, List, [], ◌∷◌, false, map, length, sym, ap, ◌∙◌, eqb}
use Rattle.std.specs.Global.{Vec}
use Rattle.ped_tree.specs.Tree.{ExprTree, Element}
use Rattle.ped_tree.specs.Views.{expr_tree, expr_level, pack_exprs}
use Rattle.ped_tree.specs.declared.expressions.Expr.{Expr}
use Rattle.ped_tree.specs.declared.expressions.Expr.TheOpen as open_expr
use Rattle.ped_tree.specs.declared.expressions.Expr.TheVariants as variant
use Rattle.ped_tree.specs.declared.expressions.Expr.TheFolds.{fold-roll-Expr}
use Rattle.ped_units.specs.Units.{reference_of}
use Rattle.ped_units.proofs.standing.reference.Goals as goal

element_tree : (x : List ℕ) (es : Vec Expr) → expr_tree (variant.Element x es) ≡ Element x (pack_exprs (map expr_tree es.items))
element_tree x es = ap expr_tree (sym (variant.rolls-Element x es)) ∙ fold-roll-Expr ExprTree expr_level (open_expr.Element x es)

-- a name with some arguments
referred : (x : List ℕ) (es : List Expr) (copies : Vec Expr) → eqb (length es) 0 ≡ false → map expr_tree copies.items ≡ map expr_tree es → expr_tree (variant.Element x copies) ≡ reference_of x (pack_exprs (map expr_tree es))
referred x [] copies h k = absurd cc
referred x (e ∷ es) copies h k = element_tree x copies ∙ ap (λ (ts : List ExprTree). Element x (pack_exprs ts)) k

pub returns : goal.returns
returns c = referred c.args.name.now c.args.arguments.now c.in_ok-copies.field-0 (sym c.is_empty.ensures ∙ c.if-is_empty.false) c.in_ok-copies.ensures
