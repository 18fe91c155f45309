-- The uses in an element.
use Rattle.std.proofs.Common.{◌≡◌, suc, List, [], ◌∷◌, map, length, refl, ap, ◌∙◌, rules}
use Rattle.ped_tree.specs.Tree as plain
use Rattle.ped_tree.specs.Views.{expr_tree, pack_exprs}
use Rattle.ped_tree.specs.declared.expressions.Expr.{Expr, the_lemmas}
use Rattle.ped_tree.specs.declared.expressions.Expr as variant
use Rattle.ped_symbols.specs.declared.uses.Role.TheVariants.{Assigned, Operand}
use Rattle.ped_symbols.specs.Uses.{used_as, expr_count, expr_uses, exprs_uses, target_uses}

expr_tree-Element : (x : _) (es : _) → expr_tree (variant.Element x es) ≡ plain.Element x (pack_exprs (map expr_tree es.items))
expr_tree-Element x es = search (rules, the_lemmas)

-- as many as the list has
count_packed : (es : List Expr) → expr_count (pack_exprs (map expr_tree es)) ≡ length es
count_packed [] = refl
count_packed (e ∷ es) = ap suc (count_packed es)

-- an operand with so many subscripts, and the uses in them
pub uses_of_element : (x : _) (es : _) → expr_uses (expr_tree (variant.Element x es)) ≡ used_as (Operand (length es.items)) x ∷ exprs_uses (pack_exprs (map expr_tree es.items))
uses_of_element x es = ap expr_uses (expr_tree-Element x es) ∙ ap (λ n. used_as (Operand n) x ∷ exprs_uses (pack_exprs (map expr_tree es.items))) (count_packed es.items)

-- what is assigned has so many subscripts
pub uses_of_target : (x : _) (es : _) → target_uses (expr_tree (variant.Element x es)) ≡ used_as (Assigned (length es.items)) x ∷ exprs_uses (pack_exprs (map expr_tree es.items))
uses_of_target x es = ap target_uses (expr_tree-Element x es) ∙ ap (λ n. used_as (Assigned n) x ∷ exprs_uses (pack_exprs (map expr_tree es.items))) (count_packed es.items)
