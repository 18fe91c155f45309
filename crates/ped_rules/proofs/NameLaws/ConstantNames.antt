-- A name without a constant value occurs in no expression that has one.
use Rattle.std.proofs.Common.{Bool, List, None, Some, ap, false, refl, sym, true, ℕ, ℤ, ◌++◌, ◌||◌, ◌∙◌, ◌≡◌}
use Rattle.ped_base.proofs.NameEquality.{same_is}
use Rattle.ped_base.specs.Arithmetic.Arithmetic.{difference_of, negation_of, power_of, product_of, quotient_of, sum_of}
use Rattle.ped_base.specs.Lists.{is_among, is_same_text}
use Rattle.ped_tree.proofs.NameLaws.Collected.{among_append}
use Rattle.ped_tree.specs.Constants.ConstantExpressions.{constant_value, constant_values}
use Rattle.ped_tree.specs.Constants.NamedConstants.{value_named}
use Rattle.ped_tree.specs.NamesIn.{expr_names, exprs_names}
use Rattle.ped_tree.specs.Tree.{Add, Call, Div, Element, ExprTree, ExprTrees, Int, Mul, Neg, Pow, Sub, Var, more_exprs, no_exprs}
use Rattle.ped_rules.specs.Spans.{Values}
use Rattle.ped_rules.proofs.NameLaws.ConstantBounds.{of_binary, of_call, of_onto, of_unary}

none_in_both : (y : List ℕ) (xs ys : List (List ℕ)) → is_among y xs ≡ false → is_among y ys ≡ false → is_among y (xs ++ ys) ≡ false
none_in_both y xs ys p q = among_append y xs ys ∙ (λ i. p i || q i)

module _ (values : Values) (y : List ℕ) (none : value_named values y ≡ None) where
  not_it : (x : List ℕ) (m : ℤ) → value_named values x ≡ Some m → (b : Bool) → is_same_text y x ≡ b → is_same_text y x || false ≡ false
  not_it x m h true e = let other = sym none ∙ ap (value_named values) (same_is y x e) ∙ h in absurd cc
  not_it x m h false e = ap (λ (b : Bool). b || false) e

  mutual
    pub unnamed : (e : ExprTree) (m : ℤ) → constant_value values e ≡ Some m → is_among y (expr_names e) ≡ false
    unnamed (Int n) m h = refl
    unnamed (Var x) m h = not_it x m h (is_same_text y x) refl
    unnamed (Element x subscripts) m h = absurd cc
    unnamed (Neg a) m h = let r = of_unary negation_of (constant_value values a) m h in unnamed a r.0 r.1
    unnamed (Add a b) m h = let r = of_binary sum_of (constant_value values a) (constant_value values b) m h in none_in_both y (expr_names a) (expr_names b) (unnamed a r.0 r.2) (unnamed b r.1 r.3)
    unnamed (Sub a b) m h = let r = of_binary difference_of (constant_value values a) (constant_value values b) m h in none_in_both y (expr_names a) (expr_names b) (unnamed a r.0 r.2) (unnamed b r.1 r.3)
    unnamed (Mul a b) m h = let r = of_binary product_of (constant_value values a) (constant_value values b) m h in none_in_both y (expr_names a) (expr_names b) (unnamed a r.0 r.2) (unnamed b r.1 r.3)
    unnamed (Div a b) m h = let r = of_binary quotient_of (constant_value values a) (constant_value values b) m h in none_in_both y (expr_names a) (expr_names b) (unnamed a r.0 r.2) (unnamed b r.1 r.3)
    unnamed (Pow a b) m h = let r = of_binary power_of (constant_value values a) (constant_value values b) m h in none_in_both y (expr_names a) (expr_names b) (unnamed a r.0 r.2) (unnamed b r.1 r.3)
    unnamed (Call g arguments) m h = let r = of_call g (constant_values values arguments) m h in all_unnamed arguments r.0 r.1

    all_unnamed : (es : ExprTrees) (vs : List ℤ) → constant_values values es ≡ Some vs → is_among y (exprs_names es) ≡ false
    all_unnamed no_exprs vs h = refl
    all_unnamed (more_exprs e rest) vs h = let r = of_onto (constant_value values e) (constant_values values rest) vs h in none_in_both y (expr_names e) (exprs_names rest) (unnamed e r.0 r.2) (all_unnamed rest r.1 r.3)
