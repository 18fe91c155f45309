-- A constant expression reads no scalar; no name stands in it but those of constants.
use Rattle.std.proofs.Common.{◌≡◌, ℕ, ℤ, List, [], ◌∷◌, ◌++◌, Bool, true, false, ◌||◌, Option, Some, None, if◌then◌else◌, refl, sym, ap, ◌∙◌}
use Rattle.std.specs.Prelude.{option_and_then, Result}
use Rattle.std.specs.Result.{result_ok}
use Rattle.ped_base.specs.Lists.{is_same_text, is_among}
use Rattle.ped_base.proofs.NameEquality.{same_is}
use Rattle.ped_base.specs.declared.arithmetic.faults.Fault.{Fault}
use Rattle.ped_base.specs.Arithmetic.Arithmetic.{sum_of, difference_of, negation_of, product_of, quotient_of, power_of}
use Rattle.ped_tree.specs.Tree.{ExprTree, ExprTrees, Int, Var, Element, Neg, Add, Sub, Mul, Div, Pow, Call, no_exprs, more_exprs}
use Rattle.ped_tree.proofs.NameLaws.Collected.{among_append}
use Rattle.ped_tree.specs.NamesIn.{expr_names, exprs_names}
use Rattle.ped_tree.specs.Constants.ConstantExpressions.{unary_value, binary_value, onto, intrinsic_result, constant_value, constant_values}
use Rattle.ped_tree.specs.Constants.NamedConstants.{value_named}
use Rattle.ped_rules.specs.ped_flow.specs.Events.{scalars_in, all_scalars_in}

nothing : {A : Type 0} {X : Type 0} {x : X} → ◌≡◌ {A = Option X} None (Some x) → A
nothing e = absurd cc

of_one : (f : ℤ → Result ℤ Fault) (a : Option ℤ) (n : ℤ) → unary_value f a ≡ Some n → (m : ℤ) × (a ≡ Some m)
of_one f (Some a) n e = (a, refl)
of_one f None n e = nothing e

of_two : (f : ℤ → ℤ → Result ℤ Fault) (a b : Option ℤ) (n : ℤ) → binary_value f a b ≡ Some n → ((m : ℤ) × (a ≡ Some m)) × ((m : ℤ) × (b ≡ Some m))
of_two f (Some a) (Some b) n e = ((a, refl), (b, refl))
of_two f (Some a) None n e = nothing e
of_two f None b n e = nothing e

of_more : (a : Option ℤ) (b : Option (List ℤ)) (ns : List ℤ) → onto a b ≡ Some ns → ((m : ℤ) × (a ≡ Some m)) × ((ms : List ℤ) × (b ≡ Some ms))
of_more (Some a) (Some b) ns e = ((a, refl), (b, refl))
of_more (Some a) None ns e = nothing e
of_more None b ns e = nothing e

of_values : (g : List ℤ → Option (Result ℤ Fault)) (o : Option (List ℤ)) (n : ℤ) → option_and_then result_ok (option_and_then g o) ≡ Some n → (ns : List ℤ) × (o ≡ Some ns)
of_values g (Some ns) n e = (ns, refl)
of_values g None n e = nothing e

module _ (values : List (List ℕ × ℤ)) (cs : List (List ℕ)) (others : (x : List ℕ) → is_among x cs ≡ false → value_named values x ≡ None) where
  variable_unread : (x : List ℕ) (n : ℤ) (b : Bool) → is_among x cs ≡ b → value_named values x ≡ Some n → (if b then [] else x ∷ []) ≡ []
  variable_unread x n true e h = refl
  variable_unread x n false e h = nothing (sym (others x e) ∙ h)

  mutual
    pub constant_unread : (e : ExprTree) (n : ℤ) → constant_value values e ≡ Some n → scalars_in cs e ≡ []
    constant_unread (Int k) n h = refl
    constant_unread (Var x) n h = variable_unread x n (is_among x cs) refl h
    constant_unread (Element x es) n h = nothing h
    constant_unread (Neg a) n h = let p = of_one negation_of (constant_value values a) n h in constant_unread a p.0 p.1
    constant_unread (Add a b) n h = let p = of_two sum_of (constant_value values a) (constant_value values b) n h in λ i. constant_unread a p.0.0 p.0.1 i ++ constant_unread b p.1.0 p.1.1 i
    constant_unread (Sub a b) n h = let p = of_two difference_of (constant_value values a) (constant_value values b) n h in λ i. constant_unread a p.0.0 p.0.1 i ++ constant_unread b p.1.0 p.1.1 i
    constant_unread (Mul a b) n h = let p = of_two product_of (constant_value values a) (constant_value values b) n h in λ i. constant_unread a p.0.0 p.0.1 i ++ constant_unread b p.1.0 p.1.1 i
    constant_unread (Div a b) n h = let p = of_two quotient_of (constant_value values a) (constant_value values b) n h in λ i. constant_unread a p.0.0 p.0.1 i ++ constant_unread b p.1.0 p.1.1 i
    constant_unread (Pow a b) n h = let p = of_two power_of (constant_value values a) (constant_value values b) n h in λ i. constant_unread a p.0.0 p.0.1 i ++ constant_unread b p.1.0 p.1.1 i
    constant_unread (Call f es) n h = let p = of_values (intrinsic_result f) (constant_values values es) n h in constants_unread es p.0 p.1

    constants_unread : (es : ExprTrees) (ns : List ℤ) → constant_values values es ≡ Some ns → all_scalars_in cs es ≡ []
    constants_unread no_exprs ns h = refl
    constants_unread (more_exprs e rest) ns h = let p = of_more (constant_value values e) (constant_values values rest) ns h in λ i. constant_unread e p.0.0 p.0.1 i ++ constants_unread rest p.1.0 p.1.1 i

-- a name that has no value doesn't stand in a constant expression
module _ (values : List (List ℕ × ℤ)) (x : List ℕ) (unvalued : value_named values x ≡ None) where
  variable_differs : (y : List ℕ) (n : ℤ) (b : Bool) → is_same_text x y ≡ b → value_named values y ≡ Some n → b ≡ false
  variable_differs y n true e h = nothing (sym unvalued ∙ ap (value_named values) (same_is x y e) ∙ h)
  variable_differs y n false e h = refl

  joined : (xs ys : List (List ℕ)) → is_among x xs ≡ false → is_among x ys ≡ false → is_among x (xs ++ ys) ≡ false
  joined xs ys h k = among_append x xs ys ∙ (λ i. h i || k i)

  mutual
    pub constant_lacks : (e : ExprTree) (n : ℤ) → constant_value values e ≡ Some n → is_among x (expr_names e) ≡ false
    constant_lacks (Int k) n h = refl
    constant_lacks (Var y) n h = λ i. variable_differs y n (is_same_text x y) refl h i || false
    constant_lacks (Element y es) n h = nothing h
    constant_lacks (Neg a) n h = let p = of_one negation_of (constant_value values a) n h in constant_lacks a p.0 p.1
    constant_lacks (Add a b) n h = let p = of_two sum_of (constant_value values a) (constant_value values b) n h in joined (expr_names a) (expr_names b) (constant_lacks a p.0.0 p.0.1) (constant_lacks b p.1.0 p.1.1)
    constant_lacks (Sub a b) n h = let p = of_two difference_of (constant_value values a) (constant_value values b) n h in joined (expr_names a) (expr_names b) (constant_lacks a p.0.0 p.0.1) (constant_lacks b p.1.0 p.1.1)
    constant_lacks (Mul a b) n h = let p = of_two product_of (constant_value values a) (constant_value values b) n h in joined (expr_names a) (expr_names b) (constant_lacks a p.0.0 p.0.1) (constant_lacks b p.1.0 p.1.1)
    constant_lacks (Div a b) n h = let p = of_two quotient_of (constant_value values a) (constant_value values b) n h in joined (expr_names a) (expr_names b) (constant_lacks a p.0.0 p.0.1) (constant_lacks b p.1.0 p.1.1)
    constant_lacks (Pow a b) n h = let p = of_two power_of (constant_value values a) (constant_value values b) n h in joined (expr_names a) (expr_names b) (constant_lacks a p.0.0 p.0.1) (constant_lacks b p.1.0 p.1.1)
    constant_lacks (Call f es) n h = let p = of_values (intrinsic_result f) (constant_values values es) n h in constants_lack es p.0 p.1

    constants_lack : (es : ExprTrees) (ns : List ℤ) → constant_values values es ≡ Some ns → is_among x (exprs_names es) ≡ false
    constants_lack no_exprs ns h = refl
    constants_lack (more_exprs e rest) ns h = let p = of_more (constant_value values e) (constant_values values rest) ns h in joined (expr_names e) (exprs_names rest) (constant_lacks e p.0.0 p.0.1) (constants_lack rest p.1.0 p.1.1)
