-- Intrinsic functions of another number of arguments than they take, and MAX and MIN argument by argument.
use Rattle.std.proofs.Common.{◌≡◌, ℕ, suc, ◌<◌, List, [], ◌∷◌, length, map, refl, sym, ap, ◌∙◌, arith, ℤ, Option, Some, None, IfSome, Result}
use Rattle.std.specs.Prelude.{option_and_then}
use Rattle.std.specs.Result.{result_ok}
use Rattle.std.proofs.lemmas.List.{length-map}
use Rattle.ped_tree.specs.declared.expressions.Expr.{Expr}
use Rattle.ped_tree.specs.declared.expressions.Intrinsic.{Intrinsic}
use Rattle.ped_tree.specs.declared.expressions.Intrinsic.TheVariants.{Mod, Abs, Max, Min}
use Rattle.ped_tree.specs.Tree.{ExprTree, Call}
use Rattle.ped_tree.specs.Views.{expr_tree, pack_exprs}
use Rattle.ped_base.specs.declared.arithmetic.faults.Fault.{Fault}
use Rattle.ped_base.specs.Arithmetic.Arithmetic.{from_left}
use Rattle.ped_tree.specs.Constants.ConstantExpressions.{onto, intrinsic_result, constant_value, constant_values}

onto_one_more : (a : Option ℤ) (rest : Option (List ℤ)) (n : ℕ) → IfSome rest (λ vs. length vs ≡ n) → IfSome (onto a rest) (λ vs. length vs ≡ suc n)
onto_one_more (Some a) (Some vs) n h = ap suc h
onto_one_more (Some a) None n h = tt
onto_one_more None rest n h = tt

-- there are as many values as expressions
as_many : (consts : List (List ℕ × ℤ)) (es : List ExprTree) → IfSome (constant_values consts (pack_exprs es)) (λ vs. length vs ≡ length es)
as_many consts [] = refl
as_many consts (e ∷ es) = onto_one_more (constant_value consts e) (constant_values consts (pack_exprs es)) (length es) (as_many consts es)

-- no value where the function gives none of so many
no_result : (f : Intrinsic) (values : Option (List ℤ)) (n : ℕ) → IfSome values (λ vs. length vs ≡ n) → ((vs : List ℤ) → length vs ≡ n → intrinsic_result f vs ≡ None) → None ≡ option_and_then result_ok (option_and_then (intrinsic_result f) values)
no_result f None n h none = refl
no_result f (Some vs) n h none = ap (option_and_then result_ok) (sym (none vs h))

-- an intrinsic function that gives none of so many values has no value of so many arguments
wrong_number : (f : Intrinsic) (consts : List (List ℕ × ℤ)) (arguments : List Expr) → ((vs : List ℤ) → length vs ≡ length arguments → intrinsic_result f vs ≡ None) → None ≡ constant_value consts (Call f (pack_exprs (map expr_tree arguments)))
wrong_number f consts arguments none =
    no_result f (constant_values consts (pack_exprs (map expr_tree arguments))) (length (map expr_tree arguments)) (as_many consts (map expr_tree arguments))
    (λ vs e. none vs (e ∙ length-map arguments expr_tree))

mod_of_two : (vs : List ℤ) → ¬ (length vs ≡ 2) → intrinsic_result Mod vs ≡ None
mod_of_two [] h = refl
mod_of_two (a ∷ []) h = refl
mod_of_two (a ∷ b ∷ []) h = absurd (h refl)
mod_of_two (a ∷ b ∷ c ∷ rest) h = refl

abs_of_one : (vs : List ℤ) → ¬ (length vs ≡ 1) → intrinsic_result Abs vs ≡ None
abs_of_one [] h = refl
abs_of_one (a ∷ []) h = absurd (h refl)
abs_of_one (a ∷ b ∷ rest) h = refl

max_of_two_or_more : (vs : List ℤ) → length vs < 2 → intrinsic_result Max vs ≡ None
max_of_two_or_more [] h = refl
max_of_two_or_more (a ∷ []) h = refl
max_of_two_or_more (a ∷ b ∷ rest) h = absurd (omega arith)

min_of_two_or_more : (vs : List ℤ) → length vs < 2 → intrinsic_result Min vs ≡ None
min_of_two_or_more [] h = refl
min_of_two_or_more (a ∷ []) h = refl
min_of_two_or_more (a ∷ b ∷ rest) h = absurd (omega arith)

-- MOD of more or fewer than two arguments
pub mod_of_others : (consts : List (List ℕ × ℤ)) (arguments : List Expr) → ¬ (length arguments ≡ 2) → None ≡ constant_value consts (Call Mod (pack_exprs (map expr_tree arguments)))
mod_of_others consts arguments h = wrong_number Mod consts arguments (λ vs e. mod_of_two vs (λ two. h (sym e ∙ two)))

-- ABS of more arguments than one, or of none
pub abs_of_others : (consts : List (List ℕ × ℤ)) (arguments : List Expr) → ¬ (length arguments ≡ 1) → None ≡ constant_value consts (Call Abs (pack_exprs (map expr_tree arguments)))
abs_of_others consts arguments h = wrong_number Abs consts arguments (λ vs e. abs_of_one vs (λ one. h (sym e ∙ one)))

-- MAX of fewer than two arguments
pub max_of_few : (consts : List (List ℕ × ℤ)) (arguments : List Expr) → length arguments < 2 → None ≡ constant_value consts (Call Max (pack_exprs (map expr_tree arguments)))
max_of_few consts arguments h = wrong_number Max consts arguments (λ vs e. max_of_two_or_more vs (omega (arith, e)))

-- MIN of fewer than two arguments
pub min_of_few : (consts : List (List ℕ × ℤ)) (arguments : List Expr) → length arguments < 2 → None ≡ constant_value consts (Call Min (pack_exprs (map expr_tree arguments)))
min_of_few consts arguments h = wrong_number Min consts arguments (λ vs e. min_of_two_or_more vs (omega (arith, e)))

-- an operation from left to right that has come to a value, with the expressions that are left
abbrev pub go_on : List (List ℕ × ℤ) → (ℤ → ℤ → Result ℤ Fault) → ℤ → List Expr → Option ℤ
go_on consts f a es = option_and_then (λ vs. result_ok (from_left f a vs)) (constant_values consts (pack_exprs (map expr_tree es)))
