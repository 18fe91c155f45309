-- The values of constant expressions: literals, named constants, operators, and the intrinsic functions, which are this project's addition (ANSI X3.9-1978, section 6.1.3; this project).
use Rattle.std.specs.Prelude.{ℕ, ℤ, pos, List, [], ◌∷◌, Option, Some, None, option_and_then, Result}
use Rattle.std.specs.Result.{result_ok}
use Rattle.ped_tree.specs.declared.expressions.Intrinsic.{Intrinsic}
use Rattle.ped_tree.specs.declared.expressions.Intrinsic.TheVariants.{Mod, Abs, Max, Min}
use Rattle.ped_tree.specs.Tree.{ExprTree, ExprTrees, Int, Var, Element, Neg, Add, Sub, Mul, Div, Pow, Call, no_exprs, more_exprs}
use Rattle.ped_base.specs.declared.arithmetic.faults.Fault.{Fault}
use Rattle.ped_base.specs.Arithmetic.Arithmetic.{sum_of, difference_of, negation_of, product_of, quotient_of, power_of, remainder_of, absolute_value_of, greatest_of, least_of, from_left}
use Rattle.ped_tree.specs.Constants.NamedConstants.{value_named}

-- an operation on one operand, where that has a value and the operation doesn't fault
abbrev pub unary_value : (ℤ → Result ℤ Fault) → Option ℤ → Option ℤ
unary_value f (Some a) = result_ok (f a)
unary_value f None = None

-- an operation on two operands, where both have a value and the operation doesn't fault
abbrev pub binary_value : (ℤ → ℤ → Result ℤ Fault) → Option ℤ → Option ℤ → Option ℤ
binary_value f (Some a) (Some b) = result_ok (f a b)
binary_value f (Some a) None = None
binary_value f None b = None

-- a value before others, where all are there (plain words)
abbrev pub onto : Option ℤ → Option (List ℤ) → Option (List ℤ)
onto (Some a) (Some rest) = Some (a ∷ rest)
onto (Some a) None = None
onto None rest = None

-- an intrinsic function of these arguments, by its value or its fault; none where it takes another number of arguments: MOD two, ABS one, MAX and MIN two or more (ANSI X3.9-1978, table 5)
abbrev pub intrinsic_result : Intrinsic → List ℤ → Option (Result ℤ Fault)
intrinsic_result Mod (a ∷ b ∷ []) = Some (remainder_of a b)
intrinsic_result Abs (a ∷ []) = Some (absolute_value_of a)
intrinsic_result Max (a ∷ b ∷ rest) = Some (from_left greatest_of a (b ∷ rest))
intrinsic_result Min (a ∷ b ∷ rest) = Some (from_left least_of a (b ∷ rest))
intrinsic_result f arguments = None

-- the value of a constant expression over these named constants; none where the expression isn't constant or an operation in it faults
abbrev mutual
  pub constant_value : List (List ℕ × ℤ) → ExprTree → Option ℤ
  constant_value consts (Int n) = Some (pos n)
  constant_value consts (Var x) = value_named consts x
  constant_value consts (Element x subscripts) = None
  constant_value consts (Neg a) = unary_value negation_of (constant_value consts a)
  constant_value consts (Add a b) = binary_value sum_of (constant_value consts a) (constant_value consts b)
  constant_value consts (Sub a b) = binary_value difference_of (constant_value consts a) (constant_value consts b)
  constant_value consts (Mul a b) = binary_value product_of (constant_value consts a) (constant_value consts b)
  constant_value consts (Div a b) = binary_value quotient_of (constant_value consts a) (constant_value consts b)
  constant_value consts (Pow a b) = binary_value power_of (constant_value consts a) (constant_value consts b)
  constant_value consts (Call f arguments) = option_and_then result_ok (option_and_then (intrinsic_result f) (constant_values consts arguments))

  -- the values of constant expressions in order, where all have one
  pub constant_values : List (List ℕ × ℤ) → ExprTrees → Option (List ℤ)
  constant_values consts no_exprs = Some []
  constant_values consts (more_exprs e rest) = onto (constant_value consts e) (constant_values consts rest)
