-- CALLs as trees have them, by what the code keeps of them. Only contracts of private functions use it.
use Rattle.std.specs.Prelude.{Bool, true, false}
use Rattle.ped_tree.specs.Tree.{ExprTree, ExprTrees, Int, Var, Element, Neg, Add, Sub, Mul, Div, Pow, Call, no_exprs}

-- a literal
abbrev pub is_literal : ExprTree → Bool
is_literal (Int n) = true
is_literal (Var x) = false
is_literal (Element x subscripts) = false
is_literal (Neg a) = false
is_literal (Add a b) = false
is_literal (Sub a b) = false
is_literal (Mul a b) = false
is_literal (Div a b) = false
is_literal (Pow a b) = false
is_literal (Call f arguments) = false

-- the arguments of a CALL with this right side
abbrev pub arguments_in : ExprTree → ExprTrees
arguments_in (Element x arguments) = arguments
arguments_in (Int n) = no_exprs
arguments_in (Var x) = no_exprs
arguments_in (Neg a) = no_exprs
arguments_in (Add a b) = no_exprs
arguments_in (Sub a b) = no_exprs
arguments_in (Mul a b) = no_exprs
arguments_in (Div a b) = no_exprs
arguments_in (Pow a b) = no_exprs
arguments_in (Call f arguments) = no_exprs
