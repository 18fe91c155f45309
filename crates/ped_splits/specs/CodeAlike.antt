-- How the code finds out whether two DO loops are alike. Only contracts of private functions and lemmas use it (this project).
use Rattle.std.specs.Prelude.{ℕ, ◌==◌, List, [], Bool, true, false, not, ◌&&◌, ◌||◌}
use Rattle.ped_base.specs.Lists.{is_same_text, is_among}
use Rattle.ped_tree.specs.Tree.{ExprTree, ExprTrees, Int, Var, Element, Neg, Add, Sub, Mul, Div, Pow, Call, no_exprs, more_exprs, Head, StmtTrees}
use Rattle.ped_tree.specs.NamesIn.{stmts_names}
use Rattle.ped_tree.specs.declared.expressions.Intrinsic.{Intrinsic}
use Rattle.ped_tree.specs.declared.expressions.Intrinsic.TheVariants.{Mod, Abs, Max, Min}

-- the number of an intrinsic function
abbrev pub function_number : Intrinsic → ℕ
function_number Mod = 0
function_number Abs = 1
function_number Max = 2
function_number Min = 3

-- the number of the form of an expression
abbrev pub form_of : ExprTree → ℕ
form_of (Int n) = 0
form_of (Var x) = 1
form_of (Element x subscripts) = 2
form_of (Neg a) = 3
form_of (Add a b) = 4
form_of (Sub a b) = 5
form_of (Mul a b) = 6
form_of (Div a b) = 7
form_of (Pow a b) = 8
form_of (Call f arguments) = 9

-- the number of a literal, or of the function of a call
abbrev pub number_of : ExprTree → ℕ
number_of (Int n) = n
number_of (Var x) = 0
number_of (Element x subscripts) = 0
number_of (Neg a) = 0
number_of (Add a b) = 0
number_of (Sub a b) = 0
number_of (Mul a b) = 0
number_of (Div a b) = 0
number_of (Pow a b) = 0
number_of (Call f arguments) = function_number f

-- the name of a variable, or of the array of an element
abbrev pub name_of : ExprTree → List ℕ
name_of (Int n) = []
name_of (Var x) = x
name_of (Element x subscripts) = x
name_of (Neg a) = []
name_of (Add a b) = []
name_of (Sub a b) = []
name_of (Mul a b) = []
name_of (Div a b) = []
name_of (Pow a b) = []
name_of (Call f arguments) = []

-- the parts of an expression
abbrev pub parts_of : ExprTree → ExprTrees
parts_of (Int n) = no_exprs
parts_of (Var x) = no_exprs
parts_of (Element x subscripts) = subscripts
parts_of (Neg a) = more_exprs a no_exprs
parts_of (Add a b) = more_exprs a (more_exprs b no_exprs)
parts_of (Sub a b) = more_exprs a (more_exprs b no_exprs)
parts_of (Mul a b) = more_exprs a (more_exprs b no_exprs)
parts_of (Div a b) = more_exprs a (more_exprs b no_exprs)
parts_of (Pow a b) = more_exprs a (more_exprs b no_exprs)
parts_of (Call f arguments) = arguments

-- no expressions
abbrev pub are_none : ExprTrees → Bool
are_none no_exprs = true
are_none (more_exprs e rest) = false

-- the first passes the one test, and the others pass the other one
abbrev pub passes_then : (ExprTree → Bool) → (ExprTrees → Bool) → ExprTrees → Bool
passes_then p q no_exprs = false
passes_then p q (more_exprs e rest) = p e && q rest

-- the first passes the test
abbrev pub passes : (ExprTree → Bool) → ExprTrees → Bool
passes p no_exprs = false
passes p (more_exprs e rest) = p e

-- the first passes the one test, and the second passes the other one
abbrev pub pass_both : (ExprTree → Bool) → (ExprTree → Bool) → ExprTrees → Bool
pass_both p q no_exprs = false
pass_both p q (more_exprs e no_exprs) = false
pass_both p q (more_exprs e (more_exprs f rest)) = p e && q f

-- the two are written alike
abbrev mutual
  pub is_same_expr : ExprTree → ExprTree → Bool
  is_same_expr (Int n) b = (form_of b == 0) && (number_of b == n)
  is_same_expr (Var x) b = (form_of b == 1) && is_same_text x (name_of b)
  is_same_expr (Element x subscripts) b = (form_of b == 2) && (is_same_text x (name_of b) && are_same_exprs subscripts (parts_of b))
  is_same_expr (Neg c) b = (form_of b == 3) && passes (is_same_expr c) (parts_of b)
  is_same_expr (Add c d) b = (form_of b == 4) && pass_both (is_same_expr c) (is_same_expr d) (parts_of b)
  is_same_expr (Sub c d) b = (form_of b == 5) && pass_both (is_same_expr c) (is_same_expr d) (parts_of b)
  is_same_expr (Mul c d) b = (form_of b == 6) && pass_both (is_same_expr c) (is_same_expr d) (parts_of b)
  is_same_expr (Div c d) b = (form_of b == 7) && pass_both (is_same_expr c) (is_same_expr d) (parts_of b)
  is_same_expr (Pow c d) b = (form_of b == 8) && pass_both (is_same_expr c) (is_same_expr d) (parts_of b)
  is_same_expr (Call f arguments) b = (form_of b == 9) && ((number_of b == function_number f) && are_same_exprs arguments (parts_of b))

  pub are_same_exprs : ExprTrees → ExprTrees → Bool
  are_same_exprs no_exprs bs = are_none bs
  are_same_exprs (more_exprs e rest) bs = passes_then (is_same_expr e) (are_same_exprs rest) bs

-- both DO loops have the same bounds and the same increment, written alike
abbrev pub have_same_bounds : Head → Head → Bool
have_same_bounds h k = is_same_expr h.first k.first && (is_same_expr h.last k.last && is_same_expr h.step k.step)

-- the second DO, with this body, is like the first one
abbrev pub is_like : Head → Head → StmtTrees → Bool
is_like h k body = have_same_bounds h k && (is_same_text h.variable k.variable || not (is_among h.variable (stmts_names body)))
