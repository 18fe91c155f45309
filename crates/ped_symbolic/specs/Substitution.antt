-- An expression in place of a scalar. What a DO declares and doesn't compute stays: its variable, its PRIVATE names and its rejected names, also where one of them is the scalar; who substitutes looks at them first (this project).
use Rattle.std.specs.Prelude.{ℕ, List, map, Bool, false, ◌&&◌, ◌||◌, not, if◌then◌else◌}
use Rattle.ped_base.specs.Lists.{is_same_text}
use Rattle.ped_tree.specs.Tree.{ExprTree, ExprTrees, Int, Var, Element, Neg, Add, Sub, Mul, Div, Pow, Call, no_exprs, more_exprs, CondTree, Rel, Not, And, Or, ItemTree, Value, Text, Head, StmtTree, StmtTrees, Assign, If, Do, Print, Read, Stop, Comment, no_stmts, more_stmts}
use Rattle.ped_symbolic.specs.Arithmetic.{plus_of, minus_of}

-- the scalar occurs in the expression
abbrev mutual
  pub has_scalar : List ℕ → ExprTree → Bool
  has_scalar x (Int n) = false
  has_scalar x (Var y) = is_same_text x y
  has_scalar x (Element y subscripts) = have_scalar x subscripts
  has_scalar x (Neg a) = has_scalar x a
  has_scalar x (Add a b) = has_scalar x a || has_scalar x b
  has_scalar x (Sub a b) = has_scalar x a || has_scalar x b
  has_scalar x (Mul a b) = has_scalar x a || has_scalar x b
  has_scalar x (Div a b) = has_scalar x a || has_scalar x b
  has_scalar x (Pow a b) = has_scalar x a || has_scalar x b
  has_scalar x (Call f arguments) = have_scalar x arguments

  -- the scalar occurs in one of the expressions
  pub have_scalar : List ℕ → ExprTrees → Bool
  have_scalar x no_exprs = false
  have_scalar x (more_exprs e rest) = has_scalar x e || have_scalar x rest

-- the expression is this scalar
abbrev pub is_scalar : List ℕ → ExprTree → Bool
is_scalar x (Var y) = is_same_text x y
is_scalar x e = false

-- an operand is changed where the scalar occurs in it and isn't replaced by itself
abbrev pub changes : List ℕ → ExprTree → ExprTree → ExprTree → Bool
changes x by a b = (has_scalar x a || has_scalar x b) && not (is_scalar x by)

-- the expression in place of the scalar; a sum or difference with an operand that this changes is made anew
abbrev mutual
  pub substituted : List ℕ → ExprTree → ExprTree → ExprTree
  substituted x by (Int n) = Int n
  substituted x by (Var y) = if is_same_text x y then by else Var y
  substituted x by (Element y subscripts) = Element y (all_substituted x by subscripts)
  substituted x by (Neg a) = Neg (substituted x by a)
  substituted x by (Add a b) = if changes x by a b then plus_of (substituted x by a) (substituted x by b) else Add a b
  substituted x by (Sub a b) = if changes x by a b then minus_of (substituted x by a) (substituted x by b) else Sub a b
  substituted x by (Mul a b) = Mul (substituted x by a) (substituted x by b)
  substituted x by (Div a b) = Div (substituted x by a) (substituted x by b)
  substituted x by (Pow a b) = Pow (substituted x by a) (substituted x by b)
  substituted x by (Call f arguments) = Call f (all_substituted x by arguments)

  -- the expression in place of the scalar in each of the expressions
  pub all_substituted : List ℕ → ExprTree → ExprTrees → ExprTrees
  all_substituted x by no_exprs = no_exprs
  all_substituted x by (more_exprs e rest) = more_exprs (substituted x by e) (all_substituted x by rest)

-- the expression in place of the scalar in a condition
abbrev pub condition_substituted : List ℕ → ExprTree → CondTree → CondTree
condition_substituted x by (Rel r a b) = Rel r (substituted x by a) (substituted x by b)
condition_substituted x by (Not a) = Not (condition_substituted x by a)
condition_substituted x by (And a b) = And (condition_substituted x by a) (condition_substituted x by b)
condition_substituted x by (Or a b) = Or (condition_substituted x by a) (condition_substituted x by b)

-- the expression in place of the scalar in an item of a PRINT
abbrev pub item_substituted : List ℕ → ExprTree → ItemTree → ItemTree
item_substituted x by (Value e) = Value (substituted x by e)
item_substituted x by (Text t) = Text t

-- the expression in place of the scalar in the bounds and the increment of a DO
abbrev pub head_substituted : List ℕ → ExprTree → Head → Head
head_substituted x by h = record {
  variable = h.variable;
  first = substituted x by h.first;
  last = substituted x by h.last;
  step = substituted x by h.step;
  parallel = h.parallel;
  private = h.private;
  rejected = h.rejected;
}

-- the expression in place of the scalar in a statement, also where the scalar or a subscript is on the left side of an assignment or in a READ
abbrev mutual
  pub statement_substituted : List ℕ → ExprTree → StmtTree → StmtTree
  statement_substituted x by (Assign left right) = Assign (substituted x by left) (substituted x by right)
  statement_substituted x by (If condition then_part else_part) = If (condition_substituted x by condition) (statements_substituted x by then_part) (statements_substituted x by else_part)
  statement_substituted x by (Do h body) = Do (head_substituted x by h) (statements_substituted x by body)
  statement_substituted x by (Print items) = Print (map (item_substituted x by) items)
  statement_substituted x by (Read items) = Read (map (substituted x by) items)
  statement_substituted x by Stop = Stop
  statement_substituted x by (Comment text) = Comment text

  -- the expression in place of the scalar in statements
  pub statements_substituted : List ℕ → ExprTree → StmtTrees → StmtTrees
  statements_substituted x by no_stmts = no_stmts
  statements_substituted x by (more_stmts s rest) = more_stmts (statement_substituted x by s) (statements_substituted x by rest)
