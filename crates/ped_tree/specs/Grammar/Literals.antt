-- Literals above the greatest INTEGER. A statement with one has its form all the same, and is refused for its limit (this project).
use Rattle.std.specs.Prelude.{Bool, false, ◌||◌, nat_lt}
use Rattle.std.specs.List.{list_any}
use Rattle.ped_tree.specs.Grammar.LimitNumbers.{greatest_literal}
use Rattle.ped_tree.specs.Tree.{ExprTree, ExprTrees, Int, Var, Element, Neg, Add, Sub, Mul, Div, Pow, Call, no_exprs, more_exprs, CondTree, Rel, Not, And, Or, ItemTree, Value, Text, Head, StmtTree, StmtTrees, Assign, If, Do, Print, Read, Stop, Comment, no_stmts, more_stmts, DeclaratorTree, DeclTree, Integer, Dimension, Parameter}

abbrev mutual
  -- a literal above 2147483647 is in the expression
  pub has_large_literal : ExprTree → Bool
  has_large_literal (Int n) = nat_lt greatest_literal n
  has_large_literal (Var x) = false
  has_large_literal (Element x subscripts) = have_large_literal subscripts
  has_large_literal (Neg a) = has_large_literal a
  has_large_literal (Add a b) = has_large_literal a || has_large_literal b
  has_large_literal (Sub a b) = has_large_literal a || has_large_literal b
  has_large_literal (Mul a b) = has_large_literal a || has_large_literal b
  has_large_literal (Div a b) = has_large_literal a || has_large_literal b
  has_large_literal (Pow a b) = has_large_literal a || has_large_literal b
  has_large_literal (Call f arguments) = have_large_literal arguments

  -- a literal above 2147483647 is in one of the expressions
  pub have_large_literal : ExprTrees → Bool
  have_large_literal no_exprs = false
  have_large_literal (more_exprs e rest) = has_large_literal e || have_large_literal rest

-- a literal above 2147483647 is in the condition
abbrev pub cond_has_large_literal : CondTree → Bool
cond_has_large_literal (Rel r a b) = has_large_literal a || has_large_literal b
cond_has_large_literal (Not a) = cond_has_large_literal a
cond_has_large_literal (And a b) = cond_has_large_literal a || cond_has_large_literal b
cond_has_large_literal (Or a b) = cond_has_large_literal a || cond_has_large_literal b

-- a literal above 2147483647 is in an item of a PRINT
abbrev pub item_has_large_literal : ItemTree → Bool
item_has_large_literal (Value e) = has_large_literal e
item_has_large_literal (Text text) = false

-- a literal above 2147483647 is in the bounds or the increment of a DO
abbrev pub head_has_large_literal : Head → Bool
head_has_large_literal h = has_large_literal h.first || has_large_literal h.last || has_large_literal h.step

abbrev mutual
  -- a literal above 2147483647 is in the statement
  pub stmt_has_large_literal : StmtTree → Bool
  stmt_has_large_literal (Assign left right) = has_large_literal left || has_large_literal right
  stmt_has_large_literal (If condition then_part else_part) = cond_has_large_literal condition || stmts_have_large_literal then_part || stmts_have_large_literal else_part
  stmt_has_large_literal (Do h body) = head_has_large_literal h || stmts_have_large_literal body
  stmt_has_large_literal (Print items) = list_any item_has_large_literal items
  stmt_has_large_literal (Read items) = list_any has_large_literal items
  stmt_has_large_literal Stop = false
  stmt_has_large_literal (Comment text) = false

  -- a literal above 2147483647 is in one of the statements
  pub stmts_have_large_literal : StmtTrees → Bool
  stmts_have_large_literal no_stmts = false
  stmts_have_large_literal (more_stmts s rest) = stmt_has_large_literal s || stmts_have_large_literal rest

-- a literal above 2147483647 is in the bounds of a declared name
abbrev pub declarator_has_large_literal : DeclaratorTree → Bool
declarator_has_large_literal d = list_any (λ b. has_large_literal b.lower || has_large_literal b.upper) d.bounds

-- a literal above 2147483647 is in the declaration
abbrev pub decl_has_large_literal : DeclTree → Bool
decl_has_large_literal (Integer ds) = list_any declarator_has_large_literal ds
decl_has_large_literal (Dimension ds) = list_any declarator_has_large_literal ds
decl_has_large_literal (Parameter values) = list_any (λ v. has_large_literal v.1) values
decl_has_large_literal d = false
