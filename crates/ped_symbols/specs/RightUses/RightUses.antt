-- Where names of which kind occur in expressions and statements, by the kinds of names: those of names that don't occur are none (ANSI X3.9-1978, sections 2.12, 5.4, 8.6, 10.1, 11.10, 12.8; this project).
use Rattle.std.specs.Prelude.{ℕ, List, length, Bool, true, false, ◌&&◌, ◌==◌, nat_le, Option, Some, None}
use Rattle.std.specs.List.{list_all}
use Rattle.ped_tree.specs.Tree.{ExprTree, ExprTrees, Int, Var, Element, Neg, Add, Sub, Mul, Div, Pow, Call, no_exprs, more_exprs, CondTree, Rel, Not, And, Or, ItemTree, Value, Text, Head, StmtTree, StmtTrees, Assign, If, Do, Print, Read, Stop, Comment, no_stmts, more_stmts, DeclTree, Program, Implicit, Integer, Dimension, Parameter, Save, Remark}
use Rattle.ped_tree.specs.Grammar.LimitNumbers.{most_dimensions}
use Rattle.ped_tree.specs.Grammar.Fits.{takes_arguments}
use Rattle.ped_symbols.specs.Uses.{expr_count}
use Rattle.ped_symbols.specs.declared.symbols.Kind.{Kind}
use Rattle.ped_symbols.specs.declared.symbols.Kind.TheVariants.{Scalar, Array, Constant}

-- what names stand for, none for one that doesn't occur
abbrev pub NameKinds : Type 0
NameKinds = List ℕ → Option Kind

-- the kind of a scalar variable (ANSI X3.9-1978, section 2.5)
abbrev pub is_scalar_kind : Option Kind → Bool
is_scalar_kind None = false
is_scalar_kind (Some Scalar) = true
is_scalar_kind (Some (Array d)) = false
is_scalar_kind (Some (Constant n)) = false

-- the kind of a scalar variable or of a named constant, which have a value without subscripts (ANSI X3.9-1978, sections 2.5, 8.6)
abbrev pub is_value_kind : Option Kind → Bool
is_value_kind None = false
is_value_kind (Some Scalar) = true
is_value_kind (Some (Array d)) = false
is_value_kind (Some (Constant n)) = true

-- the kind of a variable, a scalar or an array (ANSI X3.9-1978, sections 2.5, 2.6)
abbrev pub is_variable_kind : Option Kind → Bool
is_variable_kind None = false
is_variable_kind (Some Scalar) = true
is_variable_kind (Some (Array d)) = true
is_variable_kind (Some (Constant n)) = false

-- the kind of an array with this many dimensions (ANSI X3.9-1978, section 5.1.1)
abbrev pub is_array_kind : ℕ → Option Kind → Bool
is_array_kind rank None = false
is_array_kind rank (Some Scalar) = false
is_array_kind rank (Some (Array d)) = length d.lower == rank && length d.upper == rank
is_array_kind rank (Some (Constant n)) = false

-- the name is that of a scalar variable (ANSI X3.9-1978, section 2.5)
abbrev pub is_scalar : NameKinds → List ℕ → Bool
is_scalar k x = is_scalar_kind (k x)

-- the name is that of a scalar variable or of a named constant (ANSI X3.9-1978, sections 2.5, 8.6)
abbrev pub is_value : NameKinds → List ℕ → Bool
is_value k x = is_value_kind (k x)

-- the name is that of a scalar variable or of an array (ANSI X3.9-1978, sections 2.5, 2.6)
abbrev pub is_variable : NameKinds → List ℕ → Bool
is_variable k x = is_variable_kind (k x)

-- the name is that of an array with this many dimensions (ANSI X3.9-1978, section 5.1.1)
abbrev pub has_rank : NameKinds → ℕ → List ℕ → Bool
has_rank k rank x = is_array_kind rank (k x)

-- as many subscripts as an array may have: one to seven (ANSI X3.9-1978, section 5.1.1)
abbrev pub is_rank : ℕ → Bool
is_rank n = nat_le 1 n && nat_le n most_dimensions

abbrev mutual
  -- in the expression each name without subscripts is that of a scalar or of a constant, each element has as many subscripts as its array has dimensions, and each intrinsic function as many arguments as it takes (ANSI X3.9-1978, sections 5.4, 6.1, 15.10)
  pub expr_is_right : NameKinds → ExprTree → Bool
  expr_is_right k (Int n) = true
  expr_is_right k (Var x) = is_value k x
  expr_is_right k (Element x subscripts) = has_rank k (expr_count subscripts) x && is_rank (expr_count subscripts) && exprs_are_right k subscripts
  expr_is_right k (Neg a) = expr_is_right k a
  expr_is_right k (Add a b) = expr_is_right k a && expr_is_right k b
  expr_is_right k (Sub a b) = expr_is_right k a && expr_is_right k b
  expr_is_right k (Mul a b) = expr_is_right k a && expr_is_right k b
  expr_is_right k (Div a b) = expr_is_right k a && expr_is_right k b
  expr_is_right k (Pow a b) = expr_is_right k a && expr_is_right k b
  expr_is_right k (Call f arguments) = takes_arguments f arguments && exprs_are_right k arguments

  -- the same of expressions
  pub exprs_are_right : NameKinds → ExprTrees → Bool
  exprs_are_right k no_exprs = true
  exprs_are_right k (more_exprs e rest) = expr_is_right k e && exprs_are_right k rest

-- a left side or an item of a READ is a scalar, or an element with as many subscripts as its array has dimensions (ANSI X3.9-1978, sections 10.1, 12.8.2)
abbrev pub target_is_right : NameKinds → ExprTree → Bool
target_is_right k (Int n) = false
target_is_right k (Var x) = is_scalar k x
target_is_right k (Element x subscripts) = expr_is_right k (Element x subscripts)
target_is_right k (Neg a) = false
target_is_right k (Add a b) = false
target_is_right k (Sub a b) = false
target_is_right k (Mul a b) = false
target_is_right k (Div a b) = false
target_is_right k (Pow a b) = false
target_is_right k (Call f arguments) = false

-- the expressions in the condition are right (ANSI X3.9-1978, sections 6.3, 6.4)
abbrev pub cond_is_right : NameKinds → CondTree → Bool
cond_is_right k (Rel r a b) = expr_is_right k a && expr_is_right k b
cond_is_right k (Not a) = cond_is_right k a
cond_is_right k (And a b) = cond_is_right k a && cond_is_right k b
cond_is_right k (Or a b) = cond_is_right k a && cond_is_right k b

-- the expression in an item of a PRINT is right (ANSI X3.9-1978, section 12.8.2)
abbrev pub item_is_right : NameKinds → ItemTree → Bool
item_is_right k (Value e) = expr_is_right k e
item_is_right k (Text text) = true

-- the variable of a DO and its PRIVATE names are scalars, and the expressions in its head are right (ANSI X3.9-1978, section 11.10; ParaScope)
abbrev pub head_is_right : NameKinds → Head → Bool
head_is_right k h =
    is_scalar k h.variable
    && expr_is_right k h.first && expr_is_right k h.last && expr_is_right k h.step
    && list_all (is_scalar k) h.private

abbrev mutual
  -- in the statement and in its parts what is assigned or read in may be, DO variables and PRIVATE names are scalars, and all expressions are right (ANSI X3.9-1978, sections 10.1, 11, 12.8; ParaScope)
  pub stmt_is_right : NameKinds → StmtTree → Bool
  stmt_is_right k (Assign left right) = target_is_right k left && expr_is_right k right
  stmt_is_right k (If condition then_part else_part) = cond_is_right k condition && stmts_are_right k then_part && stmts_are_right k else_part
  stmt_is_right k (Do h body) = head_is_right k h && stmts_are_right k body
  stmt_is_right k (Print items) = list_all (item_is_right k) items
  stmt_is_right k (Read items) = list_all (target_is_right k) items
  stmt_is_right k Stop = true
  stmt_is_right k (Comment text) = true

  -- the same of statements
  pub stmts_are_right : NameKinds → StmtTrees → Bool
  stmts_are_right k no_stmts = true
  stmts_are_right k (more_stmts s rest) = stmt_is_right k s && stmts_are_right k rest

-- the names in a SAVE are those of variables (ANSI X3.9-1978, section 8.9)
abbrev pub save_is_right : NameKinds → DeclTree → Bool
save_is_right k (Program x) = true
save_is_right k Implicit = true
save_is_right k (Integer ds) = true
save_is_right k (Dimension ds) = true
save_is_right k (Parameter values) = true
save_is_right k (Save names) = list_all (is_variable k) names
save_is_right k (Remark text) = true

-- the same of declarations
abbrev pub saves_are_right : NameKinds → List DeclTree → Bool
saves_are_right k decls = list_all (save_is_right k) decls
