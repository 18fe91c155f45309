-- Statements with each expression rewritten: what a rewriting of expressions is, and what it may be where statements are to do the same (this project).
use Rattle.std.specs.Prelude.{◌≡◌, ℕ, ℤ, List, map, true, Some, ◌⊎◌}
use Rattle.ped_steps.specs.ped_flow.specs.ped_base.specs.Lists.{is_among}
use Rattle.ped_steps.specs.ped_flow.specs.ped_tree.specs.Tree.{ExprTree, ExprTrees, Int, Var, Element, Neg, Add, Sub, Mul, Div, Pow, Call, no_exprs, more_exprs, CondTree, Rel, Not, And, Or, ItemTree, Value, Text, Head, StmtTree, StmtTrees, Assign, If, Do, Print, Read, Stop, Comment, no_stmts, more_stmts}
use Rattle.ped_steps.specs.ped_flow.specs.ped_tree.specs.declared.expressions.Intrinsic.{Intrinsic}
use Rattle.ped_steps.specs.ped_flow.specs.ped_tree.specs.Constants.ConstantExpressions.{constant_value}
use Rattle.ped_steps.specs.ped_affine.specs.Assigned.{assigned_in_all}
use Rattle.ped_steps.specs.ped_symbolic.specs.Arithmetic.{plus_of, minus_of}

-- what rewrites expressions, and lists of them, goes into their parts, and may make sums and differences anew; scalars it may put anything for (this project)
pub record IsRewriting (h : ExprTree → ExprTree) (hs : ExprTrees → ExprTrees) : Type 0 where
  pub int : (n : ℕ) → h (Int n) ≡ Int n
  pub element : (x : List ℕ) (subscripts : ExprTrees) → h (Element x subscripts) ≡ Element x (hs subscripts)
  pub neg : (a : ExprTree) → h (Neg a) ≡ Neg (h a)
  pub add : (a b : ExprTree) → (h (Add a b) ≡ Add (h a) (h b)) ⊎ (h (Add a b) ≡ plus_of (h a) (h b))
  pub sub : (a b : ExprTree) → (h (Sub a b) ≡ Sub (h a) (h b)) ⊎ (h (Sub a b) ≡ minus_of (h a) (h b))
  pub mul : (a b : ExprTree) → h (Mul a b) ≡ Mul (h a) (h b)
  pub div : (a b : ExprTree) → h (Div a b) ≡ Div (h a) (h b)
  pub pow : (a b : ExprTree) → h (Pow a b) ≡ Pow (h a) (h b)
  pub call : (f : Intrinsic) (arguments : ExprTrees) → h (Call f arguments) ≡ Call f (hs arguments)
  pub none : hs no_exprs ≡ no_exprs
  pub more : (e : ExprTree) (rest : ExprTrees) → hs (more_exprs e rest) ≡ more_exprs (h e) (hs rest)

-- nothing is rewritten (plain words)
abbrev pub unchanged : ExprTree → ExprTree
unchanged e = e

-- nothing is rewritten in a list (plain words)
abbrev pub all_unchanged : ExprTrees → ExprTrees
all_unchanged es = es

-- a condition with its expressions rewritten (this project)
abbrev pub condition_rewritten : (ExprTree → ExprTree) → CondTree → CondTree
condition_rewritten h (Rel r a b) = Rel r (h a) (h b)
condition_rewritten h (Not a) = Not (condition_rewritten h a)
condition_rewritten h (And a b) = And (condition_rewritten h a) (condition_rewritten h b)
condition_rewritten h (Or a b) = Or (condition_rewritten h a) (condition_rewritten h b)

-- an item of a PRINT with its expression rewritten (this project)
abbrev pub item_rewritten : (ExprTree → ExprTree) → ItemTree → ItemTree
item_rewritten h (Value e) = Value (h e)
item_rewritten h (Text t) = Text t

-- the header of a DO with its bounds and its increment rewritten; what it declares stays (this project)
abbrev pub head_rewritten : (ExprTree → ExprTree) → Head → Head
head_rewritten h d = record {
  variable = d.variable;
  first = h d.first;
  last = h d.last;
  step = h d.step;
  parallel = d.parallel;
  private = d.private;
  rejected = d.rejected;
}

-- a statement with each of its expressions rewritten, left sides and items of a READ among them (this project)
abbrev mutual
  pub statement_rewritten : (ExprTree → ExprTree) → StmtTree → StmtTree
  statement_rewritten h (Assign left right) = Assign (h left) (h right)
  statement_rewritten h (If condition then_part else_part) = If (condition_rewritten h condition) (statements_rewritten h then_part) (statements_rewritten h else_part)
  statement_rewritten h (Do d body) = Do (head_rewritten h d) (statements_rewritten h body)
  statement_rewritten h (Print items) = Print (map (item_rewritten h) items)
  statement_rewritten h (Read items) = Read (map h items)
  statement_rewritten h Stop = Stop
  statement_rewritten h (Comment text) = Comment text

  -- statements with each of their expressions rewritten (this project)
  pub statements_rewritten : (ExprTree → ExprTree) → StmtTrees → StmtTrees
  statements_rewritten h no_stmts = no_stmts
  statements_rewritten h (more_stmts s rest) = more_stmts (statement_rewritten h s) (statements_rewritten h rest)

-- this holds of the header of each DO in a statement (plain words)
abbrev mutual
  pub OfHeads : (Head → Type 0) → StmtTree → Type 0
  OfHeads P (Assign left right) = Unit {0}
  OfHeads P (If condition then_part else_part) = OfAllHeads P then_part × OfAllHeads P else_part
  OfHeads P (Do d body) = P d × OfAllHeads P body
  OfHeads P (Print items) = Unit {0}
  OfHeads P (Read items) = Unit {0}
  OfHeads P Stop = Unit {0}
  OfHeads P (Comment text) = Unit {0}

  -- this holds of the header of each DO in statements (plain words)
  pub OfAllHeads : (Head → Type 0) → StmtTrees → Type 0
  OfAllHeads P no_stmts = Unit {0}
  OfAllHeads P (more_stmts s rest) = OfHeads P s × OfAllHeads P rest

-- the increment of a DO has the same constant value when it is rewritten (ANSI X3.9-1978, section 11.10; this project)
abbrev pub KeepsIncrement : (ExprTree → ExprTree) → List (List ℕ × ℤ) → Head → Type 0
KeepsIncrement h constants d = constant_value constants (h d.step) ≡ constant_value constants d.step

-- the increment of each DO in statements is a constant with a value (ANSI X3.9-1978, section 11.10; this project)
abbrev pub HaveIncrements : List (List ℕ × ℤ) → StmtTrees → Type 0
HaveIncrements constants ts = OfAllHeads (λ d. (k : ℤ) × (constant_value constants d.step ≡ Some k)) ts

-- statements may be rewritten so: what they assign stays, and increments keep their values (this project)
pub record MayBeRewritten (h : ExprTree → ExprTree) (constants : List (List ℕ × ℤ)) (ts : StmtTrees) : Type 0 where
  pub kept : (x : List ℕ) → is_among x (assigned_in_all ts) ≡ true → h (Var x) ≡ Var x
  pub increments : OfAllHeads (KeepsIncrement h constants) ts
