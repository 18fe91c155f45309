-- Plain trees of programs. A name is its bytes (ANSI X3.9-1978, sections 2.4, 3.5).
use Rattle.std.specs.Prelude.{ℕ, List, Bool}
use Rattle.ped_tree.specs.declared.expressions.Intrinsic.{Intrinsic}
use Rattle.ped_tree.specs.declared.conditions.Relation.{Relation}

mutual
  -- an expression: a literal, a scalar, an element with its subscripts, a negation, a sum, a difference, a product, a quotient, a power, an intrinsic function with its arguments (ANSI X3.9-1978, sections 6.1, 15.10)
  pub data ExprTree : Type 0 where
    Int : ℕ → ExprTree
    Var : List ℕ → ExprTree
    Element : List ℕ → ExprTrees → ExprTree
    Neg : ExprTree → ExprTree
    Add : ExprTree → ExprTree → ExprTree
    Sub : ExprTree → ExprTree → ExprTree
    Mul : ExprTree → ExprTree → ExprTree
    Div : ExprTree → ExprTree → ExprTree
    Pow : ExprTree → ExprTree → ExprTree
    Call : Intrinsic → ExprTrees → ExprTree

  -- expressions in order, as the subscripts of an element (ANSI X3.9-1978, sections 6.1, 15.10)
  pub data ExprTrees : Type 0 where
    no_exprs : ExprTrees
    more_exprs : ExprTree → ExprTrees → ExprTrees

-- a condition: a relation of two expressions, .NOT., .AND., .OR. (ANSI X3.9-1978, sections 6.3, 6.4)
pub data CondTree : Type 0 where
  Rel : Relation → ExprTree → ExprTree → CondTree
  Not : CondTree → CondTree
  And : CondTree → CondTree → CondTree
  Or : CondTree → CondTree → CondTree

-- an item of a PRINT: the value of an expression, or a character constant (ANSI X3.9-1978, section 12.8.2)
pub data ItemTree : Type 0 where
  Value : ExprTree → ItemTree
  Text : List ℕ → ItemTree

-- the head of a DO: its variable, its initial value, its limit and its increment, whether it is parallel, its PRIVATE names and its rejected names (ANSI X3.9-1978, section 11.10; ParaScope)
pub record Head : Type 0 where
  pub variable : List ℕ
  pub first : ExprTree
  pub last : ExprTree
  pub step : ExprTree
  pub parallel : Bool
  pub private : List (List ℕ)
  pub rejected : List (List ℕ)

mutual
  -- an executable statement, or a comment among them: an assignment, a block IF, a DO with its body, PRINT, READ, STOP (ANSI X3.9-1978, sections 10.1, 11, 12.8)
  pub data StmtTree : Type 0 where
    Assign : ExprTree → ExprTree → StmtTree
    If : CondTree → StmtTrees → StmtTrees → StmtTree
    Do : Head → StmtTrees → StmtTree
    Print : List ItemTree → StmtTree
    Read : List ExprTree → StmtTree
    Stop : StmtTree
    Comment : List ℕ → StmtTree

  -- statements in order (ANSI X3.9-1978, sections 10.1, 11, 12.8)
  pub data StmtTrees : Type 0 where
    no_stmts : StmtTrees
    more_stmts : StmtTree → StmtTrees → StmtTrees

-- the lower and the upper bound of a dimension (ANSI X3.9-1978, section 5.1.1.1)
pub record BoundTree : Type 0 where
  pub lower : ExprTree
  pub upper : ExprTree

-- a declared name with its dimensions, none for a scalar (ANSI X3.9-1978, section 5.1.1)
pub record DeclaratorTree : Type 0 where
  pub name : List ℕ
  pub bounds : List BoundTree

-- a declaration, or a comment among them: PROGRAM, IMPLICIT INTEGER (A-Z), INTEGER, DIMENSION, PARAMETER, SAVE (ANSI X3.9-1978, sections 8, 14.1)
pub data DeclTree : Type 0 where
  Program : List ℕ → DeclTree
  Implicit : DeclTree
  Integer : List DeclaratorTree → DeclTree
  Dimension : List DeclaratorTree → DeclTree
  Parameter : List (List ℕ × ExprTree) → DeclTree
  Save : List (List ℕ) → DeclTree
  Remark : List ℕ → DeclTree

-- a main program: its declarations and its executable statements
pub record ProgramTree : Type 0 where
  pub decls : List DeclTree
  pub body : StmtTrees
