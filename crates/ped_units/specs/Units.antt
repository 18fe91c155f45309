-- Program units: a main program and the subroutines after it, each with the tree of its statements (ANSI X3.9-1978, sections 2.4, 3.5, 15.6). In the tree a CALL is an assignment to a literal, which no text reads as (this project).
use Rattle.std.specs.Prelude.{ℕ, List, [], ◌∷◌, ◌++◌, codes, Option, Some, None, if◌then◌else◌}
use Rattle.ped_base.specs.Lists.{is_same_text}
use Rattle.ped_tree.specs.Tree.{ExprTree, ExprTrees, Int, Var, Element, no_exprs, more_exprs, StmtTree, StmtTrees, Assign, If, Do, Print, Read, Stop, Comment, no_stmts, more_stmts, ProgramTree}
use Rattle.ped_tree.specs.Printing.{exprs_text}
use Rattle.ped_units.specs.Forms.{Called}

-- a program unit: its name and its dummy arguments, none of the main program; the line of its SUBROUTINE statement; its declarations and statements, and the first lines of these in the text (ANSI X3.9-1978, sections 2.4, 15.6.1)
pub record ProgramUnit : Type 0 where
  pub name : List ℕ
  pub formals : List (List ℕ)
  pub line : ℕ
  pub tree : ProgramTree
  pub lines : List ℕ

-- the program units of a file: the main program and the subroutines, in text order (ANSI X3.9-1978, section 2.4)
pub record ProgramUnits : Type 0 where
  pub main : ProgramUnit
  pub others : List ProgramUnit

-- all units of a file, in text order
abbrev pub all_units : ProgramUnits → List ProgramUnit
all_units us = us.main ∷ us.others

-- the first of these units that has the name
abbrev pub unit_among : List ProgramUnit → List ℕ → Option ProgramUnit
unit_among [] x = None
unit_among (u ∷ us) x = if is_same_text x u.name then Some u else unit_among us x

-- the subroutine of this name, the first where several have it (ANSI X3.9-1978, section 15.6.2)
abbrev pub unit_of : ProgramUnits → List ℕ → Option ProgramUnit
unit_of us x = unit_among us.others x

-- a subroutine's name with the arguments, as a scalar or an element would be written
abbrev pub reference_of : List ℕ → ExprTrees → ExprTree
reference_of x no_exprs = Var x
reference_of x (more_exprs a rest) = Element x (more_exprs a rest)

-- a CALL in the tree of a unit: an assignment to the literal 0 of the name with the arguments (this project)
abbrev pub call_statement : Called → StmtTree
call_statement c = Assign (Int 0) (reference_of c.name c.arguments)

-- the subroutine's name and the arguments, where a right side is such a name
abbrev pub called_in : ExprTree → Option Called
called_in (Var x) = Some (record { name = x; arguments = no_exprs })
called_in (Element x arguments) = Some (record { name = x; arguments = arguments })
called_in e = None

-- the CALL that an assignment with these sides is, where its left side is a literal (this project)
abbrev pub call_of : ExprTree → ExprTree → Option Called
call_of (Int n) right = called_in right
call_of left right = None

-- a statement, or what a function gives for the CALL that it is
abbrev pub instead_of : (Called → StmtTree) → StmtTree → Option Called → StmtTree
instead_of f s None = s
instead_of f s (Some c) = f c

abbrev mutual
  -- a statement where each CALL in it gives way to what a function gives for it
  pub with_calls : (Called → StmtTree) → StmtTree → StmtTree
  with_calls f (Assign left right) = instead_of f (Assign left right) (call_of left right)
  with_calls f (If condition then_part else_part) = If condition (all_with_calls f then_part) (all_with_calls f else_part)
  with_calls f (Do h body) = Do h (all_with_calls f body)
  with_calls f (Print items) = Print items
  with_calls f (Read items) = Read items
  with_calls f Stop = Stop
  with_calls f (Comment text) = Comment text

  -- the same of statements
  pub all_with_calls : (Called → StmtTree) → StmtTrees → StmtTrees
  all_with_calls f no_stmts = no_stmts
  all_with_calls f (more_stmts s rest) = more_stmts (with_calls f s) (all_with_calls f rest)

-- the arguments of a CALL in parentheses, as they are printed; nothing where there is none (ANSI X3.9-1978, section 15.6.2)
abbrev pub arguments_text : ExprTrees → List ℕ
arguments_text no_exprs = []
arguments_text (more_exprs a rest) = codes "(" ++ exprs_text (more_exprs a rest) ++ codes ")"

-- the subroutine's name and the arguments, as they are printed
abbrev pub called_text : Called → List ℕ
called_text c = c.name ++ arguments_text c.arguments
