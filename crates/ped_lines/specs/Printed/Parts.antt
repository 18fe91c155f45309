-- A program as the statements that are printed, each with the comments and directives before it (this project).
use Rattle.std.specs.Prelude.{ℕ, suc, List, [], ◌∷◌, ◌++◌, map, codes}
use Rattle.ped_tree.specs.Tree.{StmtTree, StmtTrees, Assign, If, Do, Print, Read, Stop, Comment, no_stmts, more_stmts, DeclTree, Program, Implicit, Integer, Dimension, Parameter, Save, Remark, ProgramTree}
use Rattle.ped_tree.specs.Printing.{own_text, decl_text, private_text}
use Rattle.ped_lines.specs.Printed.Printed.{PrintedNote, a_comment, a_rejection, PrintedStatement}

-- a comment or a directive, or a statement by how many loops and IFs it is indented and its text
pub data Part : Type 0 where
  a_note : PrintedNote → Part
  a_statement : ℕ → List ℕ → Part

-- the PRIVATE statement of a DO, where it has private names
abbrev pub private_parts : ℕ → List (List ℕ) → List Part
private_parts depth [] = []
private_parts depth (x ∷ xs) = a_statement depth (private_text (x ∷ xs)) ∷ []

-- what is printed for a statement, by the loops and IFs around it
abbrev mutual
  pub statement_parts : ℕ → StmtTree → List Part
  statement_parts depth (Assign left right) = a_statement depth (own_text (Assign left right)) ∷ []
  statement_parts depth (If condition then_part else_part) =
      a_statement depth (own_text (If condition then_part else_part))
      ∷ (statements_parts (suc depth) then_part
      ++ else_parts depth else_part
      ++ a_statement depth (codes "END IF") ∷ [])
  statement_parts depth (Do h body) =
      map (λ x. a_note (a_rejection x)) h.rejected
      ++ a_statement depth (own_text (Do h body)) ∷ []
      ++ private_parts (suc depth) h.private
      ++ statements_parts (suc depth) body
      ++ a_statement depth (codes "END DO") ∷ []
  statement_parts depth (Print items) = a_statement depth (own_text (Print items)) ∷ []
  statement_parts depth (Read items) = a_statement depth (own_text (Read items)) ∷ []
  statement_parts depth Stop = a_statement depth (own_text Stop) ∷ []
  statement_parts depth (Comment text) = a_note (a_comment text) ∷ []

  pub statements_parts : ℕ → StmtTrees → List Part
  statements_parts depth no_stmts = []
  statements_parts depth (more_stmts s rest) = statement_parts depth s ++ statements_parts depth rest

  -- ELSE and its part, where there is one
  pub else_parts : ℕ → StmtTrees → List Part
  else_parts depth no_stmts = []
  else_parts depth (more_stmts s rest) =
      a_statement depth (codes "ELSE")
      ∷ (statement_parts (suc depth) s
      ++ statements_parts (suc depth) rest)

-- what is printed for a declaration
abbrev pub decl_part : DeclTree → Part
decl_part (Program x) = a_statement 0 (decl_text (Program x))
decl_part Implicit = a_statement 0 (decl_text Implicit)
decl_part (Integer ds) = a_statement 0 (decl_text (Integer ds))
decl_part (Dimension ds) = a_statement 0 (decl_text (Dimension ds))
decl_part (Parameter values) = a_statement 0 (decl_text (Parameter values))
decl_part (Save names) = a_statement 0 (decl_text (Save names))
decl_part (Remark text) = a_note (a_comment text)

-- what is printed for a program: declarations, statements, END
abbrev pub program_parts : ProgramTree → List Part
program_parts t = map decl_part t.decls ++ statements_parts 0 t.body ++ a_statement 0 (codes "END") ∷ []

-- the statements among parts, where these notes are before the first part; each takes the notes before it
abbrev pub with_notes : List PrintedNote → List Part → List PrintedStatement
with_notes before [] = []
with_notes before (a_note n ∷ rest) = with_notes (before ++ n ∷ []) rest
with_notes before (a_statement depth text ∷ rest) = record { notes = before; depth = depth; text = text } ∷ with_notes [] rest

-- the notes after the last statement
abbrev pub notes_left : List PrintedNote → List Part → List PrintedNote
notes_left before [] = before
notes_left before (a_note n ∷ rest) = notes_left (before ++ n ∷ []) rest
notes_left before (a_statement depth text ∷ rest) = notes_left [] rest

-- the printed statements of a program
abbrev pub printed_statements : ProgramTree → List PrintedStatement
printed_statements t = with_notes [] (program_parts t)
