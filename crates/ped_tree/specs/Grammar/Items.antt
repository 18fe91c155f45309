-- What the statements of a text say, one by one (this project).
use Rattle.std.specs.Prelude.{ℕ, List, Option}
use Rattle.ped_tree.specs.Tree.{CondTree, Head, StmtTree, StmtTrees, DeclTree}
use Rattle.ped_tree.specs.Grammar.Statement.{Statement}

-- what a statement says by itself: a declaration, SAVE without a list, an assignment or PRINT or READ or STOP, CONTINUE, a logical IF with its statement (none for CONTINUE), the lines of a block IF, a DO with its label or none, END DO, PRIVATE, END
pub data Item : Type 0 where
  declares : DeclTree → Item
  saves_all : Item
  does : StmtTree → Item
  continues : Item
  logical_if : CondTree → StmtTrees → Item
  block_if : CondTree → Item
  else_if : CondTree → Item
  else_line : Item
  end_if : Item
  begins_do : Option ℕ → Head → Item
  ends_do : Item
  keeps_private : List (List ℕ) → Item
  ends_program : Item

-- what a statement's text is: a form of the profile, a form that the profile leaves out, or no form
pub data Reading : Type 0 where
  says : Item → Reading
  outside_profile : Reading
  no_form : Reading

-- a statement of a text with what it says
pub record Entry : Type 0 where
  pub statement : Statement
  pub reading : Reading
