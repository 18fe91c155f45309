-- Statements of a text, as its lines are grouped into them. Lines count from 1 (ANSI X3.9-1978, section 3.3).
use Rattle.std.specs.Prelude.{ℕ, List, Option}

-- a comment by its text, or a directive by what follows $PED, and its line (ANSI X3.9-1978, section 3.2.1; this project)
pub record Note : Type 0 where
  pub line : ℕ
  pub text : List ℕ

-- a statement: its first line, its label, its text without blanks outside constants but for one between two constants that blanks alone part, and the comments and directives before and within it
pub record Statement : Type 0 where
  pub line : ℕ
  pub label : Option ℕ
  pub text : List ℕ
  pub comments : List Note
  pub directives : List Note

-- the statements of a text, the comments and directives after the last, and the number of lines
pub record Statements : Type 0 where
  pub statements : List Statement
  pub comments : List Note
  pub directives : List Note
  pub lines : ℕ
