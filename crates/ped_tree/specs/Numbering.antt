-- Statement numbers: executable statements are numbered from 1 in text order. A comment has no number (this project).
use Rattle.std.specs.Prelude.{ℕ, ◌+◌, ◌-◌, ◌==◌, List, [], ◌∷◌, ◌++◌, Option, Some, None, if◌then◌else◌}
use Rattle.ped_tree.specs.Tree.{StmtTree, StmtTrees, Assign, If, Do, Print, Read, Stop, Comment, no_stmts, more_stmts, ProgramTree}

-- a statement and the statements in its parts, in text order, without the comments
abbrev mutual
  pub numbered : StmtTree → List StmtTree
  numbered (Assign left right) = Assign left right ∷ []
  numbered (If condition then_part else_part) = If condition then_part else_part ∷ (all_numbered then_part ++ all_numbered else_part)
  numbered (Do h body) = Do h body ∷ all_numbered body
  numbered (Print items) = Print items ∷ []
  numbered (Read items) = Read items ∷ []
  numbered Stop = Stop ∷ []
  numbered (Comment text) = []

  pub all_numbered : StmtTrees → List StmtTree
  all_numbered no_stmts = []
  all_numbered (more_stmts s rest) = numbered s ++ all_numbered rest

-- the statement at a place of a list, where place 0 comes first
abbrev pub at_place : List StmtTree → ℕ → Option StmtTree
at_place [] n = None
at_place (s ∷ ss) n = if n == 0 then Some s else at_place ss (n - 1)

-- the statement with a number, where there is one
abbrev pub statement_with : ℕ → ProgramTree → Option StmtTree
statement_with number t = if number == 0 then None else at_place (all_numbered t.body) (number - 1)

-- how many numbered statements a statement has, itself and those in its parts
abbrev mutual
  pub statement_count : StmtTree → ℕ
  statement_count (Assign left right) = 1
  statement_count (If condition then_part else_part) = statements_count then_part + statements_count else_part + 1
  statement_count (Do h body) = statements_count body + 1
  statement_count (Print items) = 1
  statement_count (Read items) = 1
  statement_count Stop = 1
  statement_count (Comment text) = 0

  pub statements_count : StmtTrees → ℕ
  statements_count no_stmts = 0
  statements_count (more_stmts s rest) = statement_count s + statements_count rest
