-- Statements in the place of one statement of a program; the others stay (this project).
use Rattle.std.specs.Prelude.{ℕ, ◌+◌, ◌==◌, List, map, if◌then◌else◌}
use Rattle.std.specs.List.{range_with_len}
use Rattle.ped_tree.specs.Tree.{StmtTree, StmtTrees, Assign, If, Do, Print, Read, Stop, Comment, no_stmts, more_stmts, ProgramTree}
use Rattle.ped_tree.specs.Numbering.{statement_count, statements_count}

-- statements, and others after them (plain words)
abbrev pub followed : StmtTrees → StmtTrees → StmtTrees
followed no_stmts others = others
followed (more_stmts s rest) others = more_stmts s (followed rest others)

-- one statement as statements (plain words)
abbrev pub alone : StmtTree → StmtTrees
alone s = more_stmts s no_stmts

-- a statement with number n, in which the statement with the sought number is exchanged for others; a comment has no number (this project)
abbrev mutual
  pub replaced : (StmtTree → StmtTrees) → ℕ → StmtTree → ℕ → StmtTrees
  replaced by sought (Assign left right) n = if n == sought then by (Assign left right) else alone (Assign left right)
  replaced by sought (If condition then_part else_part) n =
      if n == sought then by (If condition then_part else_part)
      else alone (If condition (all_replaced by sought then_part (n + 1)) (all_replaced by sought else_part (n + 1 + statements_count then_part)))
  replaced by sought (Do h body) n = if n == sought then by (Do h body) else alone (Do h (all_replaced by sought body (n + 1)))
  replaced by sought (Print items) n = if n == sought then by (Print items) else alone (Print items)
  replaced by sought (Read items) n = if n == sought then by (Read items) else alone (Read items)
  replaced by sought Stop n = if n == sought then by Stop else alone Stop
  replaced by sought (Comment text) n = alone (Comment text)

  -- the same in statements, of which the first has number n (this project)
  pub all_replaced : (StmtTree → StmtTrees) → ℕ → StmtTrees → ℕ → StmtTrees
  all_replaced by sought no_stmts n = no_stmts
  all_replaced by sought (more_stmts s rest) n = followed (replaced by sought s n) (all_replaced by sought rest (n + statement_count s))

-- a program with others in the place of its statement with this number (this project)
abbrev pub program_with : (StmtTree → StmtTrees) → ℕ → ProgramTree → ProgramTree
program_with by sought t = record { decls = t.decls; body = all_replaced by sought t.body 1 }

-- each statement keeps its number (this project)
abbrev pub all_kept : ProgramTree → List (ℕ × ℕ)
all_kept t = map (λ n. (n, n)) (range_with_len 1 (statements_count t.body))
