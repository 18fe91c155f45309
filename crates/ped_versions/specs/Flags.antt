-- A DO that becomes a PARALLEL DO, or ceases to be one, where it stands (ParaScope; this project).
use Rattle.std.specs.Prelude.{ℕ, ◌+◌, ◌==◌, Bool, if◌then◌else◌}
use Rattle.ped_tree.specs.Tree.{StmtTree, StmtTrees, Assign, If, Do, Print, Read, Stop, Comment, no_stmts, more_stmts, ProgramTree}
use Rattle.ped_tree.specs.Numbering.{statement_count, statements_count}

-- a statement with number n in which the DO with the sought number is a PARALLEL DO, or one whose iterations are done in order; all else of it stays
abbrev mutual
  pub flag_one : Bool → ℕ → StmtTree → ℕ → StmtTree
  flag_one p sought (Assign left right) n = Assign left right
  flag_one p sought (If c a b) n = if n == sought then If c a b else If c (flag_all p sought a (n + 1)) (flag_all p sought b (n + 1 + statements_count a))
  flag_one p sought (Do h body) n = if n == sought then Do (record h { parallel = p }) body else Do h (flag_all p sought body (n + 1))
  flag_one p sought (Print items) n = Print items
  flag_one p sought (Read items) n = Read items
  flag_one p sought Stop n = Stop
  flag_one p sought (Comment text) n = Comment text

  -- the same in statements, of which the first has number n
  pub flag_all : Bool → ℕ → StmtTrees → ℕ → StmtTrees
  flag_all p sought no_stmts n = no_stmts
  flag_all p sought (more_stmts s rest) n = more_stmts (flag_one p sought s n) (flag_all p sought rest (n + statement_count s))

-- the program with the DO of this number so
abbrev pub flagged : ProgramTree → ℕ → Bool → ProgramTree
flagged t sought p = record { decls = t.decls; body = flag_all p sought t.body 1 }
