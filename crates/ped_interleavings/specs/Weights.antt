-- Weights: a number for the rest of a run, which each step lowers. It counts the steps that may still be done, where each DO that hasn't been entered counts as many iterations as a DO may have (this project).
use Rattle.std.specs.Prelude.{ℕ, ◌+◌, ◌*◌, ◌^◌}
use Rattle.ped_tree.specs.Tree.{StmtTree, StmtTrees, Assign, If, Do, Print, Read, Stop, Comment, no_stmts, more_stmts}
use Rattle.ped_interleavings.specs.Lefts.{Left, finished, begins, ends_turn, open_loop, Lefts, no_lefts, more_lefts}

-- the most iterations of a DO, whose bounds lie from -2^62 to 2^62 (ANSI X3.9-1978, section 11.10.3; this project)
unfoldable pub most_turns : ℕ
most_turns = 2 ^ 63 + 1

abbrev mutual
  -- the steps of a statement, at most: a DO is entered, may do all iterations and is left (this project)
  pub stmt_weight : StmtTree → ℕ
  stmt_weight (Assign left right) = 1
  stmt_weight (If condition then_part else_part) = 1 + stmts_weight then_part + stmts_weight else_part
  stmt_weight (Do h body) = 2 + most_turns * (stmts_weight body + 1)
  stmt_weight (Print items) = 1
  stmt_weight (Read items) = 1
  stmt_weight Stop = 1
  stmt_weight (Comment text) = 0

  -- the steps of statements, at most (this project)
  pub stmts_weight : StmtTrees → ℕ
  stmts_weight no_stmts = 0
  stmts_weight (more_stmts t rest) = stmt_weight t + stmts_weight rest

abbrev mutual
  -- the steps that are left, at most (this project)
  pub left_weight : Left → ℕ
  left_weight finished = 0
  left_weight (begins t n scope rest) = stmt_weight t + left_weight rest
  left_weight (ends_turn e body n scope k more rest) = 1 + more * (stmts_weight body + 1) + left_weight rest
  left_weight (open_loop e n scope ls rest) = 1 + lefts_weight ls + left_weight rest

  -- the steps that are left to the iterations of a PARALLEL DO, at most (this project)
  pub lefts_weight : Lefts → ℕ
  lefts_weight no_lefts = 0
  lefts_weight (more_lefts l ls) = left_weight l + lefts_weight ls
