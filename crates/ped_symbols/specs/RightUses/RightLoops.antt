-- DO loops: how deep they are nested in one another, and their increments (ANSI X3.9-1978, section 11.10).
use Rattle.std.specs.Prelude.{ℕ, suc, ℤ, pos, max, List, Bool, true, false, not, ◌&&◌, nat_le, unsigned_abs, Option, Some, None}
use Rattle.std.specs.Ordering.{int_eq}
use Rattle.ped_tree.specs.Tree.{ExprTree, StmtTree, StmtTrees, Assign, If, Do, Print, Read, Stop, Comment, no_stmts, more_stmts}
use Rattle.ped_tree.specs.Grammar.LimitNumbers.{greatest_literal}
use Rattle.ped_tree.specs.Constants.ConstantExpressions.{constant_value}

abbrev mutual
  -- the greatest number of DO loops in one another in a statement (ANSI X3.9-1978, section 11.10.1)
  pub loop_depth : StmtTree → ℕ
  loop_depth (Assign left right) = 0
  loop_depth (If condition then_part else_part) = max (loops_deep then_part) (loops_deep else_part)
  loop_depth (Do h body) = suc (loops_deep body)
  loop_depth (Print items) = 0
  loop_depth (Read items) = 0
  loop_depth Stop = 0
  loop_depth (Comment text) = 0

  -- the same of statements
  pub loops_deep : StmtTrees → ℕ
  loops_deep no_stmts = 0
  loops_deep (more_stmts s rest) = max (loop_depth s) (loops_deep rest)

-- a number that a literal may have, or its negation (this project)
abbrev pub is_small : ℤ → Bool
is_small n = nat_le (unsigned_abs n) greatest_literal

-- a value of an increment: not 0, and not too large (ANSI X3.9-1978, section 11.10.3; this project)
abbrev pub is_step : Option ℤ → Bool
is_step None = false
is_step (Some n) = not (int_eq n (pos 0)) && is_small n

-- among these constants an increment has a value that it may have (ANSI X3.9-1978, section 11.10.3)
abbrev pub step_is_right : List (List ℕ × ℤ) → ExprTree → Bool
step_is_right constants e = is_step (constant_value constants e)

abbrev mutual
  -- among these constants the increment of each DO in a statement has a value that it may have (ANSI X3.9-1978, section 11.10.3)
  pub stmt_steps_are_right : List (List ℕ × ℤ) → StmtTree → Bool
  stmt_steps_are_right constants (Assign left right) = true
  stmt_steps_are_right constants (If condition then_part else_part) = steps_are_right constants then_part && steps_are_right constants else_part
  stmt_steps_are_right constants (Do h body) = step_is_right constants h.step && steps_are_right constants body
  stmt_steps_are_right constants (Print items) = true
  stmt_steps_are_right constants (Read items) = true
  stmt_steps_are_right constants Stop = true
  stmt_steps_are_right constants (Comment text) = true

  -- the same of statements
  pub steps_are_right : List (List ℕ × ℤ) → StmtTrees → Bool
  steps_are_right constants no_stmts = true
  steps_are_right constants (more_stmts s rest) = stmt_steps_are_right constants s && steps_are_right constants rest
