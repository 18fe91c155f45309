-- How many steps a run of a program has at most, by the program alone (this project).
use Rattle.std.specs.Prelude.{ℕ, ◌+◌, ◌*◌, ◌^◌, ℤ, Option, Some, None}
use Rattle.ped_laws.specs.ped_flow.specs.ped_tree.specs.Tree.{Head, StmtTree, StmtTrees, Assign, If, Do, Print, Read, Stop, Comment, no_stmts, more_stmts}
use Rattle.ped_laws.specs.ped_flow.specs.ped_tree.specs.Constants.ConstantExpressions.{constant_value}
use Rattle.ped_laws.specs.ped_flow.specs.PlainBounds.{Values}
use Rattle.ped_laws.specs.ped_eval.specs.Loops.{increment, iteration_count}

-- the most iterations of a DO, whose bounds lie from -2^62 to 2^62 (ANSI X3.9-1978, section 11.10.3; this project)
unfoldable pub most_iterations : ℕ
most_iterations = 2 ^ 63 + 1

-- the iteration count of a DO with these bounds, where both are constant; else the most that there are (ANSI X3.9-1978, section 11.10.3; this project)
abbrev pub iterations_by : Option ℤ → Option ℤ → ℤ → ℕ
iterations_by (Some m1) (Some m2) m3 = iteration_count m1 m2 m3
iterations_by (Some m1) None m3 = most_iterations
iterations_by None last m3 = most_iterations

-- how many iterations a DO has at most (ANSI X3.9-1978, section 11.10.3; this project)
abbrev pub iterations_at_most : Values → Head → ℕ
iterations_at_most constants h = iterations_by (constant_value constants h.first) (constant_value constants h.last) (increment constants h)

abbrev mutual
  -- the steps of a statement, at most: a DO is entered, may do all its iterations, each with its end, and is left (this project)
  pub steps_at_most : Values → StmtTree → ℕ
  steps_at_most constants (Assign left right) = 1
  steps_at_most constants (If condition then_part else_part) = 1 + all_steps_at_most constants then_part + all_steps_at_most constants else_part
  steps_at_most constants (Do h body) = 2 + iterations_at_most constants h * (all_steps_at_most constants body + 1)
  steps_at_most constants (Print items) = 1
  steps_at_most constants (Read items) = 1
  steps_at_most constants Stop = 1
  steps_at_most constants (Comment text) = 0

  -- the steps of statements, at most (this project)
  pub all_steps_at_most : Values → StmtTrees → ℕ
  all_steps_at_most constants no_stmts = 0
  all_steps_at_most constants (more_stmts x rest) = steps_at_most constants x + all_steps_at_most constants rest
