-- The DOs of a program that aren't PARALLEL DOs (ParaScope).
use Rattle.std.specs.Prelude.{ℕ, ◌≤◌, List, filter, Bool, false, not, Option, Some, None}
use Rattle.std.specs.List.{range_with_len}
use Rattle.ped_rules.specs.ped_flow.specs.ped_tree.specs.Tree.{StmtTree, Assign, If, Do, Print, Read, Stop, Comment, ProgramTree}
use Rattle.ped_rules.specs.ped_flow.specs.ped_tree.specs.Numbering.{statement_with, statements_count}

-- the statement is a DO and no PARALLEL DO
abbrev pub is_serial : Option StmtTree → Bool
is_serial (Some (Do h body)) = not h.parallel
is_serial (Some (Assign left right)) = false
is_serial (Some (If condition then_part else_part)) = false
is_serial (Some (Print items)) = false
is_serial (Some (Read items)) = false
is_serial (Some Stop) = false
is_serial (Some (Comment text)) = false
is_serial None = false

-- the statement with this number is a DO and no PARALLEL DO
abbrev pub is_serial_loop : ProgramTree → ℕ → Bool
is_serial_loop t number = is_serial (statement_with number t)

-- how many numbered statements a program has
abbrev pub count_of : ProgramTree → ℕ
count_of t = statements_count t.body

-- the program has a statement with this number
abbrev pub IsNumber : ProgramTree → ℕ → Type 0
IsNumber t number = (1 ≤ number) × (number ≤ count_of t)

-- the numbers of the DOs that aren't PARALLEL DOs, in text order
abbrev pub serial_loops : ProgramTree → List ℕ
serial_loops t = filter (is_serial_loop t) (range_with_len 1 (count_of t))
