-- A DO whose body is one DO, comments apart; and new statements for a DO (Allen and Kennedy, section 5.2; this project).
use Rattle.std.specs.Prelude.{◌==◌, Bool, false, ◌||◌, Option, Some, None, if◌then◌else◌}
use Rattle.ped_tree.specs.Tree.{Head, StmtTree, StmtTrees, Assign, If, Do, Print, Read, Stop, Comment, no_stmts, more_stmts}
use Rattle.ped_tree.specs.Numbering.{statements_count}
use Rattle.ped_loop_runs.specs.ped_steps.specs.Replacing.{alone}

-- the head and the body of the only DO among these statements, where nothing but comments is next to it
abbrev pub only_loop : StmtTrees → Option (Head × StmtTrees)
only_loop no_stmts = None
only_loop (more_stmts (Comment text) rest) = only_loop rest
only_loop (more_stmts (Do h body) rest) = if statements_count rest == 0 then Some (h, body) else None
only_loop (more_stmts (Assign left right) rest) = None
only_loop (more_stmts (If condition then_part else_part) rest) = None
only_loop (more_stmts (Print items) rest) = None
only_loop (more_stmts (Read items) rest) = None
only_loop (more_stmts Stop rest) = None

-- a test of a DO that may not be there: it fails then
abbrev pub of_loop : (Head → StmtTrees → Bool) → Option (Head × StmtTrees) → Bool
of_loop test None = false
of_loop test (Some l) = test l.0 l.1

-- the test of the only DO in the body of another
abbrev pub inner : (Head → StmtTrees → Bool) → StmtTrees → Bool
inner test body = of_loop test (only_loop body)

-- the test of a DO, or of the only DO in its body
abbrev pub either : (Head → StmtTrees → Bool) → Head → StmtTrees → Bool
either test h body = test h body || inner test body

-- other statements in the place of a DO; another statement stays
abbrev pub on_loop : (Head → StmtTrees → StmtTrees) → StmtTree → StmtTrees
on_loop new (Do h body) = new h body
on_loop new (Assign left right) = alone (Assign left right)
on_loop new (If condition then_part else_part) = alone (If condition then_part else_part)
on_loop new (Print items) = alone (Print items)
on_loop new (Read items) = alone (Read items)
on_loop new Stop = alone Stop
on_loop new (Comment text) = alone (Comment text)

-- another statement in the place of the first DO, where nothing but comments is before it; all else stays
abbrev pub change_only : (Head → StmtTrees → StmtTree) → StmtTrees → StmtTrees
change_only new no_stmts = no_stmts
change_only new (more_stmts (Do h body) rest) = more_stmts (new h body) rest
change_only new (more_stmts (Comment text) rest) = more_stmts (Comment text) (change_only new rest)
change_only new (more_stmts (Assign left right) rest) = more_stmts (Assign left right) rest
change_only new (more_stmts (If condition then_part else_part) rest) = more_stmts (If condition then_part else_part) rest
change_only new (more_stmts (Print items) rest) = more_stmts (Print items) rest
change_only new (more_stmts (Read items) rest) = more_stmts (Read items) rest
change_only new (more_stmts Stop rest) = more_stmts Stop rest
