-- The paths of a program: either part of each IF, any number of trips of each DO, to the end or to a STOP (ANSI X3.9-1978, section 11; this project).
use Rattle.std.specs.Prelude.{◌≡◌, ℕ, ◌+◌, ◌≤◌, List, [], Bool, true, false, ◌==◌}
use Rattle.ped_tree.specs.Tree.{Head, StmtTree, StmtTrees, Assign, If, Do, Print, Read, Stop, Comment, no_stmts, more_stmts, ProgramTree}
use Rattle.ped_tree.specs.Numbering.{statement_count, statements_count}
use Rattle.ped_tree.specs.Accesses.{constant_names}
use Rattle.ped_flow.specs.Events.{own_events, start_events, exit_events}
use Rattle.ped_flow.specs.PathSets.{Kind, Never, Just, Either, InTurn, Paths, going, nowhere, stopping, in_turn, either, trips}

-- the start of an iteration of a DO, and then the paths of its body
abbrev pub iteration : ℕ → Head → StmtTrees → Paths → Paths
iteration n h body paths_of_body = in_turn (going (start_events n h body)) paths_of_body

-- the paths of a statement with this number, where these are the named constants (ANSI X3.9-1978, section 11)
abbrev mutual
  pub paths : List (List ℕ) → StmtTree → ℕ → Paths
  paths constants (Assign left right) n = going (own_events constants n (Assign left right))
  paths constants (If condition then_part else_part) n =
      in_turn (going (own_events constants n (If condition then_part else_part)))
      (either (all_paths constants then_part (n + 1)) (all_paths constants else_part (n + 1 + statements_count then_part)))
  paths constants (Do h body) n =
      in_turn (going (own_events constants n (Do h body)))
      (in_turn (trips (iteration n h body (all_paths constants body (n + 1)))) (going (exit_events n h body)))
  paths constants (Print items) n = going (own_events constants n (Print items))
  paths constants (Read items) n = going (own_events constants n (Read items))
  paths constants Stop n = stopping
  paths constants (Comment text) n = going []

  -- the paths of statements, of which the first has this number (ANSI X3.9-1978, section 11)
  pub all_paths : List (List ℕ) → StmtTrees → ℕ → Paths
  all_paths constants no_stmts n = going []
  all_paths constants (more_stmts s rest) n = in_turn (paths constants s n) (all_paths constants rest (n + statement_count s))

-- nothing has happened yet, where this is so
abbrev pub at_once : Bool → Paths
at_once true = going []
at_once false = nowhere

-- the paths from the exit of a DO, whether or not a path leads to it: what can come after it in a statement with this number; in a DO around it, the rest of this iteration, and then any number of further ones and the exit (this project)
abbrev mutual
  pub paths_behind : List (List ℕ) → ℕ → StmtTree → ℕ → Paths
  paths_behind constants l (Assign left right) n = nowhere
  paths_behind constants l (If condition then_part else_part) n =
      either (all_paths_behind constants l then_part (n + 1)) (all_paths_behind constants l else_part (n + 1 + statements_count then_part))
  paths_behind constants l (Do h body) n =
      either (at_once (l == n))
      (in_turn (all_paths_behind constants l body (n + 1))
      (in_turn (trips (iteration n h body (all_paths constants body (n + 1)))) (going (exit_events n h body))))
  paths_behind constants l (Print items) n = nowhere
  paths_behind constants l (Read items) n = nowhere
  paths_behind constants l Stop n = nowhere
  paths_behind constants l (Comment text) n = nowhere

  -- the paths from the exit of a DO in statements, of which the first has this number (this project)
  pub all_paths_behind : List (List ℕ) → ℕ → StmtTrees → ℕ → Paths
  all_paths_behind constants l no_stmts n = nowhere
  all_paths_behind constants l (more_stmts s rest) n =
      either (in_turn (paths_behind constants l s n) (all_paths constants rest (n + statement_count s)))
      (all_paths_behind constants l rest (n + statement_count s))

-- the path to a DO from its own place: it has this number, or it has the statement with this number in its body
abbrev pub ToEntry : ℕ → ℕ → ℕ → Kind
ToEntry l n count_in_body path = (n ≤ l) × (l ≤ n + count_in_body) × (path ≡ [])

-- the paths to the outermost DO that has this number or has the statement with it in its body (this project)
abbrev mutual
  pub paths_before : List (List ℕ) → ℕ → StmtTree → ℕ → Kind
  paths_before constants l (Assign left right) n = Never
  paths_before constants l (If condition then_part else_part) n =
      InTurn (Just (own_events constants n (If condition then_part else_part)))
      (Either (all_paths_before constants l then_part (n + 1)) (all_paths_before constants l else_part (n + 1 + statements_count then_part)))
  paths_before constants l (Do h body) n = ToEntry l n (statements_count body)
  paths_before constants l (Print items) n = Never
  paths_before constants l (Read items) n = Never
  paths_before constants l Stop n = Never
  paths_before constants l (Comment text) n = Never

  -- the paths to the outermost DO among statements, of which the first has this number (this project)
  pub all_paths_before : List (List ℕ) → ℕ → StmtTrees → ℕ → Kind
  all_paths_before constants l no_stmts n = Never
  all_paths_before constants l (more_stmts s rest) n =
      Either (paths_before constants l s n)
      (InTurn (paths constants s n).onward (all_paths_before constants l rest (n + statement_count s)))

-- the paths of a program
abbrev pub program_paths : ProgramTree → Paths
program_paths t = all_paths (constant_names t.decls) t.body 1

-- the paths of a program from the exit of the DO with this number to the end or to a STOP
abbrev pub paths_from_exit : ProgramTree → ℕ → Paths
paths_from_exit t l = all_paths_behind (constant_names t.decls) l t.body 1

-- the paths of a program to the outermost DO that is the DO with this number or is around it
abbrev pub paths_to_outermost : ProgramTree → ℕ → Kind
paths_to_outermost t l = all_paths_before (constant_names t.decls) l t.body 1
