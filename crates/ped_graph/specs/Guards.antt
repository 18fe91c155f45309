-- The statements that are in an IF (ANSI X3.9-1978, section 11.6).
use Rattle.std.specs.Prelude.{ℕ, ◌-◌, List, [], ◌∷◌, ◌++◌, slice_index_or, Bool, true, false}
use Rattle.ped_tree.specs.Tree.{StmtTree, StmtTrees, Assign, If, Do, Print, Read, Stop, Comment, no_stmts, more_stmts, ProgramTree}

-- for each numbered statement of a statement and its parts, in text order, whether it is in an IF, where the statement itself does or not; an IF's own condition isn't in it (ANSI X3.9-1978, section 11.6; this project)
abbrev mutual
  pub guards_in : Bool → StmtTree → List Bool
  guards_in inside (Assign left right) = inside ∷ []
  guards_in inside (If condition then_part else_part) = inside ∷ (all_guards_in true then_part ++ all_guards_in true else_part)
  guards_in inside (Do h body) = inside ∷ all_guards_in inside body
  guards_in inside (Print items) = inside ∷ []
  guards_in inside (Read items) = inside ∷ []
  guards_in inside Stop = inside ∷ []
  guards_in inside (Comment text) = []

  -- the same of statements, one after the other (ANSI X3.9-1978, section 11.6)
  pub all_guards_in : Bool → StmtTrees → List Bool
  all_guards_in inside no_stmts = []
  all_guards_in inside (more_stmts s rest) = guards_in inside s ++ all_guards_in inside rest

-- for each statement of a program, by its number, whether it is in an IF (ANSI X3.9-1978, section 11.6)
abbrev pub guards : ProgramTree → List Bool
guards t = all_guards_in false t.body

-- the statement with this number is in an IF
abbrev pub is_guarded : List Bool → ℕ → Bool
is_guarded guards number = slice_index_or guards (number - 1) false
