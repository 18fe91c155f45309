-- Questions about scalars and DO loops, over all paths (Allen and Kennedy, sections 4.4, 5.2; this project).
use Rattle.std.specs.Prelude.{◌≡◌, ℕ, ◌+◌, ◌≤◌, List, Bool, false, not, ◌&&◌, ◌||◌, ◌⊎◌, IsTrue, Option, Some, None}
use Rattle.std.specs.List.{flat_map, list_any}
use Rattle.ped_base.specs.Lists.{is_same_text, is_among}
use Rattle.ped_tree.specs.Tree.{Head, StmtTree, StmtTrees, Assign, If, Do, Print, Read, Stop, Comment, no_stmts, more_stmts, ProgramTree}
use Rattle.ped_tree.specs.Numbering.{statement_with, statement_count, statements_count}
use Rattle.ped_tree.specs.Accesses.{constant_names}
use Rattle.ped_tree.specs.NamesIn.{loop_variables, saved_in}
use Rattle.ped_flow.specs.Events.{Event, own_events, is_read_by, overwrites, reads_first, has_value}
use Rattle.ped_flow.specs.PathSets.{Kind, Whole}
use Rattle.ped_flow.specs.Paths.{all_paths, iteration, paths_from_exit, paths_to_outermost}

-- the statement with this number is this DO
abbrev pub IsLoop : ProgramTree → ℕ → Head → StmtTrees → Type 0
IsLoop t l h body = statement_with l t ≡ Some (Do h body)

-- the DO with a number
pub record LoopOf (t : ProgramTree) (l : ℕ) : Type 0 where
  pub head : Head
  pub body : StmtTrees
  pub is : IsLoop t l head body

-- the least number of which this holds, where there is one (plain words)
abbrev pub IsFirst : (ℕ → Type 0) → Option ℕ → Type 0
IsFirst P (Some n) = P n × ((k : ℕ) → P k → n ≤ k)
IsFirst P None = (k : ℕ) → P k → ⊥

-- a read of the scalar by a statement is exposed in a DO: on some path through one iteration the statement reads it before it is overwritten (Allen and Kennedy, section 5.2)
pub record IsExposed (t : ProgramTree) (l : ℕ) (x : List ℕ) (n : ℕ) : Type 0 where
  pub loop : LoopOf t l
  pub path : List Event
  pub leads : Whole (iteration l loop.head loop.body (all_paths (constant_names t.decls) loop.body (l + 1))) path
  pub reads : IsTrue (reads_first x n path)

-- a statement may read what the scalar holds at the exit of a DO: on some path from the exit it reads the scalar before it is overwritten (Allen and Kennedy, section 4.4)
pub record IsReadBehind (t : ProgramTree) (l : ℕ) (x : List ℕ) (n : ℕ) : Type 0 where
  pub path : List Event
  pub leads : Whole (paths_from_exit t l) path
  pub reads : IsTrue (reads_first x n path)

-- the program's end may show what the scalar holds at the exit of a DO: the scalar is saved, and some path from the exit to the end, or to a STOP, doesn't overwrite it (ANSI X3.9-1978, section 8.9; this project)
pub record IsShownBehind (t : ProgramTree) (l : ℕ) (x : List ℕ) : Type 0 where
  pub saved : IsTrue (is_among x (flat_map saved_in t.decls))
  pub path : List Event
  pub leads : Whole (paths_from_exit t l) path
  pub kept : overwrites x path ≡ false

-- the scalar is live after a DO (Allen and Kennedy, section 4.4)
abbrev pub IsLiveAfter : ProgramTree → ℕ → List ℕ → Type 0
IsLiveAfter t l x = ((n : ℕ) × IsReadBehind t l x n) ⊎ IsShownBehind t l x

-- on each of these paths the scalar has a value at the end, though it had none at the beginning
abbrev pub IsAssignedOn : Kind → List ℕ → Type 0
IsAssignedOn P x = (path : List Event) → P path → IsTrue (has_value x false path)

-- the scalar is assigned on each path through the body of a DO (this project)
abbrev pub IsAssignedThrough : ProgramTree → ℕ → List ℕ → Type 0
IsAssignedThrough t l x = (h : LoopOf t l) → IsAssignedOn (all_paths (constant_names t.decls) h.body (l + 1)).onward x

-- the scalar is assigned on each path to the outermost DO that is this DO or is around it (this project)
abbrev pub IsAssignedBefore : ProgramTree → ℕ → List ℕ → Type 0
IsAssignedBefore t l x = IsAssignedOn (paths_to_outermost t l) x

-- the statement with number k reads the scalar in a statement, which has number n, outside the bodies of all DO loops of the scalar there
abbrev mutual
  pub reads_outside : List (List ℕ) → List ℕ → ℕ → StmtTree → ℕ → Bool
  reads_outside constants x k (Assign left right) n = list_any (is_read_by x k) (own_events constants n (Assign left right))
  reads_outside constants x k (If condition then_part else_part) n =
      list_any (is_read_by x k) (own_events constants n (If condition then_part else_part))
      || (all_reads_outside constants x k then_part (n + 1) || all_reads_outside constants x k else_part (n + 1 + statements_count then_part))
  reads_outside constants x k (Do h body) n =
      list_any (is_read_by x k) (own_events constants n (Do h body)) || (not (is_same_text x h.variable) && all_reads_outside constants x k body (n + 1))
  reads_outside constants x k (Print items) n = list_any (is_read_by x k) (own_events constants n (Print items))
  reads_outside constants x k (Read items) n = list_any (is_read_by x k) (own_events constants n (Read items))
  reads_outside constants x k Stop n = false
  reads_outside constants x k (Comment text) n = false

  -- the same in statements, of which the first has number n
  pub all_reads_outside : List (List ℕ) → List ℕ → ℕ → StmtTrees → ℕ → Bool
  all_reads_outside constants x k no_stmts n = false
  all_reads_outside constants x k (more_stmts s rest) n = reads_outside constants x k s n || all_reads_outside constants x k rest (n + statement_count s)

-- a statement in the body of a DO reads the scalar outside the bodies of all DO loops of it there, of which this DO is one
pub record IsReadLoose (t : ProgramTree) (l : ℕ) (x : List ℕ) (n : ℕ) : Type 0 where
  pub loop : LoopOf t l
  pub other : is_same_text x loop.head.variable ≡ false
  pub reads : IsTrue (all_reads_outside (constant_names t.decls) x n loop.body (l + 1))

-- the scalar is the variable of a DO or of a DO in it
pub record IsIndexIn (t : ProgramTree) (l : ℕ) (x : List ℕ) : Type 0 where
  pub loop : LoopOf t l
  pub among : IsTrue (is_among x (loop_variables (Do loop.head loop.body)))

-- a DO is contained: nothing in it reads the variable of a DO of it but in the body of a DO that has it, and none of these variables is live after it (this project)
abbrev pub IsContained : ProgramTree → ℕ → Type 0
IsContained t l = (x : List ℕ) → IsIndexIn t l x → ((n : ℕ) → IsReadLoose t l x n → ⊥) × (IsLiveAfter t l x → ⊥)

-- by a read of the statement with this number a DO isn't contained
pub record IsBrokenBy (t : ProgramTree) (l : ℕ) (n : ℕ) : Type 0 where
  pub scalar : List ℕ
  pub index : IsIndexIn t l scalar
  pub read : IsReadLoose t l scalar n ⊎ IsReadBehind t l scalar n

-- the program's end may show the variable of a DO or of a DO in it
pub record IsShown (t : ProgramTree) (l : ℕ) : Type 0 where
  pub scalar : List ℕ
  pub index : IsIndexIn t l scalar
  pub shown : IsShownBehind t l scalar
