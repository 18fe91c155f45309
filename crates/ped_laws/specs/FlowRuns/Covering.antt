-- Runs and paths: the acts of a run in which control takes a path touch the cell of a scalar as the path does (Allen and Kennedy, section 4.4; this project).
use Rattle.std.specs.Prelude.{◌≡◌, ℕ, List, [], ◌∷◌, Bool, true, false, ◌||◌, IsTrue, if◌then◌else◌}
use Rattle.ped_flow.specs.ped_base.specs.Lists.{is_same_text}
use Rattle.ped_flow.specs.ped_tree.specs.Tree.{StmtTree, StmtTrees, Assign, If, Do, Print, Read, Stop, Comment, no_stmts, more_stmts}
use Rattle.ped_eval.specs.ped_store.specs.Cells.{Cell, Scalar, Element, Private, In, Out}
use Rattle.ped_eval.specs.ped_store.specs.Stores.{Content, Undefined, Number, Lines}
use Rattle.ped_eval.specs.ped_store.specs.Acts.{Touch}
use Rattle.ped_laws.specs.Acts.Sets.{writes_to, written_by, needed_by}
use Rattle.ped_flow.specs.Events.{Event, overwrites, reads_first, has_value}
use Rattle.ped_flow.specs.PathSets.{Paths}
use Rattle.ped_eval.specs.Runs.{Ending, going, stopped, failed}

-- the cell is the scalar's own or a copy of it (plain words)
abbrev pub is_cell_of : List ℕ → Cell → Bool
is_cell_of x (Scalar y) = is_same_text x y
is_cell_of x (Element y subscripts) = false
is_cell_of x (Private y iterations) = is_same_text x y
is_cell_of x In = false
is_cell_of x Out = false

-- a number is held (plain words)
abbrev pub is_number : Content → Bool
is_number Undefined = false
is_number (Number n) = true
is_number (Lines lines) = false

-- whether a cell holds a number after touches, where it held one before them or not: what writes it last decides (this project)
abbrev pub holds_number : Cell → Bool → List Touch → Bool
holds_number c before [] = before
holds_number c before (t ∷ ts) = holds_number c (if writes_to t c then is_number t.content else before) ts

-- some statement reads the scalar on the path before it is overwritten there (Allen and Kennedy, section 4.4)
abbrev pub IsReadOn : List ℕ → List Event → Type 0
IsReadOn x path = (n : ℕ) × IsTrue (reads_first x n path)

-- a path covers touches, as to a scalar and its cell: where they read the cell before they write it, the path reads the scalar before it overwrites it; where the path overwrites the scalar, they write the cell; and where the scalar has a value at the path's end, the cell holds a number after them (Allen and Kennedy, section 4.4; this project)
pub record Covers (x : List ℕ) (c : Cell) (path : List Event) (ts : List Touch) : Type 0 where
  pub read : needed_by ts c ≡ true → IsReadOn x path
  pub written : overwrites x path ≡ true → written_by ts c ≡ true
  pub valued : (before : Bool) → has_value x before path ≡ true → holds_number c before ts ≡ true

-- one of these paths covers touches of a run that ends so: one that goes on, or one that ends at the STOP; of a run that fails nothing is said (this project)
abbrev pub AreCovered : Paths → List ℕ → Cell → List Touch → Ending → Type 0
AreCovered ps x c ts (going s) = (path : List Event) × ps.onward path × Covers x c path ts
AreCovered ps x c ts (stopped s) = (path : List Event) × ps.ending path × Covers x c path ts
AreCovered ps x c ts (failed fault statement) = Unit {0}

-- a STOP is in a statement or in a part of it (ANSI X3.9-1978, section 11.12)
abbrev mutual
  pub has_stop : StmtTree → Bool
  has_stop (Assign left right) = false
  has_stop (If condition then_part else_part) = some_stop then_part || some_stop else_part
  has_stop (Do h body) = some_stop body
  has_stop (Print items) = false
  has_stop (Read items) = false
  has_stop Stop = true
  has_stop (Comment text) = false

  -- a STOP is in statements or in a part of one (ANSI X3.9-1978, section 11.12)
  pub some_stop : StmtTrees → Bool
  some_stop no_stmts = false
  some_stop (more_stmts s rest) = has_stop s || some_stop rest

-- a STOP is in a DO of a statement; the profile has none there (ANSI X3.9-1978, section 11.12; this project)
abbrev mutual
  pub stops_in_loop : StmtTree → Bool
  stops_in_loop (Assign left right) = false
  stops_in_loop (If condition then_part else_part) = some_stops_in_loop then_part || some_stops_in_loop else_part
  stops_in_loop (Do h body) = some_stop body
  stops_in_loop (Print items) = false
  stops_in_loop (Read items) = false
  stops_in_loop Stop = false
  stops_in_loop (Comment text) = false

  -- a STOP is in a DO of statements (ANSI X3.9-1978, section 11.12; this project)
  pub some_stops_in_loop : StmtTrees → Bool
  some_stops_in_loop no_stmts = false
  some_stops_in_loop (more_stmts s rest) = stops_in_loop s || some_stops_in_loop rest
