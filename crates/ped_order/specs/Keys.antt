-- By what accesses are looked up: a cell, and one execution of a DO (this project).
use Rattle.std.specs.Prelude.{ℕ, List, [], ◌∷◌, ◌++◌, map, Bool, false, ◌==◌, ◌&&◌, ◌||◌, not}
use Rattle.std.specs.Hash as fed
use Rattle.std.specs.Cmp.Lexicographic.{pointwise}
use Rattle.ped_store.specs.Cells.{Cell, Scalar, Element, Private, In, Out, Iteration, same_iteration, same_cell}
use Rattle.ped_store.specs.Iterations.{iterations_writes}
use Rattle.ped_store.specs.Acts.{Turn}
use Rattle.ped_store.specs.Races.{Access}

-- a cell at an execution of the DO with this statement number, in these iterations, the outermost DO's first
pub record Key : Type 0 where
  pub cell : Cell
  pub statement : ℕ
  pub around : List Iteration

-- the same cell at the same execution
abbrev pub same_key : Key → Key → Bool
same_key k l = (k.statement == l.statement) && (same_cell k.cell l.cell && pointwise same_iteration k.around l.around)

-- the iteration of a turn
abbrev pub iteration_of : Turn → Iteration
iteration_of t = record { statement = t.statement; number = t.number }

-- a cell at the execution of the DO of a turn, in the turns around it
abbrev pub key_of : Cell → List Turn → Turn → Key
key_of c around t = record { cell = c; statement = t.statement; around = map iteration_of around }

-- the place is in an iteration of this execution of a PARALLEL DO, with another number than n
abbrev pub is_elsewhere : List Iteration → ℕ → ℕ → List Turn → Bool
is_elsewhere [] statement n (t ∷ ts) = (t.statement == statement) && (not (t.number == n) && t.parallel)
is_elsewhere (i ∷ is) statement n (t ∷ ts) = same_iteration (iteration_of t) i && is_elsewhere is statement n ts
is_elsewhere [] statement n [] = false
is_elsewhere (i ∷ is) statement n [] = false

-- the access is in an iteration of the key's execution of a PARALLEL DO, and conflicts with a write or a read of the key's cell in the iteration with number n
abbrev pub is_rival : Key → ℕ → Bool → Access → Bool
is_rival k n writes a = is_elsewhere k.around k.statement n a.place.turns && (same_cell a.cell k.cell && (a.writes || writes))

-- what a hasher is fed of a cell
abbrev pub cell_writes : Cell → fed.HashWrites
cell_writes (Scalar x) = fed.slice fed.u8 x
cell_writes (Element x subscripts) = fed.slice fed.u8 x ++ fed.slice fed.i128 subscripts
cell_writes (Private x iterations) = fed.slice fed.u8 x ++ iterations_writes iterations
cell_writes In = fed.u8 0
cell_writes Out = fed.u8 1

-- what a hasher is fed of a key
abbrev pub key_writes : Key → fed.HashWrites
key_writes k = cell_writes k.cell ++ (fed.u32 k.statement ++ iterations_writes k.around)
