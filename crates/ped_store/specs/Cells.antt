-- Cells: what a program reads and writes (ANSI X3.9-1978, section 2.4; this project).
use Rattle.std.specs.Prelude.{ℕ, ℤ, List, Bool, true, false, ◌==◌, ◌&&◌}
use Rattle.std.specs.Ordering.{int_eq}
use Rattle.std.specs.Cmp.Lexicographic.{pointwise}
use Rattle.ped_base.specs.Lists.{is_same_text}
use Rattle.ped_store.specs.declared.iterations.Iteration as code

-- an iteration of a DO: the DO's statement number, and the iteration's number, from 1 (ANSI X3.9-1978, section 11.10; this project)
abbrev pub Iteration : Type 0
Iteration = code.Iteration

-- a scalar; an element of an array by its subscripts; the copy of a scalar that belongs to one iteration, named by the iterations from that of the outermost DO to its own; the data; the output (ANSI X3.9-1978, sections 2.4, 5.3; this project)
pub data Cell : Type 0 where
  Scalar : List ℕ → Cell
  Element : List ℕ → List ℤ → Cell
  Private : List ℕ → List Iteration → Cell
  In : Cell
  Out : Cell

-- the same iteration of the same DO (plain words)
abbrev pub same_iteration : Iteration → Iteration → Bool
same_iteration i j = (i.statement == j.statement) && (i.number == j.number)

-- the same cell (plain words)
abbrev pub same_cell : Cell → Cell → Bool
same_cell (Scalar x) (Scalar y) = is_same_text x y
same_cell (Element x subscripts) (Element y others) = is_same_text x y && pointwise int_eq subscripts others
same_cell (Private x iterations) (Private y others) = is_same_text x y && pointwise same_iteration iterations others
same_cell In In = true
same_cell Out Out = true
same_cell c d = false
