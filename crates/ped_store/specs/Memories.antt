-- What a store of the code keeps, and what its calls do to it (ANSI X3.9-1978, sections 2.11, 5.4, 17; this project).
use Rattle.std.specs.Prelude.{ℕ, ℤ, List, [], ◌∷◌, map, Bool, true, false, ◌&&◌, ◌==◌, length, Result, Ok, Err, if◌then◌else◌}
use Rattle.ped_base.specs.Dimensions.{Dimensions}
use Rattle.ped_base.specs.Lists.{has_some, is_same_text, is_among}
use Rattle.ped_base.specs.Arithmetic.Faults.{◌>>=◌}
use Rattle.ped_store.specs.declared.shapes.Shape.{Shape}
use Rattle.ped_store.specs.Cells.{Cell, Scalar, Element, Private, In, Out, same_cell}
use Rattle.ped_store.specs.Stores.{Content, Undefined, Number, Lines, Store, store_at_start, put, number_read, storable, with_line, outside_bounds}
use Rattle.ped_store.specs.Storage.{is_within}
use Rattle.ped_store.specs.DataLines.{Data, not_begun}
use Rattle.ped_store.specs.Variables.{no_dimensions}

-- the store, the cells that exist in it, the bounds of the arrays, and the data with what is left of the line that a READ has begun (this project)
pub record Memory : Type 0 where
  pub cells : Store
  pub stands : Cell → Bool
  pub bounds : List ℕ → Dimensions
  pub input : Data

-- the bounds of a name among shapes; none for a scalar, and for a name that isn't there (ANSI X3.9-1978, section 5.1.1)
abbrev pub bounds_among : List Shape → List ℕ → Dimensions
bounds_among [] x = no_dimensions
bounds_among (shape ∷ more) x = if is_same_text x shape.name then shape.bounds else bounds_among more x

-- the name is one of these shapes (plain words)
abbrev pub is_shape : List Shape → List ℕ → Bool
is_shape shapes x = is_among x (map (λ shape. shape.name) shapes)

-- the scalars of the shapes and the elements of their arrays exist; an element of an array lies within its bounds or not (ANSI X3.9-1978, section 5.1.1)
abbrev pub stands_among : List Shape → Cell → Bool
stands_among shapes (Scalar x) = is_shape shapes x && (length (bounds_among shapes x).lower == 0)
stands_among shapes (Element x subscripts) = is_shape shapes x && has_some subscripts && (length (bounds_among shapes x).lower == length subscripts)
stands_among shapes (Private x iterations) = false
stands_among shapes In = false
stands_among shapes Out = false

-- what a store keeps at the start of a run on these data lines (this project)
abbrev pub memory_at_start : List Shape → List (List ℕ) → Memory
memory_at_start shapes data_lines = record {
  cells = store_at_start data_lines;
  stands = stands_among shapes;
  bounds = bounds_among shapes;
  input = not_begun data_lines;
}

-- the number that a cell holds; a subscript outside its bounds is a fault, and then a cell that is undefined (ANSI X3.9-1978, sections 5.4.2, 17; this project)
abbrev pub got : Memory → Cell → Result ℤ ℕ
got m (Element x subscripts) = if is_within (m.bounds x) subscripts then number_read (m.cells (Element x subscripts)) else Err outside_bounds
got m (Scalar x) = number_read (m.cells (Scalar x))
got m (Private x iterations) = number_read (m.cells (Private x iterations))
got m In = number_read (m.cells In)
got m Out = number_read (m.cells Out)

-- with another content in a cell (plain words)
abbrev pub with_content : Cell → Content → Memory → Memory
with_content c content m = record m { cells = put c content m.cells }

-- with a number in a cell, where its range allows that (this project)
abbrev pub with_number : Cell → ℤ → Memory → Result Memory ℕ
with_number c n m = storable n >>= λ k. Ok (with_content c (Number k) m)

-- what is kept after a store of a number: a subscript outside its bounds is a fault, and then a number out of its range (this project)
abbrev pub stored : Cell → ℤ → Memory → Result Memory ℕ
stored (Element x subscripts) n m = if is_within (m.bounds x) subscripts then with_number (Element x subscripts) n m else Err outside_bounds
stored (Scalar x) n m = with_number (Scalar x) n m
stored (Private x iterations) n m = with_number (Private x iterations) n m
stored In n m = with_number In n m
stored Out n m = with_number Out n m

-- the cell exists, or no longer does (plain words)
abbrev pub standing : Cell → Bool → (Cell → Bool) → Cell → Bool
standing c b stands d = if same_cell c d then b else stands d

-- with a private copy that is undefined (this project)
abbrev pub with_copy : Cell → Memory → Memory
with_copy c m = record m { cells = put c Undefined m.cells; stands = standing c true m.stands }

-- without a private copy (this project)
abbrev pub without_copy : Cell → Memory → Memory
without_copy c m = record m { cells = put c Undefined m.cells; stands = standing c false m.stands }

-- with other data (this project)
abbrev pub with_data : Data → Memory → Memory
with_data d m = record m { cells = put In (Lines d.lines) m.cells; input = d }

-- with one more line printed (this project)
abbrev pub with_printed : List ℕ → Memory → Memory
with_printed line m = record m { cells = with_line line m.cells }
