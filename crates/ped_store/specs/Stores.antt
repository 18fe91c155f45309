-- Stores: what each cell holds at one moment of a run (ANSI X3.9-1978, sections 2.11, 17.2; this project).
use Rattle.std.specs.Prelude.{ℕ, ℤ, neg_ℤ, pos, int_le, ◌-ℤ◌, ◌^◌, List, [], ◌++◌, ◌∷◌, Bool, ◌&&◌, Option, Some, None, Result, Ok, Err, if◌then◌else◌}
use Rattle.ped_store.specs.Cells.{Cell, Scalar, Element, Private, In, Out, same_cell}

-- what a cell holds: nothing while it is undefined; a number; the data and the output hold lines (ANSI X3.9-1978, section 2.11; this project)
pub data Content : Type 0 where
  Undefined : Content
  Number : ℤ → Content
  Lines : List (List ℕ) → Content

-- the content of each cell: the data hold the lines that no READ has taken, the output the lines that PRINT has written (this project)
abbrev pub Store : Type 0
Store = Cell → Content

-- the store with another content in one cell (plain words)
abbrev pub put : Cell → Content → Store → Store
put c content s d = if same_cell c d then content else s d

-- the number that is held, where one is (plain words)
abbrev pub number_in : Content → Option ℤ
number_in Undefined = None
number_in (Number n) = Some n
number_in (Lines lines) = None

-- the lines that are held (plain words)
abbrev pub lines_in : Content → List (List ℕ)
lines_in Undefined = []
lines_in (Number n) = []
lines_in (Lines lines) = lines

-- the store before the first statement: all is undefined, the data are these lines, and nothing is printed (ANSI X3.9-1978, section 17.2; this project)
abbrev pub store_at_start : List (List ℕ) → Store
store_at_start data_lines (Scalar x) = Undefined
store_at_start data_lines (Element x subscripts) = Undefined
store_at_start data_lines (Private x iterations) = Undefined
store_at_start data_lines In = Lines data_lines
store_at_start data_lines Out = Lines []

-- the fault of a read of what is undefined (this project)
abbrev pub undefined_read : ℕ
undefined_read = 1

-- the fault of a subscript that lies outside its bounds (this project)
abbrev pub outside_bounds : ℕ
outside_bounds = 2

-- the fault of a value that leaves its range (this project)
abbrev pub out_of_range : ℕ
out_of_range = 4

-- the fault of data that are missing or unreadable (this project)
abbrev pub bad_data : ℕ
bad_data = 5

-- the number that is read, or the fault where none is held (ANSI X3.9-1978, section 17; this project)
abbrev pub number_read : Content → Result ℤ ℕ
number_read (Number n) = Ok n
number_read Undefined = Err undefined_read
number_read (Lines lines) = Err undefined_read

-- a scalar that is assigned or read in, or an element, holds -2^31 to 2^31-1 (this project)
abbrev pub is_storable : ℤ → Bool
is_storable n = int_le (neg_ℤ (pos (2 ^ 31))) n && int_le n (pos (2 ^ 31) -ℤ pos 1)

-- the number, or the fault where a scalar or an element can't hold it (this project)
abbrev pub storable : ℤ → Result ℤ ℕ
storable n = if is_storable n then Ok n else Err out_of_range

-- the store with one more line printed (ANSI X3.9-1978, section 12.8; this project)
abbrev pub with_line : List ℕ → Store → Store
with_line line s = put Out (Lines (lines_in (s Out) ++ line ∷ [])) s
