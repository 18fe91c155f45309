-- Acts: what a run does in one atomic step, where in the program, and what each step reads and writes (this project).
use Rattle.std.specs.Prelude.{ℕ, ℤ, List, [], ◌∷◌, map, Bool}
use Rattle.ped_store.specs.Cells.{Cell, Iteration}
use Rattle.ped_store.specs.Stores.{Content, Store, put}

-- how a step touches a cell: it reads it; it writes it; or it reads the variable of a DO in the DO's body, whose value the place gives and no cell
pub data Manner : Type 0 where
  reads : Manner
  writes : Manner
  is_told : Manner

-- a cell that a step touches, with what is read or written there, and the number of the reference that does it, 0 where none does
pub record Touch : Type 0 where
  pub cell : Cell
  pub manner : Manner
  pub content : Content
  pub reference : ℕ

-- an iteration of a DO that a step is in: the DO's statement number, whether it is a PARALLEL DO, the iteration's number, from 1, and the value of the DO's variable
pub record Turn : Type 0 where
  pub statement : ℕ
  pub parallel : Bool
  pub number : ℕ
  pub value : ℤ

-- where a step is done: its statement, and the iterations around it, the outermost DO's first. Entries, ends of iterations and exits of a DO are outside that DO
pub record Place : Type 0 where
  pub statement : ℕ
  pub turns : List Turn

-- what a step is: a statement by itself, or the condition of an IF; the entry of a DO with its iteration count; the end of an iteration of a DO with the iterations that are left; the close of a PARALLEL DO; what was done of a statement that faults
pub data Step : Type 0 where
  did : Step
  entered : ℕ → Step
  ended_turn : ℕ → Step
  closed : Step
  faulted : Step

-- an act: the step, its place, and what it touches, in order
pub record Act : Type 0 where
  pub step : Step
  pub place : Place
  pub touches : List Touch

-- the store after a touch: a write puts its content into the cell
abbrev pub touched : Manner → Cell → Content → Store → Store
touched writes c content s = put c content s
touched reads c content s = s
touched is_told c content s = s

-- the store after touches, one after the other
abbrev pub store_behind : List Touch → Store → Store
store_behind [] s = s
store_behind (t ∷ ts) s = store_behind ts (touched t.manner t.cell t.content s)

-- the iterations that a place is in
abbrev pub iterations_of : List Turn → List Iteration
iterations_of turns = map (λ t. record { statement = t.statement; number = t.number }) turns
