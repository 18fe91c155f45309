-- Runs in which two cells have changed places: what is done to the one is done to the other (this project).
use Rattle.std.specs.Prelude.{◌≡◌, ◌<◌, ℕ, ℤ, List, map, length, Bool, true, false, if◌then◌else◌}
use Rattle.ped_weaves.specs.ped_store.specs.Cells.{Cell, Scalar, Element, Private, In, Out, Iteration, same_cell}
use Rattle.ped_weaves.specs.ped_store.specs.Stores.{Store}
use Rattle.ped_weaves.specs.ped_store.specs.Acts.{Touch, Act}
use Rattle.ped_weaves.specs.ped_eval.specs.Scopes.{Scope, turns_of, cell_of, index_value}
use Rattle.ped_weaves.specs.ped_eval.specs.Runs.{Ending, going, stopped, failed, Run}

-- cells get other names, twice their own: elements, the data and the output keep theirs (this project)
pub record IsExchange (name : Cell → Cell) : Type 0 where
  pub twice : (c : Cell) → name (name c) ≡ c
  pub element : (x : List ℕ) (subscripts : List ℤ) → name (Element x subscripts) ≡ Element x subscripts
  pub input : name In ≡ In
  pub output : name Out ≡ Out

-- two places in the same iterations, where each scalar stands for the renamed cell; copies of iterations further inside keep their names (this project)
pub record AreExchanged (name : Cell → Cell) (scope other : Scope) : Type 0 where
  pub turns : turns_of other ≡ turns_of scope
  pub index : (x : List ℕ) → index_value other x ≡ index_value scope x
  pub cell : (x : List ℕ) → cell_of other x ≡ name (cell_of scope x)
  pub inside : (x : List ℕ) (iterations : List Iteration) → length (turns_of scope) < length iterations → name (Private x iterations) ≡ Private x iterations

-- the store in which each cell holds what the renamed one holds (this project)
abbrev pub exchanged_store : (Cell → Cell) → Store → Store
exchanged_store name s c = s (name c)

-- a touch of the renamed cell (this project)
abbrev pub exchanged_touch : (Cell → Cell) → Touch → Touch
exchanged_touch name t = record t { cell = name t.cell }

-- an act on renamed cells (this project)
abbrev pub exchanged_act : (Cell → Cell) → Act → Act
exchanged_act name a = record a { touches = map (exchanged_touch name) a.touches }

-- acts on renamed cells (this project)
abbrev pub exchanged_acts : (Cell → Cell) → List Act → List Act
exchanged_acts name acts = map (exchanged_act name) acts

-- the same ending with the store in which the cells have changed places (this project)
abbrev pub exchanged_ending : (Cell → Cell) → Ending → Ending
exchanged_ending name (going s) = going (exchanged_store name s)
exchanged_ending name (stopped s) = stopped (exchanged_store name s)
exchanged_ending name (failed fault statement) = failed fault statement

-- the same run on renamed cells (this project)
abbrev pub exchanged_run : (Cell → Cell) → Run → Run
exchanged_run name r = record { acts = exchanged_acts name r.acts; ending = exchanged_ending name r.ending }

-- a scalar's own cell or a copy of it (plain words)
abbrev pub is_of_scalar : Cell → Bool
is_of_scalar (Scalar x) = true
is_of_scalar (Private x iterations) = true
is_of_scalar (Element x subscripts) = false
is_of_scalar In = false
is_of_scalar Out = false

-- two cells change places, and the others stay (plain words)
abbrev pub swapped : Cell → Cell → Cell → Cell
swapped c d x = if same_cell c x then d else (if same_cell d x then c else x)
