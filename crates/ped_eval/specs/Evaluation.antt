-- Evaluations: what they read, in order, and the value or the fault that they come to (ANSI X3.9-1978, section 6.6; this project).
use Rattle.std.specs.Prelude.{ℕ, suc, ℤ, List, [], ◌∷◌, ◌++◌, Result, Ok, Err}
use Rattle.ped_base.specs.declared.arithmetic.faults.Fault.{Fault}
use Rattle.ped_base.specs.Arithmetic.Faults.{fault_number}
use Rattle.ped_store.specs.Cells.{Cell}
use Rattle.ped_store.specs.Stores.{Content, Number, Store, number_read}
use Rattle.ped_store.specs.Acts.{Touch, reads, is_told}

-- what an evaluation reads: a cell, by a reference, with what it holds; or the variable of a DO in the DO's body, by none, with its value
pub data Seen : Type 0 where
  cell_seen : Cell → Content → Seen
  index_seen : Cell → ℤ → Seen

-- what came of an evaluation: what it has read, and its value or the number of its fault
pub record Evaluated (A : Type 0) : Type 0 where
  pub seen : List Seen
  pub result : Result A ℕ

-- with what was read before
abbrev pub having_seen : {A : Type 0} → List Seen → Evaluated A → Evaluated A
having_seen before e = record { seen = before ++ e.seen; result = e.result }

-- goes on from what was read and its result; a fault ends it
abbrev pub onward : {A B : Type 0} → List Seen → Result A ℕ → (A → Evaluated B) → Evaluated B
onward seen (Ok x) next = having_seen seen (next x)
onward seen (Err fault) next = record { seen = seen; result = Err fault }

infixl 10 ◌>>>◌
-- goes on with the value; a fault ends it
abbrev pub ◌>>>◌ : {A B : Type 0} → Evaluated A → (A → Evaluated B) → Evaluated B
e >>> next = onward e.seen e.result next

-- a result for which nothing is read
abbrev pub given : {A : Type 0} → Result A ℕ → Evaluated A
given r = record { seen = []; result = r }

-- a result of arithmetic, its fault by its number
abbrev pub by_number : Result ℤ Fault → Result ℤ ℕ
by_number (Ok n) = Ok n
by_number (Err fault) = Err (fault_number fault)

-- the read of a cell (ANSI X3.9-1978, section 17; this project)
abbrev pub read_cell : Store → Cell → Evaluated ℤ
read_cell s c = record { seen = cell_seen c (s c) ∷ []; result = number_read (s c) }

-- the read of the variable of a DO in its body
abbrev pub read_index : Cell → ℤ → Evaluated ℤ
read_index c n = record { seen = index_seen c n ∷ []; result = Ok n }

-- what is read, as touches of a statement, whose references have numbers from this one on (this project)
abbrev pub numbered : ℕ → List Seen → List Touch
numbered n [] = []
numbered n (cell_seen c content ∷ more) = record { cell = c; manner = reads; content = content; reference = n } ∷ numbered (suc n) more
numbered n (index_seen c value ∷ more) = record { cell = c; manner = is_told; content = Number value; reference = 0 } ∷ numbered n more

-- the number of the reference after them (this project)
abbrev pub number_behind : ℕ → List Seen → ℕ
number_behind n [] = n
number_behind n (cell_seen c content ∷ more) = number_behind (suc n) more
number_behind n (index_seen c value ∷ more) = number_behind n more
