-- Faults of a run in arithmetic, and how a run goes on where there is none (this project).
use Rattle.std.specs.Prelude.{ℕ, Result, Ok, Err}
use Rattle.ped_base.specs.declared.arithmetic.faults.Fault.{Fault}
use Rattle.ped_base.specs.declared.arithmetic.faults.Fault.TheVariants.{DivisionByZero, OutOfRange}

-- the number of a fault: 3 is a division by zero, 4 a value that leaves its range
abbrev pub fault_number : Fault → ℕ
fault_number DivisionByZero = 3
fault_number OutOfRange = 4

infixl 10 ◌>>=◌
-- goes on with the value; a fault ends it
abbrev pub ◌>>=◌ : {A B E : Type 0} → Result A E → (A → Result B E) → Result B E
(Ok x) >>= next = next x
(Err fault) >>= next = Err fault
