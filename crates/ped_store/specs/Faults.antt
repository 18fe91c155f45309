-- What ends a run before its END or STOP, and the numbers of it (this project).
use Rattle.std.specs.Prelude.{◌≡◌, ℕ, ◌==◌, refl, if◌then◌else◌}
use Rattle.ped_store.specs.declared.faults.FaultKind.{FaultKind}
use Rattle.ped_store.specs.declared.faults.FaultKind.TheVariants.{UndefinedRead, OutsideBounds, DivisionByZero, OutOfRange, BadData}
use Rattle.ped_store.specs.declared.faults.RunFault.TheInside.{Inside}

-- the number of a fault: 1 a read of what is undefined, 2 a subscript outside its bounds, 3 a division by zero, 4 a value that leaves its range, 5 data that are missing or unreadable
abbrev pub kind_number : FaultKind → ℕ
kind_number UndefinedRead = 1
kind_number OutsideBounds = 2
kind_number DivisionByZero = 3
kind_number OutOfRange = 4
kind_number BadData = 5

-- the fault with a number
abbrev pub kind_of : ℕ → FaultKind
kind_of n = if n == 1 then UndefinedRead else (if n == 2 then OutsideBounds else (if n == 3 then DivisionByZero else (if n == 4 then OutOfRange else BadData)))

kind_back : (k : FaultKind) → kind_of (kind_number k) ≡ k
kind_back UndefinedRead = refl
kind_back OutsideBounds = refl
kind_back DivisionByZero = refl
kind_back OutOfRange = refl
kind_back BadData = refl

-- a fault's number determines the fault
pub fault_back : (a : Inside) → Unit {0} → record { kind = kind_of (kind_number a.kind) } ≡ a
fault_back a h = λ i. record { kind = kind_back a.kind i }
