-- What the code answers for the items of PRINT (ANSI X3.9-1978, section 12.8; this project).
use Rattle.std.specs.Prelude.{◌≡◌, ℕ, List, [], ◌∷◌, ◌++◌, ◌==◌, Result, Ok, Err, if◌then◌else◌}
use Rattle.ped_eval.specs.declared.printing.PrintError.{PrintError}
use Rattle.ped_eval.specs.declared.printing.PrintError.TheVariants as error

-- a text, or the fault that comes in its place; if memory ran out, it says nothing
abbrev pub IsPrinted : Result (List ℕ) ℕ → Result (List ℕ) PrintError → Type 0
IsPrinted text (Ok line) = text ≡ Ok line
IsPrinted text (Err (error.Fault n)) = text ≡ Err n
IsPrinted text (Err error.NoMemory) = Unit {0}

-- the same of a text that is added to a line
abbrev pub IsAdded : {A : Type 0} → Result (List ℕ) ℕ → List ℕ → List ℕ → Result A PrintError → Type 0
IsAdded text old new (Ok u) = (added : List ℕ) × (text ≡ Ok added) × (new ≡ old ++ added)
IsAdded text old new (Err (error.Fault n)) = text ≡ Err n
IsAdded text old new (Err error.NoMemory) = Unit {0}

-- what goes before the item with this index: a blank, but nothing before the first (this project)
abbrev pub blank_before : ℕ → List ℕ
blank_before i = if i == 0 then [] else 32 ∷ []

-- something holds unless memory has run out
abbrev pub IfPrinted : {A : Type 0} → Result A PrintError → Type 0 → Type 0
IfPrinted (Ok u) P = P
IfPrinted (Err (error.Fault n)) P = P
IfPrinted (Err error.NoMemory) P = Unit {0}
