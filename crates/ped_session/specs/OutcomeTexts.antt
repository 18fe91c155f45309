-- What is printed of an outcome (this project).
use Rattle.std.specs.Prelude.{◌≡◌, ℕ, ℤ, List, [], ◌∷◌, ◌++◌, codes, Option, Some, None}
use Rattle.std.specs.Fmt.{decimal, signed_decimal}
use Rattle.std.specs.List.{flat_map}
use Rattle.ped_tree.specs.Tree.{ProgramTree}
use Rattle.ped_eval.specs.Outcomes.{LiveRow, Outcome, Ended, Fault}
use Rattle.ped_session.specs.LoweredRuns.{IsLoweredRun}

-- a line that the program has printed, after a bar and a blank
abbrev pub output_row : List ℕ → List ℕ
output_row line = codes "| " ++ line ++ 10 ∷ []

-- a value after a blank; an undefined one is a question mark
abbrev pub value_text : Option ℤ → List ℕ
value_text None = codes " ?"
value_text (Some n) = codes " " ++ signed_decimal n

-- a live-out variable with its values
abbrev pub live_row : LiveRow → List ℕ
live_row row = codes "live " ++ row.name ++ flat_map value_text row.values ++ 10 ∷ []

-- a fault with the statement that met it
abbrev pub fault_row : ℕ → ℕ → List ℕ
fault_row number statement = codes "fault " ++ decimal number ++ codes " at " ++ decimal statement ++ 10 ∷ []

-- an outcome: the printed lines, `ended` and the live-out variables; or the fault with its statement
abbrev pub outcome_text : Outcome → List ℕ
outcome_text (Ended output live) = flat_map output_row output ++ codes "ended" ++ 10 ∷ flat_map live_row live
outcome_text (Fault number statement) = fault_row number statement

-- the text of the outcome with which a program ends on its data, where these choices, and 0 after their end, pick which iteration of an open PARALLEL DO does the next step; where it has live lists of sums, what it is lowered to runs (this project)
abbrev pub IsRunText : (choices data_bytes : List ℕ) → ProgramTree → List ℕ → Type 0
IsRunText choices data_bytes t bytes = (o : Outcome) × IsLoweredRun choices data_bytes t o × (bytes ≡ outcome_text o)
