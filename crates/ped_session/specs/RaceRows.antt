-- What is printed of a report of races (this project).
use Rattle.std.specs.Prelude.{◌≡◌, ℕ, ℤ, List, [], ◌∷◌, ◌++◌, codes}
use Rattle.std.specs.Fmt.{decimal, signed_decimal}
use Rattle.std.specs.List.{flat_map}
use Rattle.ped_tree.specs.Tree.{ProgramTree}
use Rattle.ped_store.specs.Cells.{Cell, Scalar, Element, Private, In, Out}
use Rattle.ped_order.specs.Reports.{Report, NoRace, Race, Fault, IsReport}
use Rattle.ped_session.specs.OutcomeTexts.{fault_row}

-- a subscript after another one
abbrev pub next_subscript : ℤ → List ℕ
next_subscript n = codes "," ++ signed_decimal n

-- subscripts with commas between them
abbrev pub subscripts_text : List ℤ → List ℕ
subscripts_text [] = []
subscripts_text (n ∷ more) = signed_decimal n ++ flat_map next_subscript more

-- a cell: a scalar, and a private copy of one, by its name; an element with its subscripts; the data and the output in parentheses
abbrev pub cell_text : Cell → List ℕ
cell_text (Scalar x) = x
cell_text (Element x subscripts) = x ++ codes "(" ++ subscripts_text subscripts ++ codes ")"
cell_text (Private x iterations) = x
cell_text In = codes "(IN)"
cell_text Out = codes "(OUT)"

-- a race: its cell, and the statements of the earlier access and of the later one
abbrev pub race_text : Cell → ℕ → ℕ → List ℕ
race_text cell earlier later = codes "race " ++ cell_text cell ++ codes " at " ++ decimal earlier ++ codes " and " ++ decimal later ++ 10 ∷ []

-- a report: that there is no race, the first race, or the fault that comes before any
abbrev pub race_row : Report → List ℕ
race_row NoRace = codes "no race" ++ 10 ∷ []
race_row (Race cell earlier later) = race_text cell earlier later
race_row (Fault number statement) = fault_row number statement

-- the bytes are the row of the report of a program on these data
abbrev pub IsRaceRow : List ℕ → ProgramTree → List ℕ → Type 0
IsRaceRow data_bytes t bytes = (r : Report) × IsReport t data_bytes r × (bytes ≡ race_row r)
