-- Places in the bytes of the data, and what is left there (this project).
use Rattle.std.specs.Prelude.{ℕ, ◌-◌, ◌≤◌, List, length, take, drop}
use Rattle.std.specs.Str.Lines.{lines}
use Rattle.ped_store.specs.declared.data_lines.Place.{Place}
use Rattle.ped_store.specs.DataLines.{Data}

-- what is left of the data at a place: of its line, and the lines after that
abbrev pub data_at : List ℕ → Place → Data
data_at input place = record { rest = take (place.to - place.from) (drop place.from input); lines = lines (drop place.next input) }

-- a place within the input
abbrev pub IsPlaceIn : List ℕ → Place → Type 0
IsPlaceIn input place = (place.from ≤ place.to) × (place.to ≤ length input) × (place.next ≤ length input)
