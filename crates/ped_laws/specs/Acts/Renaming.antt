-- Acts on renamed cells (this project).
use Rattle.std.specs.Prelude.{◌≡◌, List, [], ◌∷◌, Bool, true, ◌&&◌, if◌then◌else◌}
use Rattle.std.specs.List.{list_any}
use Rattle.ped_eval.specs.ped_store.specs.Cells.{Cell, same_cell}
use Rattle.ped_eval.specs.ped_store.specs.Acts.{Touch, Act}
use Rattle.ped_laws.specs.Acts.Fitting.{touches_of, has_cell, of_cells}
use Rattle.ped_laws.specs.Acts.Sets.{written}

-- the same touches in the same order on renamed cells, whatever references make them (this project)
abbrev pub AreRenamed : (Cell → Cell) → List Touch → List Touch → Type 0
AreRenamed g [] [] = Unit {0}
AreRenamed g [] (y ∷ ys) = ⊥
AreRenamed g (x ∷ xs) [] = ⊥
AreRenamed g (x ∷ xs) (y ∷ ys) = (x.manner ≡ y.manner) × (x.content ≡ y.content) × (y.cell ≡ g x.cell) × AreRenamed g xs ys

-- the touches of the new acts, one after the other, are those of the old acts on renamed cells, whatever the steps and places of the acts are and whatever values their places give (this project)
abbrev pub Renamed : (Cell → Cell) → List Act → List Act → Type 0
Renamed g acts others = AreRenamed g (of_cells (touches_of acts)) (of_cells (touches_of others))

-- touches of which one reads or writes the cell (plain words)
abbrev pub touched_by : List Touch → Cell → Bool
touched_by ts c = list_any (λ t. has_cell t.manner && same_cell t.cell c) ts

-- acts of which one reads or writes the cell (plain words)
abbrev pub touch : List Act → Cell → Bool
touch acts c = touched_by (touches_of acts) c

-- no two cells that the acts touch get one new cell (plain words)
abbrev pub IsOneToOne : (Cell → Cell) → List Act → Type 0
IsOneToOne g acts = (c d : Cell) → touch acts c ≡ true → touch acts d ≡ true → g c ≡ g d → c ≡ d

-- the new cell of c is that of no other cell that the acts write (plain words)
abbrev pub IsFree : (Cell → Cell) → List Act → Cell → Type 0
IsFree g acts c = (d : Cell) → written acts d ≡ true → g d ≡ g c → d ≡ c

-- each cell keeps its name (plain words)
abbrev pub own_name : Cell → Cell
own_name c = c

-- one cell gets a new name (plain words)
abbrev pub in_place_of : Cell → Cell → Cell → Cell
in_place_of c d x = if same_cell c x then d else x
