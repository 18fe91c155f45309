-- Sets of cells: where stores agree, and what acts need, write and want. A set is a test of cells and no predicate: so a law may be about all sets, lists are filtered by a set, and a cell lies in it or doesn't (this project).
use Rattle.std.specs.Prelude.{◌≡◌, List, [], ◌∷◌, Bool, true, false, ◌&&◌, ◌||◌, not, if◌then◌else◌}
use Rattle.std.specs.List.{list_any}
use Rattle.ped_eval.specs.ped_store.specs.Cells.{Cell, same_cell}
use Rattle.ped_eval.specs.ped_store.specs.Stores.{Store}
use Rattle.ped_eval.specs.ped_store.specs.Acts.{Manner, reads, writes, is_told, Touch, Act}
use Rattle.ped_eval.specs.ped_store.specs.Races.{is_write}
use Rattle.ped_laws.specs.Acts.Fitting.{touches_of}

-- no cell (plain words)
abbrev pub nothing : Cell → Bool
nothing c = false

-- the stores hold the same in each cell of the set (plain words)
abbrev pub AgreeIn : (Cell → Bool) → Store → Store → Type 0
AgreeIn k s t = (c : Cell) → k c ≡ true → s c ≡ t c

-- the stores hold the same in each cell outside the set (plain words)
abbrev pub AgreeOutside : (Cell → Bool) → Store → Store → Type 0
AgreeOutside d s t = (c : Cell) → d c ≡ false → s c ≡ t c

-- a touch that writes the cell (plain words)
abbrev pub writes_to : Touch → Cell → Bool
writes_to t c = is_write t.manner && same_cell t.cell c

-- touches of which one writes the cell (plain words)
abbrev pub written_by : List Touch → Cell → Bool
written_by ts c = list_any (λ t. writes_to t c) ts

-- acts of which one writes the cell (plain words)
abbrev pub written : List Act → Cell → Bool
written acts c = written_by (touches_of acts) c

-- whether a cell is read before it is written, by the first touch of it, and by those after: a value that the place gives is no read of a cell (Allen and Kennedy, section 5.3; this project)
abbrev pub read_first : Manner → Bool → Bool
read_first reads behind = true
read_first writes behind = false
read_first is_told behind = behind

-- touches that read the cell before they write it: it is exposed upwards (Allen and Kennedy, section 5.3)
abbrev pub needed_by : List Touch → Cell → Bool
needed_by [] c = false
needed_by (t ∷ ts) c = if same_cell t.cell c then read_first t.manner (needed_by ts c) else needed_by ts c

-- acts that read the cell before they write it (Allen and Kennedy, section 5.3)
abbrev pub needs : List Act → Cell → Bool
needs acts c = needed_by (touches_of acts) c

-- acts that need the cell, or leave unwritten one that is shown at the end: it is live before them (Allen and Kennedy, section 5.3; this project)
abbrev pub wants : (Cell → Bool) → List Act → Cell → Bool
wants shown acts c = needs acts c || (shown c && not (written acts c))
