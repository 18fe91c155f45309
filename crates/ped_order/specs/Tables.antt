-- What the table of accesses says (this project).
use Rattle.std.specs.Prelude.{◌≡◌, ℕ, Bool, true, List, length, map, ltb, Option, Some, None, if◌then◌else◌}
use Rattle.std.specs.Map.{lookup}
use Rattle.ped_store.specs.Cells.{same_cell}
use Rattle.ped_store.specs.Acts.{Turn}
use Rattle.ped_store.specs.Races.{Access}
use Rattle.ped_order.specs.Keys.{Key, is_elsewhere, is_rival}
use Rattle.ped_order.specs.Paths.{level_view}
use Rattle.ped_order.specs.Sightings.{rival_among, first_sighting}
use Rattle.ped_order.specs.Entered.{Telling, told_by}
use Rattle.ped_order.specs.declared.touched.Touched.{Touched}
use Rattle.ped_order.specs.declared.tables.Table.{Table}

-- the earliest access at a key that conflicts with a write, or with a read, in the iteration with number n: the path of its cell tells it as far as the path goes, and further in the table of keys
abbrev pub told_with : Touched → Telling → Telling
told_with c told k n writes = if ltb (length k.around) (length c.path) then (if is_elsewhere k.around k.statement n (map level_view c.path) then rival_among c.seen writes else None) else told k n writes

-- the same where the cell may not have been touched
abbrev pub told_in : Option Touched → Telling → Telling
told_in None told k n writes = None
told_in (Some c) told k n writes = told_with c told k n writes

-- the path of its cell tells all of the key, or nothing has touched its cell
abbrev pub is_told : Option Touched → Key → Bool
is_told None k = true
is_told (Some c) k = ltb (length k.around) (length c.path)

-- what is remembered of a cell; where nothing has touched it, no access
abbrev pub IsKnown : Option Touched → Touched → Type 0
IsKnown None c = c.seen ≡ None
IsKnown (Some known) c = c ≡ known

-- the table gives for each key which of these accesses is the first that conflicts with a write, or with a read, in an iteration with a number; where the path of the cell tells it there is no entry
pub record Remembers (table : Table) (seen : List Access) : Type 0 where
  pub told : table.told ≡ length seen
  pub tells : (k : Key) (n : ℕ) (writes : Bool) → told_in (lookup (same_cell k.cell) table.cells.entries) (told_by table.entries.entries) k n writes ≡ first_sighting (is_rival k n writes) 0 seen
  pub bare : (k : Key) (n : ℕ) (writes : Bool) → is_told (lookup (same_cell k.cell) table.cells.entries) k ≡ true → told_by table.entries.entries k n writes ≡ None

-- an access in these turns alone
abbrev pub cut : List Turn → Access → Access
cut turns a = record { cell = a.cell; writes = a.writes; place = record { statement = a.place.statement; turns = turns }; reference = a.reference }
