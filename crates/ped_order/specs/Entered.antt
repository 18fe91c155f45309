-- What a table of keys says, and what it says where an access has been entered (this project).
use Rattle.std.specs.Prelude.{◌≡◌, ℕ, Bool, ◌&&◌, not, ltb, List, length, Option, Some, None, if◌then◌else◌}
use Rattle.std.specs.Map.{lookup}
use Rattle.ped_store.specs.Cells.{Cell, same_cell}
use Rattle.ped_store.specs.CellViews.{cell_view}
use Rattle.ped_store.specs.Acts.{Turn}
use Rattle.ped_store.specs.Races.{Access}
use Rattle.ped_order.specs.Keys.{Key, same_key, is_elsewhere, is_rival}
use Rattle.ped_order.specs.Sightings.{rival_in, rival_among, first_of}
use Rattle.ped_order.specs.declared.sightings.Sighting.{Sighting}
use Rattle.ped_order.specs.declared.sightings.Entry.{Entry}
use Rattle.ped_order.specs.declared.sightings.Summary.{Summary}
use Rattle.ped_order.specs.declared.entering.Touch.{Touch}

-- which access is the earliest at a key that conflicts with a write, or with a read, in the iteration with a number
abbrev pub Telling : Type 0
Telling = Key → ℕ → Bool → Option Sighting

-- what a table of keys tells
abbrev pub told_by : List (Key × Entry) → Telling
told_by entries k n writes = rival_in (lookup (same_key k) entries) n writes

-- an access of this kind in these turns
abbrev pub in_turns : List Turn → Touch → Access
in_turns turns t = record { cell = cell_view t.cell; writes = t.writes; place = record { statement = t.sighting.statement; turns = turns }; reference = 0 }

-- the key is of a DO with at least this many others around it
abbrev pub is_within : ℕ → Key → Bool
is_within from k = not (ltb (length k.around) from)

-- the table says what was told before, and of keys with so many DOs around them also this access
abbrev pub Enters : Telling → List (Key × Entry) → ℕ → Sighting → Access → Type 0
Enters told entries from s a = (k : Key) (n : ℕ) (writes : Bool) → told_by entries k n writes ≡ first_of (told k n writes) (if is_within from k && is_rival k n writes a then Some s else None)

-- the table says what it did before, and of keys with so many DOs around them also what is known of the accesses of a cell in these turns
abbrev pub Spreads : List (Key × Entry) → List (Key × Entry) → ℕ → List Turn → Option Summary → Cell → Type 0
Spreads old new from ts seen c = (k : Key) (n : ℕ) (writes : Bool) → told_by new k n writes ≡ first_of (told_by old k n writes) (if is_within from k && (is_elsewhere k.around k.statement n ts && same_cell c k.cell) then rival_among seen writes else None)
