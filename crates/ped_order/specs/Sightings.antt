-- What is remembered of the accesses at a key: the earliest, and the earliest of another iteration, among all and among writes; and of those in the same iterations, the earliest and the earliest write (this project).
use Rattle.std.specs.Prelude.{ℕ, Bool, ◌==◌, ltb, List, [], ◌∷◌, Option, Some, None, suc, if◌then◌else◌}
use Rattle.ped_store.specs.Races.{Access}
use Rattle.ped_order.specs.declared.sightings.Sighting.{Sighting}
use Rattle.ped_order.specs.declared.sightings.Earliest.{Earliest}
use Rattle.ped_order.specs.declared.sightings.Entry.{Entry}
use Rattle.ped_order.specs.declared.sightings.Summary.{Summary}

-- the earliest access in another iteration than that with number n
abbrev pub earliest_elsewhere : Option Earliest → ℕ → Option Sighting
earliest_elsewhere None n = None
earliest_elsewhere (Some e) n = if e.number == n then e.other else Some e.first

-- what is remembered of writes
abbrev pub writes_in : Option Entry → Option Earliest
writes_in None = None
writes_in (Some e) = e.writes

-- what is remembered of reads and writes
abbrev pub all_in : Option Entry → Option Earliest
all_in None = None
all_in (Some e) = Some e.all

-- the earliest access that conflicts with a write, or with a read, in the iteration with number n
abbrev pub rival_in : Option Entry → ℕ → Bool → Option Sighting
rival_in entry n writes = earliest_elsewhere (if writes then all_in entry else writes_in entry) n

-- the earliest of some accesses in the same iterations that conflicts with a write, or with a read
abbrev pub rival_among : Option Summary → Bool → Option Sighting
rival_among None writes = None
rival_among (Some s) writes = if writes then Some s.first else s.write

-- the first if there is one, or else the second
abbrev pub first_of : Option Sighting → Option Sighting → Option Sighting
first_of None o = o
first_of (Some a) o = Some a

-- the earlier of two
abbrev pub earlier_of : Option Sighting → Option Sighting → Option Sighting
earlier_of None o = o
earlier_of (Some a) None = Some a
earlier_of (Some a) (Some b) = if ltb b.before a.before then Some b else Some a

-- an access with this many before it
abbrev pub sighting_of : ℕ → Access → Sighting
sighting_of before a = record { before = before; statement = a.place.statement }

-- the first of these accesses for which the test holds, where this many come before them
abbrev pub first_sighting : (Access → Bool) → ℕ → List Access → Option Sighting
first_sighting test before [] = None
first_sighting test before (a ∷ more) = if test a then Some (sighting_of before a) else first_sighting test (suc before) more
