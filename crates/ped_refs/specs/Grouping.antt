-- How pairs are found by groups of references that can pair with each other. Only contracts of private functions use these definitions.
use Rattle.std.specs.Prelude.{◌≡◌, ℕ, suc, List, [], ◌∷◌, ◌++◌, map, Bool, false, ◌&&◌, Option, Some, None, if◌then◌else◌}
use Rattle.std.specs.declared.hash.FoldHasher.{FoldHasher}
use Rattle.std.specs.declared.hash.BuildHasherDefault.{BuildHasherDefault}
use Rattle.indexmap.specs.IndexMap.{IndexMap, get}
use Rattle.ped_refs.specs.References.{Reference, is_pair}
use Rattle.ped_refs.specs.Groups.{is_same_group, looped_group}
use Rattle.ped_refs.specs.declared.groups.Group.{Group}
use Rattle.ped_refs.specs.declared.pairing.Members.{Members}
use Rattle.ped_refs.specs.declared.pairing.Pair.{Pair}

-- the pair of the references at these places
abbrev pub pair_of : ℕ → ℕ → Pair
pair_of source sink = record { source = source; sink = sink }

-- the places of the references of a group, and of those among them that write
pub record Places : Type 0 where
  pub all : List ℕ
  pub writes : List ℕ

-- what the code keeps of a group
abbrev pub places_of : Members → Places
places_of m = record { all = m.all.items; writes = m.writes.items }

-- the table of the groups
abbrev pub Table : Type 0
Table = IndexMap Group Members (BuildHasherDefault FoldHasher)

-- what the code keeps of a group, nothing where it isn't there
abbrev pub places_or_none : Option Members → Places
places_or_none (Some m) = places_of m
places_or_none None = record { all = []; writes = [] }

-- the places that the table has of a group
abbrev pub places_at : Table → Group → Places
places_at groups g = places_or_none (get is_same_group groups g)

-- the places with one more at the end
abbrev pub with_place : Places → ℕ → Bool → Places
with_place p place writes = record { all = p.all ++ place ∷ []; writes = if writes then p.writes ++ place ∷ [] else p.writes }

-- the places of the references that pass a test, where the first of all has this place
abbrev pub places_from : (Reference → Bool) → ℕ → List Reference → List ℕ
places_from passes place [] = []
places_from passes place (r ∷ refs) = if passes r then place ∷ places_from passes (suc place) refs else places_from passes (suc place) refs

-- a group, where there is one, is this group
abbrev pub is_this : Option Group → Group → Bool
is_this None g = false
is_this (Some h) g = is_same_group h g

-- the reference is in the group
abbrev pub is_in : Group → Reference → Bool
is_in g r = is_this (looped_group r) g

-- the places of the references of a group
abbrev pub places_in : Group → List Reference → Places
places_in g refs = record { all = places_from (is_in g) 0 refs; writes = places_from (λ r. is_in g r && r.access.writes) 0 refs }

-- the table has the places of these references, group by group
abbrev pub AreGrouped : List Reference → Table → Type 0
AreGrouped refs groups = (g : Group) → places_at groups g ≡ places_in g refs

-- the places of the sinks in a group: all of it where the source writes, else what writes
abbrev pub sinks_in : Bool → Places → List ℕ
sinks_in writes p = if writes then p.all else p.writes

-- the places of the sinks that the table gives for a group, none outside all DO loops
abbrev pub sinks_at : Table → Bool → Option Group → List ℕ
sinks_at groups writes None = []
sinks_at groups writes (Some g) = sinks_in writes (places_at groups g)

-- the pairs of these sources, the first of which has this place, with all references
abbrev pub pairs_from : List Reference → ℕ → List Reference → List Pair
pairs_from refs place [] = []
pairs_from refs place (r ∷ sources) = map (pair_of place) (places_from (is_pair r) 0 refs) ++ pairs_from refs (suc place) sources
