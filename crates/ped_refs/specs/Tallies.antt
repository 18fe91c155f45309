-- How pairs of references are counted by groups of references that can pair with each other. Only contracts of private functions use these definitions.
use Rattle.std.specs.Prelude.{◌≡◌, ℕ, ◌+◌, ◌*◌, List, [], ◌∷◌, map, take, Bool, false, ◌==◌, ◌&&◌, not, count_by, unwrap_or, if◌then◌else◌}
use Rattle.std.specs.declared.hash.FoldHasher.{FoldHasher}
use Rattle.std.specs.declared.hash.BuildHasherDefault.{BuildHasherDefault}
use Rattle.indexmap.specs.IndexMap.{IndexMap, get}
use Rattle.ped_base.specs.Lists.{has_some, is_same_text}
use Rattle.ped_refs.specs.References.{Reference, outermost, pair_count}
use Rattle.ped_refs.specs.ListedReferences.{ref_of}
use Rattle.ped_refs.specs.Groups.{is_same_group, group_of}
use Rattle.ped_refs.specs.declared.references.Refs.{Refs}
use Rattle.ped_refs.specs.declared.groups.Group.{Group}
use Rattle.ped_refs.specs.declared.counting.Tally.{Tally}

-- the table of what was counted, group by group
abbrev pub Tallies : Type 0
Tallies = IndexMap Group Tally (BuildHasherDefault FoldHasher)

-- what was counted of a group
abbrev pub tally_at : Tallies → Group → Tally
tally_at groups g = unwrap_or (get is_same_group groups g) (record { references = 0; writes = 0 })

-- a tally with one more reference
abbrev pub with_reference : Tally → Bool → Tally
with_reference t writes = record { references = t.references + 1; writes = if writes then t.writes + 1 else t.writes }

-- how many ordered pairs one more reference makes with itself and those of its group
abbrev pub pairs_with : Tally → Bool → ℕ
pairs_with t writes = if writes then 2 * t.references + 1 else 2 * t.writes

-- of one name, with one outermost DO
abbrev pub is_together : Reference → Reference → Bool
is_together r s = is_same_text r.access.name s.access.name && outermost r == outermost s

-- the tally of the references that are of one group with a reference
abbrev pub tally_with : Reference → List Reference → Tally
tally_with r refs = record {
  references = count_by (is_together r) refs;
  writes = count_by (λ s. is_together r s && s.access.writes) refs;
}

-- where DO loops are around a reference, the outermost has a number that isn't 0
abbrev pub AreNumbered : List Reference → Type 0
AreNumbered [] = Unit {0}
AreNumbered (r ∷ rs) = (has_some r.nest ≡ not (outermost r == 0)) × AreNumbered rs

-- the list has these references
pub record AreListed (listed : List Reference) (refs : Refs) : Type 0 where
  pub items : refs.items ≡ map ref_of listed
  pub outer : refs.outer ≡ map outermost listed
  pub numbered : AreNumbered listed

-- the table has the tallies of these references, and the number is that of their pairs
pub record IsCounted (refs : List Reference) (groups : Tallies) (total : ℕ) : Type 0 where
  pub pairs : total ≡ pair_count refs
  pub tallies : (r : Reference) → outermost r == 0 ≡ false → tally_at groups (group_of r) ≡ tally_with r refs

-- the table has the tallies of the first references of the list, as many as given, and the number is that of their pairs
abbrev pub AreCounted : Refs → ℕ → Tallies → ℕ → Type 0
AreCounted refs count groups total = (listed : List Reference) → AreListed listed refs → IsCounted (take count listed) groups total
