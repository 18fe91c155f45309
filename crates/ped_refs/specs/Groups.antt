-- Groups of references that can pair with each other: those of one name in DO loops with one outermost DO. Only contracts of private functions use these definitions.
use Rattle.std.specs.Prelude.{ℕ, List, [], ◌∷◌, Bool, true, false, ◌==◌, ◌&&◌, Option, Some, None}
use Rattle.ped_base.specs.Lists.{is_same_text}
use Rattle.ped_tree.specs.Nests.{Loop}
use Rattle.ped_refs.specs.References.{Reference, outermost}
use Rattle.ped_refs.specs.ListedReferences.{ref_name}
use Rattle.ped_refs.specs.declared.references.RefName.{RefName}
use Rattle.ped_refs.specs.declared.references.RefName.TheVariants.{Named, In, Out}
use Rattle.ped_refs.specs.declared.groups.Group.{Group}

-- the same name in the list
abbrev pub is_same_name : RefName → RefName → Bool
is_same_name (Named x) (Named y) = is_same_text x y
is_same_name (Named x) In = false
is_same_name (Named x) Out = false
is_same_name In (Named y) = false
is_same_name In In = true
is_same_name In Out = false
is_same_name Out (Named y) = false
is_same_name Out In = false
is_same_name Out Out = true

-- the same group: of one name, with one outermost DO
abbrev pub is_same_group : Group → Group → Bool
is_same_group g h = is_same_name g.name h.name && g.outer == h.outer

-- a group, under a name that the code hasn't got
abbrev pub PlainGroup : Type 0
PlainGroup = Group

-- the group of a name and an outermost DO
abbrev pub group : RefName → ℕ → Group
group name outer = record { name = name; outer = outer }

-- the group of a reference
abbrev pub group_of : Reference → Group
group_of r = group (ref_name r.access.name) (outermost r)

-- the group of references to a name in these DO loops, none outside all of them
abbrev pub group_in_loops : List ℕ → List Loop → Option Group
group_in_loops x [] = None
group_in_loops x (l ∷ ls) = Some (group (ref_name x) l.number)

-- the group of a reference, none outside all DO loops
abbrev pub looped_group : Reference → Option Group
looped_group r = group_in_loops r.access.name r.nest
