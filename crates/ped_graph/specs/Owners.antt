-- The DO to which a private scalar's reference belongs, and the vectors that are left of a pair of them (ParaScope; this project).
use Rattle.std.specs.Prelude.{ℕ, suc, List, [], ◌∷◌, filter, take, Bool, true, false, ◌==◌, Option, Some, None, if◌then◌else◌}
use Rattle.std.specs.List.{list_all}
use Rattle.ped_base.specs.Lists.{is_among}
use Rattle.ped_views.specs.declared.directions.Direction.{Direction}
use Rattle.ped_views.specs.declared.directions.Direction.TheVariants.{Before, Same, After}
use Rattle.ped_tree.specs.Nests.{Loop}
use Rattle.ped_refs.specs.References.{Reference, private_loop}

-- the same DO, or none on both sides
abbrev pub is_same_owner : Option Loop → Option Loop → Bool
is_same_owner None None = true
is_same_owner (Some l) (Some m) = l.number == m.number
is_same_owner None (Some m) = false
is_same_owner (Some l) None = false

-- both references belong to one DO, or neither belongs to any
abbrev pub have_same_owner : Reference → Reference → Bool
have_same_owner source sink = is_same_owner (private_loop source) (private_loop sink)

-- a level inside, counted from here: 0 stays where there is none, and this level counts then
abbrev pub level_by : ℕ → Bool → ℕ
level_by inside here = if inside == 0 then (if here then 1 else 0) else suc inside

-- the level of the innermost of loops that names the variable in its PRIVATE list, 1 for the outermost, 0 where none does (ParaScope; this project)
abbrev pub private_level : List ℕ → List Loop → ℕ
private_level x [] = 0
private_level x (l ∷ ls) = level_by (private_level x ls) (is_among x l.head.private)

-- the level of the DO to which a reference belongs, 0 where it belongs to none
abbrev pub owner_level : Reference → ℕ
owner_level r = private_level r.access.name r.nest

-- the sign `=`
abbrev pub is_same : Direction → Bool
is_same Same = true
is_same Before = false
is_same After = false

-- the vectors with `=` at the first levels: each iteration of a DO has its own copy of the DO's private scalars, so a copy is shared within one iteration alone (ParaScope; this project)
abbrev pub within_iteration : ℕ → List (List Direction) → List (List Direction)
within_iteration level vectors = filter (λ v. list_all is_same (take level v)) vectors
