-- The rows of the dependence pane (ParaScope; this project).
use Rattle.std.specs.Prelude.{ℕ, ℤ, List, [], ◌∷◌, ◌++◌, map, filter, length, codes, Bool, true, false, ◌==◌, Option, Some, None, if◌then◌else◌}
use Rattle.std.specs.List.{list_any, flat_map, join_by, range_with_len}
use Rattle.std.specs.Cmp.Lexicographic.{pointwise}
use Rattle.std.specs.Fmt.{decimal, signed_decimal}
use Rattle.ped_views.specs.declared.directions.Direction.{Direction}
use Rattle.ped_views.specs.declared.directions.Direction.TheVariants.{Before, Same, After}
use Rattle.ped_views.specs.Excluded.{direction_at}
use Rattle.ped_edges.specs.Edges.{Kind, flow, anti, output, Mark, proven, pending, rejected, Edge}

-- a reference by its statement and its number (this project)
abbrev pub place_text : ℕ × ℕ → List ℕ
place_text p = decimal p.0 ++ codes "." ++ decimal p.1

-- the word of a kind (Allen and Kennedy, section 2.2.1; ParaScope)
abbrev pub kind_text : Kind → List ℕ
kind_text flow = codes "flow"
kind_text anti = codes "anti"
kind_text output = codes "output"

-- the word of a mark (ParaScope)
abbrev pub mark_text : Mark → List ℕ
mark_text proven = codes "proven"
mark_text pending = codes "pending"
mark_text rejected = codes "rejected"

-- a dash where the dependence is independent of loops (Allen and Kennedy, section 2.2.5; this project)
abbrev pub level_text : Option ℕ → List ℕ
level_text None = codes "-"
level_text (Some level) = decimal level

-- the same sign (plain words)
abbrev pub same_direction : Direction → Direction → Bool
same_direction Before Before = true
same_direction Same Same = true
same_direction After After = true
same_direction Before Same = false
same_direction Before After = false
same_direction Same Before = false
same_direction Same After = false
same_direction After Before = false
same_direction After Same = false

-- the signs that the vectors have at a place, in the order `<`, `=`, `>` (Allen and Kennedy, section 2.2.4)
abbrev pub signs_at : List (List Direction) → ℕ → List Direction
signs_at vectors k = filter (λ d. list_any (λ v. same_direction d (direction_at v k)) vectors) (Before ∷ Same ∷ After ∷ [])

-- these signs and no others (plain words)
abbrev pub are_signs : List Direction → List Direction → Bool
are_signs = pointwise same_direction

-- all vectors with one of the signs of each place (plain words)
abbrev pub product : List (List Direction) → List (List Direction)
product [] = [] ∷ []
product (signs ∷ rest) = flat_map (λ d. map (λ v. d ∷ v) (product rest)) signs

-- the signs of n places (plain words)
abbrev pub all_signs : ℕ → List (List Direction) → List (List Direction)
all_signs n vectors = map (signs_at vectors) (range_with_len 0 n)

-- the vectors over n loops are the product of their signs place by place (Allen and Kennedy, section 2.2.4)
abbrev pub is_product : ℕ → List (List Direction) → Bool
is_product n vectors = pointwise are_signs (product (all_signs n vectors)) vectors

-- the sign of a direction (Allen and Kennedy, section 2.2.4)
abbrev pub direction_text : Direction → List ℕ
direction_text Before = codes "<"
direction_text Same = codes "="
direction_text After = codes ">"

-- several signs of one place: all three are a star, and equal or after is written the other way round (Allen and Kennedy, section 2.2.4)
abbrev pub signs_text : List Direction → List ℕ
signs_text signs =
    if length signs == 3 then codes "*"
    else if are_signs signs (Same ∷ After ∷ []) then codes ">="
    else flat_map direction_text signs

-- a vector in parentheses (Allen and Kennedy, section 2.2.4)
abbrev pub vector_text : List (List Direction) → List ℕ
vector_text places = codes "(" ++ join_by signs_text (codes ",") places ++ codes ")"

-- vectors over n loops: one vector where they are a product, else one after the other (this project)
abbrev pub vectors_text : ℕ → List (List Direction) → List ℕ
vectors_text n vectors =
    if is_product n vectors then vector_text (all_signs n vectors)
    else flat_map (λ v. vector_text (map (λ d. d ∷ []) v)) vectors

-- a star where the distance is unknown (Allen and Kennedy, section 2.2.4)
abbrev pub distance_text : Option ℤ → List ℕ
distance_text None = codes "*"
distance_text (Some d) = signed_decimal d

-- distances in parentheses, with a comma between two (Allen and Kennedy, section 2.2.4)
abbrev pub distances_text : List (Option ℤ) → List ℕ
distances_text distances = codes "(" ++ join_by distance_text (codes ",") distances ++ codes ")"

-- source, sink, variable, kind, level, vectors, distances and mark, with a blank between two
abbrev pub edge_row : Edge → List ℕ
edge_row e = join_by (λ part. part) (codes " ") (
    place_text e.source
    ∷ place_text e.sink
    ∷ e.name
    ∷ kind_text e.kind
    ∷ level_text e.level
    ∷ vectors_text (length e.distances) e.vectors
    ∷ distances_text e.distances
    ∷ mark_text e.mark
    ∷ [])

-- `dependences` and their number, and a row for each
abbrev pub edges_pane : List Edge → List ℕ
edges_pane edges = codes "dependences " ++ decimal (length edges) ++ 10 ∷ flat_map (λ e. edge_row e ++ 10 ∷ []) edges
