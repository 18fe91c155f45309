-- Only contracts of private functions use how the code keeps the signs of a place and the front of a vector (this project).
use Rattle.std.specs.Prelude.{ℕ, ◌≡◌, ◌++◌, List, [], ◌∷◌, map, take, if◌then◌else◌}
use Rattle.ped_views.specs.declared.directions.Direction.{Direction}
use Rattle.ped_views.specs.declared.directions.Direction.TheVariants.{Before, Same, After}
use Rattle.ped_edges.specs.Rows.{product}
use Rattle.ped_edges.specs.declared.signs.Signs.{Signs}
use Rattle.ped_edges.specs.declared.products.Front.{Front}

-- the signs of a place, in the order `<`, `=`, `>` (Allen and Kennedy, section 2.2.4)
abbrev pub signs_of : Signs → List Direction
signs_of s =
    (if s.before then Before ∷ [] else [])
    ++ (if s.same then Same ∷ [] else [])
    ++ (if s.after then After ∷ [] else [])

-- the directions of a front (this project)
abbrev pub front_of : Front → List Direction
front_of f = take f.len f.directions

-- all vectors that begin with the front and continue with one of the signs of each further place (Allen and Kennedy, section 2.2.4)
abbrev pub begun_with : List Direction → List (List Direction) → List (List Direction)
begun_with front places = map (λ v. front ++ v) (product places)

-- the vectors don't begin with these (plain words)
abbrev pub DontBegin : List (List Direction) → List (List Direction) → Type 0
DontBegin these vectors = (rest : List (List Direction)) → ¬ (vectors ≡ these ++ rest)

-- the byte of a direction's sign (Allen and Kennedy, section 2.2.4)
abbrev pub sign_of : Direction → ℕ
sign_of Before = 60
sign_of Same = 61
sign_of After = 62
