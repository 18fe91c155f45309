-- Whether a pair of references may depend (Allen and Kennedy, section 3.1).
use Rattle.std.specs.Prelude.{◌≡◌, List, length}
use Rattle.ped_views.specs.declared.directions.Direction.{Direction}
use Rattle.ped_views.specs.Views.{View}
use Rattle.ped_views.specs.Vectors.{IsPossible, AreVectors}

-- some vector over the common loops is possible, so the tests don't rule a dependence out (Allen and Kennedy, section 3.1)
abbrev pub MayDepend : View → Type 0
MayDepend v = (vector : List Direction) × (length vector ≡ length v.loops) × IsPossible v vector

-- the view has a list of all vectors that are possible (Allen and Kennedy, section 3.1)
abbrev pub HasList : View → Type 0
HasList v = (vectors : List (List Direction)) × AreVectors v vectors
