-- The loops around a bound as the code keeps them, with the ranges found for them. Only contracts of private functions use these definitions.
use Rattle.std.specs.Prelude.{List, [], ◌∷◌}
use Rattle.ped_views.specs.Views.{Range}
use Rattle.ped_tree.specs.Tree.{Head}
use Rattle.ped_refs.specs.Loops.{nest_of}
use Rattle.ped_affine.specs.declared.bounds.Enclosing.{Enclosing}
use Rattle.ped_affine.specs.Ranges.{Around, between_ends}
use Rattle.ped_affine.specs.PairViews.{heads_of}

-- loops with their ranges: each by its variable and the values between the ends of its range
abbrev pub with_ranges : List Head → List Range → Around
with_ranges (h ∷ hs) (r ∷ rs) = (h.variable, between_ends r) ∷ with_ranges hs rs
with_ranges [] rs = []
with_ranges (h ∷ hs) [] = []

-- the loops around a bound
abbrev pub around_of : Enclosing → Around
around_of e = with_ranges (heads_of (nest_of e.loops.now)) e.ranges.now
