-- Arrows of the code as lists of numbers. Only contracts of private functions use it.
use Rattle.std.specs.Prelude.{ℕ, List}
use Rattle.ped_links.specs.Reaching.{ends_in}
use Rattle.ped_links.specs.declared.reaching.Arrows.{Arrows}

-- for each number the numbers that arrows lead to from it
abbrev pub ends_of : Arrows → List (List ℕ)
ends_of arrows = ends_in arrows.ends.items
