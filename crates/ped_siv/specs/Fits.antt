-- What the formulas of the tests ask of a distance, a value and a sum in the range of a loop (this project).
use Rattle.std.specs.Prelude.{◌≡◌, ℤ, pos, neg_ℤ, ◌-ℤ◌, ◌*ℤ◌, ◌≤ℤ◌, ◌<ℤ◌, List, IsTrue}
use Rattle.std.specs.List.{AllByRecursion}
use Rattle.ped_views.specs.declared.directions.Direction.{Direction}
use Rattle.ped_views.specs.declared.directions.Direction.TheVariants.{Before, Same, After}
use Rattle.ped_views.specs.declared.strong_rows.StrongRow.{StrongRow}
use Rattle.ped_views.specs.Whole.{Divides}
use Rattle.ped_views.specs.Views.{Range}
use Rattle.ped_views.specs.Excluded.{InRange, StandsByValue, by_value}

-- two values at this distance are so ordered, and lie in a range that ends this far above its start
abbrev pub FitsSpan : Direction → ℤ → ℤ → Type 0
FitsSpan Before distance span = (pos 0 <ℤ distance) × (distance ≤ℤ span)
FitsSpan Same distance span = (distance ≡ pos 0) × (pos 0 ≤ℤ span)
FitsSpan After distance span = (distance <ℤ pos 0) × (neg_ℤ distance ≤ℤ span)

-- two values at this distance are in the direction in the range of the loop, in step where the loop is steady
abbrev pub FitsRange : Range → Direction → ℤ → Type 0
FitsRange r d distance = FitsSpan (by_value r.step d) distance (r.hi -ℤ r.lo) × (IsTrue r.steady → Divides r.step distance)

-- at this distance the subscripts of every row are equal
abbrev pub AreApart : List StrongRow → ℤ → Type 0
AreApart rows distance = AllByRecursion (λ s. s.a *ℤ distance ≡ s.c1 -ℤ s.c2) rows

-- i lies from lo to hi, and is so ordered with a number there
abbrev pub HasPartner : Direction → ℤ → ℤ → ℤ → Type 0
HasPartner Before i lo hi = (lo ≤ℤ i) × (i <ℤ hi)
HasPartner Same i lo hi = (lo ≤ℤ i) × (i ≤ℤ hi)
HasPartner After i lo hi = (lo <ℤ i) × (i ≤ℤ hi)

-- no value i of the range with a * i = n is so ordered with a value of the range
abbrev pub HasNoPoint : ℤ → ℤ → Range → Direction → Type 0
HasNoPoint a n r d = (i j : ℤ) → InRange r i → InRange r j → StandsByValue d i j → ¬ (a *ℤ i ≡ n)

-- two numbers so ordered by their values have this sum, and lie in a range whose ends have these doubles
abbrev pub FitsSum : Direction → ℤ → ℤ → ℤ → Type 0
FitsSum Before sum least greatest = (least <ℤ sum) × (sum <ℤ greatest)
FitsSum Same sum least greatest = (least ≤ℤ sum) × (sum ≤ℤ greatest) × Divides (pos 2) sum
FitsSum After sum least greatest = (least <ℤ sum) × (sum <ℤ greatest)
