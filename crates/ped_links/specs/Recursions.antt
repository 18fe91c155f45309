-- CALLs that lead back, by the numbers of units. Only contracts of private functions use it.
use Rattle.std.specs.Prelude.{◌≡◌, ◌⊎◌, ℕ, List, [], ◌∷◌, map, Bool, true, Option, Some, None}
use Rattle.ped_units.specs.Units.{ProgramUnit, ProgramUnits, all_units}
use Rattle.ped_units.specs.Linking.{IsIn, calls_of, Recursion}
use Rattle.ped_links.specs.FirstLinks.{comes_first, IsFirstOf}
use Rattle.ped_links.specs.Numbers.{number_of_unit}
use Rattle.ped_links.specs.Placing.{placed_call}
use Rattle.ped_links.specs.Reaching.{IsReached}
use Rattle.ped_links.specs.Scenes.{unit_at, StandsAtCalls, CallsMarked}
use Rattle.ped_links.specs.declared.placing.PlacedCall.{PlacedCall}
use Rattle.ped_units.specs.declared.refusals.UnitFinding.{UnitFinding}
use Rattle.ped_units.specs.declared.refusals.UnitRule.TheVariants as rule

-- one of these CALLs calls the unit with this number
abbrev pub CallsIn : List ProgramUnit → List PlacedCall → ℕ → Type 0
CallsIn us calls k = (c : PlacedCall) × IsIn c calls × (number_of_unit us c.name ≡ Some k)

-- a CALL calls a unit from which arrows lead from this one
abbrev pub IsLeading : List ProgramUnit → List (List ℕ) → ℕ → PlacedCall → Type 0
IsLeading us ends i c = (k : ℕ) × (number_of_unit us c.name ≡ Some k) × IsReached ends (i ∷ []) k

-- a CALL calls a unit that is marked, and comes before what was found
abbrev pub CallMayComeFirst : List ProgramUnit → List Bool → Option UnitFinding → PlacedCall → Type 0
CallMayComeFirst us marks found c = CallsMarked us marks c × (comes_first (record { rule = rule.Recursion; line = c.line }) found ≡ true)

-- one of these CALLs is such
abbrev pub MayComeFirst : List ProgramUnit → List Bool → Option UnitFinding → List PlacedCall → Type 0
MayComeFirst us marks found calls = (c : PlacedCall) × IsIn c calls × CallMayComeFirst us marks found c

-- the first CALL of a unit that calls a unit from which arrows lead from this one; or none of its CALLs calls a unit that is marked and comes before what was found, and none is reported
abbrev pub IsFoundIn : ProgramUnits → List (List ℕ) → List Bool → Option UnitFinding → ℕ → Option UnitFinding → Type 0
IsFoundIn us ends marks found i more =
    IsFirstOf (StandsAtCalls (map placed_call (calls_of (unit_at us i))) Recursion (IsLeading (all_units us) ends i)) more
    ⊎ ((more ≡ None) × (MayComeFirst (all_units us) marks found (map placed_call (calls_of (unit_at us i))) → ⊥))
