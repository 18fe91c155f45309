-- What is refused at the CALLs of units and before them, as the code looks at it. Only contracts of private functions use it.
use Rattle.std.specs.Prelude.{◌≡◌, ◌<◌, ℕ, List, [], true, Option, Some, None}
use Rattle.ped_units.specs.Units.{ProgramUnit, ProgramUnits, all_units}
use Rattle.ped_units.specs.Linking.{IsIn, LinkRefusal, NoUnit, Arguments, CallPlace}
use Rattle.ped_links.specs.Numbers.{number_of_unit}
use Rattle.ped_links.specs.FirstLinks.{EitherStands}
use Rattle.ped_links.specs.Scenes.{StandsAtCalls}
use Rattle.ped_links.specs.declared.placing.Found.{Found}
use Rattle.ped_links.specs.declared.placing.PlacedCall.{PlacedCall}

-- there is a number, and it is below this
abbrev pub IsBelow : Option ℕ → ℕ → Type 0
IsBelow None n = ⊥
IsBelow (Some k) n = k < n

-- the first unit of a name comes before this number
abbrev pub HasEarlier : List ProgramUnit → Option (List ℕ) → ℕ → Type 0
HasEarlier us None n = ⊥
HasEarlier us (Some x) n = IsBelow (number_of_unit us x) n

-- the rule of arguments is broken at one of these lines
abbrev pub StandsAtLines : List ℕ → LinkRefusal → ℕ → Type 0
StandsAtLines lines r line = (r ≡ Arguments) × IsIn line lines

-- a CALL calls no unit
abbrev pub CallsNone : List ProgramUnit → PlacedCall → Type 0
CallsNone us c = number_of_unit us c.name ≡ None

-- a CALL is in a PARALLEL DO
abbrev pub IsParallel : PlacedCall → Type 0
IsParallel c = c.around.parallel ≡ true

-- one of these CALLs names no unit, or is in a PARALLEL DO
abbrev pub StandsAtPlaces : List ProgramUnit → List PlacedCall → LinkRefusal → ℕ → Type 0
StandsAtPlaces us calls = EitherStands (StandsAtCalls calls NoUnit (CallsNone us)) (StandsAtCalls calls CallPlace IsParallel)

-- the rules that are broken at the CALLs and PRIVATE statements that some walks found
pub record PlacesFound (us : ProgramUnits) (walks : List Found) (r : LinkRefusal) (line : ℕ) : Type 0 where
  pub walk : Found
  pub is_walk : IsIn walk walks
  pub stands : EitherStands (StandsAtLines walk.private.items) (StandsAtPlaces (all_units us) walk.calls.items) r line
