-- The units of a file with what is known of them, as the code looks at their CALLs. Only contracts of private functions use it.
use Rattle.std.specs.Prelude.{◌≡◌, ◌<◌, ℕ, List, [], ◌∷◌, length, map, get_or, Bool, Some}
use Rattle.ped_units.specs.ped_valid.specs.ped_symbols.specs.Sites.{program_sites}
use Rattle.ped_units.specs.Units.{ProgramUnit, ProgramUnits, all_units}
use Rattle.ped_units.specs.Linking.{IsIn, Placed, calls_of, LinkRefusal, NoUnit, Recursion, Arguments, Aliased, CallPlace, RepeatsUnit, ListsTwice, HasPrivateFormal, IsAtCall, OfCalled, CallsNoUnit, IsRecursive, HasBadArguments, IsAliased, IsInParallel}
use Rattle.ped_units.specs.Naming.{AreTables}
use Rattle.ped_links.specs.Numbers.{number_of_unit, AreNumbers}
use Rattle.ped_links.specs.Reaching.{IsMarkedNumber}
use Rattle.ped_links.specs.Placing.{placed_call, private_lines}
use Rattle.ped_units.specs.Views.{program_unit_of}
use Rattle.ped_links.specs.declared.placing.Found.{Found}
use Rattle.ped_links.specs.declared.placing.PlacedCall.{PlacedCall}
use Rattle.ped_links.specs.declared.scenes.Scene.{Scene}

-- the unit with this number; the main program where there is none
abbrev pub unit_at : ProgramUnits → ℕ → ProgramUnit
unit_at us k = get_or (all_units us) k us.main

-- this is what a walk over the statements of a unit finds
pub record IsWalked (u : ProgramUnit) (found : Found) : Type 0 where
  pub calls : found.calls.items ≡ map placed_call (calls_of u)
  pub private : found.private.items ≡ private_lines u.formals u.lines (program_sites u.tree)

-- the same of units, one by one
abbrev pub AreWalked : List ProgramUnit → List Found → Type 0
AreWalked [] [] = Unit {0}
AreWalked (u ∷ us) (f ∷ fs) = IsWalked u f × AreWalked us fs
AreWalked [] (f ∷ fs) = ⊥
AreWalked (u ∷ us) [] = ⊥

-- the units are these, and what is known of them is so
pub record IsScene (us : ProgramUnits) (scene : Scene) : Type 0 where
  pub units : map program_unit_of scene.units.now ≡ all_units us
  pub tables : AreTables (all_units us) scene.tables.now
  pub numbers : AreNumbers (all_units us) scene.numbers.now.entries
  pub walked : AreWalked (all_units us) scene.walks.now

-- a CALL of the first of these units calls the second
abbrev pub CallsAt : ProgramUnits → ℕ → ℕ → Type 0
CallsAt us i k = (i < length (all_units us)) × ((p : Placed) × IsIn p (calls_of (unit_at us i)) × (number_of_unit (all_units us) p.called.name ≡ Some k))

-- a rule is broken at the lines of those of these CALLs for which something holds
pub record StandsAtCalls (calls : List PlacedCall) (rule : LinkRefusal) (holds : PlacedCall → Type 0) (r : LinkRefusal) (line : ℕ) : Type 0 where
  pub is_rule : r ≡ rule
  pub call : PlacedCall
  pub is_call : IsIn call calls
  pub stands : holds call
  pub there : call.line ≡ line

-- a CALL of a unit whose number is marked
abbrev pub CallsMarked : List ProgramUnit → List Bool → PlacedCall → Type 0
CallsMarked us marks c = IsMarkedNumber marks (number_of_unit us c.name)

-- the rules that are broken at SUBROUTINE statements
abbrev pub AtHeads : ProgramUnits → LinkRefusal → ℕ → Type 0
AtHeads us NoUnit line = RepeatsUnit us line
AtHeads us Recursion line = ⊥
AtHeads us Arguments line = ListsTwice us line
AtHeads us Aliased line = ⊥
AtHeads us CallPlace line = ⊥

-- the rules that are broken at CALLs and PRIVATE statements without a look at the units that are called
abbrev pub AtPlaces : ProgramUnits → LinkRefusal → ℕ → Type 0
AtPlaces us NoUnit line = IsAtCall us line (CallsNoUnit us)
AtPlaces us Recursion line = ⊥
AtPlaces us Arguments line = HasPrivateFormal us line
AtPlaces us Aliased line = ⊥
AtPlaces us CallPlace line = IsAtCall us line IsInParallel

-- the rules that are broken at CALLs that lead back to their units
abbrev pub AtRecursions : ProgramUnits → LinkRefusal → ℕ → Type 0
AtRecursions us NoUnit line = ⊥
AtRecursions us Recursion line = IsAtCall us line (OfCalled us (IsRecursive us))
AtRecursions us Arguments line = ⊥
AtRecursions us Aliased line = ⊥
AtRecursions us CallPlace line = ⊥

-- the rules that are broken at CALLs for their arguments
abbrev pub AtArguments : ProgramUnits → LinkRefusal → ℕ → Type 0
AtArguments us NoUnit line = ⊥
AtArguments us Recursion line = ⊥
AtArguments us Arguments line = IsAtCall us line (OfCalled us (HasBadArguments us))
AtArguments us Aliased line = IsAtCall us line (OfCalled us (λ u v p. IsAliased us u v p.called))
AtArguments us CallPlace line = ⊥
