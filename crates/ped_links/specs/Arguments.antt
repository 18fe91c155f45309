-- Dummy arguments by numbers, and how they are used, as the code looks at the arguments of CALLs. Only contracts of private functions use it.
use Rattle.std.specs.Prelude.{◌≡◌, ◌<◌, ◌↔◌, ◌⊎◌, ℕ, zero, suc, ◌+◌, List, [], ◌∷◌, ◌++◌, length, take, map, Bool, true, false, Option, Some, None, IsTrue}
use Rattle.std.specs.List.{flat_map}
use Rattle.std.specs.declared.hash.FoldHasher.{FoldHasher}
use Rattle.std.specs.declared.hash.BuildHasherDefault.{BuildHasherDefault}
use Rattle.indexmap.specs.IndexMap.{IndexMap}
use Rattle.ped_base.specs.Lists.{is_among}
use Rattle.ped_base.specs.Dimensions.{Dimensions}
use Rattle.ped_units.specs.ped_valid.specs.ped_symbols.specs.declared.symbols.Kind.{Kind}
use Rattle.ped_units.specs.ped_valid.specs.ped_symbols.specs.Entries.{entry_of}
use Rattle.ped_units.specs.ped_valid.specs.ped_symbols.specs.Kinds.{Table, table_of}
use Rattle.ped_units.specs.Units.{ProgramUnit, ProgramUnits, all_units}
use Rattle.ped_units.specs.Linking.{IsIn, Placed, calls_of, associated, Association, IsUsed, IsAssigned, IsIndex, assigns, indexes, kind_there, bounds_by, is_scalar, is_constant, LinkRefusal, Arguments, Aliased}
use Rattle.ped_links.specs.Numbers.{number_of_unit, place_among, ArePlaces}
use Rattle.ped_links.specs.Reaching.{IsMarkedNumber}
use Rattle.ped_units.specs.Refusals.{for_names}
use Rattle.ped_links.specs.FirstLinks.{EitherStands, StandsIf}
use Rattle.ped_links.specs.Scenes.{unit_at, StandsAtCalls}
use Rattle.ped_links.specs.Placing.{argument_name}
use Rattle.ped_links.specs.declared.placing.Around.{Around}
use Rattle.ped_links.specs.declared.placing.PlacedCall.{PlacedCall}
use Rattle.ped_links.specs.declared.arguments.At.{At}
use Rattle.ped_links.specs.declared.formals.Formals.{Formals}
use Rattle.ped_links.specs.declared.formals.Marks.{Marks}

-- the variables that a unit assigns itself, or those alone that it has as DO variables
abbrev pub used_names : Bool → ProgramUnit → List (List ℕ)
used_names false u = assigns u
used_names true u = indexes u

-- how many dummy arguments units have
abbrev pub formal_count : List ProgramUnit → ℕ
formal_count us = length (flat_map (λ (u : ProgramUnit). u.formals) us)

-- the number of a dummy argument by its place, where this many come before those of its unit
abbrev pub number_behind : ℕ → Option ℕ → Option ℕ
number_behind base None = None
number_behind base (Some place) = Some (base + place)

-- the dummy arguments of the unit with this number
abbrev pub formals_at : List ProgramUnit → ℕ → List (List ℕ)
formals_at [] k = []
formals_at (u ∷ us) zero = u.formals
formals_at (u ∷ us) (suc k) = formals_at us k

-- the number of a dummy argument of the unit with this number: all those of the units before it come first
abbrev pub formal_number : List ProgramUnit → ℕ → List ℕ → Option ℕ
formal_number us k x = number_behind (formal_count (take k us)) (place_among (formals_at us k) 0 x)

-- the numbers of the first dummy arguments of units, where this many come before
abbrev pub bases_from : ℕ → List ProgramUnit → List ℕ
bases_from n [] = []
bases_from n (u ∷ us) = n ∷ bases_from (n + length u.formals) us

-- the places of the dummy arguments of each unit
abbrev pub AllPlaces : List ProgramUnit → List (List (List ℕ × ℕ)) → Type 0
AllPlaces [] [] = Unit {0}
AllPlaces (u ∷ us) (es ∷ rest) = ArePlaces u.formals es × AllPlaces us rest
AllPlaces [] (es ∷ rest) = ⊥
AllPlaces (u ∷ us) [] = ⊥

-- a table of places
abbrev pub PlaceTable : Type 0
PlaceTable = IndexMap (List ℕ) ℕ (BuildHasherDefault FoldHasher)

-- these are the numbers of the dummy arguments of units
pub record AreFormals (us : List ProgramUnit) (f : Formals) : Type 0 where
  pub bases : f.bases.items ≡ bases_from 0 us
  pub places : AllPlaces us (map (λ (t : PlaceTable). t.entries) f.places.items)
  pub count : f.count ≡ formal_count us

-- the marked numbers are those of the dummy arguments that are used so
abbrev pub AreUses : (ProgramUnit → List (List ℕ)) → ProgramUnits → List Bool → Type 0
AreUses own us marks = (k : ℕ) (x : List ℕ) → k < length (all_units us) → IsTrue (is_among x (unit_at us k).formals) → IsMarkedNumber marks (formal_number (all_units us) k x) ↔ IsUsed own us (unit_at us k) x

-- a dummy argument is passed for another by a CALL of the unit with the first number that calls the unit with the second
pub record IsPassed (us : ProgramUnits) (i k from to : ℕ) : Type 0 where
  pub call : Placed
  pub is_call : IsIn call (calls_of (unit_at us i))
  pub is_unit : number_of_unit (all_units us) call.called.name ≡ Some k
  pub association : Association
  pub associates : IsIn association (associated (unit_at us k) call.called)
  pub formal : List ℕ
  pub passes : argument_name association.argument ≡ Some formal
  pub begins : formal_number (all_units us) k association.formal ≡ Some from
  pub ends : formal_number (all_units us) i formal ≡ Some to

-- the marks are those of the dummy arguments that are assigned, and of those that are DO variables
pub record AreMarks (us : ProgramUnits) (marks : Marks) : Type 0 where
  pub formals : AreFormals (all_units us) marks.formals
  pub assigned : AreUses assigns us marks.assigned.items
  pub indexes : AreUses indexes us marks.indexes.items

-- the number of the dummy argument of the unit with this number that an argument is, where it is one
abbrev pub passed_number : List ProgramUnit → ℕ → Option (List ℕ) → Option ℕ
passed_number us i None = None
passed_number us i (Some x) = formal_number us i x

-- something holds for one of these dummy arguments with the argument at its place, and with those after both
abbrev pub ForSome : (List ℕ → Option (List ℕ) → List (List ℕ) → List (Option (List ℕ)) → Type 0) → List (List ℕ) → List (Option (List ℕ)) → Type 0
ForSome holds (f ∷ fs) (a ∷ rest) = holds f a fs rest ⊎ ForSome holds fs rest
ForSome holds [] arguments = ⊥
ForSome holds (f ∷ fs) [] = ⊥

-- one of these arguments in the unit with the first number is passed for one of these dummy arguments of the unit with the second
abbrev pub PassesIn : List ProgramUnit → ℕ → ℕ → List (List ℕ) → List (Option (List ℕ)) → ℕ → ℕ → Type 0
PassesIn us i k formals arguments from to = ForSome (λ f a fs rest. (formal_number us k f ≡ Some from) × (passed_number us i a ≡ Some to)) formals arguments

-- one of these CALLs of the unit with this number passes a dummy argument for another
abbrev pub CallsPass : ProgramUnits → ℕ → List PlacedCall → ℕ → ℕ → Type 0
CallsPass us i calls from to = (c : PlacedCall) × IsIn c calls × ((k : ℕ) × (number_of_unit (all_units us) c.name ≡ Some k) × PassesIn (all_units us) i k (unit_at us k).formals c.arguments from to)

-- an argument that stands for this doesn't fit a dummy argument that stands for that: no array with the same bounds for an array, an array for a scalar, no scalar for a scalar that is assigned
abbrev pub IsOtherKind : Option Kind → Option Kind → Type 0 → Type 0
IsOtherKind formal argument assigned =
    ((d : Dimensions) × (bounds_by formal ≡ Some d) × (bounds_by argument ≡ Some d → ⊥))
    ⊎ (((d : Dimensions) × (bounds_by formal ≡ None) × (bounds_by argument ≡ Some d))
    ⊎ ((bounds_by formal ≡ None) × assigned × (is_scalar argument ≡ false)))

-- an argument is one of these names
abbrev pub is_one_of : Option (List ℕ) → List (List ℕ) → Bool
is_one_of None names = false
is_one_of (Some x) names = is_among x names

-- what an argument stands for, where it is a name
abbrev pub kind_of_argument : Table → Option (List ℕ) → Option Kind
kind_of_argument table None = None
kind_of_argument table (Some x) = entry_of table.kinds x

-- the same in a unit
abbrev pub kind_of_name : ProgramUnit → Option (List ℕ) → Option Kind
kind_of_name u None = None
kind_of_name u (Some x) = kind_there u x

-- an argument, by the name that it is, doesn't fit its dummy argument, at a CALL with these loops around it
abbrev pub IsMisfit : ProgramUnits → ProgramUnit → ProgramUnit → Around → List ℕ → Option (List ℕ) → Type 0
IsMisfit us u v around formal argument =
    IsOtherKind (kind_there v formal) (kind_of_name u argument) (IsAssigned us v formal)
    ⊎ ((IsAssigned us v formal × IsTrue (is_one_of argument around.variables))
    ⊎ (IsIndex us v formal × IsTrue (is_one_of argument around.private)))

-- one of these arguments doesn't fit its dummy argument
abbrev pub SomeMisfit : ProgramUnits → ProgramUnit → ProgramUnit → Around → List (List ℕ) → List (Option (List ℕ)) → Type 0
SomeMisfit us u v around formals arguments = ForSome (λ f a fs rest. IsMisfit us u v around f a) formals arguments

-- a CALL has another number of arguments than dummy arguments, or one that doesn't fit
abbrev pub HasMisfit : ProgramUnits → ProgramUnit → ProgramUnit → PlacedCall → Type 0
HasMisfit us u v c =
    (length c.arguments ≡ length v.formals → ⊥)
    ⊎ ((length c.arguments ≡ length v.formals) × SomeMisfit us u v c.around v.formals c.arguments)

-- a variable's name is an argument of a dummy argument, and that or this one is assigned
abbrev pub IsAgain : ProgramUnits → ProgramUnit → List ℕ → List ℕ → List (List ℕ) → List (Option (List ℕ)) → Type 0
IsAgain us v formal name formals arguments = ForSome (λ f a fs rest. (a ≡ Some name) × (IsAssigned us v formal ⊎ IsAssigned us v f)) formals arguments

-- an argument is a variable's name that occurs again after it, and one of both dummy arguments is assigned
abbrev pub IsAliasedFirst : ProgramUnits → ProgramUnit → ProgramUnit → List ℕ → Option (List ℕ) → List (List ℕ) → List (Option (List ℕ)) → Type 0
IsAliasedFirst us u v formal None fs rest = ⊥
IsAliasedFirst us u v formal (Some x) fs rest = (is_constant (kind_there u x) ≡ false) × IsAgain us v formal x fs rest

-- one of these arguments is such
abbrev pub SomeAliased : ProgramUnits → ProgramUnit → ProgramUnit → List (List ℕ) → List (Option (List ℕ)) → Type 0
SomeAliased us u v formals arguments = ForSome (λ f a fs rest. IsAliasedFirst us u v f a fs rest) formals arguments

-- the CALL of the unit with this number is looked at so
pub record IsAt (us : ProgramUnits) (i : ℕ) (at : At) : Type 0 where
  pub below : at.callee < length (all_units us)
  pub formals : at.formals.now ≡ (unit_at us at.callee).formals
  pub caller : at.caller_table.now ≡ table_of (for_names (unit_at us i))
  pub callee : at.callee_table.now ≡ table_of (for_names (unit_at us at.callee))
  pub marks : AreMarks us at.marks.now

-- the rules that are broken at a CALL that is looked at like this
abbrev pub StandsHere : ProgramUnits → ℕ → At → LinkRefusal → ℕ → Type 0
StandsHere us i at =
    EitherStands (StandsIf Arguments at.call.now.line (HasMisfit us (unit_at us i) (unit_at us at.callee) at.call.now))
    (StandsIf Aliased at.call.now.line (SomeAliased us (unit_at us i) (unit_at us at.callee) at.formals.now at.call.now.arguments))

-- a CALL of the unit with this number calls one that its arguments don't fit
abbrev pub MisfitsAt : ProgramUnits → ℕ → PlacedCall → Type 0
MisfitsAt us i c = (k : ℕ) × (number_of_unit (all_units us) c.name ≡ Some k) × HasMisfit us (unit_at us i) (unit_at us k) c

-- a CALL of the unit with this number hands over one name twice, and it is assigned
abbrev pub AliasedAt : ProgramUnits → ℕ → PlacedCall → Type 0
AliasedAt us i c = (k : ℕ) × (number_of_unit (all_units us) c.name ≡ Some k) × SomeAliased us (unit_at us i) (unit_at us k) (unit_at us k).formals c.arguments

-- the rules of arguments that are broken at these CALLs of the unit with this number
abbrev pub StandsForArguments : ProgramUnits → ℕ → List PlacedCall → LinkRefusal → ℕ → Type 0
StandsForArguments us i calls = EitherStands (StandsAtCalls calls Arguments (MisfitsAt us i)) (StandsAtCalls calls Aliased (AliasedAt us i))

-- a dummy argument with this number is used by its unit itself
abbrev pub IsSeed : (ProgramUnit → List (List ℕ)) → ProgramUnits → ℕ → Type 0
IsSeed own us n = (k : ℕ) × (x : List ℕ) × (k < length (all_units us)) × IsTrue (is_among x (unit_at us k).formals) × IsTrue (is_among x (own (unit_at us k))) × (formal_number (all_units us) k x ≡ Some n)

-- one of these dummy arguments of the unit with this number is among these names, and has the number
abbrev pub IsSeedAmong : List ProgramUnit → ℕ → List (List ℕ) → List (List ℕ) → ℕ → Type 0
IsSeedAmong us k formals names n = (x : List ℕ) × IsIn x formals × IsTrue (is_among x names) × (formal_number us k x ≡ Some n)

-- a dummy argument is passed for another by a CALL of some unit
abbrev pub ArePassed : ProgramUnits → ℕ → ℕ → Type 0
ArePassed us from to = (i : ℕ) × (k : ℕ) × (i < length (all_units us)) × IsPassed us i k from to

-- numbers with one more, where there is one
abbrev pub with_some : List ℕ → Option ℕ → List ℕ
with_some ns None = ns
with_some ns (Some n) = ns ++ n ∷ []
