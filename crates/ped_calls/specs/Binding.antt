-- What the names of a subroutine stand for, as the code reports. Only contracts of private functions use it.
use Rattle.std.specs.Prelude.{◌≡◌, ◌++◌, ℕ, ℤ, List, drop, true, Option, Some, None, is_some, if◌then◌else◌}
use Rattle.ped_base.specs.Lists.{is_among}
use Rattle.ped_tree.specs.Tree.{ExprTree, StmtTree}
use Rattle.ped_tree.specs.Constants.NamedConstants.{value_named}
use Rattle.ped_links.specs.ped_units.specs.ped_symbolic.specs.Arithmetic.{literal}
use Rattle.ped_links.specs.ped_symbols.specs.declared.symbols.Kind.{Kind}
use Rattle.ped_links.specs.ped_symbols.specs.Entries.{entry_of, with_entry}
use Rattle.ped_links.specs.ped_symbols.specs.Values.{Values}
use Rattle.ped_links.specs.ped_units.specs.Units.{ProgramUnit}
use Rattle.ped_links.specs.ped_units.specs.Expanding.{Given, Meanings, Renamed, with_constants, constants_of, body_names, renamed, with_renamed, with_formals, bound_arguments}

-- the same stands for each of these names
abbrev pub StandAlike : List (List ℕ) → Meanings → Meanings → Type 0
StandAlike names m n = (x : List ℕ) → is_among x names ≡ true → entry_of m x ≡ entry_of n x

-- a name with the literal of its value, or with a new name where it has none
abbrev pub with_named : List ℕ → Option ℤ → Option Kind → Renamed → Renamed
with_named x (Some n) kind r = record { meanings = with_entry r.meanings x (literal n); given = r.given }
with_named x None kind r = with_renamed x kind r

-- a name of a unit with these named constants, where nothing stands for it yet
abbrev pub named_one : Values → List ℕ → Option Kind → Renamed → Renamed
named_one constants x kind r = if is_some (entry_of r.meanings x) then r else with_named x (value_named constants x) kind r

-- what stands for the names of a unit, where these stand for its dummy arguments
abbrev pub local_meanings : ProgramUnit → Meanings → Given → Renamed
local_meanings u m g = renamed u (body_names u) (record { meanings = with_constants m (constants_of u); given = g })

-- these arguments, bound from a place on, together with what was done before, give what all arguments give from the start
pub record BindsOn (constants : Values) (formals : List (List ℕ)) (all : List ExprTree) (m : Meanings) (front : List StmtTree) (g : Given)
    (left : List ExprTree) (place : ℕ) (now : Meanings) (done : List StmtTree) (behind : Given) : Type 0 where
  pub meanings : with_formals now (drop place formals) (bound_arguments constants left behind).meant ≡ with_formals m formals (bound_arguments constants all g).meant
  pub assignments : done ++ (bound_arguments constants left behind).assignments ≡ front ++ (bound_arguments constants all g).assignments
  pub given : (bound_arguments constants left behind).given ≡ (bound_arguments constants all g).given
