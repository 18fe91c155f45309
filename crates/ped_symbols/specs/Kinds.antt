-- What the names of a program stand for: scalars, arrays with their bounds, and constants with their values (ANSI X3.9-1978, sections 5, 8.6).
use Rattle.std.specs.Prelude.{ℕ, ℤ, List, map, Option, Some, None, [], if◌then◌else◌}
use Rattle.std.specs.List.{flat_map}
use Rattle.ped_base.specs.Dimensions.{Dimensions}
use Rattle.ped_base.specs.Lists.{is_among}
use Rattle.ped_tree.specs.Tree.{ProgramTree}
use Rattle.ped_tree.specs.NamesIn.{first_occurrences}
use Rattle.ped_symbols.specs.Entries.{entry_of}
use Rattle.ped_symbols.specs.Sites.{Site, program_sites, site_uses}
use Rattle.ped_symbols.specs.Values.{Values}
use Rattle.ped_symbols.specs.Arrays.{Arrays}
use Rattle.ped_symbols.specs.NameRefusals.{Before, at_first, behind_sites}
use Rattle.ped_symbols.specs.declared.symbols.Kind.{Kind}
use Rattle.ped_symbols.specs.declared.symbols.Kind.TheVariants.{Scalar, Array, Constant}

-- what a name stands for, by its value and its bounds, where it has some; one with both, which is refused, counts as a constant (ANSI X3.9-1978, sections 5, 8.6)
abbrev pub kind_by : Option ℤ → Option Dimensions → Kind
kind_by (Some n) bounds = Constant n
kind_by None (Some bounds) = Array bounds
kind_by None None = Scalar

-- what a name stands for among these constants and arrays (ANSI X3.9-1978, sections 5, 8.6)
abbrev pub kind_among : Values → Arrays → List ℕ → Kind
kind_among values arrays x = kind_by (entry_of values x) (entry_of arrays x)

-- all that the declarations of a program say, in order (ANSI X3.9-1978, section 8)
abbrev pub at_last : ProgramTree → Before
at_last t = behind_sites at_first (program_sites t)

-- what a name of a program stands for, where its names are right (ANSI X3.9-1978, sections 5, 8.6)
abbrev pub kind_of : ProgramTree → List ℕ → Kind
kind_of t x = kind_among (at_last t).values (at_last t).arrays x

-- the names that are used at sites, in text order
abbrev pub names_at : List Site → List (List ℕ)
names_at sites = map (λ u. u.name) (flat_map site_uses sites)

-- the names that occur outside PROGRAM, in the order of their first occurrence (this project)
abbrev pub names_of : ProgramTree → List (List ℕ)
names_of t = first_occurrences [] (names_at (program_sites t))

-- each name with what it stands for (this project)
abbrev pub kinds_of : ProgramTree → List (List ℕ × Kind)
kinds_of t = map (λ x. (x, kind_of t x)) (names_of t)

-- the kind of a name; none where it doesn't occur outside PROGRAM (this project)
abbrev pub kind_in : ProgramTree → List ℕ → Option Kind
kind_in t x = if is_among x (names_of t) then Some (kind_of t x) else None

-- the names of a program with their kinds, and its constants with their values
pub record Table : Type 0 where
  pub kinds : List (List ℕ × Kind)
  pub constants : Values

-- the table of a program; its constants are in the order of their PARAMETER items (ANSI X3.9-1978, section 8.6; this project)
abbrev pub table_of : ProgramTree → Table
table_of t = record { kinds = kinds_of t; constants = (at_last t).values }
