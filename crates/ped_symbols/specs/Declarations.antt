-- What the declarations of a program say about its names, wherever they are among them (ANSI X3.9-1978, sections 4.1.2, 5.1, 8).
use Rattle.std.specs.Prelude.{ℕ, List, [], ◌∷◌, map, filter, Bool, true, false, not, ◌&&◌, nat_le, Option, Some, None, if◌then◌else◌}
use Rattle.std.specs.List.{list_any, flat_map}
use Rattle.ped_base.specs.Lists.{is_among}
use Rattle.ped_tree.specs.Tree.{DeclTree, Program, Implicit}
use Rattle.ped_symbols.specs.declared.uses.Role.{Role}
use Rattle.ped_symbols.specs.declared.uses.Role.TheVariants.{Typed, Dimensioned, Named, Saved}
use Rattle.ped_symbols.specs.declared.uses.Use.{Use}
use Rattle.ped_symbols.specs.Entries.{entry_of}
use Rattle.ped_symbols.specs.Uses.{decl_uses}

-- whether IMPLICIT INTEGER (A-Z) is there, the program's name, where it has one, and the uses of names in the declarations
pub record Declared : Type 0 where
  pub implicit : Bool
  pub program : List (List ℕ)
  pub uses : List Use

-- IMPLICIT INTEGER (A-Z) (ANSI X3.9-1978, section 8.5)
abbrev pub is_implicit : DeclTree → Bool
is_implicit Implicit = true
is_implicit d = false

-- the name of the program (ANSI X3.9-1978, section 14.1)
abbrev pub program_name : DeclTree → List (List ℕ)
program_name (Program x) = x ∷ []
program_name d = []

-- what these declarations say
abbrev pub declared_in : List DeclTree → Declared
declared_in decls = record { implicit = list_any is_implicit decls; program = flat_map program_name decls; uses = flat_map decl_uses decls }

-- named in INTEGER (ANSI X3.9-1978, section 8.4.1)
abbrev pub is_typing : Role → Bool
is_typing Typed = true
is_typing role = false

-- given dimensions (ANSI X3.9-1978, section 5.1)
abbrev pub is_dimensioning : Role → Bool
is_dimensioning (Dimensioned n) = true
is_dimensioning role = false

-- made a constant by PARAMETER (ANSI X3.9-1978, section 8.6)
abbrev pub is_naming : Role → Bool
is_naming Named = true
is_naming role = false

-- saved (ANSI X3.9-1978, section 8.9)
abbrev pub is_saving : Role → Bool
is_saving Saved = true
is_saving role = false

-- the names that are used in such a role
abbrev pub names_with : (Role → Bool) → List Use → List (List ℕ)
names_with test uses = map (λ u. u.name) (filter (λ u. test u.role) uses)

-- named in INTEGER, wherever that is (ANSI X3.9-1978, section 8.4.1; this project)
abbrev pub is_typed : Declared → List ℕ → Bool
is_typed d x = is_among x (names_with is_typing d.uses)

-- a named constant, wherever its PARAMETER is
abbrev pub is_constant : Declared → List ℕ → Bool
is_constant d x = is_among x (names_with is_naming d.uses)

-- the program's name
abbrev pub is_program : Declared → List ℕ → Bool
is_program d x = is_among x d.program

-- begins with I to N (ANSI X3.9-1978, section 4.1.2)
abbrev pub begins_integer : List ℕ → Bool
begins_integer [] = false
begins_integer (c ∷ cs) = nat_le 73 c && nat_le c 78

-- of type REAL: no INTEGER names it, it doesn't begin with I to N, and no IMPLICIT makes it INTEGER (ANSI X3.9-1978, sections 4.1.2, 8.5)
abbrev pub is_real : Declared → List ℕ → Bool
is_real d x = not d.implicit && not (begins_integer x) && not (is_typed d x)

-- a name with the number of dimensions that a use gives it, where it gives some (ANSI X3.9-1978, section 5.1.1)
abbrev pub rank_by : List ℕ → Role → List (List ℕ × ℕ)
rank_by x (Dimensioned n) = (x, n) ∷ []
rank_by x role = []

-- the names that uses give dimensions, each with their number (ANSI X3.9-1978, section 5.1.1)
abbrev pub ranks_in : List Use → List (List ℕ × ℕ)
ranks_in uses = flat_map (λ u. rank_by u.name u.role) uses

-- the number, or 0 where there is none (plain words)
abbrev pub or_zero : Option ℕ → ℕ
or_zero None = 0
or_zero (Some n) = n

-- how many dimensions uses give a name, by the first that gives it some; 0 where none does (ANSI X3.9-1978, section 5.1.1)
abbrev pub given_rank : List Use → List ℕ → ℕ
given_rank uses x = or_zero (entry_of (ranks_in uses) x)

-- how many dimensions a name has: those that declarations give it; a named constant has none, wherever its PARAMETER is (ANSI X3.9-1978, sections 5.1.1, 8.6; this project)
abbrev pub rank_of : Declared → List ℕ → ℕ
rank_of d x = if is_constant d x then 0 else given_rank d.uses x
