-- What the names of units stand for, or which of their refusals is the first, as the code reports (this project).
use Rattle.std.specs.Prelude.{◌≡◌, ◌<◌, ◌^◌, ℕ, List, [], map, length, Option, Some, None, Result, Ok, Err}
use Rattle.std.specs.Global.{Vec}
use Rattle.std.specs.List.{flat_map}
use Rattle.ped_tree.specs.Tree.{ExprTree, CondTree, DeclTree, Integer, Dimension}
use Rattle.ped_tree.specs.Numbering.{statements_count}
use Rattle.ped_tree.specs.Views.{cond_tree}
use Rattle.ped_tree.specs.Grammar.Refusal.{Finding, first_of}
use Rattle.ped_tree.specs.Grammar.RefusalViews.{finding_of}
use Rattle.ped_tree.specs.declared.conditions.Cond.{Cond}
use Rattle.ped_tree.specs.declared.grammar.refusals.Refusal.{Refusal}
use Rattle.ped_valid.specs.ped_symbols.specs.ped_refs.specs.References.{references}
use Rattle.ped_valid.specs.ped_symbols.specs.Uses.{type_uses, dimension_uses}
use Rattle.ped_valid.specs.ped_symbols.specs.Declarations.{is_dimensioning, names_with}
use Rattle.ped_valid.specs.ped_symbols.specs.Kinds.{Table, table_of}
use Rattle.ped_valid.specs.ped_symbols.specs.NameRefusals.{name_refusals}
use Rattle.ped_units.specs.Units.{ProgramUnit}
use Rattle.ped_units.specs.Refusals.{for_names, lines_for_names, units_name_refusals, and_zeros, condition_of}
use Rattle.ped_units.specs.Verdicts.{found_in_text}
use Rattle.ped_units.specs.Views.{unit_finding_of}
use Rattle.ped_units.specs.declared.refusals.UnitRefusal.{UnitRefusal}
use Rattle.ped_units.specs.declared.refusals.UnitRefusal.TheVariants.{At, NoMemory}

-- the names that a declaration gives dimensions (ANSI X3.9-1978, section 5.1)
abbrev pub dimensioned_in : DeclTree → List (List ℕ)
dimensioned_in (Integer ds) = names_with is_dimensioning (flat_map type_uses ds)
dimensioned_in (Dimension ds) = names_with is_dimensioning (flat_map dimension_uses ds)
dimensioned_in d = []

-- a unit has few statements and few references, as each that is read
pub record HasFew (u : ProgramUnit) : Type 0 where
  pub statements : statements_count (for_names u).body < 2 ^ 32
  pub references : length (references (for_names u)) < 2 ^ 32

-- the names of a unit are right, and this is what they stand for; or this is the first of their refusals
abbrev pub JudgesNames : ProgramUnit → Result Table Refusal → Type 0
JudgesNames u (Ok table) = (name_refusals (lines_for_names u) (for_names u) ≡ []) × (table ≡ table_of (for_names u))
JudgesNames u (Err r) = first_of (name_refusals (lines_for_names u) (for_names u)) ≡ Some (finding_of r)

-- what the names of units stand for
abbrev pub AreTables : List ProgramUnit → List Table → Type 0
AreTables us tables = tables ≡ map (λ u. table_of (for_names u)) us

-- the names of units are right, and this is what they stand for
pub record HaveTables (us : List ProgramUnit) (tables : List Table) : Type 0 where
  pub right : units_name_refusals us ≡ []
  pub are : AreTables us tables

-- the same of all units
abbrev pub JudgesAllNames : List ProgramUnit → Result (List Table) Refusal → Type 0
JudgesAllNames us (Ok tables) = HaveTables us tables
JudgesAllNames us (Err r) = first_of (units_name_refusals us) ≡ Some (finding_of r)

-- the refusal is this one of texts
abbrev pub IsFound : Finding → UnitRefusal → Type 0
IsFound f NoMemory = ⊥
IsFound f (At g) = unit_finding_of g ≡ found_in_text f

-- the first of the refusals of the names of units, or out of memory
abbrev pub IsFirstNameRefusal : List ProgramUnit → UnitRefusal → Type 0
IsFirstNameRefusal us NoMemory = Unit {0}
IsFirstNameRefusal us (At f) = (r : Refusal) × (first_of (units_name_refusals us) ≡ Some (finding_of r)) × IsFound (finding_of r) (At f)

-- a condition, where there is one
abbrev pub cond_view : Option Cond → Option CondTree
cond_view None = None
cond_view (Some c) = Some (cond_tree c)

-- a condition that goes on with expressions, or begins with them
abbrev pub goes_on : Option CondTree → List ExprTree → CondTree
goes_on None es = condition_of es
goes_on (Some c) es = and_zeros c es

-- the tables, or the refusal
abbrev pub tables_view : Result (Vec Table) Refusal → Result (List Table) Refusal
tables_view (Ok tables) = Ok tables.items
tables_view (Err r) = Err r
