-- What goes along while CALLs are expanded, as the code keeps it. Only contracts of private functions use it.
use Rattle.std.specs.Prelude.{◌≡◌, ◌≤◌, ◌<◌, ◌+◌, ◌-◌, ◌⊎◌, ℕ, List, [], ◌∷◌, map, drop, length, slice_get, false, Some, None}
use Rattle.ped_tree.specs.Tree.{ExprTree, StmtTree, StmtTrees, no_stmts}
use Rattle.ped_tree.specs.Views.{pack_exprs}
use Rattle.ped_tree.specs.Numbering.{statements_count}
use Rattle.ped_tree.specs.Grammar.Fits.{Surroundings, stmt_fits, stmts_fit}
use Rattle.ped_tree.specs.Grammar.LimitNumbers.{most_statements}
use Rattle.ped_links.specs.ped_symbols.specs.Kinds.{table_of}
use Rattle.ped_links.specs.ped_units.specs.Units.{ProgramUnit, ProgramUnits, unit_of}
use Rattle.ped_links.specs.ped_units.specs.Forms.{Called}
use Rattle.ped_links.specs.ped_units.specs.Refusals.{for_names}
use Rattle.ped_links.specs.ped_units.specs.Expanding as plain
use Rattle.ped_links.specs.ped_units.specs.Expanding.{Meanings, Expanded, AllExpanded, expanded_in, all_expanded_in, call_expanded, bound_expanded, bound_arguments, behind_stmts}
use Rattle.ped_calls.specs.Binding.{local_meanings}
use Rattle.ped_calls.specs.Giving.{given_of, HasNext}
use Rattle.ped_calls.specs.Meaning.{meanings_of}
use Rattle.ped_links.specs.ped_units.specs.Naming.{AreTables}
use Rattle.ped_links.specs.Numbers.{AreNumbers}
use Rattle.ped_links.specs.ped_units.specs.Views.{program_unit_of}
use Rattle.ped_calls.specs.declared.expanding.Course.{Course}
use Rattle.ped_calls.specs.declared.expanding.File.{File}
use Rattle.ped_calls.specs.declared.expanding.Subroutine.{Subroutine}
use Rattle.ped_calls.specs.declared.expanding.Within.{Within}
use Rattle.ped_calls.specs.declared.expanding.Stopped.{Stopped}
use Rattle.ped_calls.specs.declared.expanding.Stopped.TheVariants.{Past, OutOfMemory}
use Rattle.ped_links.specs.ped_units.specs.declared.units.ProgramUnit as code

-- the first of units; one without anything where there is none
abbrev pub first_unit : List ProgramUnit → ProgramUnit
first_unit [] = record { name = []; formals = []; line = 0; tree = record { decls = []; body = no_stmts }; lines = [] }
first_unit (u ∷ us) = u

-- the units of a file, the main program first
abbrev pub units_of : List code.ProgramUnit → ProgramUnits
units_of us = record { main = first_unit (map program_unit_of us); others = drop 1 (map program_unit_of us) }

-- the tables and the numbers are those of the units, of which there is one at least
pub record KnowsFile (f : File) : Type 0 where
  pub some : 0 < length f.units.now
  pub tables : AreTables (map program_unit_of f.units.now) f.tables.now
  pub numbers : AreNumbers (map program_unit_of f.units.now) f.numbers.now.entries

-- there is no more room than a program has, and the next new name is known
pub record IsUnderWay (c : Course) : Type 0 where
  pub few : c.room ≤ most_statements
  pub next : HasNext c.given

-- the first number of statements is expanded to the second number, for which there was room, and this is given then
pub record GoesOn (old new : Course) (before after : ℕ) (g : plain.Given) : Type 0 where
  pub given : given_of new.given ≡ g
  pub room : new.room + after ≡ old.room + before
  pub underway : IsUnderWay new

-- the first number of statements is expanded to more than there is room for, or too many blocks are nested in one another
pub data Passes (room before after : ℕ) (deep : Type 0) : Type 0 where
  too_many : room + before < after → Passes room before after deep
  too_deep : deep → Passes room before after deep

-- a statement fits nowhere where this many blocks are around it, or more
abbrev pub IsTooDeep : ℕ → StmtTree → Type 0
IsTooDeep depth s = (p : Surroundings) → depth ≤ p.depth → stmt_fits p s ≡ false

-- the same of statements
abbrev pub AreTooDeep : ℕ → StmtTrees → Type 0
AreTooDeep depth ss = (p : Surroundings) → depth ≤ p.depth → stmts_fit p ss ≡ false

-- limits are passed so, if it was not memory that ran out
abbrev pub StopsAt : Stopped → Type 0 → Type 0
StopsAt Past passes = passes
StopsAt OutOfMemory passes = Unit {0}

-- a statement expanded there
abbrev pub expanded_at : File → Within → StmtTree → plain.Given → Expanded plain.Given
expanded_at f w s g = expanded_in (meanings_of w.meanings.now) (call_expanded w.deeper (units_of f.units.now) w.constants.now) s g

-- statements expanded there
abbrev pub all_expanded_at : File → Within → StmtTrees → plain.Given → AllExpanded plain.Given
all_expanded_at f w ss g = all_expanded_in (meanings_of w.meanings.now) (call_expanded w.deeper (units_of f.units.now) w.constants.now) ss g

-- a CALL expanded there
abbrev pub called_at : File → Within → List ℕ → List ExprTree → plain.Given → Expanded plain.Given
called_at f w x arguments g = call_expanded w.deeper (units_of f.units.now) w.constants.now (record { name = x; arguments = pack_exprs arguments }) g

-- the block of a CALL of a subroutine there
abbrev pub block_at : File → Within → Subroutine → List ℕ → List ExprTree → plain.Given → Expanded plain.Given
block_at f w s x arguments g =
    bound_expanded (call_expanded (w.deeper - 1) (units_of f.units.now) []) (program_unit_of s.unit.now) (record { name = x; arguments = pack_exprs arguments })
    (bound_arguments w.constants.now arguments g)

-- the statements of a subroutine expanded there, where these stand for its dummy arguments
abbrev pub inside_at : File → Within → Subroutine → Meanings → plain.Given → AllExpanded plain.Given
inside_at f w s formals g =
    all_expanded_in (local_meanings (program_unit_of s.unit.now) formals g).meanings (call_expanded (w.deeper - 1) (units_of f.units.now) [])
    (program_unit_of s.unit.now).tree.body (local_meanings (program_unit_of s.unit.now) formals g).given

-- CALLs can't be nested deeper there, or no subroutine has the name
abbrev pub IsMissing : File → Within → List ℕ → Type 0
IsMissing f w x = (w.deeper ≡ 0) ⊎ (unit_of (units_of f.units.now) x ≡ None)

-- the subroutine has the name, and CALLs may be nested deeper there
pub record IsFound (f : File) (w : Within) (x : List ℕ) (s : Subroutine) : Type 0 where
  pub deeper : 0 < w.deeper
  pub unit : unit_of (units_of f.units.now) x ≡ Some (program_unit_of s.unit.now)
  pub table : s.table.now ≡ table_of (for_names (program_unit_of s.unit.now))
  pub number : ℕ
  pub is_number : slice_get f.units.now number ≡ Some s.unit.now

-- these statements, expanded from here on, together with what was expanded before, give what all statements give from the start, and there was room for it so far
pub record ExpandsOn (m : Meanings) (f : Called → plain.Given → Expanded plain.Given) (all : StmtTrees) (old : Course) (left : StmtTrees) (done : List StmtTree) (new : Course) : Type 0 where
  pub statements : behind_stmts done (all_expanded_in m f left (given_of new.given)).statements ≡ (all_expanded_in m f all (given_of old.given)).statements
  pub state : (all_expanded_in m f left (given_of new.given)).state ≡ (all_expanded_in m f all (given_of old.given)).state
  pub room : new.room + statements_count (all_expanded_in m f all (given_of old.given)).statements + statements_count left ≡ old.room + statements_count all + statements_count (all_expanded_in m f left (given_of new.given)).statements
  pub underway : IsUnderWay new
