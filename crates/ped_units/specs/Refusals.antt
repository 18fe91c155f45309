-- Which of the refusals 7 to 19 a file of program units meets, unit by unit. Each unit is looked at, whatever is refused in another (ANSI X3.9-1978, sections 3.5, 8, 15.6 to 15.8; this project).
use Rattle.std.specs.Prelude.{◌≡◌, ℕ, List, [], ◌∷◌, ◌++◌, length, codes, Option, Some, None, Bool, true, false, ◌||◌, nat_lt, if◌then◌else◌}
use Rattle.std.specs.List.{flat_map}
use Rattle.ped_base.specs.Lists.{has_some, is_among}
use Rattle.ped_tree.specs.declared.conditions.Relation.TheVariants.{Eq}
use Rattle.ped_tree.specs.Tree.{ExprTree, Int, Var, CondTree, Rel, And, StmtTree, If, no_stmts, DeclTree, Program, Save, ProgramTree}
use Rattle.ped_tree.specs.NamesIn.{first_occurrences}
use Rattle.ped_tree.specs.Accesses.{listed}
use Rattle.ped_tree.specs.Grammar.LimitNumbers.{most_characters}
use Rattle.ped_tree.specs.Grammar.Literals.{have_large_literal}
use Rattle.ped_tree.specs.Grammar.Refusal.{Finding, Syntax, StopPlace, Limit, refused_if, first_of}
use Rattle.ped_tree.specs.Grammar.Statement.{Statement, Statements}
use Rattle.ped_tree.specs.Grammar.Grouping.{statements_of}
use Rattle.ped_tree.specs.Grammar.Items.{Item, declares, saves_all}
use Rattle.ped_tree.specs.Grammar.ProgramRefusals.{where_it_says, stops, program_refusals}
use Rattle.ped_valid.specs.ped_symbols.specs.Declarations.{declared_in, is_dimensioning, names_with}
use Rattle.ped_valid.specs.ped_symbols.specs.NameRefusals.{name_refusals}
use Rattle.ped_units.specs.Forms.{Called, UnitItem, plain, calls, calls_if, begins_unit, returns}
use Rattle.ped_units.specs.Units.{ProgramUnit, ProgramUnits, all_units, all_with_calls, called_text}
use Rattle.ped_units.specs.Reading.{UnitEntry, IsCutIntoUnits, Segment, segments_of, is_subroutine, seen_entries, AreUnitsOf}

-- the CALL that a statement is, or that follows a logical IF (ANSI X3.9-1978, sections 11.5, 15.6.2)
abbrev pub call_in : UnitItem → Option Called
call_in (plain r) = None
call_in (calls c) = Some c
call_in (calls_if e c) = Some c
call_in (begins_unit x formals) = None
call_in returns = None

-- the printed text of a CALL (ANSI X3.9-1978, section 15.6.2)
abbrev pub call_text : Called → List ℕ
call_text c = codes "CALL " ++ called_text c

-- a CALL with a literal above 2147483647 in its arguments, or with too many characters (this project)
abbrev pub call_passes_limit : Option Called → Bool
call_passes_limit None = false
call_passes_limit (Some c) = have_large_literal c.arguments || nat_lt most_characters (length (call_text c))

-- PROGRAM and SAVE with a list (ANSI X3.9-1978, sections 8.9, 14.1)
abbrev pub is_main_declaration : DeclTree → Bool
is_main_declaration (Program x) = true
is_main_declaration (Save names) = true
is_main_declaration d = false

-- a statement that may be only in a main program: PROGRAM and SAVE (this project)
abbrev pub is_of_main : Item → Bool
is_of_main (declares d) = is_main_declaration d
is_of_main saves_all = true
is_of_main i = false

-- the test of what a statement says, false of one that the profile doesn't have (plain words)
abbrev pub where_plain : (Item → Bool) → UnitItem → Bool
where_plain test (plain r) = where_it_says test r
where_plain test i = false

-- the refusals at the directives of a statement, none of which may occur there (this project)
abbrev pub at_all_directives : Statement → List Finding
at_all_directives s = flat_map (λ d. refused_if true Syntax d.line) s.directives

-- what is refused at a statement of a subroutine in addition to what is refused in a main program: PROGRAM, SAVE, directives, STOP (this project)
abbrev pub at_subroutine_entry : UnitEntry → List Finding
at_subroutine_entry e =
    at_all_directives e.statement
    ++ refused_if (where_plain is_of_main e.item) Syntax e.statement.line
    ++ refused_if (where_plain stops e.item) StopPlace e.statement.line

-- what is refused at a CALL for its arguments (this project)
abbrev pub at_call : UnitEntry → List Finding
at_call e = refused_if (call_passes_limit (call_in e.item)) Limit e.statement.line

-- what is refused at the directives of a SUBROUTINE statement (this project)
abbrev pub at_head : Option UnitEntry → List Finding
at_head None = []
at_head (Some e) = at_all_directives e.statement

-- what is refused in a unit at its CALLs, and in a subroutine at what it may not have (this project)
abbrev pub other_refusals : Segment → List Finding
other_refusals s = flat_map at_call s.entries ++ (if is_subroutine s.head then at_head s.head ++ flat_map at_subroutine_entry s.entries else [])

-- what is refused in a unit, whose text ends so: that, and what the statements of a program are refused for with something plain for each CALL (ANSI X3.9-1978, sections 3.5, 11, 15.6 to 15.8; this project)
abbrev pub segment_refusals : Statements → Segment → List Finding
segment_refusals all s = other_refusals s ++ program_refusals all (seen_entries s)

-- the text without what follows its last statement: this is how a unit ends that is followed by another (this project)
abbrev pub before_another : Statements → Statements
before_another all = record all { comments = []; directives = [] }

-- what is refused in units, one after another (this project)
abbrev pub segments_refusals : Statements → List Segment → List Finding
segments_refusals all [] = []
segments_refusals all (s ∷ []) = segment_refusals all s
segments_refusals all (s ∷ t ∷ rest) = segment_refusals (before_another all) s ++ segments_refusals all (t ∷ rest)

-- the first refusal among those of the statements
abbrev pub first_segments_refusal : List ℕ → List UnitEntry → Option Finding
first_segments_refusal text entries = first_of (segments_refusals (statements_of text) (segments_of entries))

-- the text reads as these units: nothing is refused at its lines and at its statements, and these nest to the units
pub record ReadsUnits (text : List ℕ) (us : ProgramUnits) : Type 0 where
  pub entries : List UnitEntry
  pub cut : IsCutIntoUnits text entries
  pub accepted : first_segments_refusal text entries ≡ None
  pub are : AreUnitsOf (segments_of entries) (all_units us)

-- the names that declarations give dimensions (ANSI X3.9-1978, section 5.1)
abbrev pub dimensioned : List DeclTree → List (List ℕ)
dimensioned decls = names_with is_dimensioning (declared_in decls).uses

-- the argument is one of these names of arrays (ANSI X3.9-1978, sections 5.5, 15.9.3.3)
abbrev pub is_whole_array : List (List ℕ) → ExprTree → Bool
is_whole_array arrays (Var x) = is_among x arrays
is_whole_array arrays e = false

-- the arguments that are no names of arrays
abbrev pub plain_arguments : List (List ℕ) → List ExprTree → List ExprTree
plain_arguments arrays [] = []
plain_arguments arrays (a ∷ rest) = if is_whole_array arrays a then plain_arguments arrays rest else a ∷ plain_arguments arrays rest

-- the relation of an expression to 0
abbrev pub is_zero : ExprTree → CondTree
is_zero a = Rel Eq a (Int 0)

-- a condition and the relations of these expressions to 0
abbrev pub and_zeros : CondTree → List ExprTree → CondTree
and_zeros c [] = c
and_zeros c (a ∷ rest) = and_zeros (And c (is_zero a)) rest

-- a condition with exactly these expressions, and literals
abbrev pub condition_of : List ExprTree → CondTree
condition_of [] = is_zero (Int 0)
condition_of (a ∷ rest) = and_zeros (is_zero a) rest

-- a statement that uses the names of a CALL's arguments, but for arrays that are arguments as a whole, which need no subscripts (ANSI X3.9-1978, section 5.5; this project)
abbrev pub using_arguments : List (List ℕ) → Called → StmtTree
using_arguments arrays c = If (condition_of (plain_arguments arrays (listed c.arguments))) no_stmts no_stmts

-- a SAVE of the dummy arguments, where there are some: so a dummy argument is a variable with any number of dimensions (this project)
abbrev pub save_of_formals : List (List ℕ) → List DeclTree
save_of_formals formals = if has_some formals then Save (first_occurrences [] formals) ∷ [] else []

-- a unit as the program that its names are looked at in: its dummy arguments come first, and something plain stands for each CALL (this project)
abbrev pub for_names : ProgramUnit → ProgramTree
for_names u = record {
  decls = save_of_formals u.formals ++ u.tree.decls;
  body = all_with_calls (using_arguments (dimensioned u.tree.decls)) u.tree.body;
}

-- the lines of that program: that of SUBROUTINE for the dummy arguments, where there are some (this project)
abbrev pub lines_for_names : ProgramUnit → List ℕ
lines_for_names u = if has_some u.formals then u.line ∷ u.lines else u.lines

-- what is refused for the names of units, one after another (ANSI X3.9-1978, sections 4.1.2, 5, 8, 15.9; this project)
abbrev pub units_name_refusals : List ProgramUnit → List Finding
units_name_refusals us = flat_map (λ u. name_refusals (lines_for_names u) (for_names u)) us
