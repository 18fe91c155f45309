-- What a file of program units reads as: its main program and its subroutines, each nested from its own statements (ANSI X3.9-1978, sections 2.4, 3.5, 15.6 to 15.8; this project).
use Rattle.std.specs.Prelude.{◌≡◌, ℕ, List, [], ◌∷◌, Option, Some, None, Bool, true, false, ◌&&◌, ◌||◌, IsTrue, if◌then◌else◌}
use Rattle.ped_tree.specs.Tree.{ExprTree, Int, Var, Sub, StmtTree, Assign, no_stmts, more_stmts}
use Rattle.ped_tree.specs.NamesIn.{exprs_names}
use Rattle.ped_tree.specs.Grammar.Statement.{Statement}
use Rattle.ped_tree.specs.Grammar.Grouping.{statements_of}
use Rattle.ped_tree.specs.Grammar.LineRefusals.{first_line_refusal}
use Rattle.ped_tree.specs.Grammar.Items.{Reading, says, outside_profile, no_form, does, continues, logical_if, Entry}
use Rattle.ped_tree.specs.Grammar.Occurrences.{is_end_entry, saved_names}
use Rattle.ped_tree.specs.Grammar.BlockForms.{body_keeps_labels}
use Rattle.ped_tree.specs.Grammar.ProgramForms.{ProgramForm, program_entries, program_form_tree, first_lines}
use Rattle.ped_units.specs.Forms.{Called, UnitItem, plain, calls, calls_if, begins_unit, returns, IsUnitItem}
use Rattle.ped_units.specs.Units.{ProgramUnit, call_statement}

-- a statement of a file with what it is
pub record UnitEntry : Type 0 where
  pub statement : Statement
  pub item : UnitItem

-- the statements with what they are, one by one
abbrev pub AreUnitEntries : List Statement → List UnitEntry → Type 0
AreUnitEntries [] [] = Unit {0}
AreUnitEntries (s ∷ ss) (e ∷ es) = (e.statement ≡ s) × IsUnitItem s.text e.item × AreUnitEntries ss es
AreUnitEntries [] (e ∷ es) = ⊥
AreUnitEntries (s ∷ ss) [] = ⊥

-- no line is refused, and these are the statements of the text
pub record IsCutIntoUnits (text : List ℕ) (entries : List UnitEntry) : Type 0 where
  pub accepted : first_line_refusal text ≡ None
  pub items : AreUnitEntries (statements_of text).statements entries

-- END (ANSI X3.9-1978, section 11.14)
abbrev pub ends : UnitItem → Bool
ends (plain r) = is_end_entry r
ends (calls c) = false
ends (calls_if e c) = false
ends (begins_unit x formals) = false
ends returns = false

-- SUBROUTINE (ANSI X3.9-1978, section 15.6.1)
abbrev pub begins : UnitItem → Bool
begins (plain r) = false
begins (calls c) = false
begins (calls_if e c) = false
begins (begins_unit x formals) = true
begins returns = false

-- the statements of one program unit: its SUBROUTINE statement, none of the main program, and all others (ANSI X3.9-1978, section 2.4)
pub record Segment : Type 0 where
  pub head : Option UnitEntry
  pub entries : List UnitEntry

-- the statements before the first SUBROUTINE that follows an END, where an END has come already or not: a unit goes on up to there (this project)
abbrev pub own_entries : Bool → List UnitEntry → List UnitEntry
own_entries ended [] = []
own_entries ended (e ∷ es) = if ended && begins e.item then [] else e ∷ own_entries (ended || ends e.item) es

-- the units from the first SUBROUTINE on that follows an END, where an END has come already or not (this project)
abbrev pub further_segments : Bool → List UnitEntry → List Segment
further_segments ended [] = []
further_segments ended (e ∷ es) =
    if ended && begins e.item then record { head = Some e; entries = own_entries false es } ∷ further_segments false es
    else further_segments (ended || ends e.item) es

-- the units of a file: the main program, and a subroutine from each SUBROUTINE on that follows the END of the unit before (ANSI X3.9-1978, sections 2.4, 3.5; this project)
abbrev pub segments_of : List UnitEntry → List Segment
segments_of entries = record { head = None; entries = own_entries false entries } ∷ further_segments false entries

-- the next statement is END (ANSI X3.9-1978, section 11.14)
abbrev pub is_end_next : List UnitEntry → Bool
is_end_next [] = false
is_end_next (e ∷ es) = ends e.item

-- a RETURN as a statement of the profile: directly before END of a subroutine it does nothing, elsewhere it is left out (ANSI X3.9-1978, section 15.8; this project)
abbrev pub return_reading : Bool → Bool → Reading
return_reading in_subroutine before_end = if in_subroutine && before_end then says continues else outside_profile

-- what a statement is as one of the profile, where a statement stands for each CALL; by whether it is one of a subroutine, and whether END is next. SUBROUTINE has no form within a unit (this project)
abbrev pub as_reading : (Called → StmtTree) → Bool → Bool → UnitItem → Reading
as_reading stands in_subroutine before_end (plain r) = r
as_reading stands in_subroutine before_end (calls c) = says (does (stands c))
as_reading stands in_subroutine before_end (calls_if e c) = says (logical_if e (more_stmts (stands c) no_stmts))
as_reading stands in_subroutine before_end (begins_unit x formals) = no_form
as_reading stands in_subroutine before_end returns = return_reading in_subroutine before_end

-- the statements of a unit as statements of the profile, where a statement stands for each CALL
abbrev pub as_entries : (Called → StmtTree) → Bool → List UnitEntry → List Entry
as_entries stands in_subroutine [] = []
as_entries stands in_subroutine (e ∷ es) =
    record { statement = e.statement; reading = as_reading stands in_subroutine (is_end_next es) e.item } ∷ as_entries stands in_subroutine es

-- a unit that begins with a SUBROUTINE statement is a subroutine (ANSI X3.9-1978, section 15.6.1)
abbrev pub is_subroutine : Option UnitEntry → Bool
is_subroutine None = false
is_subroutine (Some head) = true

-- an expression minus each of these names
abbrev pub minus_names : ExprTree → List (List ℕ) → ExprTree
minus_names e [] = e
minus_names e (x ∷ xs) = minus_names (Sub e (Var x)) xs

-- the difference of these names, the literal 0 where there is none
abbrev pub difference_of : List (List ℕ) → ExprTree
difference_of [] = Int 0
difference_of (x ∷ xs) = minus_names (Var x) xs

-- a statement with the names of a CALL's arguments, in their order, and as many references: an assignment to a literal, which assigns nothing and is shorter than the CALL. It stands for the CALL where statements are refused, since it may occur wherever a CALL may (this project)
abbrev pub stand_in : Called → StmtTree
stand_in c = Assign (Int 0) (difference_of (exprs_names c.arguments))

-- the statements of a unit as they are looked at for refusals: something plain stands for each CALL, and has its names and its references (this project)
abbrev pub seen_entries : Segment → List Entry
seen_entries s = as_entries stand_in (is_subroutine s.head) s.entries

-- the statements of a unit as they nest: each CALL has its form of trees (this project)
abbrev pub kept_entries : Segment → List Entry
kept_entries s = as_entries call_statement (is_subroutine s.head) s.entries

-- the name that a SUBROUTINE statement gives; none of a main program (ANSI X3.9-1978, section 15.6.1)
abbrev pub name_in : UnitItem → List ℕ
name_in (begins_unit x formals) = x
name_in i = []

-- the dummy arguments of a SUBROUTINE statement (ANSI X3.9-1978, section 15.6.1)
abbrev pub formals_in : UnitItem → List (List ℕ)
formals_in (begins_unit x formals) = formals
formals_in i = []

-- the unit is headed so: by its SUBROUTINE statement, or it is the main program, which has no name (ANSI X3.9-1978, sections 14.1, 15.6.1)
abbrev pub IsHeaded : Option UnitEntry → ProgramUnit → Type 0
IsHeaded None u = (u.name ≡ []) × (u.formals ≡ []) × (u.line ≡ 0)
IsHeaded (Some e) u = (u.name ≡ name_in e.item) × (u.formals ≡ formals_in e.item) × (u.line ≡ e.statement.line)

-- the statements are those of this unit: they nest to its tree, where SAVE without a list is read as in a program with something plain for each CALL, and begin on its lines (ANSI X3.9-1978, sections 3.5, 8.9; this project)
pub record IsUnitOf (s : Segment) (u : ProgramUnit) : Type 0 where
  pub headed : IsHeaded s.head u
  pub form : ProgramForm
  pub written : program_entries form ≡ kept_entries s
  pub labelled : IsTrue (body_keeps_labels [] form.body)
  pub nested : program_form_tree (saved_names (seen_entries s)) form ≡ u.tree
  pub counted : first_lines (saved_names (seen_entries s)) (seen_entries s) ≡ u.lines

-- the units, one by one
abbrev pub AreUnitsOf : List Segment → List ProgramUnit → Type 0
AreUnitsOf [] [] = Unit {0}
AreUnitsOf (s ∷ ss) (u ∷ us) = IsUnitOf s u × AreUnitsOf ss us
AreUnitsOf [] (u ∷ us) = ⊥
AreUnitsOf (s ∷ ss) [] = ⊥
