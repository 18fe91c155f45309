-- Statements of files of program units as they are written, without blanks: CALL, also after a logical IF, SUBROUTINE and RETURN (ANSI X3.9-1978, sections 11.5, 15.6 to 15.8). A form of the profile comes first: CALL=1 is an assignment.
use Rattle.std.specs.Prelude.{◌≡◌, ℕ, List, [], ◌∷◌, ◌++◌, codes, IsTrue}
use Rattle.std.specs.List.{list_all}
use Rattle.ped_tree.specs.Tree.{ExprTrees, no_exprs, CondTree}
use Rattle.ped_tree.specs.Grammar.Words.{is_name}
use Rattle.ped_tree.specs.Grammar.ExpressionForms.{ExprsForm, exprs_form_text, exprs_form_trees}
use Rattle.ped_tree.specs.Grammar.ConditionForms.{CondForm, cond_form_text, cond_form_tree}
use Rattle.ped_tree.specs.Grammar.Items.{Reading, says, outside_profile, no_form}
use Rattle.ped_tree.specs.Grammar.StatementForms.{names_form_text, ReadsItem}
use Rattle.ped_tree.specs.Grammar.Reading.{HasNoForm, IsReading}

-- a CALL: the subroutine's name and the arguments (ANSI X3.9-1978, section 15.6.2)
pub record Called : Type 0 where
  pub name : List ℕ
  pub arguments : ExprTrees

-- what a statement is: one of the profile, or none; a CALL; a logical IF with a CALL; SUBROUTINE with the subroutine's name and the dummy arguments; RETURN (ANSI X3.9-1978, sections 11.5, 15.6 to 15.8)
pub data UnitItem : Type 0 where
  plain : Reading → UnitItem
  calls : Called → UnitItem
  calls_if : CondTree → Called → UnitItem
  begins_unit : List ℕ → List (List ℕ) → UnitItem
  returns : UnitItem

-- the arguments of a CALL as they are written: none, or one or more in parentheses (ANSI X3.9-1978, section 15.6.2)
pub data ArgumentsForm : Type 0 where
  no_arguments : ArgumentsForm
  some_arguments : ExprsForm → ArgumentsForm

-- a CALL as it is written: any name may be a subroutine's, that of an intrinsic function too (ANSI X3.9-1978, section 15.6.2; this project)
pub data CallForm : Type 0 where
  a_call : (x : List ℕ) → IsTrue (is_name x) → ArgumentsForm → CallForm

-- a statement of a file of program units that the profile doesn't have (ANSI X3.9-1978, sections 11.5, 15.6 to 15.8)
pub data UnitForm : Type 0 where
  call : CallForm → UnitForm
  if_call : CondForm → CallForm → UnitForm
  subroutine : (x : List ℕ) → IsTrue (is_name x) → (formals : List (List ℕ)) → IsTrue (list_all is_name formals) → UnitForm
  a_return : UnitForm

-- the text of the arguments (ANSI X3.9-1978, section 15.6.2)
abbrev pub arguments_form_text : ArgumentsForm → List ℕ
arguments_form_text no_arguments = []
arguments_form_text (some_arguments es) = codes "(" ++ exprs_form_text es ++ codes ")"

-- the text of a CALL (ANSI X3.9-1978, section 15.6.2)
abbrev pub call_form_text : CallForm → List ℕ
call_form_text (a_call x is a) = codes "CALL" ++ x ++ arguments_form_text a

-- the text of the dummy arguments: none, or names in parentheses with a comma between two (ANSI X3.9-1978, section 15.6.1)
abbrev pub formals_form_text : List (List ℕ) → List ℕ
formals_form_text [] = []
formals_form_text (f ∷ fs) = codes "(" ++ names_form_text (f ∷ fs) ++ codes ")"

-- the text of the statement (ANSI X3.9-1978, sections 11.5, 15.6 to 15.8)
abbrev pub unit_form_text : UnitForm → List ℕ
unit_form_text (call c) = call_form_text c
unit_form_text (if_call e c) = codes "IF(" ++ cond_form_text e ++ codes ")" ++ call_form_text c
unit_form_text (subroutine x is formals are) = codes "SUBROUTINE" ++ x ++ formals_form_text formals
unit_form_text a_return = codes "RETURN"

-- the trees of the arguments (ANSI X3.9-1978, section 15.6.2)
abbrev pub arguments_form_trees : ArgumentsForm → ExprTrees
arguments_form_trees no_arguments = no_exprs
arguments_form_trees (some_arguments es) = exprs_form_trees es

-- what a CALL calls (ANSI X3.9-1978, section 15.6.2)
abbrev pub call_form_called : CallForm → Called
call_form_called (a_call x is a) = record { name = x; arguments = arguments_form_trees a }

-- what the statement is (ANSI X3.9-1978, sections 11.5, 15.6 to 15.8)
abbrev pub unit_form_item : UnitForm → UnitItem
unit_form_item (call c) = calls (call_form_called c)
unit_form_item (if_call e c) = calls_if (cond_form_tree e) (call_form_called c)
unit_form_item (subroutine x is formals are) = begins_unit x formals
unit_form_item a_return = returns

-- the text has a form of CALL, SUBROUTINE or RETURN, and is this by it
abbrev pub ReadsUnitItem : List ℕ → UnitItem → Type 0
ReadsUnitItem text i = (f : UnitForm) × (unit_form_text f ≡ text) × (unit_form_item f ≡ i)

-- the text has no form of CALL, SUBROUTINE or RETURN
abbrev pub HasNoUnitForm : List ℕ → Type 0
HasNoUnitForm text = (i : UnitItem) → ReadsUnitItem text i → ⊥

-- what the text of a statement is: a form of the profile, which counts first; else CALL, SUBROUTINE or RETURN; else a statement that is left out, or no form at all
abbrev pub IsUnitItem : List ℕ → UnitItem → Type 0
IsUnitItem text (plain (says i)) = ReadsItem text i
IsUnitItem text (plain outside_profile) = IsReading text outside_profile × HasNoUnitForm text
IsUnitItem text (plain no_form) = IsReading text no_form × HasNoUnitForm text
IsUnitItem text (calls c) = HasNoForm text × ReadsUnitItem text (calls c)
IsUnitItem text (calls_if e c) = HasNoForm text × ReadsUnitItem text (calls_if e c)
IsUnitItem text (begins_unit x formals) = HasNoForm text × ReadsUnitItem text (begins_unit x formals)
IsUnitItem text returns = HasNoForm text × ReadsUnitItem text returns

-- no text of a statement is two things
abbrev pub OneUnitItem : Type 0
OneUnitItem = (text : List ℕ) (i j : UnitItem) → IsUnitItem text i → IsUnitItem text j → i ≡ j
