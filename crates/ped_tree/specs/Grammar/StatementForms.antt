-- Statements as they are written, without blanks: a constructor for each form, with its text and with what it says (ANSI X3.9-1978, sections 8, 10 to 12, 14.1).
use Rattle.std.specs.Prelude.{◌≡◌, ℕ, List, [], ◌∷◌, ◌++◌, map, length, codes, Bool, not, ◌&&◌, ◌==◌, nat_le, Option, Some, None, IsTrue, if◌then◌else◌}
use Rattle.std.specs.List.{list_all, flat_map, join_by}
use Rattle.ped_tree.specs.Tree.{ExprTree, Int, ItemTree, Value, Text, Head, StmtTrees, Assign, Print, Read, Stop, no_stmts, more_stmts, BoundTree, DeclaratorTree, Program, Implicit, Integer, Dimension, Parameter, Save}
use Rattle.ped_base.specs.Lists.{has_some}
use Rattle.ped_tree.specs.Printing.{constant_text}
use Rattle.ped_tree.specs.Grammar.Words.{is_name, is_numeral, numeral_value}
use Rattle.ped_tree.specs.Grammar.ExpressionForms.{ExprForm, expr_form_text, expr_form_tree, ReferenceForm, reference_form_text, reference_form_tree}
use Rattle.ped_tree.specs.Grammar.ConditionForms.{CondForm, cond_form_text, cond_form_tree}
use Rattle.ped_tree.specs.Grammar.Items.{Item, declares, saves_all, does, continues, logical_if, block_if, else_if, else_line, end_if, begins_do, ends_do, keeps_private, ends_program}

-- one name or more (ANSI X3.9-1978, section 8.9)
abbrev pub are_names : List (List ℕ) → Bool
are_names names = has_some names && list_all is_name names

-- names with a comma between two (ANSI X3.9-1978, section 8.9)
abbrev pub names_form_text : List (List ℕ) → List ℕ
names_form_text names = join_by (λ x. x) (codes ",") names

-- the label of a DO: one to five digits, not all zero (ANSI X3.9-1978, sections 3.4, 11.10)
abbrev pub is_label : List ℕ → Bool
is_label digits = is_numeral digits && nat_le (length digits) 5 && not (numeral_value digits == 0)

-- a dimension: its upper bound, or both bounds with a colon between (ANSI X3.9-1978, section 5.1.1.1)
pub data BoundForm : Type 0 where
  upper_bound : ExprForm → BoundForm
  both_bounds : ExprForm → ExprForm → BoundForm

-- an array with one dimension or more (ANSI X3.9-1978, section 5.1.1)
pub data ArrayForm : Type 0 where
  an_array : (x : List ℕ) → IsTrue (is_name x) → BoundForm → List BoundForm → ArrayForm

-- a declared scalar or array (ANSI X3.9-1978, sections 5.1.1, 8.4)
pub data DeclaratorForm : Type 0 where
  a_scalar : (x : List ℕ) → IsTrue (is_name x) → DeclaratorForm
  of_array : ArrayForm → DeclaratorForm

-- a named constant with its value (ANSI X3.9-1978, section 8.6)
pub data ConstantForm : Type 0 where
  a_constant : (x : List ℕ) → IsTrue (is_name x) → ExprForm → ConstantForm

-- an item of a PRINT: an expression, or a character constant (ANSI X3.9-1978, section 12.8.2)
pub data ItemForm : Type 0 where
  a_value : ExprForm → ItemForm
  a_text : List ℕ → ItemForm

-- a statement that may follow a logical IF: assignment, PRINT, READ, STOP, CONTINUE (ANSI X3.9-1978, sections 10.1, 11.11, 11.12, 12.8)
pub data SimpleForm : Type 0 where
  assignment : ReferenceForm → ExprForm → SimpleForm
  print : List ItemForm → SimpleForm
  read : List ReferenceForm → SimpleForm
  stop : SimpleForm
  continue : SimpleForm

-- the label after DO, with or without a comma after it; or none (ANSI X3.9-1978, section 11.10; this project)
pub data LabelForm : Type 0 where
  no_label : LabelForm
  a_label : (digits : List ℕ) → IsTrue (is_label digits) → (comma : Bool) → LabelForm

-- the control of a DO: the variable, the initial value, the limit, the increment or none (ANSI X3.9-1978, section 11.10)
pub data ControlForm : Type 0 where
  control : (x : List ℕ) → IsTrue (is_name x) → ExprForm → ExprForm → Option ExprForm → ControlForm

-- a statement of the profile
pub data StatementForm : Type 0 where
  program : (x : List ℕ) → IsTrue (is_name x) → StatementForm
  implicit : StatementForm
  integer : DeclaratorForm → List DeclaratorForm → StatementForm
  dimension : ArrayForm → List ArrayForm → StatementForm
  parameter : ConstantForm → List ConstantForm → StatementForm
  save : (names : List (List ℕ)) → IsTrue (are_names names) → StatementForm
  save_all : StatementForm
  simple : SimpleForm → StatementForm
  if_simple : CondForm → SimpleForm → StatementForm
  if_then : CondForm → StatementForm
  else_if_then : CondForm → StatementForm
  else_alone : StatementForm
  end_of_if : StatementForm
  do_loop : (parallel : Bool) → LabelForm → ControlForm → StatementForm
  end_of_do : StatementForm
  private : (names : List (List ℕ)) → IsTrue (are_names names) → StatementForm
  end : StatementForm

-- the text of a dimension (ANSI X3.9-1978, section 5.1.1.1)
abbrev pub bound_form_text : BoundForm → List ℕ
bound_form_text (upper_bound e) = expr_form_text e
bound_form_text (both_bounds e g) = expr_form_text e ++ codes ":" ++ expr_form_text g

-- the text of an array (ANSI X3.9-1978, section 5.1.1)
abbrev pub array_form_text : ArrayForm → List ℕ
array_form_text (an_array x is b bs) = x ++ codes "(" ++ join_by bound_form_text (codes ",") (b ∷ bs) ++ codes ")"

-- the text of a declared name (ANSI X3.9-1978, sections 5.1.1, 8.4)
abbrev pub declarator_form_text : DeclaratorForm → List ℕ
declarator_form_text (a_scalar x is) = x
declarator_form_text (of_array a) = array_form_text a

-- the text of a named constant (ANSI X3.9-1978, section 8.6)
abbrev pub constant_form_text : ConstantForm → List ℕ
constant_form_text (a_constant x is e) = x ++ codes "=" ++ expr_form_text e

-- the text of an item of a PRINT (ANSI X3.9-1978, section 12.8.2)
abbrev pub item_form_text : ItemForm → List ℕ
item_form_text (a_value e) = expr_form_text e
item_form_text (a_text text) = constant_text text

-- the text of a simple statement (ANSI X3.9-1978, sections 10.1, 11.11, 11.12, 12.8)
abbrev pub simple_form_text : SimpleForm → List ℕ
simple_form_text (assignment r e) = reference_form_text r ++ codes "=" ++ expr_form_text e
simple_form_text (print items) = codes "PRINT*" ++ flat_map (λ i. codes "," ++ item_form_text i) items
simple_form_text (read items) = codes "READ*" ++ flat_map (λ r. codes "," ++ reference_form_text r) items
simple_form_text stop = codes "STOP"
simple_form_text continue = codes "CONTINUE"

-- a comma, or none (ANSI X3.9-1978, section 11.10)
abbrev pub comma_text : Bool → List ℕ
comma_text comma = if comma then codes "," else []

-- the text of the label of a DO (ANSI X3.9-1978, section 11.10)
abbrev pub label_form_text : LabelForm → List ℕ
label_form_text no_label = []
label_form_text (a_label digits is comma) = digits ++ comma_text comma

-- a further expression after a comma, or none (ANSI X3.9-1978, section 11.10)
abbrev pub further_form_text : Option ExprForm → List ℕ
further_form_text None = []
further_form_text (Some e) = codes "," ++ expr_form_text e

-- the text of the control of a DO (ANSI X3.9-1978, section 11.10)
abbrev pub control_form_text : ControlForm → List ℕ
control_form_text (control x is begin limit step) =
    x ++ codes "=" ++ expr_form_text begin ++ codes "," ++ expr_form_text limit ++ further_form_text step

-- DO or PARALLEL DO (ANSI X3.9-1978, section 11.10; this project)
abbrev pub do_form_word : Bool → List ℕ
do_form_word parallel = if parallel then codes "PARALLELDO" else codes "DO"

-- the text of a statement
abbrev pub statement_form_text : StatementForm → List ℕ
statement_form_text (program x is) = codes "PROGRAM" ++ x
statement_form_text implicit = codes "IMPLICITINTEGER(A-Z)"
statement_form_text (integer d rest) = codes "INTEGER" ++ join_by declarator_form_text (codes ",") (d ∷ rest)
statement_form_text (dimension a rest) = codes "DIMENSION" ++ join_by array_form_text (codes ",") (a ∷ rest)
statement_form_text (parameter c rest) = codes "PARAMETER(" ++ join_by constant_form_text (codes ",") (c ∷ rest) ++ codes ")"
statement_form_text (save names are) = codes "SAVE" ++ names_form_text names
statement_form_text save_all = codes "SAVE"
statement_form_text (simple s) = simple_form_text s
statement_form_text (if_simple c s) = codes "IF(" ++ cond_form_text c ++ codes ")" ++ simple_form_text s
statement_form_text (if_then c) = codes "IF(" ++ cond_form_text c ++ codes ")THEN"
statement_form_text (else_if_then c) = codes "ELSEIF(" ++ cond_form_text c ++ codes ")THEN"
statement_form_text else_alone = codes "ELSE"
statement_form_text end_of_if = codes "ENDIF"
statement_form_text (do_loop parallel l c) = do_form_word parallel ++ label_form_text l ++ control_form_text c
statement_form_text end_of_do = codes "ENDDO"
statement_form_text (private names are) = codes "PRIVATE" ++ names_form_text names
statement_form_text end = codes "END"

-- a dimension: without a lower bound it is 1 (ANSI X3.9-1978, section 5.1.1.1)
abbrev pub bound_form_tree : BoundForm → BoundTree
bound_form_tree (upper_bound e) = record { lower = Int 1; upper = expr_form_tree e }
bound_form_tree (both_bounds e g) = record { lower = expr_form_tree e; upper = expr_form_tree g }

-- a declared array (ANSI X3.9-1978, section 5.1.1)
abbrev pub array_form_tree : ArrayForm → DeclaratorTree
array_form_tree (an_array x is b bs) = record { name = x; bounds = map bound_form_tree (b ∷ bs) }

-- a declared name (ANSI X3.9-1978, sections 5.1.1, 8.4)
abbrev pub declarator_form_tree : DeclaratorForm → DeclaratorTree
declarator_form_tree (a_scalar x is) = record { name = x; bounds = [] }
declarator_form_tree (of_array a) = array_form_tree a

-- a named constant with the tree of its value (ANSI X3.9-1978, section 8.6)
abbrev pub constant_form_tree : ConstantForm → List ℕ × ExprTree
constant_form_tree (a_constant x is e) = (x, expr_form_tree e)

-- an item of a PRINT (ANSI X3.9-1978, section 12.8.2)
abbrev pub item_form_tree : ItemForm → ItemTree
item_form_tree (a_value e) = Value (expr_form_tree e)
item_form_tree (a_text text) = Text text

-- what a simple statement says (ANSI X3.9-1978, sections 10.1, 11.11, 11.12, 12.8)
abbrev pub simple_item : SimpleForm → Item
simple_item (assignment r e) = does (Assign (reference_form_tree r) (expr_form_tree e))
simple_item (print items) = does (Print (map item_form_tree items))
simple_item (read items) = does (Read (map reference_form_tree items))
simple_item stop = does Stop
simple_item continue = continues

-- the statement after a logical IF, none for CONTINUE (ANSI X3.9-1978, section 11.5; this project)
abbrev pub behind_if : SimpleForm → StmtTrees
behind_if (assignment r e) = more_stmts (Assign (reference_form_tree r) (expr_form_tree e)) no_stmts
behind_if (print items) = more_stmts (Print (map item_form_tree items)) no_stmts
behind_if (read items) = more_stmts (Read (map reference_form_tree items)) no_stmts
behind_if stop = more_stmts Stop no_stmts
behind_if continue = no_stmts

-- the label of a DO, where it has one (ANSI X3.9-1978, section 11.10)
abbrev pub form_label : LabelForm → Option ℕ
form_label no_label = None
form_label (a_label digits is comma) = Some (numeral_value digits)

-- an increment, 1 where none is written (ANSI X3.9-1978, section 11.10)
abbrev pub step_form_tree : Option ExprForm → ExprTree
step_form_tree None = Int 1
step_form_tree (Some e) = expr_form_tree e

-- the head of a DO (ANSI X3.9-1978, section 11.10; this project)
abbrev pub control_form_head : Bool → ControlForm → Head
control_form_head parallel (control x is begin limit step) = record {
  variable = x;
  first = expr_form_tree begin;
  last = expr_form_tree limit;
  step = step_form_tree step;
  parallel = parallel;
  private = [];
  rejected = [];
}

-- what a statement says
abbrev pub statement_item : StatementForm → Item
statement_item (program x is) = declares (Program x)
statement_item implicit = declares Implicit
statement_item (integer d rest) = declares (Integer (map declarator_form_tree (d ∷ rest)))
statement_item (dimension a rest) = declares (Dimension (map array_form_tree (a ∷ rest)))
statement_item (parameter c rest) = declares (Parameter (map constant_form_tree (c ∷ rest)))
statement_item (save names are) = declares (Save names)
statement_item save_all = saves_all
statement_item (simple s) = simple_item s
statement_item (if_simple c s) = logical_if (cond_form_tree c) (behind_if s)
statement_item (if_then c) = block_if (cond_form_tree c)
statement_item (else_if_then c) = else_if (cond_form_tree c)
statement_item else_alone = else_line
statement_item end_of_if = end_if
statement_item (do_loop parallel l c) = begins_do (form_label l) (control_form_head parallel c)
statement_item end_of_do = ends_do
statement_item (private names are) = keeps_private names
statement_item end = ends_program

-- the text of a statement says this
abbrev pub ReadsItem : List ℕ → Item → Type 0
ReadsItem text i = (f : StatementForm) × (statement_form_text f ≡ text) × (statement_item f ≡ i)
