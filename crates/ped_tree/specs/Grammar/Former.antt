-- The former source form: names of at most six characters, and each DO with a label that its last statement carries (ANSI X3.9-1978, sections 2.2, 11.10). It is written over the present forms: a text had a former form exactly where it has a form whose item is a former one, since between a form and its item no name is lost but those of intrinsic functions.
use Rattle.std.specs.Prelude.{◌≡◌, ℕ, ◌+◌, ◌*◌, List, [], ◌∷◌, ◌++◌, length, Bool, true, false, ◌&&◌, nat_lt, nat_le, None, IsTrue, if◌then◌else◌}
use Rattle.std.specs.List.{list_all}
use Rattle.std.specs.Fmt.{decimal}
use Rattle.ped_tree.specs.Tree.{DeclTree, Program, ProgramTree}
use Rattle.ped_tree.specs.Printing.{do_text}
use Rattle.ped_tree.specs.Grammar.LimitNumbers.{most_characters}
use Rattle.ped_tree.specs.Grammar.Refusal.{Finding, Limit, refused_if, first_of}
use Rattle.ped_tree.specs.Grammar.Statement.{Statement}
use Rattle.ped_tree.specs.Grammar.Grouping.{statements_of}
use Rattle.ped_tree.specs.Grammar.LineRefusals.{first_line_refusal}
use Rattle.ped_tree.specs.Grammar.Items.{Item, declares, begins_do, ends_do, says, Entry}
use Rattle.ped_tree.specs.Grammar.StatementForms.{ReadsItem}
use Rattle.ped_tree.specs.Grammar.Occurrences.{names_in, rejected_names, saved_names}
use Rattle.ped_tree.specs.Grammar.Contexts.{is_do}
use Rattle.ped_tree.specs.Grammar.BlockForms.{body_keeps_labels}
use Rattle.ped_tree.specs.Grammar.ProgramForms.{ProgramForm, program_entries, program_form_tree}
use Rattle.ped_tree.specs.Grammar.ProgramRefusals.{where_it_says, program_refusals}

-- a name of the former length: at most six characters (ANSI X3.9-1978, section 2.2)
abbrev pub is_short : List ℕ → Bool
is_short x = nat_le (length x) 6

-- the name of the program that a declaration is (ANSI X3.9-1978, section 14.1)
abbrev pub name_of_program : DeclTree → List (List ℕ)
name_of_program (Program x) = x ∷ []
name_of_program d = []

-- the name of the program that an item declares (ANSI X3.9-1978, section 14.1)
abbrev pub program_names : Item → List (List ℕ)
program_names (declares d) = name_of_program d
program_names i = []

-- no DO without a label, and no END DO
abbrev pub has_former_shape : Item → Bool
has_former_shape (begins_do None h) = false
has_former_shape ends_do = false
has_former_shape i = true

-- what a statement could say: a DO has a label, and all names are short
abbrev pub is_former : Item → Bool
is_former i = has_former_shape i && list_all is_short (program_names i ++ names_in i)

-- the statement said something, and its directives rejected short names
abbrev pub IsFormerEntry : Entry → Type 0
IsFormerEntry e =
    (i : Item) × (e.reading ≡ says i) × ReadsItem e.statement.text i × IsTrue (is_former i && list_all is_short (rejected_names e.statement.directives))

-- the statements with what they said, one by one
abbrev pub AreFormerEntries : List Statement → List Entry → Type 0
AreFormerEntries [] [] = Unit {0}
AreFormerEntries (s ∷ ss) (e ∷ es) = (e.statement ≡ s) × IsFormerEntry e × AreFormerEntries ss es
AreFormerEntries [] (e ∷ es) = ⊥
AreFormerEntries (s ∷ ss) [] = ⊥

-- a DO was printed with the label 10, 20, 30 and so on, by how many DO loops began before it, and its length counted so
abbrev pub is_former_too_long : ℕ → Item → Bool
is_former_too_long before (begins_do l h) = nat_lt most_characters (length (do_text h) + length (decimal (10 * (before + 1))) + 1)
is_former_too_long before i = false

-- the DO statements that were too long, by how many DO loops began before these statements
abbrev pub former_limits : ℕ → List Entry → List Finding
former_limits before [] = []
former_limits before (e ∷ rest) =
    refused_if (where_it_says (is_former_too_long before) e.reading) Limit e.statement.line
    ++ former_limits (if where_it_says is_do e.reading then before + 1 else before) rest

-- the text read as this tree in the former source form
pub record FormerReads (text : List ℕ) (tree : ProgramTree) : Type 0 where
  pub entries : List Entry
  pub unrefused : first_line_refusal text ≡ None
  pub readings : AreFormerEntries (statements_of text).statements entries
  pub accepted : first_of (program_refusals (statements_of text) entries ++ former_limits 0 entries) ≡ None
  pub form : ProgramForm
  pub written : program_entries form ≡ entries
  pub labelled : IsTrue (body_keeps_labels [] form.body)
  pub nested : program_form_tree (saved_names entries) form ≡ tree
