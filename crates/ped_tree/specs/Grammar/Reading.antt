-- What a text reads as: its tree, or its first refusal (this project).
use Rattle.std.specs.Prelude.{◌≡◌, ℕ, List, [], ◌∷◌, Option, Some, None, IsTrue}
use Rattle.ped_tree.specs.Tree.{ProgramTree}
use Rattle.ped_tree.specs.Grammar.Refusal.{Finding, first_of}
use Rattle.ped_tree.specs.Grammar.Statement.{Statement}
use Rattle.ped_tree.specs.Grammar.Grouping.{statements_of}
use Rattle.ped_tree.specs.Grammar.LineRefusals.{first_line_refusal}
use Rattle.ped_tree.specs.Grammar.Items.{Item, Reading, says, outside_profile, no_form, Entry}
use Rattle.ped_tree.specs.Grammar.StatementForms.{ReadsItem}
use Rattle.ped_tree.specs.Grammar.OutsideProfile.{IsOutside}
use Rattle.ped_tree.specs.Grammar.Occurrences.{saved_names}
use Rattle.ped_tree.specs.Grammar.BlockForms.{body_keeps_labels}
use Rattle.ped_tree.specs.Grammar.ProgramForms.{ProgramForm, program_entries, program_form_tree, first_lines}
use Rattle.ped_tree.specs.Grammar.ProgramRefusals.{program_refusals}

-- the text has no form of the profile
abbrev pub HasNoForm : List ℕ → Type 0
HasNoForm text = (i : Item) → ReadsItem text i → ⊥

-- what the text of a statement is: a form, which counts first; no form of the profile, and one that it leaves out; no form at all
abbrev pub IsReading : List ℕ → Reading → Type 0
IsReading text (says i) = ReadsItem text i
IsReading text outside_profile = HasNoForm text × IsOutside text
IsReading text no_form = HasNoForm text × (IsOutside text → ⊥)

-- no text of a statement says two things
abbrev pub OneItem : Type 0
OneItem = (text : List ℕ) (i j : Item) → ReadsItem text i → ReadsItem text j → i ≡ j

-- the statements with what they say, one by one
abbrev pub AreEntries : List Statement → List Entry → Type 0
AreEntries [] [] = Unit {0}
AreEntries (s ∷ ss) (e ∷ es) = (e.statement ≡ s) × IsReading s.text e.reading × AreEntries ss es
AreEntries [] (e ∷ es) = ⊥
AreEntries (s ∷ ss) [] = ⊥

-- no line is refused, and these are the statements of the text
pub record IsCutInto (text : List ℕ) (entries : List Entry) : Type 0 where
  pub accepted : first_line_refusal text ≡ None
  pub readings : AreEntries (statements_of text).statements entries

-- the first refusal among those of the statements
abbrev pub first_program_refusal : List ℕ → List Entry → Option Finding
first_program_refusal text entries = first_of (program_refusals (statements_of text) entries)

-- the text's first refusal: a refusal of a line decides before those of statements
pub data Refuses (text : List ℕ) (first : Finding) : Type 0 where
  in_lines : first_line_refusal text ≡ Some first → Refuses text first
  in_statements : (entries : List Entry) → IsCutInto text entries → first_program_refusal text entries ≡ Some first → Refuses text first

-- the text reads as this tree: nothing is refused, and its statements nest to the tree
pub record Reads (text : List ℕ) (tree : ProgramTree) : Type 0 where
  pub entries : List Entry
  pub cut : IsCutInto text entries
  pub accepted : first_program_refusal text entries ≡ None
  pub form : ProgramForm
  pub written : program_entries form ≡ entries
  pub labelled : IsTrue (body_keeps_labels [] form.body)
  pub nested : program_form_tree (saved_names entries) form ≡ tree

-- the first lines of what a text reads as: of its declarations, its numbered statements and its PRIVATE statements
pub record HasFirstLines (text : List ℕ) (numbers : List ℕ) : Type 0 where
  pub entries : List Entry
  pub cut : IsCutInto text entries
  pub counted : first_lines (saved_names entries) entries ≡ numbers
