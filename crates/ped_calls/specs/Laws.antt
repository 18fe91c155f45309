-- That a text without units is the program that it reads as, and that a text has one expansion and no refusal, or one first refusal and no expansion (this project).
use Rattle.std.specs.Prelude.{◌≡◌, ℕ, List, Bool, true, false}
use Rattle.std.specs.List.{AllByRecursion}
use Rattle.ped_tree.specs.Tree.{ProgramTree}
use Rattle.ped_tree.specs.Grammar.Refusal.{Finding}
use Rattle.ped_tree.specs.Grammar.Statement.{Statement}
use Rattle.ped_tree.specs.Grammar.Grouping.{statements_of}
use Rattle.ped_links.specs.ped_valid.specs.Validity.{RefusesText}
use Rattle.ped_links.specs.ped_units.specs.Forms.{UnitItem, plain, calls, calls_if, begins_unit, returns, IsUnitItem}
use Rattle.ped_links.specs.ped_units.specs.Verdicts.{UnitFinding, found_in_text, RefusesUnits, IsExpansion}

-- a statement is no CALL, has none after a logical IF, and is no SUBROUTINE statement (ANSI X3.9-1978, sections 11.5, 15.6)
abbrev pub is_plain : UnitItem → Bool
is_plain (plain r) = true
is_plain (calls c) = false
is_plain (calls_if e c) = false
is_plain (begins_unit x formals) = false
is_plain returns = true

-- whatever the text of the statement is, it is such a statement
abbrev pub IsPlain : Statement → Type 0
IsPlain s = (i : UnitItem) → IsUnitItem s.text i → is_plain i ≡ true

-- no statement of the text is a CALL or SUBROUTINE statement (ANSI X3.9-1978, section 15.6)
abbrev pub HasNoUnits : List ℕ → Type 0
HasNoUnits text = AllByRecursion IsPlain (statements_of text).statements

-- the finding is one of the text by itself, and that is its first refusal
pub record RefusesAsText (text : List ℕ) (first : UnitFinding) : Type 0 where
  pub finding : Finding
  pub same : first ≡ found_in_text finding
  pub refuses : RefusesText text finding

-- the text expands to this program and to no other, and isn't refused
pub record HasOneExpansion (text : List ℕ) : Type 0 where
  pub tree : ProgramTree
  pub expands : IsExpansion text tree
  pub only : (t : ProgramTree) → IsExpansion text t → t ≡ tree
  pub accepted : (f : UnitFinding) → RefusesUnits text f → ⊥

-- this is the file's first refusal and no other is, and it expands to no program
pub record HasOneUnitRefusal (text : List ℕ) : Type 0 where
  pub first : UnitFinding
  pub refuses : RefusesUnits text first
  pub only : (f : UnitFinding) → RefusesUnits text f → f ≡ first
  pub treeless : (t : ProgramTree) → IsExpansion text t → ⊥
