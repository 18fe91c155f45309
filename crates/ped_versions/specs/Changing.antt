-- Accepted changes, and moves along the history (this project).
use Rattle.std.specs.Prelude.{◌≡◌, ℕ, List, [], ◌∷◌, Bool, true, false, not}
use Rattle.ped_tree.specs.Tree.{ProgramTree}
use Rattle.ped_tree.specs.Printing.{program_text}
use Rattle.ped_valid.specs.ped_symbols.specs.NameRefusals.{IsValid}
use Rattle.ped_valid.specs.Validity.{ReadsValid}
use Rattle.ped_update.specs.Fresh.{tested_pairs}
use Rattle.ped_versions.specs.declared.changes.ChangeKind.{ChangeKind}
use Rattle.ped_versions.specs.declared.changes.ChangeKind.TheVariants.{Edit}
use Rattle.ped_versions.specs.Flags.{flagged}
use Rattle.ped_versions.specs.States.{Other, State, changed_to, gone_back_to, gone_forward_to}
use Rattle.ped_versions.specs.Splices.{edit_keep}

-- the printed text of a program has become the present source by a change that keeps these statements
abbrev pub Changes : ProgramTree → List (ℕ × ℕ) → ChangeKind → State → State → Type 0
Changes new keep change s next = (old : ProgramTree) × ReadsValid s.present old × (next ≡ changed_to (program_text new) change (tested_pairs old new keep) s)

-- the printed text of a program has become the present source by an edit that keeps this many lines of the former one at the front and drops this many
abbrev pub EditChanges : ProgramTree → ℕ → ℕ → State → State → Type 0
EditChanges new kept gone s next = (old : ProgramTree) × ReadsValid s.present old × (next ≡ changed_to (program_text new) Edit (tested_pairs old new (edit_keep old new kept gone)) s)

-- the text is that of the present program with the DO of this number as a PARALLEL DO, or as none: a valid program, from which the other flag leads back
pub record IsFlagText (number : ℕ) (parallel : Bool) (s : State) (text : List ℕ) : Type 0 where
  pub tree : ProgramTree
  pub reads : ReadsValid s.present tree
  pub valid : IsValid (flagged tree number parallel)
  pub text_is : text ≡ program_text (flagged tree number parallel)
  pub back : flagged (flagged tree number parallel) number (not parallel) ≡ tree

-- one step back along the history is taken where there is a past; where there is none, nothing changes
abbrev pub MovesBack : List Other → State → Bool → State → Type 0
MovesBack [] s taken next = (taken ≡ false) × (next ≡ s)
MovesBack (other ∷ past) s taken next = (taken ≡ true) × (next ≡ gone_back_to other past s)

-- one step forward is taken where there is a future; where there is none, nothing changes
abbrev pub MovesForward : List Other → State → Bool → State → Type 0
MovesForward [] s taken next = (taken ≡ false) × (next ≡ s)
MovesForward (other ∷ future) s taken next = (taken ≡ true) × (next ≡ gone_forward_to other future s)
