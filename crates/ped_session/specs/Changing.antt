-- Accepted changes and answers of steps, as the code has them. Only contracts of private functions use it (this project).
use Rattle.std.specs.Prelude.{◌≡◌, ℕ, List, true, false, Some, None, Result, Ok, Err}
use Rattle.ped_tree.specs.Tree.{ProgramTree}
use Rattle.ped_tree.specs.Printing.{program_text}
use Rattle.ped_tree.specs.Views.{program_tree}
use Rattle.ped_transformations.specs.ped_symbols.specs.Kinds.{table_of}
use Rattle.ped_transformations.specs.ped_symbols.specs.NameRefusals.{IsValid}
use Rattle.ped_versions.specs.ped_valid.specs.Validity.{ReadsValid}
use Rattle.ped_transformations.specs.ped_graph.specs.Keeping.{IsOneToOne}
use Rattle.ped_versions.specs.ped_update.specs.Fresh.{tested_pairs}
use Rattle.ped_transformations.specs.ped_steps.specs.declared.causes.Refused.{Refused}
use Rattle.ped_transformations.specs.ped_steps.specs.declared.changes.Change as step
use Rattle.ped_transformations.specs.ped_steps.specs.CodeCauses.{cause_of, IsShort}
use Rattle.ped_versions.specs.declared.changes.ChangeKind.{ChangeKind}
use Rattle.ped_versions.specs.declared.changes.ChangeKind.TheVariants.{Edit}
use Rattle.ped_session.specs.declared.replies.Refusal.TheVariants as refusal
use Rattle.ped_session.specs.declared.replies.Reply.{Reply}
use Rattle.ped_session.specs.declared.replies.Reply.TheVariants.{Changed}
use Rattle.ped_versions.specs.States.{State, changed_to}
use Rattle.ped_versions.specs.Splices.{edit_keep}
use Rattle.ped_session.specs.Meanings.{IsKept}
use Rattle.ped_transformations.specs.ped_steps.specs.Replacing.{all_kept}
use Rattle.ped_versions.specs.Flags.{flagged}
use Rattle.ped_transformations.specs.ped_rules.specs.Steps.{StepAt}
use Rattle.ped_session.specs.Steps.{Refuses}

-- the printed text of a program has become the present source by a change that keeps these statements
abbrev pub Changes : ProgramTree → List (ℕ × ℕ) → ChangeKind → State → Reply → State → Type 0
Changes new keep change s reply next =
    (reply ≡ Changed) × (old : ProgramTree) × ReadsValid s.present old × (next ≡ changed_to (program_text new) change (tested_pairs old new keep) s)

-- the printed text of a program has become the present source by an edit that keeps this many lines of the former one at the front and drops this many
abbrev pub EditChanges : ProgramTree → ℕ → ℕ → State → Reply → State → Type 0
EditChanges new kept gone s reply next =
    (reply ≡ Changed) × (old : ProgramTree) × ReadsValid s.present old × (next ≡ changed_to (program_text new) Edit (tested_pairs old new (edit_keep old new kept gone)) s)

-- what a step answers for the present program: what it makes of it, a valid program with the statements that it keeps; or the first cause against it
abbrev pub IsStepAnswer : StepAt → State → Result step.Change Refused → Type 0
IsStepAnswer at s (Ok change) =
    (t : ProgramTree) × ReadsValid s.present t × at.IsCause t None × at.Makes t (program_tree change.tree) change.keep × IsValid (program_tree change.tree)
IsStepAnswer at s (Err why) = (t : ProgramTree) × ReadsValid s.present t × at.IsCause t (Some (cause_of why))

-- what a step answers can be taken by a change of this kind: a valid program that keeps the meaning of the present one where the change has to, or a cause that can be printed
abbrev pub IsTakeable : ChangeKind → State → Result step.Change Refused → Type 0
IsTakeable kind s (Ok change) =
    IsValid (program_tree change.tree) × (change.symbols ≡ table_of (program_tree change.tree)) × IsOneToOne change.keep × IsKept kind s.present (program_text (program_tree change.tree))
IsTakeable kind s (Err why) = IsShort why

-- what a step answers is taken by a change of this kind: its program becomes the present one, or the session refuses it for its cause
abbrev pub Takes : ChangeKind → Result step.Change Refused → State → Reply → State → Type 0
Takes kind (Ok change) s reply next = Changes (program_tree change.tree) change.keep kind s reply next
Takes kind (Err why) s reply next = Refuses (refusal.Step (cause_of why)) s reply next

-- how many pairs may be tested at the most where what a step answers is taken in a session whose present program is this
abbrev pub most_tests : Result step.Change Refused → ProgramTree → ℕ
most_tests (Ok change) old = tested_pairs old (program_tree change.tree) change.keep
most_tests (Err why) old = 0

-- what the step made is the present program with the DO of this number as a PARALLEL DO, which it wasn't
abbrev pub IsParallelOf : ℕ → State → step.Change → Type 0
IsParallelOf number s change =
    (t : ProgramTree) × ReadsValid s.present t × (program_tree change.tree ≡ flagged t number true) × (change.keep ≡ all_kept t) × (flagged (flagged t number true) number false ≡ t)

-- so it is, where the step was accepted
abbrev pub AnswersParallel : ℕ → State → Result step.Change Refused → Type 0
AnswersParallel number s (Ok change) = IsParallelOf number s change
AnswersParallel number s (Err why) = Unit {0}
