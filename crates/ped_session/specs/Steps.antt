-- What a command does: its reply, and the state of the session after it (ParaScope; this project).
use Rattle.std.specs.Prelude.{◌≡◌, ℕ, ◌-◌, ◌+◌, List, [], ◌∷◌, true, false, Option, Some, None, MatchBool, MatchOption, is_some}
use Rattle.ped_tree.specs.Tree.{StmtTree, ProgramTree}
use Rattle.ped_tree.specs.Printing.{program_text}
use Rattle.ped_tree.specs.Numbering.{statement_with}
use Rattle.ped_transformations.specs.ped_symbols.specs.NameRefusals.{IsValid}
use Rattle.ped_tree.specs.Grammar.RefusalViews.{finding_of}
use Rattle.ped_tree.specs.declared.grammar.refusals.Refusal as reading
use Rattle.ped_versions.specs.ped_valid.specs.Validity.{ReadsValid, RefusesText}
use Rattle.ped_transformations.specs.ped_graph.specs.DependencePane.{IsDependencePane, IsDependencePaneOf}
use Rattle.ped_versions.specs.ped_update.specs.Fresh.{tested_pairs}
use Rattle.ped_transformations.specs.ped_steps.specs.Causes.{Cause}
use Rattle.ped_script.specs.ped_certificates.specs.declared.claims.Position.{Position}
use Rattle.ped_script.specs.ped_certificates.specs.declared.claims.Sign.{Sign}
use Rattle.ped_script.specs.declared.items.Command.{Command}
use Rattle.ped_script.specs.declared.kinds.Query.{Query}
use Rattle.ped_script.specs.declared.kinds.Query.TheVariants.{Source, Deps, Show, Calls, Print, Advise, System, Tested}
use Rattle.ped_script.specs.declared.kinds.LineEdit.{LineEdit}
use Rattle.ped_script.specs.declared.kinds.LineEdit.TheVariants.{Replace, Insert}
use Rattle.ped_script.specs.declared.kinds.HistoryMove.{HistoryMove}
use Rattle.ped_script.specs.declared.kinds.HistoryMove.TheVariants.{Undo, Redo}
use Rattle.ped_script.specs.declared.kinds.ProgramRun.{ProgramRun}
use Rattle.ped_script.specs.declared.kinds.ProgramRun.TheVariants.{Run, Races}
use Rattle.ped_script.specs.declared.kinds.CommandKind.{CommandKind}
use Rattle.ped_script.specs.declared.kinds.CommandKind.TheVariants as kind
use Rattle.ped_script.specs.Kinds.{kind_of}
use Rattle.ped_versions.specs.declared.changes.ChangeKind.{ChangeKind}
use Rattle.ped_versions.specs.declared.changes.ChangeKind.TheVariants.{Edit, Rejection, Transformation}
use Rattle.ped_session.specs.declared.replies.Refusal.TheVariants.{BadEdit, Step, NothingToUndo, NothingToRedo, NoSuchStatement, NoSuchLine, NoSuchPair}
use Rattle.ped_session.specs.declared.replies.Reply.{Reply}
use Rattle.ped_session.specs.declared.replies.Reply.TheVariants.{Changed, Shown, Refused}
use Rattle.ped_session.specs.declared.replies.Refusal.{Refusal}
use Rattle.ped_versions.specs.States.{Other, State, changed_to, gone_back_to, gone_forward_to}
use Rattle.ped_versions.specs.Splices.{spliced, are_lines, is_place, edit_keep}
use Rattle.ped_session.specs.Panes.{IsSourcePane, ArePanes, tested_row}
use Rattle.ped_session.specs.OutcomeTexts.{IsRunText}
use Rattle.ped_session.specs.RaceRows.{IsRaceRow}
use Rattle.ped_transformations.specs.ped_rules.specs.Steps.{StepKind, transformation, rejection, StepAt}
use Rattle.ped_transformations.specs.ped_inline.specs.CallsPane.{IsCallsPane}
use Rattle.ped_transformations.specs.ped_evidence.specs.SystemTexts.{system_text}
use Rattle.ped_transformations.specs.Table.{step_of}
use Rattle.ped_transformations.specs.Advice.{IsAdvice}

-- the command is refused, and the session is as it was
abbrev pub Refuses : Refusal → State → Reply → State → Type 0
Refuses why s reply next = (reply ≡ Refused why) × (next ≡ s)

-- something is printed, and the session is as it was
abbrev pub Prints : List ℕ → State → Reply → State → Type 0
Prints bytes s reply next = (reply ≡ Shown bytes) × (next ≡ s)

-- what is so of the present program is printed, and the session is as it was
pub record Shows (IsSo : ProgramTree → List ℕ → Type 0) (s : State) (reply : Reply) (next : State) : Type 0 where
  pub tree : ProgramTree
  pub reads : ReadsValid s.present tree
  pub bytes : List ℕ
  pub so : IsSo tree bytes
  pub prints : Prints bytes s reply next

-- what is so of a statement is printed, where the present program has it
abbrev pub ShowsOf : (ProgramTree → List ℕ → Type 0) → Option StmtTree → State → Reply → State → Type 0
ShowsOf IsSo None s reply next = Refuses NoSuchStatement s reply next
ShowsOf IsSo (Some statement) s reply next = Shows IsSo s reply next

-- what is so of the statement with this number is printed, where the present program has it
pub record ShowsStatement (IsSo : ProgramTree → List ℕ → Type 0) (number : ℕ) (s : State) (reply : Reply) (next : State) : Type 0 where
  pub tree : ProgramTree
  pub reads : ReadsValid s.present tree
  pub shows : ShowsOf IsSo (statement_with number tree) s reply next

-- the system of a pair of references and a pattern is printed, where evidence may speak of them in the present program; where it may not, the command is refused (this project)
pub record ShowsSystem (source sink : Position) (pattern : List Sign) (s : State) (reply : Reply) (next : State) : Type 0 where
  pub tree : ProgramTree
  pub reads : ReadsValid s.present tree
  pub shows : MatchOption (system_text tree source sink pattern) (Refuses NoSuchPair s reply next) (λ text. Prints text s reply next)

-- the text of an edit, which keeps as many lines as given at the front and drops as many as given, is read afresh, and the printed text of what was read is the new source; or it is refused, and the session is as it was
pub data Edits (kept gone : ℕ) (text : List ℕ) (s : State) (reply : Reply) (next : State) : Type 0 where
  accepted : (old new : ProgramTree) → ReadsValid s.present old → ReadsValid text new
      → reply ≡ Changed → next ≡ changed_to (program_text new) Edit (tested_pairs old new (edit_keep old new kept gone)) s → Edits kept gone text s reply next
  refused : (why : reading.Refusal) → RefusesText text (finding_of why) → Refuses (BadEdit why) s reply next → Edits kept gone text s reply next

-- lines of the present source go and others come in their place, where it has the lines that go
abbrev pub Replaces : ℕ → ℕ → List (List ℕ) → State → Reply → State → Type 0
Replaces first last new s reply next =
    MatchBool (are_lines s.present first last) (Edits (first - 1) (last + 1 - first) (spliced s.present (first - 1) (last + 1 - first) new) s reply next) (Refuses NoSuchLine s reply next)

-- lines come after a line of the present source, or before its first line for 0
abbrev pub Inserts : ℕ → List (List ℕ) → State → Reply → State → Type 0
Inserts after new s reply next =
    MatchBool (is_place s.present after) (Edits after 0 (spliced s.present after 0 new) s reply next) (Refuses NoSuchLine s reply next)

-- how the history takes down a step of a kind (ParaScope)
abbrev pub change_by : StepKind → ChangeKind
change_by transformation = Transformation
change_by rejection = Rejection

-- a step: the present program has no statement of that number, or a cause forbids the step and the first is reported, and the session is as it was; or the printed text of the program that the step makes, which is valid, is the new source (ParaScope; this project)
pub data Transforms (at : StepAt) (s : State) (reply : Reply) (next : State) : Type 0 where
  missing : (t : ProgramTree) → ReadsValid s.present t → is_some (statement_with at.statement t) ≡ false → Refuses NoSuchStatement s reply next → Transforms at s reply next
  forbidden : (t : ProgramTree) → ReadsValid s.present t → is_some (statement_with at.statement t) ≡ true → (c : Cause) → at.IsCause t (Some c) → Refuses (Step c) s reply next → Transforms at s reply next
  transformed : (t new : ProgramTree) (keep : List (ℕ × ℕ)) → ReadsValid s.present t → is_some (statement_with at.statement t) ≡ true → at.IsCause t None → at.Makes t new keep → IsValid new
      → reply ≡ Changed → next ≡ changed_to (program_text new) (change_by at.kind) (tested_pairs t new keep) s → Transforms at s reply next

-- one step back, where there is a past
abbrev pub GoesBack : List Other → State → Reply → State → Type 0
GoesBack [] s reply next = Refuses NothingToUndo s reply next
GoesBack (other ∷ past) s reply next = (reply ≡ Changed) × (next ≡ gone_back_to other past s)

-- one step forward, where there is a future
abbrev pub GoesForward : List Other → State → Reply → State → Type 0
GoesForward [] s reply next = Refuses NothingToRedo s reply next
GoesForward (other ∷ future) s reply next = (reply ≡ Changed) × (next ≡ gone_forward_to other future s)

-- what is asked for is shown
abbrev pub ShowsAnswer : Query → State → Reply → State → Type 0
ShowsAnswer Source s reply next = Shows IsSourcePane s reply next
ShowsAnswer (Deps None) s reply next = Shows IsDependencePane s reply next
ShowsAnswer (Deps (Some number)) s reply next = ShowsStatement (λ t. IsDependencePaneOf t (Some number)) number s reply next
ShowsAnswer Show s reply next = Shows ArePanes s reply next
ShowsAnswer Calls s reply next = Shows IsCallsPane s reply next
ShowsAnswer Print s reply next = Prints s.present s reply next
ShowsAnswer (Advise number) s reply next = ShowsStatement (λ t. IsAdvice t number) number s reply next
ShowsAnswer (System source sink pattern) s reply next = ShowsSystem source sink pattern s reply next
ShowsAnswer Tested s reply next = Prints (tested_row s.tested) s reply next

-- the source is edited
abbrev pub EditsLines : LineEdit → State → Reply → State → Type 0
EditsLines (Replace first last lines) s reply next = Replaces first last lines s reply next
EditsLines (Insert after lines) s reply next = Inserts after lines s reply next

-- one step along the history
abbrev pub GoesAlong : HistoryMove → State → Reply → State → Type 0
GoesAlong Undo s reply next = GoesBack s.past s reply next
GoesAlong Redo s reply next = GoesForward s.future s reply next

-- the present program is run on these data
abbrev pub ShowsRun : ProgramRun → List ℕ → State → Reply → State → Type 0
ShowsRun (Run choices) data_bytes s reply next = Shows (IsRunText choices data_bytes) s reply next
ShowsRun Races data_bytes s reply next = Shows (IsRaceRow data_bytes) s reply next

-- what a command of a kind does to a session whose programs are run on these data. `auto` takes several steps, and is none
abbrev pub IsStepOf : CommandKind → List ℕ → State → Reply → State → Type 0
IsStepOf (kind.Ask query) data_bytes s reply next = ShowsAnswer query s reply next
IsStepOf (kind.Edit edit) data_bytes s reply next = EditsLines edit s reply next
IsStepOf (kind.Step command) data_bytes s reply next = Transforms (step_of command) s reply next
IsStepOf kind.Auto data_bytes s reply next = ⊥
IsStepOf (kind.Move way) data_bytes s reply next = GoesAlong way s reply next
IsStepOf (kind.Run run) data_bytes s reply next = ShowsRun run data_bytes s reply next

-- what a command does to a session whose programs are run on these data
abbrev pub IsStep : Command → List ℕ → State → Reply → State → Type 0
IsStep command data_bytes s reply next = IsStepOf (kind_of command) data_bytes s reply next
