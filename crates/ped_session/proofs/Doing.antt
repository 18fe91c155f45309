-- What a command does to the state of a session: nothing, an edit, a step, or a move along the history.
use Rattle.std.proofs.Common.{◌≡◌, ℕ, Bool, true, false, List, Option, Some, None, refl, sym, ◌∙◌}
use Rattle.std.specs.Prelude.{MatchBool, MatchOption}
use Rattle.ped_tree.specs.Tree.{StmtTree, ProgramTree}
use Rattle.ped_tree.specs.Numbering.{statement_with}
use Rattle.ped_transformations.specs.ped_graph.specs.DependencePane.{IsDependencePaneOf}
use Rattle.ped_transformations.specs.ped_evidence.specs.SystemTexts.{system_text}
use Rattle.ped_script.specs.declared.kinds.StepCommand.{StepCommand}
use Rattle.ped_script.specs.declared.kinds.Query.{Query}
use Rattle.ped_script.specs.declared.kinds.Query.TheVariants.{Source, Deps, Show, Calls, Print, Advise, System, Tested}
use Rattle.ped_script.specs.declared.kinds.LineEdit.TheVariants.{Replace, Insert}
use Rattle.ped_script.specs.declared.kinds.HistoryMove.TheVariants.{Undo, Redo}
use Rattle.ped_script.specs.declared.kinds.ProgramRun.TheVariants.{Run, Races}
use Rattle.ped_script.specs.declared.kinds.CommandKind.{CommandKind}
use Rattle.ped_script.specs.declared.kinds.CommandKind.TheVariants as kind
use Rattle.ped_session.specs.declared.replies.Refusal.{Refusal}
use Rattle.ped_session.specs.declared.replies.Refusal.TheVariants.{NoSuchLine, NoSuchPair}
use Rattle.ped_session.specs.declared.replies.Reply.{Reply}
use Rattle.ped_session.specs.declared.replies.Reply.TheVariants.{Changed, Shown, Refused}
use Rattle.ped_versions.specs.States.{State}
use Rattle.ped_versions.specs.Splices.{are_lines, is_place}
use Rattle.ped_transformations.specs.Table.{step_of}
use Rattle.ped_transformations.specs.Advice.{IsAdvice}
use Rattle.ped_session.specs.Steps.{Refuses, Prints, Shows, ShowsOf, ShowsAnswer, Edits, Transforms, GoesBack, GoesForward, IsStepOf}

-- what a command of a kind does
pub data Does (k : CommandKind) (s : State) (reply : Reply) (next : State) : Type 0 where
  by_nothing : (reply ≡ Changed → ⊥) → next ≡ s → Does k s reply next
  by_edit : (kept gone : ℕ) (text : List ℕ) → Edits kept gone text s reply next → Does k s reply next
  by_step : (command : StepCommand) → Transforms (step_of command) s reply next → Does k s reply next
  by_undo : k ≡ kind.Move Undo → GoesBack s.past s reply next → Does k s reply next
  by_redo : k ≡ kind.Move Redo → GoesForward s.future s reply next → Does k s reply next

pub no_refusal : (why : Refusal) → ◌≡◌ {A = Reply} (Refused why) Changed → ⊥
no_refusal why e = cc

no_show : (bytes : List ℕ) → ◌≡◌ {A = Reply} (Shown bytes) Changed → ⊥
no_show bytes e = cc

module _ (k : CommandKind) (s next : State) (reply : Reply) where
  refuses : (why : Refusal) → Refuses why s reply next → Does k s reply next
  refuses why h = by_nothing (λ e. no_refusal why (sym h.0 ∙ e)) h.1

  prints : (bytes : List ℕ) → Prints bytes s reply next → Does k s reply next
  prints bytes h = by_nothing (λ e. no_show bytes (sym h.0 ∙ e)) h.1

  shows : (IsSo : ProgramTree → List ℕ → Type 0) → Shows IsSo s reply next → Does k s reply next
  shows IsSo h = prints h.bytes h.prints

  shows_of : (IsSo : ProgramTree → List ℕ → Type 0) (o : Option StmtTree) → ShowsOf IsSo o s reply next → Does k s reply next
  shows_of IsSo None h = refuses _ h
  shows_of IsSo (Some found) h = shows IsSo h

  shows_system : (o : Option (List ℕ)) → MatchOption o (Refuses NoSuchPair s reply next) (λ text. Prints text s reply next) → Does k s reply next
  shows_system None h = refuses _ h
  shows_system (Some text) h = prints text h

  edits : (there : Bool) (kept gone : ℕ) (text : List ℕ) → MatchBool there (Edits kept gone text s reply next) (Refuses NoSuchLine s reply next) → Does k s reply next
  edits true kept gone text h = by_edit kept gone text h
  edits false kept gone text h = refuses NoSuchLine h

  answers : (query : Query) → ShowsAnswer query s reply next → Does k s reply next
  answers Source h = shows _ h
  answers (Deps None) h = shows _ h
  answers (Deps (Some number)) h = shows_of (λ t. IsDependencePaneOf t (Some number)) (statement_with number h.tree) h.shows
  answers Show h = shows _ h
  answers Calls h = shows _ h
  answers Print h = prints _ h
  answers (Advise number) h = shows_of (λ t. IsAdvice t number) (statement_with number h.tree) h.shows
  answers (System source sink pattern) h = shows_system (system_text h.tree source sink pattern) h.shows
  answers Tested h = prints _ h

pub does : (k : CommandKind) (d : List ℕ) (s next : State) (reply : Reply) → IsStepOf k d s reply next → Does k s reply next
does (kind.Ask query) d s next reply h = answers (kind.Ask query) s next reply query h
does (kind.Edit (Replace first last lines)) d s next reply h = edits (kind.Edit (Replace first last lines)) s next reply (are_lines s.present first last) _ _ _ h
does (kind.Edit (Insert after lines)) d s next reply h = edits (kind.Edit (Insert after lines)) s next reply (is_place s.present after) _ _ _ h
does (kind.Step command) d s next reply h = by_step command h
does kind.Auto d s next reply h = absurd h
does (kind.Move Undo) d s next reply h = by_undo refl h
does (kind.Move Redo) d s next reply h = by_redo refl h
does (kind.Run (Run choices)) d s next reply h = shows (kind.Run (Run choices)) s next reply _ h
does (kind.Run Races) d s next reply h = shows (kind.Run Races) s next reply _ h
