-- `auto` has something to tell in each state whose sources are printed texts of valid programs.
use Rattle.std.proofs.Common.{◌≡◌, ◌⊎◌, inl, inr, ℕ, List, Option, Some, None, is_some, true, refl, sym, ap, ◌∙◌, subst}
use Rattle.std.specs.Prelude.{MatchOption}
use Rattle.std.proofs.lemmas.List.Elements.{All-nil, All-cons}
use Rattle.ped_tree.specs.Tree.{ProgramTree}
use Rattle.ped_tree.specs.Printing.{program_text}
use Rattle.ped_tree.specs.Numbering.{statement_with}
use Rattle.ped_session.specs.ped_update.specs.Fresh.{tested_pairs}
use Rattle.ped_session.specs.ped_valid.specs.Validity.{ReadsValid}
use Rattle.ped_session.specs.ped_valid.proofs.OneVerdict.{valid_prints}
use Rattle.ped_session.specs.ped_steps.specs.Causes.{Cause}
use Rattle.ped_session.specs.ped_rules.specs.Steps.{StepAt}
use Rattle.ped_session.specs.ped_auto.specs.CarriedNames.{carried_names}
use Rattle.ped_session.specs.ped_auto.proofs.SomeCourse as course
use Rattle.ped_session.specs.ped_transformations.specs.Table.{step_of}
use Rattle.ped_session.proofs.AutoTries.{there, IsTrying, of_try}
use Rattle.ped_session.specs.ped_auto.specs.Strategy.{Report, IsAuto}
use Rattle.ped_script.specs.declared.items.Command.{Command}
use Rattle.ped_script.specs.declared.items.Command.TheVariants.{Auto}
use Rattle.ped_script.specs.declared.kinds.StepCommand.{StepCommand}
use Rattle.ped_script.specs.declared.kinds.CommandKind.{CommandKind}
use Rattle.ped_script.specs.declared.kinds.CommandKind.TheVariants as kind
use Rattle.ped_script.specs.Kinds.{kind_of, step_in}
use Rattle.ped_script.proofs.OnlyAuto.{only_auto}
use Rattle.ped_session.specs.declared.replies.Refusal.TheVariants.{Step}
use Rattle.ped_session.specs.declared.replies.Reply.TheVariants.{Changed, Refused}
use Rattle.ped_session.specs.States.{Other, State, changed_to}
use Rattle.ped_session.specs.Steps.{change_by, forbidden, transformed}
use Rattle.ped_session.specs.Histories.{IsPrinted, ArePrinted}
use Rattle.ped_session.specs.AutoEditing.{TransformsTo, session_editing}
use Rattle.ped_session.specs.AutoEditingLaws.{session_laws}
use Rattle.ped_session.specs.ped_transformations.specs.ped_splits.proofs.Existence.Edges.{edges_of_program}
use Rattle.ped_answer.proofs.ExistenceLaws.FirstCauses.{Goes, each_goes}

-- a command is `auto` or another one
pub auto_or_other : (c : Command) → (c ≡ Auto) ⊎ (c ≡ Auto → ⊥)
auto_or_other c = by (kind_of c) refl
  where
    by : (k : CommandKind) → kind_of c ≡ k → (c ≡ Auto) ⊎ (c ≡ Auto → ⊥)
    by kind.Auto is = inl (only_auto c is)
    by (kind.Ask query) is = inr (λ e. let k = sym is ∙ ap kind_of e in cc)
    by (kind.Edit edit) is = inr (λ e. let k = sym is ∙ ap kind_of e in cc)
    by (kind.Step step) is = inr (λ e. let k = sym is ∙ ap kind_of e in cc)
    by (kind.Move way) is = inr (λ e. let k = sym is ∙ ap kind_of e in cc)
    by (kind.Run run) is = inr (λ e. let k = sym is ∙ ap kind_of e in cc)

-- what `auto` does in a state
pub record SomeAuto (s : State) : Type 0 where
  pub report : Report
  pub next : State
  pub tests : ℕ
  pub does : IsAuto session_editing s report next tests
  pub printed : ArePrinted next

abbrev IsPrintedOther : Other → Type 0
IsPrintedOther o = IsPrinted o.0

-- the present source reads as its program
reads_present : (s : State) → ArePrinted s → (t : ProgramTree) × ReadsValid s.present t
reads_present s all = by all.present
  where
    by : IsPrinted s.present → (t : ProgramTree) × ReadsValid s.present t
    by (t, valid, e) = (t, subst (λ (bytes : List ℕ). ReadsValid bytes t) (sym e) ((valid_prints t valid t).1 refl))

-- a step that is forbidden is refused; one that goes is accepted, and the sources behind it are printed texts
settled_by : (o : Option StepCommand) (s : State) (t : ProgramTree) → ArePrinted s → ReadsValid s.present t → MatchOption o ⊥ (IsTrying t)
    → ((next : State) × (tests : ℕ) × (MatchOption o ⊥ (TransformsTo s Changed next) × (tests ≡ next.tested)) × ArePrinted next) ⊎ ((why : Cause) × MatchOption o ⊥ (TransformsTo s (Refused (Step why)) s))
settled_by None s t all reads is = absurd is
settled_by (Some c) s t all reads is = by (each_goes c.statement c.step t reads.valid)
  where
    at : StepAt
    at = step_of c

    here : is_some (statement_with at.statement t) ≡ true
    here = there t at.statement is.1

    by : Goes at t
        → ((next : State) × (tests : ℕ) × (TransformsTo s Changed next c × (tests ≡ next.tested)) × ArePrinted next) ⊎ ((why : Cause) × TransformsTo s (Refused (Step why)) s c)
    by (inl (why, cause)) = inr (why, (is.0, forbidden t reads here why cause (refl, refl)))
    by (inr (none, new, keep, makes, valid)) =
        let next : State = changed_to (program_text new) (change_by at.kind) (tested_pairs t new keep) s in
        inl (
          next,
          next.tested,
          ((is.0, transformed t new keep reads here none makes valid refl refl), refl),
          record {
            past = All-cons IsPrintedOther (s.present, change_by at.kind) s.past all.present all.past;
            present = (new, valid, refl);
            future = All-nil IsPrintedOther;
          },
        )

-- so each command that the strategy tries is accepted or refused
session_decided : course.IsDecided session_editing ArePrinted
session_decided = record {
  program = reads_present;
  settled = λ s c t all ok reads at. settled_by (step_in c) s t all reads (of_try (step_in c) t at);
  names = λ t number. let edges = edges_of_program t in (carried_names t number edges.0, (edges.0, edges.1, refl));
}

-- the strategy comes to an end
pub some_auto : (s : State) → ArePrinted s → SomeAuto s
some_auto s all =
    let a = course.some_auto session_editing ArePrinted session_laws session_decided s all in
    record { report = a.0; next = a.1; tests = a.2; does = a.3; printed = a.4 }
