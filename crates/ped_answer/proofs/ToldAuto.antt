-- What `auto` tells in an answer.
use Rattle.std.proofs.Common.{◌≡◌, inl, inr, ℕ, List, [], ◌∷◌, Option, Some, None, subst}
use Rattle.std.specs.Prelude.{MatchOption}
use Rattle.std.specs.List.{AllByRecursion}
use Rattle.ped_io.specs.Outside.{Contents}
use Rattle.ped_words.specs.Requests.{Request, show, session, generate}
use Rattle.ped_tree.specs.Tree.{ProgramTree}
use Rattle.ped_session.specs.ped_valid.specs.Validity.{ReadsValid}
use Rattle.ped_session.specs.ped_rules.specs.Paralleling.{paralleling}
use Rattle.ped_session.specs.ped_rules.specs.Steps.{transformation}
use Rattle.ped_session.specs.ped_steps.specs.Causes.{Cause}
use Rattle.ped_session.specs.ped_auto.specs.Replay.{Replays}
use Rattle.ped_session.specs.ped_auto.specs.Strategy.{Report, IsAuto}
use Rattle.ped_session.specs.ped_transformations.specs.Table.{step_of}
use Rattle.ped_script.specs.Items.{commands_of}
use Rattle.ped_script.specs.declared.items.Command.{Command}
use Rattle.ped_script.specs.declared.items.Command.TheVariants.{Auto, Parallel}
use Rattle.ped_script.specs.declared.kinds.WhichStep.TheVariants as step
use Rattle.ped_script.specs.declared.kinds.StepCommand.{StepCommand}
use Rattle.ped_script.specs.Kinds.{step_in}
use Rattle.ped_session.specs.declared.replies.Refusal.TheVariants.{Step}
use Rattle.ped_session.specs.declared.replies.Reply.{Reply}
use Rattle.ped_session.specs.declared.replies.Reply.TheVariants.{Changed, Refused}
use Rattle.ped_session.specs.States.{State}
use Rattle.ped_session.specs.AutoEditing.{TransformsTo, TakesStep, session_editing}
use Rattle.ped_session.specs.AutoEditingLaws.{one_program, refused_for}
use Rattle.ped_session.specs.AutoScripts.{script_of, items_on}
use Rattle.ped_session.specs.Scripts.{Said, SaysAuto, AnswersCommand}
use Rattle.ped_session.proofs.AutoSteps.{auto_steps, accepts_all, auto_comes}
use Rattle.ped_answer.specs.declared.answering.Status.{Status}
use Rattle.ped_answer.specs.Answer.{IsWhole, Answers}
use Rattle.ped_answer.specs.StepCauses.{Forbids}
use Rattle.ped_answer.specs.Headline.{IsTransformation, Parallelises, ParallelisesBy, AutoRequest}
use Rattle.ped_answer.proofs.EachItems.{SoOfValid, session_each}
use Rattle.ped_answer.proofs.ToldCauses.{are_causes}

-- a DO is left for the first of all that forbids `parallel`
left_for : (s : State) (t : ProgramTree) → ReadsValid s.present t → (number : ℕ) (why : Cause) → TakesStep (Parallel number) s (Refused (Step why)) s → Forbids number step.Parallel t why × (paralleling number).IsCause t (Some why)
left_for s t reads number why h =
    let r = refused_for (paralleling number) s s why h.1 in
    let is = subst (λ (u : ProgramTree). (paralleling number).IsCause u (Some why)) (one_program s.present r.tree t r.reads reads) r.is in
    ((are_causes number step.Parallel).first t why is, is)

all_left_for : (s : State) (t : ProgramTree) → ReadsValid s.present t → (left : List (ℕ × Cause)) → AllByRecursion (λ l. TakesStep (Parallel l.0) s (Refused (Step l.1)) s) left
    → AllByRecursion (λ l. Forbids l.0 step.Parallel t l.1 × (paralleling l.0).IsCause t (Some l.1)) left
all_left_for s t reads [] h = tt
all_left_for s t reads (l ∷ left) h = (left_for s t reads l.0 l.1 h.0, all_left_for s t reads left h.1)

-- a step that `auto` takes is a transformation
of_step : (o : Option StepCommand) (s next : State) (reply : Reply) → MatchOption o ⊥ (TransformsTo s reply next) → MatchOption o ⊥ (λ c. (step_of c).kind ≡ transformation)
of_step None s next reply h = h
of_step (Some c) s next reply h = h.0

all_transformations : (cs : List Command) (s last : State) (tests : ℕ) → Replays session_editing s cs last tests → AllByRecursion IsTransformation cs
all_transformations [] s last tests h = tt
all_transformations (c ∷ cs) s last tests h = (of_step (step_in c) s h.0 Changed h.3.0, all_transformations cs h.0 last h.2 h.4)

-- the steps of `auto` are read from the script of them
abbrev pub ReadsBack : Type 0
ReadsBack = (s last : State) (report : Report) (tests : ℕ) → IsAuto session_editing s report last tests → commands_of (script_of report.accepted) ≡ items_on 1 report.accepted

auto_told : ReadsBack → (line : ℕ) (s next : State) (said : Said) → SaysAuto line s said next → Parallelises line s said.bytes next
auto_told back line s next said h =
    let r = h.0.report in
    let does = h.0.does in
    let replays = auto_steps s next r said.tests does in
    record {
      accepted = r.accepted;
      accepts = accepts_all r.accepted s next said.tests replays;
      steps = all_transformations r.accepted s next said.tests replays;
      script = back s next r said.tests does;
      comes = auto_comes s next r said.tests does;
      tree = does.left.program;
      reads = does.left.reads;
      left = r.left;
      are_left = record { loops = does.left.loops; causes = all_left_for next does.left.program does.left.reads r.left does.left.causes };
      says = h.0.says;
    }

by_auto : ReadsBack → (line : ℕ) (d : List ℕ) (s next : State) (said : Said) → AnswersCommand line (Some Auto) d s said next → Parallelises line s said.bytes next
by_auto back line d s next said (inl h) = absurd h.1
by_auto back line d s next said (inr (is, h)) = auto_told back line s next said h

each_told : ReadsBack → SoOfValid ParallelisesBy
each_told back d t valid line command s next said came h = λ is.
    by_auto back line d s next said (subst (λ (o : Option Command). AnswersCommand line o d s said next) is h)

-- what `auto` tells in an answer
pub request_auto : ReadsBack → (request : Option Request) (files : Contents) (s : Status) (b : List ℕ) → IsWhole s → Answers request files s b → AutoRequest request files b
request_auto back None files s b whole h = tt
request_auto back (Some (show program)) files s b whole h = tt
request_auto back (Some (session program script data_file)) files s b whole h = session_each ParallelisesBy (each_told back) program script data_file files s b whole h
request_auto back (Some (generate number)) files s b whole h = tt
