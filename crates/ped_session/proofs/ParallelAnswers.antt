-- What `parallel` answers: the present program with the flag of one DO, which another flag takes back.
use Rattle.std.proofs.Common.{◌≡◌, ℕ, Bool, true, Result, Ok, Err, sym, ap, subst, ◌∙◌}
use Rattle.ped_transformations.specs.ped_steps.specs.declared.causes.Refused.{Refused}
use Rattle.ped_transformations.specs.ped_steps.specs.declared.changes.Change as step
use Rattle.ped_transformations.specs.ped_rules.specs.Rules.{is_parallel}
use Rattle.ped_versions.specs.Flags.{flagged}
use Rattle.ped_transformations.specs.ped_rules.specs.Paralleling.{paralleling}
use Rattle.ped_transformations.specs.ped_rules.proofs.HeadLaws.FlagRules as rules
use Rattle.ped_transformations.specs.Table.{step_at}
use Rattle.ped_script.specs.declared.kinds.WhichStep.{WhichStep}
use Rattle.ped_script.specs.declared.kinds.WhichStep.TheVariants.{Parallel}
use Rattle.ped_versions.specs.States.{State}
use Rattle.ped_session.specs.Changing.{IsStepAnswer, AnswersParallel}
use Rattle.ped_session.proofs.FlagTrees.{flagged_by_step, flagged_back}

answers : (n : ℕ) (s : State) (answer : Result step.Change Refused) → IsStepAnswer (paralleling n) s answer → AnswersParallel n s answer
answers n s (Ok change) a =
    let t = a.0 in
    let loop = rules.its_loop is_parallel true n t a.2.0 in
    let serial = rules.test_fails is_parallel true n t a.2.0 loop in
    (t, a.1, a.3.0 ∙ flagged_by_step t n true, a.3.1, ap (λ (p : Bool). flagged (flagged t n true) n p) (sym serial) ∙ flagged_back t n true loop.head loop.body loop.is)
answers n s (Err why) a = tt

pub answers_parallel : (n : ℕ) (which : WhichStep) (s : State) (answer : Result step.Change Refused) → which ≡ Parallel → IsStepAnswer (step_at n which) s answer → AnswersParallel n s answer
answers_parallel n which s answer is a = answers n s answer (subst (λ (w : WhichStep). IsStepAnswer (step_at n w) s answer) is a)
