-- A run with choices, step by step.
use Rattle.std.proofs.Common.{◌≡◌, ℕ, drop, Bool, Ok, if◌then◌else◌, refl, sym, ap, subst, ◌∙◌}
use Rattle.std.proofs.lemmas.Result.{IfOk-weaker}
use Rattle.ped_tree.specs.Tree.{ProgramTree}
use Rattle.ped_interleavings.specs.ped_eval.specs.Outcomes.{setting_of}
use Rattle.ped_interleavings.specs.ped_eval.specs.OutcomeViews.{outcome_view}
use Rattle.ped_interleavings.specs.Steps.{step}
use Rattle.ped_interleavings.specs.Interleavings.{choice}
use Rattle.ped_machine.specs.Machines.{standing, IsStepBy, IfFaultless, ReachesSome}
use Rattle.ped_machine.specs.Roots.{held, IsSafe}
use Rattle.ped_machine.specs.declared.steps.Step.{Step}
use Rattle.ped_machine.specs.declared.steps.Step.TheVariants as answer
use Rattle.ped_machine.proofs.Answering.{not_last}
use Rattle.ped_machine.proofs.OpenSteps.{err_maps}
use Rattle.ped_machine.proofs.Reaching.{one_more, none_yet, next_is, same_run, same_reached, comes_there}
use Rattle.ped_machine.proofs.machine.Machine.run.Goals as goal

pub loop-step-init : goal.loop-step-init
loop-step-init c = record { safe = c.requires; tree = refl; reached = none_yet (setting_of (held c.args.self.now).tree) (standing (held c.args.self.now) c.args.choices.now) }

pub loop-step-preserved : goal.loop-step-preserved
loop-step-preserved c =
    let t = (held c.args.self.now).tree in
    let p = setting_of t in
    let inv = c.loop-step.invariant in
    let old = held c.loop-step.self in
    let new = held c.step.new.self in
    let left = c.loop-step.left.now in
    let behind = c.choices_behind-left.result.now in
    let gone : c.in-Ok.step ≡ answer.Went = not_last c.in-Ok.step (sym c.is_last.ensures ∙ c.if-is_last.false) in
    let by_choices = c.choices_behind-left.ensures ∙ ap (λ (b : Bool). if b then drop 1 left else left) c.wants_choice.ensures in
    let does =
    subst (λ (r : Step). IsStepBy (step p old.left (choice left) old.store) old r new) gone
    (subst (λ (x : ProgramTree). IsStepBy (step (setting_of x) old.left (choice left) old.store) old c.in-Ok.step new) inv.tree
    (subst (λ (n : ℕ). IsStepBy (step (setting_of old.tree) old.left n old.store) old c.in-Ok.step new) c.first_of-choice.ensures c.in-Ok.ensures.does)) in
    record {
      safe = subst (λ (r : Step). IfFaultless {E = ⊥} (Ok r) (IsSafe c.step.new.self)) gone c.in-Ok.ensures.safe;
      tree = c.in-Ok.ensures.tree ∙ inv.tree;
      reached = one_more p (standing (held c.args.self.now) c.args.choices.now) (standing old left) (standing new behind) inv.reached (next_is old new left behind by_choices p does);
    }

pub loop-step-smaller : goal.loop-step-smaller
loop-step-smaller c = c.in-Ok.ensures.lighter (ap Ok (not_last c.in-Ok.step (sym c.is_last.ensures ∙ c.if-is_last.false)))

pub returns-then-is_last-clause-outcome : goal.returns-then-is_last-clause-outcome
returns-then-is_last-clause-outcome c =
    let t = (held c.args.self.now).tree in
    let inv = c.loop-step.invariant in
    let old = held c.loop-step.self in
    let new = held c.step.new.self in
    let left = c.loop-step.left.now in
    let does =
    subst (λ (x : ProgramTree). IsStepBy (step (setting_of x) old.left (choice left) old.store) old c.in-Ok.step new) inv.tree
    (subst (λ (n : ℕ). IsStepBy (step (setting_of old.tree) old.left n old.store) old c.in-Ok.step new) c.first_of-choice.ensures c.in-Ok.ensures.does) in
    IfOk-weaker c.outcome.result _ _
    (λ o is. comes_there t (standing (held c.args.self.now) c.args.choices.now) old new left inv.reached c.in-Ok.step (sym c.is_last.ensures ∙ c.if-is_last.true) does (c.in-Ok.ensures.tree ∙ inv.tree) (outcome_view o) is)
    c.outcome.ensures.outcome

pub returns-then-is_last-clause-reached : goal.returns-then-is_last-clause-reached
returns-then-is_last-clause-reached c =
    let inv = c.loop-step.invariant in
    let old = held c.loop-step.self in
    let new = held c.step.new.self in
    let first = held c.args.self.now in
    let left = c.loop-step.left.now in
    let x = step (setting_of old.tree) old.left c.first_of-choice.result old.store in
    err_maps c.outcome.result (c.in-Ok.step ≡ answer.Ended) (ReachesSome first c.args.choices.now new)
    (λ (e : c.in-Ok.step ≡ answer.Ended). (
      left,
      same_reached (setting_of first.tree) (standing first c.args.choices.now) old new left inv.reached (same_run x old new (subst (λ (r : Step). IsStepBy x old r new) e c.in-Ok.ensures.does)),
    ))
    c.outcome.ensures.ended

pub returns-then-is_last-clause-safe : goal.returns-then-is_last-clause-safe
returns-then-is_last-clause-safe c =
    err_maps c.outcome.result (c.in-Ok.step ≡ answer.Ended) (IsSafe c.step.new.self)
    (λ (e : c.in-Ok.step ≡ answer.Ended). subst (λ (r : Step). IfFaultless {E = ⊥} (Ok r) (IsSafe c.step.new.self)) e c.in-Ok.ensures.safe)
    c.outcome.ensures.ended

pub returns-in-Err-clause-reached : goal.returns-in-Err-clause-reached
returns-in-Err-clause-reached c =
    let first = held c.args.self.now in
    let left = c.loop-step.left.now in
    (left, same_reached (setting_of first.tree) (standing first c.args.choices.now) (held c.loop-step.self) (held c.step.new.self) left c.loop-step.invariant.reached c.in-Err.ensures.kept)
