-- A run with choices that forgets copies, step by step.
use Rattle.std.proofs.Common.{◌≡◌, ◌<◌, ℕ, drop, Bool, Ok, if◌then◌else◌, refl, sym, ap, subst, ◌∙◌}
use Rattle.std.proofs.lemmas.Result.{IfOk-weaker}
use Rattle.ped_tree.specs.Tree.{ProgramTree}
use Rattle.ped_interleavings.specs.ped_eval.specs.Outcomes.{setting_of}
use Rattle.ped_interleavings.specs.ped_eval.specs.OutcomeViews.{outcome_view}
use Rattle.ped_interleavings.specs.Lefts.{Left}
use Rattle.ped_interleavings.specs.Steps.{step}
use Rattle.ped_interleavings.specs.Interleavings.{choice}
use Rattle.ped_interleavings.specs.Weights.{left_weight}
use Rattle.ped_machine.specs.Machines.{standing, IsStepBy, IfFaultless}
use Rattle.ped_machine.specs.Roots.{held, IsSafe}
use Rattle.ped_machine.specs.declared.steps.Step.{Step}
use Rattle.ped_machine.specs.declared.steps.Step.TheVariants as answer
use Rattle.ped_machine.proofs.Answering.{not_last}
use Rattle.ped_machine.proofs.Reaching.{none_yet}
use Rattle.ped_machine.proofs.FollowingRuns.{agree_itself, follows_step, follows_forgotten, follows_to}
use Rattle.ped_machine.proofs.machine.Machine.run_forgetting.Goals as goal

pub loop-step-init : goal.loop-step-init
loop-step-init c =
    let h = held c.args.self.now in
    record {
      safe = c.requires.safe;
      tree = refl;
      follows = record { apart = c.requires.apart; store = h.store; reached = none_yet (setting_of h.tree) (standing h c.args.choices.now); agrees = agree_itself h.left h.store };
    }

pub forget-requires : goal.forget-requires
forget-requires c =
    let gone : c.in-Ok.step ≡ answer.Went = not_last c.in-Ok.step (sym c.is_last.ensures ∙ c.if-is_last.false) in
    subst (λ (r : Step). IfFaultless {E = ⊥} (Ok r) (IsSafe c.step.new.self)) gone c.in-Ok.ensures.safe

pub loop-step-preserved : goal.loop-step-preserved
loop-step-preserved c =
    let first = held c.args.self.now in
    let t = first.tree in
    let p = setting_of t in
    let inv = c.loop-step.invariant in
    let old = held c.loop-step.self in
    let mid = held c.step.new.self in
    let new = held c.forget.new.self in
    let left = c.loop-step.left.now in
    let behind = c.choices_behind-left.result.now in
    let gone : c.in-Ok.step ≡ answer.Went = not_last c.in-Ok.step (sym c.is_last.ensures ∙ c.if-is_last.false) in
    let by_choices = c.choices_behind-left.ensures ∙ ap (λ (b : Bool). if b then drop 1 left else left) c.wants_choice.ensures in
    let does =
    subst (λ (r : Step). IsStepBy (step p old.left (choice left) old.store) old r mid) gone
    (subst (λ (x : ProgramTree). IsStepBy (step (setting_of x) old.left (choice left) old.store) old c.in-Ok.step mid) inv.tree
    (subst (λ (n : ℕ). IsStepBy (step (setting_of old.tree) old.left n old.store) old c.in-Ok.step mid) c.first_of-pick.ensures c.in-Ok.ensures.does)) in
    record {
      safe = c.forget.ensures.safe;
      tree = c.forget.ensures.tree ∙ c.in-Ok.ensures.tree ∙ inv.tree;
      follows =
          follows_forgotten p (standing first c.args.choices.now) mid new behind c.forget.ensures.left c.forget.ensures.cells
          (follows_step t (standing first c.args.choices.now) old mid left behind by_choices inv.follows does);
    }

pub loop-step-smaller : goal.loop-step-smaller
loop-step-smaller c =
    subst (λ (l : Left). left_weight l < left_weight (held c.loop-step.self).left) (sym c.forget.ensures.left)
    (c.in-Ok.ensures.lighter (ap Ok (not_last c.in-Ok.step (sym c.is_last.ensures ∙ c.if-is_last.false))))

pub returns-then-is_last : goal.returns-then-is_last
returns-then-is_last c =
    let first = held c.args.self.now in
    let t = first.tree in
    let inv = c.loop-step.invariant in
    let old = held c.loop-step.self in
    let new = held c.step.new.self in
    let left = c.loop-step.left.now in
    let does =
    subst (λ (x : ProgramTree). IsStepBy (step (setting_of x) old.left (choice left) old.store) old c.in-Ok.step new) inv.tree
    (subst (λ (n : ℕ). IsStepBy (step (setting_of old.tree) old.left n old.store) old c.in-Ok.step new) c.first_of-pick.ensures c.in-Ok.ensures.does) in
    IfOk-weaker c.outcome.result _ _
    (λ o is. follows_to t (standing first c.args.choices.now) old new left inv.follows c.in-Ok.step (sym c.is_last.ensures ∙ c.if-is_last.true) does (c.in-Ok.ensures.tree ∙ inv.tree) (outcome_view o) is)
    c.outcome.ensures.outcome
