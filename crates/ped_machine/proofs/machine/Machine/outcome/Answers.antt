-- The outcome of a run that has ended.
use Rattle.std.proofs.Common.{Ok, sym, subst, ◌∙◌}
use Rattle.std.proofs.lemmas.Result.{IfOk-weaker}
use Rattle.ped_tree.specs.Views.{program_tree}
use Rattle.ped_store.specs.Keeping.{memory_of}
use Rattle.ped_interleavings.specs.ped_eval.specs.OutcomeViews.{outcome_view}
use Rattle.ped_machine.specs.Machines.{IsOutcomeBy, IfFaultless}
use Rattle.ped_machine.specs.Roots.{held, IsSafe}
use Rattle.ped_machine.specs.declared.steps.Step.{Step}
use Rattle.ped_machine.proofs.Answering.{ended_outcome, right_bounds, last_ended}
use Rattle.ped_machine.proofs.OpenSteps.{err_by}
use Rattle.ped_machine.proofs.machine.Machine.outcome.Goals as goal

pub returns-in-Went-clause-outcome : goal.returns-in-Went-clause-outcome
returns-in-Went-clause-outcome c =
    let m = c.args.self.now in
    let is = last_ended c.args.answer.now c.in-Went.is c.requires.last in
    let safe = subst (λ (r : Step). IfFaultless {E = ⊥} (Ok r) (IsSafe m)) is c.requires.safe in
    IfOk-weaker c.ended.result _ _
    (λ o e. subst (λ (r : Step). IsOutcomeBy r (held m) (outcome_view o)) (sym is)
    (e ∙ ended_outcome (program_tree m.program.now) m.symbols.now (memory_of m.state.store) safe.table (right_bounds m.is_over m.state.scope m.rest m.symbols.now (memory_of m.state.store) safe.right)))
    c.ended.ensures

pub returns-in-Went-clause-ended : goal.returns-in-Went-clause-ended
returns-in-Went-clause-ended c = err_by c.ended.result _ (last_ended c.args.answer.now c.in-Went.is c.requires.last)
