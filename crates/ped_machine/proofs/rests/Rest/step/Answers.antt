-- The next step of what is left.
use Rattle.std.proofs.Common.{sym, ap, subst, ◌∙◌}
use Rattle.std.specs.Prelude.{IfOk}
use Rattle.ped_store.specs.Keeping.{memory_of}
use Rattle.ped_interleavings.specs.ped_eval.specs.Readiness.{setting_by}
use Rattle.ped_interleavings.specs.Lefts.{Left}
use Rattle.ped_interleavings.specs.Steps.{step}
use Rattle.ped_machine.specs.declared.rests.Rest.{Rest}
use Rattle.ped_machine.specs.Doing.{IsDone}
use Rattle.ped_machine.specs.Parts.{parts_of}
use Rattle.ped_machine.specs.Rests.{opened_left, rest_left}
use Rattle.ped_machine.proofs.OpenSteps.{chosen}
use Rattle.ped_machine.proofs.Resting.{none_of, parts_done_or_not}
use Rattle.ped_machine.proofs.rests.Rest.step.Goals as goal

pub returns-in-EndsTurn-clause-does : goal.returns-in-EndsTurn-clause-does
returns-in-EndsTurn-clause-does g c =
    let scope = c.args.state.now.scope in
    let old = c.args.self.now in
    let none = none_of old.inner (sym c.is_some.ensures ∙ c.if-is_some.false) in
    let new : Rest _ = record { parts = c.end_turn.new.parts; inner = old.inner } in
    parts_done_or_not g.C.Work.left scope c.end_turn.result (setting_by c.args.symbols.now) c.args.choice (memory_of c.args.state.now.store).cells (memory_of c.end_turn.new.state.store).cells
    old new (parts_of c.next.new.self) c.end_turn.new.state.scope none none (c.next.ensures.settled.left scope) c.end_turn.ensures.does

pub returns-in-Begins-clause-does : goal.returns-in-Begins-clause-does
returns-in-Begins-clause-does g c =
    let scope = c.args.state.now.scope in
    let old = c.args.self.now in
    let p = setting_by c.args.symbols.now in
    let s = (memory_of c.args.state.now.store).cells in
    let u = (memory_of c.step_statement.new.state.store).cells in
    let mid : Rest _ = record { parts = c.next.new.self; inner = old.inner } in
    let before = rest_left g.C.Work.left scope mid in
    let last = rest_left g.C.Work.left c.step_statement.new.state.scope c.step_statement.new.self in
    subst (λ (l : Left). IfOk c.step_statement.result (λ d. IsDone (step p l c.args.choice s) l s d last u)) (ap (opened_left g.C.Work.left scope old.inner) (c.next.ensures.settled.left scope))
    (chosen c.step_statement.result (λ d n. IsDone (step p before n s) before s d last u) c.args.choice c.step_statement.ensures.does)
