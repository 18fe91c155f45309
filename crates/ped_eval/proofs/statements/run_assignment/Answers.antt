use Rattle.std.proofs.Common.{sym, subst}
use Rattle.ped_tree.specs.Views.{expr_tree}
use Rattle.ped_store.specs.Stores.{Number}
use Rattle.ped_store.specs.Memories.{Memory}
use Rattle.ped_store.specs.Keeping.{memory_of}
use Rattle.ped_eval.specs.Scopes.{Scope}
use Rattle.ped_eval.specs.Readiness.{IsReady}
use Rattle.ped_eval.proofs.Assignments.{ready_with, assignment_ran, assignment_failed}
use Rattle.ped_eval.proofs.statements.run_assignment.Goals as goal

pub returns-in-Ok-clause-told : goal.returns-in-Ok-clause-told
returns-in-Ok-clause-told c =
    let w = c.in-Ok.ensures.ok in
    assignment_ran c.args.symbols.now c.args.state.now.scope c.args.number (expr_tree c.args.left.now) (expr_tree c.args.right.now) (memory_of c.args.state.now.store) c.requires.ready (memory_of c.assign.new.state.store) w.0 w.1 w.2

pub returns-in-Ok-clause-ready : goal.returns-in-Ok-clause-ready
returns-in-Ok-clause-ready c =
    let w = c.in-Ok.ensures.ok in
    let table = c.args.symbols.now in
    let scope = c.args.state.now.scope in
    let new = memory_of c.assign.new.state.store in
    let ready : IsReady table scope new = subst (λ (k : Memory). IsReady table scope k) (sym w.2) (ready_with table scope w.0.cell (Number w.0.number) (memory_of c.args.state.now.store) c.requires.ready) in
    (c.in-Ok.ensures.scope, subst (λ (k : Scope). IsReady table k new) (sym c.in-Ok.ensures.scope) ready)

pub returns-in-Err-clause-told : goal.returns-in-Err-clause-told
returns-in-Err-clause-told c =
    assignment_failed c.args.symbols.now c.args.state.now.scope c.args.number (expr_tree c.args.left.now) (expr_tree c.args.right.now) (memory_of c.args.state.now.store) c.requires.ready (memory_of c.assign.new.state.store) c.in-Err.fault c.in-Err.ensures.err
