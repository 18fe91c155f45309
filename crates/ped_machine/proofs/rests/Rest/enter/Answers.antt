-- Entries of DO loops, by what is kept of them.
use Rattle.std.proofs.Common.{ℕ, Err, sym, subst}
use Rattle.ped_tree.specs.Views.{head_of, stmt_trees, do_tree}
use Rattle.ped_store.specs.Keeping.{memory_of}
use Rattle.ped_interleavings.specs.ped_eval.specs.ScopeViews.{names_at}
use Rattle.ped_interleavings.specs.ped_eval.specs.Plans.{IsEntry}
use Rattle.ped_interleavings.specs.ped_eval.specs.Readiness.{setting_by}
use Rattle.ped_interleavings.specs.ped_eval.specs.declared.states.RunError.{RunError}
use Rattle.ped_interleavings.specs.Steps.{begun}
use Rattle.ped_machine.specs.Doing.{IsDone}
use Rattle.ped_machine.specs.Parts.{parts_of, parts_left}
use Rattle.ped_machine.specs.Rests.{rest_left}
use Rattle.ped_machine.specs.declared.steps.Done.TheVariants as done
use Rattle.ped_machine.proofs.Acting.{entered_done, enter_fails, entered_copies}
use Rattle.ped_machine.proofs.rests.Rest.enter.Goals as goal

pub returns-in-Ok-clause-does : goal.returns-in-Ok-clause-does
returns-in-Ok-clause-does g c =
    let table = c.args.symbols.now in
    let scope = c.args.state.now.scope in
    let m = memory_of c.args.state.now.store in
    let entry = c.in-Ok.ensures.entry in
    entered_done c.go_in.result table scope c.args.number m c.requires.ready.bounds (head_of c.args.d.now) (stmt_trees c.args.d.now.body.items) (parts_left (parts_of c.args.self.now.parts) scope) c.in-Ok.plan entry.0
    (rest_left g.C.Work.left c.go_in.new.state.scope c.go_in.new.self) (memory_of c.go_in.new.state.store).cells entry.1 entry.2 c.in-Ok.ensures.behind c.go_in.ensures.done c.go_in.ensures.left c.go_in.ensures.store

pub returns-in-Ok-clause-copies : goal.returns-in-Ok-clause-copies
returns-in-Ok-clause-copies g c =
    entered_copies _ _ c.go_in.result c.args.state.now.scope c.go_in.new.state.scope (memory_of c.args.state.now.store) (memory_of c.go_in.new.state.store) c.go_in.ensures.copies c.go_in.ensures.kept c.requires.ready.copies

pub returns-in-Fault-clause-does : goal.returns-in-Fault-clause-does
returns-in-Fault-clause-does g c l =
    let table = c.args.symbols.now in
    let scope = c.args.state.now.scope in
    let m = memory_of c.args.state.now.store in
    let h = head_of c.args.d.now in
    let body = stmt_trees c.args.d.now.body.items in
    let rest = parts_left (parts_of c.args.self.now.parts) scope in
    let last = rest_left g.C.Work.left scope c.args.self.now in
    let e = subst (λ (x : RunError). IsEntry table c.args.number (names_at m scope table.constants) m.cells h body (Err x)) c.in-Fault.is c.in-Err.ensures.entry in
    subst (λ (n : ℕ). IsDone (begun (setting_by table) (do_tree c.args.d.now) c.args.number scope rest m.cells) l m.cells (done.Fault c.in-Fault.fault n) last m.cells) (sym e.1)
    (enter_fails table scope c.args.number m c.requires.ready.bounds h body l rest c.in-Fault.fault last m.cells e.0)
