use Rattle.std.specs.Int.{w128}
use Rattle.std.specs.Int.RustNames.{FitsSigned}
use mir.Val.{to_z, of_z}
use Rattle.std.proofs.lemmas.Int.{to_z-of_z}
use Rattle.std.proofs.Common.{rules, ◌≡◌, ℤ, Bool, ◌+ℤ◌, ◌*ℤ◌, pos, ap, sym, ◌∙◌, if◌then◌else◌}
use Rattle.ped_store.specs.Cells.{Cell}
use Rattle.ped_store.specs.Stores.{Undefined, Number}
use Rattle.ped_store.specs.Memories.{with_content}
use Rattle.ped_store.specs.Keeping.{memory_of}
use Rattle.ped_eval.specs.Scopes.{cell_of}
use Rattle.ped_eval.proofs.CellForms.{of_scalar}
use Rattle.ped_eval.proofs.exits.leave_variable.Goals as goal

pub undefine-requires-clause-scalar : goal.undefine-requires-clause-scalar
undefine-requires-clause-scalar c = of_scalar c.cell-cell.result c.args.state.now.scope c.args.d.now.variable c.cell-cell.ensures.view

pub set_index-requires-clause-scalar : goal.set_index-requires-clause-scalar
set_index-requires-clause-scalar c = of_scalar c.cell-cell.result c.args.state.now.scope c.args.d.now.variable c.cell-cell.ensures.view

pub returns-then-d-clause-memory : goal.returns-then-d-clause-memory
returns-then-d-clause-memory c =
    c.undefine.ensures
    ∙ ap (λ (d : Cell). with_content d Undefined (memory_of c.args.state.now.store)) c.cell-cell.ensures.view
    ∙ ap (λ (b : Bool). with_content (cell_of c.args.state.now.scope c.args.d.now.variable) (if b then Undefined else Number (c.args.plan.now.first +ℤ pos c.args.plan.now.count *ℤ c.args.plan.now.step)) (memory_of c.args.state.now.store)) (sym c.if-d.true)

pub returns-clause-memory : goal.returns-clause-memory
returns-clause-memory c =
    let v = c.value_behind-value.result in
    let small : FitsSigned w128 v = search rules in
    let fits : to_z w128 (of_z w128 v) ≡ v = to_z-of_z w128 v small in
    c.set_index.ensures
    ∙ (λ i. with_content (c.cell-cell.ensures.view i) (Number (fits i)) (memory_of c.args.state.now.store))
    ∙ ap (λ (n : ℤ). with_content (cell_of c.args.state.now.scope c.args.d.now.variable) (Number n) (memory_of c.args.state.now.store)) c.value_behind-value.ensures
    ∙ ap (λ (b : Bool). with_content (cell_of c.args.state.now.scope c.args.d.now.variable) (if b then Undefined else Number (c.args.plan.now.first +ℤ pos c.args.plan.now.count *ℤ c.args.plan.now.step)) (memory_of c.args.state.now.store)) (sym c.if-d.false)
