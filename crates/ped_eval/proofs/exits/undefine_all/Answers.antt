use Rattle.std.proofs.Common.{◌≡◌, ◌+◌, ℕ, List, drop, refl, ap, ◌∙◌}
use Rattle.std.specs.List.{list_all}
use Rattle.ped_store.specs.Cells.{Cell}
use Rattle.ped_store.specs.Stores.{Undefined}
use Rattle.ped_store.specs.Memories.{Memory, with_content}
use Rattle.ped_store.specs.Keeping.{memory_of}
use Rattle.ped_eval.specs.Scopes.{Scope, cell_of}
use Rattle.ped_eval.specs.Turns.{undefined_in}
use Rattle.ped_eval.proofs.CellForms.{of_scalar}
use Rattle.ped_eval.proofs.Walks.{walked, one_of_all}
use Rattle.ped_eval.proofs.exits.undefine_all.Goals as goal

pub undefine-requires-clause-scalar : goal.undefine-requires-clause-scalar
undefine-requires-clause-scalar c = of_scalar c.cell-cell.result c.loop-name.state.scope c.name-item.result c.cell-cell.ensures.view

pub loop-name-preserved : goal.loop-name-preserved
loop-name-preserved c =
    let r = c.loop-name.invariant in
    let at = c.args.state.now.scope in
    let x : List ℕ = c.name-item.result in
    let cell = c.cell-cell.ensures.view ∙ ap (λ (s : Scope). cell_of s x) r.scope in
    let done : memory_of c.undefine.new.self ≡ with_content (cell_of at x) Undefined (memory_of c.loop-name.state.store) =
    c.undefine.ensures ∙ ap (λ (d : Cell). with_content d Undefined (memory_of c.loop-name.state.store)) cell in
    record {
      rest = walked (λ y m. with_content (cell_of at y) Undefined m) (undefined_in at) (λ y ys m. refl) c.args.names.now c.loop-name.name-index x (memory_of c.loop-name.state.store) _ _ c.loop-name-test.true c.name-item.is done r.rest;
      right =
          ap (λ (m : Memory). list_all (λ y. m.stands (cell_of at y)) (drop (c.loop-name.name-index + 1) c.args.names.now)) done
          ∙ (one_of_all (λ y. (memory_of c.loop-name.state.store).stands (cell_of at y)) c.args.names.now c.loop-name.name-index x c.loop-name-test.true c.name-item.is r.right).1;
      scope = r.scope;
    }
