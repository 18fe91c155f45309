use Rattle.std.proofs.Common.{ℕ, List, refl, ap, ◌∙◌}
use Rattle.ped_store.specs.Memories.{without_copy}
use Rattle.ped_store.specs.Keeping.{memory_of}
use Rattle.ped_eval.specs.Scopes.{Scope, cell_of}
use Rattle.ped_eval.specs.Agreement.{is_copy}
use Rattle.ped_eval.specs.Turns.{without_copies}
use Rattle.ped_eval.proofs.Walks.{walked, one_of_all}
use Rattle.ped_eval.proofs.turns.close_copies.Goals as goal

pub close_one-requires : goal.close_one-requires
close_one-requires c =
    let r = c.loop-place.invariant in
    let x : List ℕ = c.index-names-place.result in
    ap (λ (k : Scope). is_copy (cell_of k x)) r.scope ∙ (one_of_all (λ y. is_copy (cell_of c.args.state.now.scope y)) c.args.names.now c.loop-place.place x c.loop-place-test.true c.index-names-place.is r.right).0

pub loop-place-preserved : goal.loop-place-preserved
loop-place-preserved c =
    let r = c.loop-place.invariant in
    let at = c.args.state.now.scope in
    let x : List ℕ = c.index-names-place.result in
    record {
      rest = walked (λ y m. without_copy (cell_of at y) m) (without_copies at) (λ y ys m. refl) c.args.names.now c.loop-place.place x (memory_of c.loop-place.state.store) _ _ c.loop-place-test.true c.index-names-place.is
          (c.close_one.ensures.copy ∙ ap (λ (k : Scope). without_copy (cell_of k x) (memory_of c.loop-place.state.store)) r.scope) r.rest;
      right = (one_of_all (λ y. is_copy (cell_of at y)) c.args.names.now c.loop-place.place x c.loop-place-test.true c.index-names-place.is r.right).1;
      scope = c.close_one.ensures.scope ∙ r.scope;
    }
