use Rattle.std.proofs.Common.{ℕ, List, ap, sym, ◌∙◌}
use Rattle.std.proofs.lemmas.List.{drop_all}
use Rattle.std.specs.List.{list_all}
use Rattle.ped_store.specs.Keeping.{memory_of}
use Rattle.ped_interleavings.specs.ped_eval.specs.Scopes.{cell_of}
use Rattle.ped_interleavings.specs.ped_eval.specs.Agreement.{is_copy}
use Rattle.ped_machine.proofs.Copying.{one_of_all, all_of_one}
use Rattle.ped_machine.proofs.Growing.{room_twice, grown_twice, not_grown}
use Rattle.ped_machine.proofs.turns.open_copies.Goals as goal

pub open_copy-requires-clause-copy : goal.open_copy-requires-clause-copy
open_copy-requires-clause-copy c =
    ap is_copy c.cell_at-cell.ensures.view
    ∙ (one_of_all (λ y. is_copy (cell_of c.args.scope.now y)) c.args.names.now c.loop-place.place c.index-names-place.result c.loop-place-test.true c.index-names-place.is c.loop-place.invariant.copies).0

pub loop-place-preserved : goal.loop-place-preserved
loop-place-preserved c =
    let r = c.loop-place.invariant in
    let at = c.args.scope.now in
    let x : List ℕ = c.index-names-place.result in
    let i = c.loop-place.place in
    let view = c.cell_at-cell.ensures.view in
    record {
      room = room_twice _ _ _ r.room c.in_ok-open_copy.ensures.room;
      copies = (one_of_all (λ y. is_copy (cell_of at y)) c.args.names.now i x c.loop-place-test.true c.index-names-place.is r.copies).1;
      stand = λ m g h.
          r.stand m (grown_twice _ _ _ c.in_ok-open_copy.ensures.room.grown g)
          (all_of_one (λ y. m.stands (cell_of at y)) c.args.names.now i x c.loop-place-test.true c.index-names-place.is (g.stands (cell_of at x) (ap (memory_of c.open_copy.new.store).stands (sym view) ∙ c.in_ok-open_copy.ensures.stands)) h);
    }

pub returns-in_err-open_copy-clause-room : goal.returns-in_err-open_copy-clause-room
returns-in_err-open_copy-clause-room c = room_twice _ _ _ c.loop-place.invariant.room c.open_copy.ensures.room

pub returns-clause-stand : goal.returns-clause-stand
returns-clause-stand c =
    let m = memory_of c.loop-place.store in
    c.loop-place.invariant.stand m (not_grown m) (ap (list_all (λ x. m.stands (cell_of c.args.scope.now x))) (drop_all c.loop-place.place c.args.names.now c.loop-place-test.false))
