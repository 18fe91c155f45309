use Rattle.std.proofs.Common.{List, ℕ, subst}
use Rattle.ped_store.specs.Cells.{Cell}
use Rattle.ped_store.specs.Keeping.{memory_of}
use Rattle.ped_machine.specs.Bases.{is_own, HasForgotten}
use Rattle.ped_machine.proofs.Copying.{one_of_all}
use Rattle.ped_machine.proofs.Dropping.{kept_twice, own_inside, nothing_kept}
use Rattle.ped_machine.proofs.Forgetting.{nothing_but, but_twice, forgotten_but, forgotten_kept}
use Rattle.ped_machine.proofs.turns.forget_copies.Goals as goal

pub loop-place-init : goal.loop-place-init
loop-place-init c = record { kept = λ base w h. (h, nothing_but base (memory_of c.args.store.now), nothing_kept base (memory_of c.args.store.now)) }

pub loop-place-preserved : goal.loop-place-preserved
loop-place-preserved c =
    let r = c.loop-place.invariant in
    let x : List ℕ = c.index-names-place.result in
    let first = memory_of c.args.store.now in
    let m = memory_of c.loop-place.store in
    let new = memory_of c.forget_copy.new.store in
    let lost = subst (λ (d : Cell). HasForgotten d m new) c.cell_at-cell.ensures.view c.forget_copy.ensures in
    record {
      kept = λ base w h.
          let k = r.kept base w h in
          let q = one_of_all (is_own base) c.args.names.now c.loop-place.place x c.loop-place-test.true c.index-names-place.is k.0 in
          let own = own_inside base c.args.scope.now x w q.0 in (
            q.1,
            but_twice base first m new k.1 (forgotten_but base _ m new own lost),
            kept_twice base first m new k.2 (forgotten_kept base _ m new own lost),
          );
    }

pub returns : goal.returns
returns c base w h = let k = c.loop-place.invariant.kept base w h in (k.1, k.2)
