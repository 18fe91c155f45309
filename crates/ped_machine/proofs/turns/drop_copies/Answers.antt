use Rattle.std.proofs.Common.{List, ℕ, subst, ◌∙◌}
use Rattle.ped_store.specs.Cells.{Cell}
use Rattle.ped_store.specs.Keeping.{memory_of}
use Rattle.ped_machine.specs.Bases.{is_own, HasLost}
use Rattle.ped_machine.proofs.Copying.{one_of_all}
use Rattle.ped_machine.proofs.Dropping.{kept_twice, lost_kept, own_inside, nothing_kept}
use Rattle.ped_machine.proofs.turns.drop_copies.Goals as goal

pub loop-place-init : goal.loop-place-init
loop-place-init c = record { cells = λ i. (memory_of c.args.store.now).cells; kept = λ base w h. (h, nothing_kept base (memory_of c.args.store.now)) }

pub loop-place-preserved : goal.loop-place-preserved
loop-place-preserved c =
    let r = c.loop-place.invariant in
    let x : List ℕ = c.index-names-place.result in
    let m = memory_of c.loop-place.store in
    let new = memory_of c.drop_copy.new.store in
    let lost = subst (λ (d : Cell). HasLost d m new) c.cell_at-cell.ensures.view c.drop_copy.ensures in
    record {
      cells = c.drop_copy.ensures.cells ∙ r.cells;
      kept = λ base w h.
          let k = r.kept base w h in
          let q = one_of_all (is_own base) c.args.names.now c.loop-place.place x c.loop-place-test.true c.index-names-place.is k.0 in
          (q.1, kept_twice base (memory_of c.args.store.now) m new k.1 (lost_kept base _ m new (own_inside base c.args.scope.now x w q.0) lost));
    }

pub returns-clause-kept : goal.returns-clause-kept
returns-clause-kept c base w h = (c.loop-place.invariant.kept base w h).1
