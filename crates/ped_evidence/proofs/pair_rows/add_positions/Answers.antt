use Rattle.std.proofs.Common.{arith}
use Rattle.ped_affine.specs.Arguments.{site}
use Rattle.ped_evidence.specs.Kept.{layout_kept}
use Rattle.ped_evidence.proofs.RowSteps.{positions_done}
use Rattle.ped_evidence.proofs.pair_rows.add_positions.Goals as goal

pub returns-clause-rows : goal.returns-clause-rows
returns-clause-rows c =
    positions_done (layout_kept c.args.layout.now) (site c.args.source.now) (site c.args.sink.now) c.args.source.now.subscripts.now c.args.sink.now.subscripts.now c.loop-i.i c.loop-i.rows _ (omega arith) c.loop-i.invariant.rows
