use Rattle.std.proofs.Common.{arith}
use Rattle.ped_evidence.specs.Kept.{columns_of}
use Rattle.ped_evidence.proofs.RowSteps.{signs_done}
use Rattle.ped_evidence.proofs.pair_rows.add_signs.Goals as goal

pub returns-clause-rows : goal.returns-clause-rows
returns-clause-rows c = signs_done (columns_of c.args.columns.now) c.args.common.now c.args.pattern.now c.loop-i.i c.loop-i.rows _ (omega arith) c.loop-i.invariant.rows
