use Rattle.std.proofs.Common.{arith}
use Rattle.ped_affine.specs.Arguments.{setting_of}
use Rattle.ped_affine.proofs.Surrounding.{ranges_step}
use Rattle.ped_affine.proofs.ranges.find_ranges.Goals as goal

pub loop-i-preserved : goal.loop-i-preserved
loop-i-preserved c =
    ranges_step (setting_of c.args.setting.now) c.args.nest.now c.loop-i.ranges _ c.loop-i.i c.index-nest-i.result c.loop_range.result
    (omega arith) (omega arith) c.index-nest-i.is c.loop_range.ensures c.loop-i.invariant
