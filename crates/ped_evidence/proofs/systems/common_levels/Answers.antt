use Rattle.std.proofs.Common.{arith}
use Rattle.ped_affine.specs.Arguments.{setting_of}
use Rattle.ped_evidence.proofs.PairLevels.{as_many}
use Rattle.ped_evidence.proofs.systems.common_levels.Goals as goal

pub front-requires : goal.front-requires
front-requires c =
    let p = c.args.pair.now in
    let few = c.common_depth.ensures.source in
    let long = as_many (setting_of p.setting) p.source.nest.now p.source_levels.now c.requires.source in
    omega (arith, few, long)
