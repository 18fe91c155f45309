use Rattle.std.proofs.Common.{bit_and, w64}
use Rattle.std.specs.Int.{bit_not}
use Rattle.ped_bits.proofs.LaneWords.{zip-map}
use Rattle.ped_bits.proofs.lanes.and_not_lanes.Goals as goal

pub returns : goal.returns
returns c = zip-map bit_and (bit_not w64) c.args.a c.args.b
