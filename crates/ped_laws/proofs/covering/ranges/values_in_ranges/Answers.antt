use Rattle.ped_laws.proofs.CoveringLaws.LoopRanges.{value_in_range}
use Rattle.ped_laws.proofs.covering.ranges.values_in_ranges.Goals as goal

pub returns : goal.returns
returns c = value_in_range
