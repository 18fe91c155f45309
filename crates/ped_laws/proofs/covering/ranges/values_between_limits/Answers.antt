use Rattle.ped_laws.proofs.CoveringLaws.Counting.{upwards, downwards}
use Rattle.ped_laws.proofs.covering.ranges.values_between_limits.Goals as goal

pub returns-clause-upwards : goal.returns-clause-upwards
returns-clause-upwards c = upwards

pub returns-clause-downwards : goal.returns-clause-downwards
returns-clause-downwards c = downwards
