use Rattle.ped_bodies.proofs.BodyLaws.LimitParts.{limits_parted, limits_come}
use Rattle.ped_bodies.proofs.trips.limits_of_bounds.Goals as goal

pub returns-clause-apart : goal.returns-clause-apart
returns-clause-apart c = limits_parted

pub returns-clause-made : goal.returns-clause-made
returns-clause-made c = limits_come
