use Rattle.ped_bodies.proofs.BodyLaws.LikewiseRuns.{evaluated_likewise, limited_likewise}
use Rattle.ped_bodies.proofs.BodyLaws.StandingPlaces.{moved_evaluate}
use Rattle.ped_bodies.proofs.values.values_likewise.Goals as goal

pub returns-clause-value : goal.returns-clause-value
returns-clause-value c = evaluated_likewise

pub returns-clause-bounds : goal.returns-clause-bounds
returns-clause-bounds c = limited_likewise

pub returns-clause-moved : goal.returns-clause-moved
returns-clause-moved c = moved_evaluate
