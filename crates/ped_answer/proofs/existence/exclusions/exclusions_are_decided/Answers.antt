use Rattle.ped_session.specs.ped_transformations.specs.ped_splits.proofs.Existence.Excluding.{excludes_decided}
use Rattle.ped_answer.proofs.existence.exclusions.exclusions_are_decided.Goals as goal

pub returns : goal.returns
returns c = excludes_decided
