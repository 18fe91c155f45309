use Rattle.ped_session.specs.ped_transformations.specs.ped_splits.proofs.Existence.Choosing.{vectors_of_view}
use Rattle.ped_answer.proofs.existence.exclusions.vectors_exist.Goals as goal

pub returns : goal.returns
returns c = vectors_of_view
