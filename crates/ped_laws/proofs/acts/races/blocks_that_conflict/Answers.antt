use Rattle.ped_laws.proofs.ActLaws.Conflicting.{acts_of_blocks}
use Rattle.ped_laws.proofs.acts.races.blocks_that_conflict.Goals as goal

pub returns : goal.returns
returns c = acts_of_blocks
