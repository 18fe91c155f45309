use Rattle.ped_blocks.proofs.BlocksFound.{form_found}
use Rattle.ped_blocks.proofs.laws_of_blocks.nests_or_refused.Goals as goal

pub returns : goal.returns
returns c = form_found
