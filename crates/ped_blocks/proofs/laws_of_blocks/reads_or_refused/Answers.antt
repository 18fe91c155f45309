use Rattle.ped_blocks.proofs.BlocksFound.{read_or_refused}
use Rattle.ped_blocks.proofs.laws_of_blocks.reads_or_refused.Goals as goal

pub returns : goal.returns
returns c = read_or_refused
