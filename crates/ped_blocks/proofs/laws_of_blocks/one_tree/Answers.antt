use Rattle.ped_blocks.proofs.BlocksOneTree.{read_once}
use Rattle.ped_blocks.proofs.laws_of_blocks.one_tree.Goals as goal

pub returns : goal.returns
returns c = read_once
