use Rattle.ped_blocks.proofs.BlocksNest.{one_tree_of}
use Rattle.ped_blocks.proofs.laws_of_blocks.one_nesting.Goals as goal

pub returns : goal.returns
returns c = one_tree_of
