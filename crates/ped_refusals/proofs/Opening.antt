-- The innermost of open blocks.
use Rattle.std.proofs.Common.{◌≡◌, List, [], ◌∷◌, ◌++◌, refl}
use Rattle.ped_tree.specs.Grammar.Contexts as plain
use Rattle.ped_refusals.specs.declared.blocks.Block.{Block}
use Rattle.ped_refusals.specs.OpenBlocks.{block_of, opened_in, blocks_of}

-- one more block, the innermost
opened_push : (outer : List plain.Block) (bs : List Block) (b : Block) → opened_in outer (bs ++ b ∷ []) ≡ block_of b ∷ opened_in outer bs
opened_push outer [] b = refl
opened_push outer (a ∷ bs) b = opened_push (block_of a ∷ outer) bs b

pub blocks_push : (bs : List Block) (b : Block) → blocks_of (bs ++ b ∷ []) ≡ block_of b ∷ blocks_of bs
blocks_push bs b = opened_push [] bs b
