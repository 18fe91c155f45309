-- What the code keeps of the statements before one, as a plain context. Only contracts of private functions use it.
use Rattle.std.specs.Prelude.{List, [], ◌∷◌}
use Rattle.ped_tree.specs.Grammar.Contexts as plain
use Rattle.ped_tree.specs.Grammar.Contexts.{in_then, in_else, in_do}
use Rattle.ped_refusals.specs.declared.blocks.OpenLoop.{OpenLoop}
use Rattle.ped_refusals.specs.declared.blocks.Block.{Block}
use Rattle.ped_refusals.specs.declared.blocks.Block.TheVariants as block

-- an open loop
abbrev pub loop_of : OpenLoop → plain.OpenLoop
loop_of d = record { label = d.label; variable = d.variable; private = d.private; private_line = d.private_line }

-- an open block
abbrev pub block_of : Block → plain.Block
block_of (block.Then n) = in_then n
block_of (block.Else n) = in_else n
block_of (block.Loop d) = in_do (loop_of d)

-- blocks that are nested in one another within these, the outermost first, with the innermost first
abbrev pub opened_in : List plain.Block → List Block → List plain.Block
opened_in outer [] = outer
opened_in outer (b ∷ inner) = opened_in (block_of b ∷ outer) inner

-- open blocks, the outermost first, with the innermost first
abbrev pub blocks_of : List Block → List plain.Block
blocks_of blocks = opened_in [] blocks
