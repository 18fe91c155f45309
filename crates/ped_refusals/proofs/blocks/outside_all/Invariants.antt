use Rattle.std.proofs.Common.{◌≡◌, take, false}
use Rattle.ped_tree.specs.Grammar.Contexts as Contexts
use Rattle.ped_refusals.specs.OpenBlocks.{blocks_of}
use Rattle.ped_refusals.proofs.blocks.outside_all.Given as goal

abbrev pub invariant-loop-i : goal.invariant-loop-i
invariant-loop-i l = Contexts.has_do l.label (blocks_of (take l.i l.blocks)) ≡ false
