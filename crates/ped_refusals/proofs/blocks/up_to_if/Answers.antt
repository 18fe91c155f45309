use Rattle.std.proofs.Common.{sym, ap, ◌∙◌}
use Rattle.ped_tree.specs.Grammar.Contexts.{has_if}
use Rattle.ped_refusals.specs.OpenBlocks.{blocks_of}
use Rattle.ped_refusals.proofs.Leaving.{no_if}
use Rattle.ped_refusals.proofs.blocks.up_to_if.Goals as goal

pub returns-clause-is : goal.returns-clause-is
returns-clause-is c =
    sym (no_if (blocks_of c.args.blocks.now) (sym c.loop-block.invariant.has ∙ ap has_if c.in_default.ensures.is))
