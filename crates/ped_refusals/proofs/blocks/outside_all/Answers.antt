use Rattle.std.proofs.Common.{Bool, ap, ◌∙◌, take}
use Rattle.std.specs.Prelude.{◌||◌}
use Rattle.ped_tree.specs.Grammar.Contexts.{has_do}
use Rattle.ped_refusals.specs.OpenBlocks.{blocks_of}
use Rattle.ped_refusals.proofs.Leaving.{left_at, none_more, left_nowhere}
use Rattle.ped_refusals.proofs.blocks.outside_all.Goals as goal

pub returns-then-is_loop_with-clause-is : goal.returns-then-is_loop_with-clause-is
returns-then-is_loop_with-clause-is c =
    let front = blocks_of (take c.loop-i.i c.args.blocks.now) in
    left_at c.args.label c.args.blocks.now c.loop-i.i c.index-blocks-i.result c.loop-i-test.true c.index-blocks-i.is c.loop-i.invariant
    (c.is_loop_with.ensures front ∙ ap (λ (b : Bool). b || has_do c.args.label front) c.if-is_loop_with.true)

pub loop-i-preserved : goal.loop-i-preserved
loop-i-preserved c =
    let front = blocks_of (take c.loop-i.i c.args.blocks.now) in
    none_more c.args.label c.args.blocks.now c.loop-i.i c.index-blocks-i.result c.loop-i-test.true c.index-blocks-i.is
    (c.is_loop_with.ensures front ∙ ap (λ (b : Bool). b || has_do c.args.label front) c.if-is_loop_with.false ∙ c.loop-i.invariant)

pub returns-clause-is : goal.returns-clause-is
returns-clause-is c = left_nowhere c.args.label c.args.blocks.now c.loop-i.i c.loop-i-test.false c.loop-i.invariant
