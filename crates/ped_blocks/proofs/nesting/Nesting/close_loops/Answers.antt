use Rattle.std.proofs.Common.{◌≡◌, [], ap, sym, ◌∙◌, map, arith}
use Rattle.ped_tree.specs.Views.{stmt_tree}
use Rattle.ped_blocks.specs.Machine.{nest, close_loops}
use Rattle.ped_blocks.specs.BlockViews.{frame_of, blocks_of}
use Rattle.ped_tree.specs.Views.{head_of}
use Rattle.ped_blocks.proofs.OpenBlocks.{last_block, no_blocks, ends_here, stays_open}
use Rattle.ped_blocks.proofs.nesting.Nesting.close_loops.Goals as goal

pub loop-frame-preserved : goal.loop-frame-preserved
loop-frame-preserved c =
    let b = c.in-Ok.block in
    let rest = c.pop.new.self.items in
    ends_here c.args.label (head_of b.head) (map stmt_tree b.before.items) (blocks_of c.loop-frame.frames.items) (blocks_of rest) (frame_of c.in-Some.frame) _ _
    (ap blocks_of c.in-Some.ensures.items ∙ last_block rest c.in-Some.frame)
    c.in-Ok.ensures.ok
    c.in_ok-current-in-Ok.ensures
    ∙ c.loop-frame.invariant

pub returns-in-Err : goal.returns-in-Err
returns-in-Err c =
    let rest = c.pop.new.self.items in
    let around = ap blocks_of c.in-Some.ensures.items ∙ last_block rest c.in-Some.frame in
    let stays = stays_open c.args.label (frame_of c.in-Err.other) (blocks_of rest) (map stmt_tree c.loop-frame.current.items) c.in-Err.ensures.stays in
    grind (arith, around, stays, c.loop-frame.invariant, c.in-Err.ensures.err)

pub returns : goal.returns
returns c =
    let none : c.loop-frame.frames.items ≡ [] = grind arith in
    let closed = ap blocks_of none ∙ no_blocks in
    let rest : c.pop.new.self.items ≡ [] = grind arith in
    let left = ap blocks_of rest ∙ no_blocks in
    ap (λ x. nest x (map stmt_tree c.loop-frame.current.items)) left ∙ ap (λ x. close_loops c.args.label x (map stmt_tree c.loop-frame.current.items)) (sym closed) ∙ c.loop-frame.invariant
