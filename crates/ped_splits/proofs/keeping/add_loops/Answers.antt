use Rattle.std.proofs.Common.{ℕ, List, ◌++◌, ap, ◌∙◌, arith}
use Rattle.std.proofs.lemmas.List.{length-take-le}
use Rattle.ped_splits.specs.CodeUnits.{body_of}
use Rattle.ped_splits.specs.Distributing.{pi_block_sources}
use Rattle.ped_splits.proofs.Keepings.{next_loop}
use Rattle.ped_splits.proofs.keeping.add_loops.Goals as goal

pub loop-place-preserved : goal.loop-place-preserved
loop-place-preserved c =
    let s = c.args.parted.now.number in
    let body = body_of c.args.parted.now in
    let pi_blocks = c.args.pi_blocks.now in
    let k = c.loop-place.place in
    let inside = c.loop-place-test.true in
    let made = c.in_ok-add_pi_block.ensures ∙ ap (λ (b : List ℕ). c.loop-place.sources.items ++ pi_block_sources s body c.source_of_head-head.result b) c.as_slice.ensures in
    next_loop s body pi_blocks k c.index-pi_blocks-place.result c.source_of_head-head.result c.args.sources.now.items c.loop-place.sources.items c.add_pi_block.new.sources.items inside (length-take-le k pi_blocks (omega (arith, inside))) c.index-pi_blocks-place.is
    c.source_of_head-head.ensures c.loop-place.invariant made
