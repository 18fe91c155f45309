use Rattle.std.proofs.Common.{ℕ, map, slice_index_or, ap, ◌∙◌}
use Rattle.ped_tree.specs.Tree.{StmtTrees, Do, no_stmts}
use Rattle.ped_tree.specs.Views.{head_of}
use Rattle.ped_splits.specs.CodeUnits.{body_of}
use Rattle.ped_splits.specs.Distributing.{joined, loops_of}
use Rattle.ped_splits.proofs.JoinedUnits as law
use Rattle.ped_splits.proofs.distributing.loops_of.Goals as goal

pub loop-block-preserved : goal.loop-block-preserved
loop-block-preserved c =
    let h = head_of c.args.parted.now.statement.now in
    let body = body_of c.args.parted.now in
    let block = c.block-item.result in
    let units = c.in_ok-body.ensures ∙ (λ i. joined (map (λ (k : ℕ). slice_index_or (c.requires.units i) k no_stmts) (c.as_slice.ensures i))) in
    let tree = c.in_ok-loop_with.ensures ∙ ap (λ (b : StmtTrees). Do h b) units in
    law.next_loop h body c.loop-block.loops.items c.push.new.self.items c.args.found.now c.loop-block.block-index block c.in_ok-loop_with.field-0 (loops_of c.args.found.now h body) c.in_ok-push.ensures.items tree c.loop-block-test.true c.block-item.is c.loop-block.invariant

pub returns : goal.returns
returns c =
    let h = head_of c.args.parted.now.statement.now in
    let body = body_of c.args.parted.now in
    law.all_loops h body c.loop-block.loops.items c.args.found.now c.loop-block.block-index (loops_of c.args.found.now h body) c.loop-block-test.false c.loop-block.invariant
