use Rattle.std.proofs.Common.{◌∙◌}
use Rattle.ped_tree.specs.Views.{stmt_trees, head_of}
use Rattle.ped_splits.specs.CodePairs.{next_in}
use Rattle.ped_splits.proofs.PairLoops.{goes_on, ends_here}
use Rattle.ped_splits.proofs.neighbours.pair_of.Goals as goal

pub returns-then-not-is_comment : goal.returns-then-not-is_comment
returns-then-not-is_comment c =
    c.pair_with.ensures
    ∙ ends_here c.args.others.now c.loop-place.place c.index-others-place.result c.loop-place-test.true c.index-others-place.is c.is_comment.result c.is_comment.ensures (next_in (stmt_trees c.args.others.now)) c.loop-place.invariant
    c.if-not-is_comment.true c.args.number (head_of c.args.own.now) (stmt_trees c.args.own.now.body.items)

pub loop-place-preserved : goal.loop-place-preserved
loop-place-preserved c =
    goes_on c.args.others.now c.loop-place.place c.index-others-place.result c.loop-place-test.true c.index-others-place.is c.is_comment.result c.is_comment.ensures (next_in (stmt_trees c.args.others.now)) c.loop-place.invariant c.if-not-is_comment.false
