use Rattle.std.proofs.Common.{ap, ◌∙◌}
use Rattle.ped_tree.specs.Tree.{Comment}
use Rattle.ped_reduce.proofs.ListAnswers.{comment_more}
use Rattle.ped_reduce.proofs.lists.comments.Goals as goal

pub loop-name-preserved : goal.loop-name-preserved
loop-name-preserved c =
    comment_more c.args.names.now c.loop-name.name-index c.name-item.result c.loop-name-test.true c.name-item.is c.loop-name.all.items c.push.new.self.items c.comment.result c.in_ok-push.ensures.items
    (c.comment.ensures ∙ ap Comment c.in_ok-text.ensures) c.loop-name.invariant
