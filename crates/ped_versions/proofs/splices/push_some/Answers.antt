use Rattle.std.proofs.Common.{◌∙◌}
use Rattle.ped_versions.proofs.LinesLeft.{drop_one_more, text_one_more}
use Rattle.ped_versions.proofs.splices.push_some.Goals as goal

pub loop-preserved : goal.loop-preserved
loop-preserved c =
    let line = c.in-Some.line.now in
    let before = c.loop.lines.lines in
    let after = c.next.new.self.lines in
    record {
      added = text_one_more c.args.count c.loop.counter c.loop.all c.push_line.new.all line before after c.loop-test.true c.in-Some.ensures.line.0 c.in_ok-push_line-in-Some.ensures ∙ c.loop.invariant.added;
      left = drop_one_more c.args.count c.loop.counter line before after c.loop-test.true c.in-Some.ensures.line.0 ∙ c.loop.invariant.left;
    }
