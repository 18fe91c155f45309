use Rattle.std.proofs.Common.{◌≡◌, ◌+◌, not, ap, ◌∙◌}
use Rattle.ped_versions.proofs.LinesLeft.{taken_first, drop_one_more}
use Rattle.ped_versions.proofs.splices.pass_over.Goals as goal

pub loop-preserved : goal.loop-preserved
loop-preserved c =
    let first = taken_first c.next.result (λ line. line.now) c.loop.lines.lines c.next.new.self.lines _ (λ line. c.next.new.self.read ≡ c.loop.lines.read + 1) (c.is_none.ensures ∙ ap not c.if-is_none.false) c.next.ensures.line in
    drop_one_more c.args.count c.loop.counter first.0 c.loop.lines.lines c.next.new.self.lines c.loop-test.true first.1 ∙ c.loop.invariant
