use Rattle.ped_links.specs.Arguments.{HasMisfit, SomeAliased}
use Rattle.ped_links.specs.Scenes.{unit_at}
use Rattle.ped_links.proofs.ArgumentsMet.{two_here}
use Rattle.ped_links.proofs.arguments.At.refusal.Goals as goal

pub returns : goal.returns
returns c us i at =
    let self = c.args.self.now in
    let bad = c.has_bad_arguments-bad.ensures us i at in
    let twice = c.is_aliased-aliased.ensures us i at in
    two_here self.call.now.line (HasMisfit us (unit_at us i) (unit_at us self.callee) self.call.now) (SomeAliased us (unit_at us i) (unit_at us self.callee) self.formals.now self.call.now.arguments) c.has_bad_arguments-bad.result c.is_aliased-aliased.result
    c.standing-found.result c.standing.result bad.0 bad.1 twice.0 twice.1 c.standing-found.ensures c.standing.ensures
