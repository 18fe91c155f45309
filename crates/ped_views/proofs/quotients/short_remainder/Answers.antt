use Rattle.std.specs.Int.{w64}
use Rattle.std.proofs.lemmas.Int.{rem_is}
use Rattle.ped_views.proofs.quotients.short_remainder.Goals as goal

pub returns : goal.returns
returns c = rem_is w64 c.args.n c.args.d c.ranges.n c.ranges.d
