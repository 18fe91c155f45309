use Rattle.std.specs.Int.{w128}
use Rattle.std.proofs.lemmas.Int.{rem_is}
use Rattle.ped_views.proofs.quotients.long_remainder.Goals as goal

pub returns : goal.returns
returns c = rem_is w128 c.args.n c.args.d c.ranges.n c.ranges.d
