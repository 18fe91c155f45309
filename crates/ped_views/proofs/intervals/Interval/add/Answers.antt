use Rattle.std.proofs.Common.{arith}
use Rattle.ped_views.proofs.Products.{linear}
use Rattle.ped_views.proofs.Images.{add_image}
use Rattle.ped_views.proofs.intervals.Interval.add.Goals as goal

pub returns : goal.returns
returns c = add_image _ c.args.self c.args.b _ c.requires.first c.requires.second (omega (arith, linear)) (omega (arith, linear))
