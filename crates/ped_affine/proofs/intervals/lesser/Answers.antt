use Rattle.ped_affine.proofs.IntervalEnds.{min_is, min_within}
use Rattle.ped_affine.proofs.intervals.lesser.Goals as goal

pub returns-clause-value : goal.returns-clause-value
returns-clause-value c = min_is c.args.a c.args.b c.min.result c.requires.first.ordered c.requires.second.ordered c.min.ensures

pub returns-clause-near : goal.returns-clause-near
returns-clause-near c =
    min_within _ c.args.a c.args.b c.min.result c.requires.first c.requires.second
    (min_is c.args.a c.args.b c.min.result c.requires.first.ordered c.requires.second.ordered c.min.ensures)
