use Rattle.ped_affine.proofs.IntervalEnds.{max_is, max_within}
use Rattle.ped_affine.proofs.intervals.greater.Goals as goal

pub returns-clause-value : goal.returns-clause-value
returns-clause-value c = max_is c.args.a c.args.b c.max.result c.requires.first.ordered c.requires.second.ordered c.max.ensures

pub returns-clause-near : goal.returns-clause-near
returns-clause-near c =
    max_within _ c.args.a c.args.b c.max.result c.requires.first c.requires.second
    (max_is c.args.a c.args.b c.max.result c.requires.first.ordered c.requires.second.ordered c.max.ensures)
