use Rattle.std.proofs.lemmas.Bool.Decides.{same_from_decides}
use Rattle.ped_views.proofs.SameViews.{same_view_decides}
use Rattle.ped_views.proofs.subscripts.PairView.same.Goals as goal

pub returns-clause-same : goal.returns-clause-same
returns-clause-same c = same_from_decides _ _ c.is_equal.ensures (same_view_decides c.args.self.now c.args.other.now)
