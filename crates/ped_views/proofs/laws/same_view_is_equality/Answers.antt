use Rattle.ped_views.proofs.SameViews.{same_view_decides}
use Rattle.ped_views.proofs.laws.same_view_is_equality.Goals as goal

pub returns : goal.returns
returns c = same_view_decides
