use Rattle.ped_loop_runs.proofs.TidyLaws.TidyPathsPrivate.{cleared_private}
use Rattle.ped_loop_runs.proofs.tidiness.private_names_cleared.Goals as goal

pub returns : goal.returns
returns c = cleared_private
