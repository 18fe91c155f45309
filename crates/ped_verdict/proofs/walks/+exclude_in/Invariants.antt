use Rattle.std.proofs.Common.{length, ◌-◌}
use Rattle.ped_verdict.proofs.walks.+exclude_in.Given as goal

-- how many loops have no direction yet
abbrev pub decreases-exclude_in : goal.decreases-exclude_in
decreases-exclude_in l = length l.view.now.loops - length l.front
