use Rattle.std.proofs.Common.{◌-◌, length}
use Rattle.ped_certificates.proofs.checking.+close.Given as goal

-- how many steps are left
abbrev pub decreases-close : goal.decreases-close
decreases-close l = length l.steps.now - l.from
