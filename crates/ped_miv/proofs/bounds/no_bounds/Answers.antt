use Rattle.std.proofs.Common.{refl}
use Rattle.ped_miv.proofs.Sums.{bounds_none}
use Rattle.ped_miv.proofs.bounds.no_bounds.Goals as goal

pub returns : goal.returns
returns c = bounds_none c.args._view.now c.args._position.now _ refl refl
