use Rattle.std.proofs.Common.{refl}
use Rattle.ped_miv.proofs.Sums.{rest_none}
use Rattle.ped_miv.proofs.parts.no_rest.Goals as goal

pub returns : goal.returns
returns c = rest_none c.args._view.now c.args._position.now _ refl refl
