use Rattle.ped_weaves.proofs.WeaveLaws.AgreedApart.{apart_fit, apart_leave}
use Rattle.ped_weaves.proofs.apart.parts_apart.Goals as goal

pub returns-clause-fits : goal.returns-clause-fits
returns-clause-fits c = apart_fit

pub returns-clause-leaves : goal.returns-clause-leaves
returns-clause-leaves c = apart_leave
