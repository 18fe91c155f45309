use Rattle.ped_auto.proofs.OneCourse.{one_auto}
use Rattle.ped_auto.proofs.laws.one_auto.Goals as goal

pub returns : goal.returns
returns g c = one_auto g.E.Editor.editing g.met.E.Editor.laws
