use Rattle.ped_auto.proofs.OneCourse.{auto_replays}
use Rattle.ped_auto.proofs.laws.auto_replays.Goals as goal

pub returns : goal.returns
returns g c = auto_replays g.E.Editor.editing g.met.E.Editor.laws
