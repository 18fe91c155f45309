use Rattle.ped_evidence.proofs.PairLevels.{front_kept}
use Rattle.ped_evidence.proofs.systems.front.Goals as goal

pub returns : goal.returns
returns c = front_kept c.args.count c.args.levels.now
