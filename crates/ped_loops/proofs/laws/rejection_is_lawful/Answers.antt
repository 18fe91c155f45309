use Rattle.ped_loops.proofs.RejectRules.{lawful_rejection}
use Rattle.ped_loops.proofs.laws.rejection_is_lawful.Goals as goal

pub returns : goal.returns
returns c = lawful_rejection
