use Rattle.ped_laws.proofs.ActLaws.Exchanging.{two_stand}
use Rattle.ped_laws.proofs.acts.exchanges.in_two_steps.Goals as goal

pub returns : goal.returns
returns c = two_stand
