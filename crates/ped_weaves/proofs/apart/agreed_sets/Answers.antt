use Rattle.ped_weaves.proofs.WeaveLaws.AgreedApart.{agreed_suit}
use Rattle.ped_weaves.proofs.apart.agreed_sets.Goals as goal

pub returns : goal.returns
returns c = agreed_suit
