use Rattle.ped_evidence.proofs.SpokenElements.{elements_alone}
use Rattle.ped_evidence.proofs.laws.disproved_are_of_elements.Goals as goal

pub returns : goal.returns
returns c = elements_alone
