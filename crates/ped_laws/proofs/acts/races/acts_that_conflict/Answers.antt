use Rattle.ped_laws.proofs.ActLaws.Conflicting.{accesses_of_conflict, accesses_outside}
use Rattle.ped_laws.proofs.acts.races.acts_that_conflict.Goals as goal

pub returns-clause-tells : goal.returns-clause-tells
returns-clause-tells c = accesses_of_conflict

pub returns-clause-outside : goal.returns-clause-outside
returns-clause-outside c = accesses_outside
