use Rattle.ped_laws.proofs.ActLaws.Conflicting.{conflict_of_accesses}
use Rattle.ped_laws.proofs.acts.races.conflicting_accesses.Goals as goal

pub returns : goal.returns
returns c = conflict_of_accesses
