use Rattle.ped_laws.proofs.ActLaws.Changing.{stripped_fits, restored_fits, stripped_leaves}
use Rattle.ped_laws.proofs.acts.idle_acts.without_writes.Goals as goal

pub returns-clause-strips : goal.returns-clause-strips
returns-clause-strips c = stripped_fits

pub returns-clause-restores : goal.returns-clause-restores
returns-clause-restores c = restored_fits

pub returns-clause-leaves : goal.returns-clause-leaves
returns-clause-leaves c = stripped_leaves
