-- Nothing is dropped.
use Rattle.ped_store.specs.Keeping.{memory_of}
use Rattle.ped_machine.proofs.Dropping.{nothing_kept}
use Rattle.ped_machine.proofs.works.NeverWork.leave.Goals as goal

pub returns-clause-kept : goal.returns-clause-kept
returns-clause-kept c h = nothing_kept _ (memory_of c.args._state.now.store)
