-- Nothing is forgotten.
use Rattle.ped_store.specs.Keeping.{memory_of}
use Rattle.ped_machine.proofs.Dropping.{nothing_kept}
use Rattle.std.proofs.Common.{inl, refl}
use Rattle.ped_machine.proofs.works.NeverWork.forget.Goals as goal

pub returns-clause-cells : goal.returns-clause-cells
returns-clause-cells c d = inl refl

pub returns-clause-others : goal.returns-clause-others
returns-clause-others c d = inl refl

pub returns-clause-kept : goal.returns-clause-kept
returns-clause-kept c = nothing_kept _ (memory_of c.args._store.now)
