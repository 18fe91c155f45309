use Rattle.std.proofs.Common.{subst}
use Rattle.ped_transformations.specs.ped_reduce.specs.Lowering.{Lowered}
use Rattle.ped_transformations.specs.ped_reduce.specs.Reducing.{IsLowered}
use Rattle.ped_session.proofs.OneRun.{as_it_is}
use Rattle.ped_session.proofs.RunsInOrder.{lowered_to_itself}
use Rattle.ped_session.proofs.laws.without_lists.Goals as goal

pub returns-clause-none : goal.returns-clause-none
returns-clause-none c = λ choices d t o none. as_it_is choices d t o (lowered_to_itself t none)

pub returns-clause-none_live : goal.returns-clause-none_live
returns-clause-none_live c = λ choices d t q o lowers none.
    as_it_is choices d t o (subst (λ (r : Lowered). IsLowered t r) (c.one_lowering.ensures.none_live t q lowers none) lowers)
