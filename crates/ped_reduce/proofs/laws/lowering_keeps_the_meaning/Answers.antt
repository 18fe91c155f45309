use Rattle.ped_reduce.proofs.SumOrder.{sums_in_order}
use Rattle.ped_reduce.proofs.LoweringKeeps.{lowering_keeps}
use Rattle.ped_reduce.proofs.laws.lowering_keeps_the_meaning.Goals as goal

pub returns : goal.returns
returns c = λ t q valid trusted lowered. (let kept = lowering_keeps c.parallel_is_lawful.ensures sums_in_order t valid trusted q lowered in (kept.1, kept.2))
