use Rattle.std.specs.List.{range_with_len}
use Rattle.ped_tree.specs.Numbering.{statements_count}
use Rattle.ped_reduce.specs.Lowering.{not_lowered}
use Rattle.ped_reduce.proofs.LoweringLaws.{one_lowered, origins_there, valid_stays, stays_itself, none_live, lowered_there}
use Rattle.ped_reduce.proofs.laws.one_lowering.Goals as goal

pub returns-clause-one : goal.returns-clause-one
returns-clause-one c = one_lowered

pub returns-clause-valid : goal.returns-clause-valid
returns-clause-valid c = λ t q valid lowered. valid_stays t (range_with_len 1 (statements_count t.body)) (not_lowered t) q valid lowered

pub returns-clause-origins : goal.returns-clause-origins
returns-clause-origins c = origins_there

pub returns-clause-none : goal.returns-clause-none
returns-clause-none c = λ t none. stays_itself t none (range_with_len 1 (statements_count t.body)) (not_lowered t)

pub returns-clause-inside : goal.returns-clause-inside
returns-clause-inside c = λ t q lowered. (lowered_there t q lowered).there

pub returns-clause-none_live : goal.returns-clause-none_live
returns-clause-none_live c = none_live
