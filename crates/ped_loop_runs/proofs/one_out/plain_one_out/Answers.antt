use Rattle.ped_bodies.specs.ped_laws.proofs.PlainLaws.ValidPrograms.{loop_bounds_fit}
use Rattle.ped_loop_runs.proofs.LoopLaws.NextIn.{first_is_next}
use Rattle.ped_loop_runs.proofs.LoopLaws.OneOut.{plain_out, same_interval, sum_sides, difference_sides, place_further_in, value_out}
use Rattle.ped_loop_runs.proofs.one_out.plain_one_out.Goals as goal

pub returns-clause-next : goal.returns-clause-next
returns-clause-next c = first_is_next

pub returns-clause-plain : goal.returns-clause-plain
returns-clause-plain c = λ constants t l outer m e next. plain_out constants t l outer m next e

pub returns-clause-interval : goal.returns-clause-interval
returns-clause-interval c = λ constants t l outer m e next. same_interval constants t l outer m next e

pub returns-clause-value : goal.returns-clause-value
returns-clause-value c = value_out

pub returns-clause-fit : goal.returns-clause-fit
returns-clause-fit c = λ t valid m inner. loop_bounds_fit t m inner.head inner.body valid inner.is

pub returns-clause-sum : goal.returns-clause-sum
returns-clause-sum c = sum_sides

pub returns-clause-difference : goal.returns-clause-difference
returns-clause-difference c = difference_sides

pub returns-clause-further_in : goal.returns-clause-further_in
returns-clause-further_in c = place_further_in
