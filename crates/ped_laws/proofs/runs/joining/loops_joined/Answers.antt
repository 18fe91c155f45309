use Rattle.ped_laws.proofs.RunLaws.Joined.{loop_in_order, loop_empty, loop_closed, loop_unclosed, loop_fault}
use Rattle.ped_laws.proofs.runs.joining.loops_joined.Goals as goal

pub returns-clause-in_order : goal.returns-clause-in_order
returns-clause-in_order c = loop_in_order

pub returns-clause-empty : goal.returns-clause-empty
returns-clause-empty c = loop_empty

pub returns-clause-parallel : goal.returns-clause-parallel
returns-clause-parallel c = λ p h body n more scope seen. loop_closed p h body n scope seen more

pub returns-clause-unclosed : goal.returns-clause-unclosed
returns-clause-unclosed c = loop_unclosed

pub returns-clause-fault : goal.returns-clause-fault
returns-clause-fault c = loop_fault
