use Rattle.ped_laws.proofs.RunLaws.Joined.{entry_apart, entry_fails, in_order_is, close_apart, close_missing}
use Rattle.ped_laws.proofs.runs.parting.loops_parted.Goals as goal

pub returns-clause-entry : goal.returns-clause-entry
returns-clause-entry c = entry_apart

pub returns-clause-in_order : goal.returns-clause-in_order
returns-clause-in_order c = in_order_is

pub returns-clause-parallel : goal.returns-clause-parallel
returns-clause-parallel c = close_apart

pub returns-clause-unclosed : goal.returns-clause-unclosed
returns-clause-unclosed c = close_missing

pub returns-clause-fault : goal.returns-clause-fault
returns-clause-fault c = entry_fails
