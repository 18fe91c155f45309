use Rattle.ped_weaves.proofs.WeaveLaws.CountedActs.{counted_touched, counted_needed, counted_writes, counted_written, kept_unwritten}
use Rattle.ped_weaves.proofs.weaves.counted_acts.Goals as goal

pub returns-clause-touched : goal.returns-clause-touched
returns-clause-touched c = counted_touched

pub returns-clause-needed : goal.returns-clause-needed
returns-clause-needed c = counted_needed

pub returns-clause-writes : goal.returns-clause-writes
returns-clause-writes c = counted_writes

pub returns-clause-written : goal.returns-clause-written
returns-clause-written c = counted_written

pub returns-clause-kept : goal.returns-clause-kept
returns-clause-kept c = kept_unwritten
