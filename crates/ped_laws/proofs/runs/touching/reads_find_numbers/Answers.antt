use Rattle.ped_laws.proofs.RunLaws.Defined.{numbers_read, numbers_needed}
use Rattle.ped_laws.proofs.runs.touching.reads_find_numbers.Goals as goal

pub returns-clause-read : goal.returns-clause-read
returns-clause-read c = numbers_read

pub returns-clause-needed : goal.returns-clause-needed
returns-clause-needed c = numbers_needed
