use Rattle.ped_laws.proofs.PlainLaws.Entries.{entry_begins}
use Rattle.ped_laws.proofs.plain.bounds.entries_begin_executions.Goals as goal

pub returns : goal.returns
returns c = entry_begins
