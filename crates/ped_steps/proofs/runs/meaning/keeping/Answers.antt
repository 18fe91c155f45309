use Rattle.ped_steps.proofs.RunLaws.KeptMeanings.{keeps_itself, keeps_further}
use Rattle.ped_steps.proofs.runs.meaning.keeping.Goals as goal

pub returns-clause-itself : goal.returns-clause-itself
returns-clause-itself c = keeps_itself

pub returns-clause-further : goal.returns-clause-further
returns-clause-further c = keeps_further
