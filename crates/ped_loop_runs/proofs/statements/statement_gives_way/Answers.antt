use Rattle.ped_loop_runs.proofs.PastingLaws.OneStatement.{gives_way}
use Rattle.ped_loop_runs.proofs.statements.statement_gives_way.Goals as goal

pub returns : goal.returns
returns c = gives_way
