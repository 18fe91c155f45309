use Rattle.ped_session.proofs.PrintedSources.{all_printed}
use Rattle.ped_session.proofs.laws.sources_are_printed.Goals as goal

pub returns : goal.returns
returns c = all_printed
