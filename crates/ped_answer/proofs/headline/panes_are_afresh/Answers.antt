use Rattle.ped_answer.proofs.FreshPanes.{request_panes}
use Rattle.ped_answer.proofs.headline.panes_are_afresh.Goals as goal

pub returns : goal.returns
returns c = request_panes c.sources_are_printed.ensures
