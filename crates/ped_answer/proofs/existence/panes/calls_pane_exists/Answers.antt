use Rattle.ped_answer.proofs.ExistenceLaws.Edges.{calls_pane_of_program}
use Rattle.ped_answer.proofs.existence.panes.calls_pane_exists.Goals as goal

pub returns : goal.returns
returns c = calls_pane_of_program
