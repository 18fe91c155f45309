use Rattle.ped_answer.proofs.ExistenceLaws.Edges.{pane_of_program}
use Rattle.ped_answer.proofs.existence.panes.dependence_pane_exists.Goals as goal

pub returns : goal.returns
returns c = pane_of_program
