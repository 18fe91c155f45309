use Rattle.ped_session.specs.ped_transformations.specs.ped_splits.proofs.Existence.Edges.{edges_of_program}
use Rattle.ped_answer.proofs.existence.panes.dependences_exist.Goals as goal

pub returns : goal.returns
returns c = edges_of_program
