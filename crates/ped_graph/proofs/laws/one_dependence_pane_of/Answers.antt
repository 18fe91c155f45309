use Rattle.ped_graph.proofs.OnePane.{one_pane_of}
use Rattle.ped_graph.proofs.laws.one_dependence_pane_of.Goals as goal

pub returns : goal.returns
returns c = one_pane_of
