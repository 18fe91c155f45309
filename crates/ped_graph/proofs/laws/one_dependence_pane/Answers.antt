use Rattle.ped_graph.proofs.OnePane.{one_pane}
use Rattle.ped_graph.proofs.laws.one_dependence_pane.Goals as goal

pub returns : goal.returns
returns c = one_pane
