use Rattle.std.proofs.Common.{List, sym, subst}
use Rattle.ped_tree.specs.Views.{program_tree}
use Rattle.ped_graph.specs.Held.{Framed}
use Rattle.ped_graph.specs.Keys.{AreInOrder}
use Rattle.ped_graph.proofs.InOrder.{frame_in_order}
use Rattle.ped_graph.proofs.preparing.frame_by.Goals as goal

pub invariant_of-result : goal.invariant_of-result
invariant_of-result c = subst (λ (fs : List Framed). AreInOrder fs) (sym c.in_ok-pairs.ensures) (frame_in_order (program_tree c.args.known.now.program.now))
