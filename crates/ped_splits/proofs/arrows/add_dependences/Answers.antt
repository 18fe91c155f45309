use Rattle.std.proofs.Common.{◌+◌, map, take}
use Rattle.ped_edges.specs.CodeEdges.{edge_of}
use Rattle.ped_splits.specs.CodeUnits.{leads_between}
use Rattle.ped_splits.proofs.ArrowLaws.{taken, added_more}
use Rattle.ped_splits.proofs.arrows.add_dependences.Goals as goal

pub loop-edge-preserved : goal.loop-edge-preserved
loop-edge-preserved c =
    let k = c.loop-edge.edge-index in
    let edges = c.args.edges.now in
    added_more c.args.arrows.now c.loop-edge.arrows c.add_dependence.new.arrows (λ i j. leads_between c.args.level c.args.parted.now.number c.args.parted.now.homes.now i j) (map edge_of (take k edges)) (map edge_of (take (k + 1) edges))
    (edge_of c.edge-item.result) (taken edge_of edges k c.edge-item.result c.loop-edge-test.true c.edge-item.is) c.loop-edge.invariant c.add_dependence.ensures.width c.add_dependence.ensures.arrows
