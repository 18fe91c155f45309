use Rattle.std.proofs.Common.{take, map, IsTrue}
use Rattle.std.specs.List.{list_any}
use Rattle.ped_edges.specs.CodeEdges.{edge_of}
use Rattle.ped_splits.specs.CodeUnits.{leads_between}
use Rattle.ped_splits.proofs.ArrowLaws.{HasAdded}
use Rattle.ped_splits.proofs.arrows.add_dependences.Given as goal

abbrev pub invariant-loop-edge : goal.invariant-loop-edge
invariant-loop-edge l = HasAdded l.initial.arrows l.arrows (λ i j. IsTrue (list_any (leads_between l.level l.parted.number l.parted.homes.now i j) (map edge_of (take l.edge-index l.edges))))
