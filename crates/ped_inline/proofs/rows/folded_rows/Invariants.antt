use Rattle.std.proofs.Common.{map, take}
use Rattle.ped_edges.specs.CodeEdges.{edge_of}
use Rattle.ped_inline.specs.Folding.{AreRows}
use Rattle.ped_inline.specs.CodeFolding.{places_seen, row_seen}
use Rattle.ped_inline.proofs.rows.folded_rows.Given as goal

-- the rows of the dependences so far
abbrev pub invariant-loop-edge : goal.invariant-loop-edge
invariant-loop-edge l = AreRows (places_seen l.places) (map edge_of (take l.edge-index l.edges)) (map row_seen l.rows.keys)
