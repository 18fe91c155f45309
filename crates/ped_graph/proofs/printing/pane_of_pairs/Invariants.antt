use Rattle.std.proofs.Common.{◌≡◌, List, map, length}
use Rattle.ped_edges.specs.Edges.{Edge}
use Rattle.ped_graph.specs.Held.{pairs_by}
use Rattle.ped_graph.specs.HeldPairs.{rows_of}
use Rattle.ped_graph.specs.CodeFacts.{framed_of, views_in}
use Rattle.ped_graph.proofs.HeldEdges.{AreAhead}
use Rattle.ped_graph.proofs.printing.pane_of_pairs.Given as goal

-- the dependences so far, and those of the pairs ahead, are all; those so far have these rows
abbrev pub invariant-loop-place : goal.invariant-loop-place
invariant-loop-place g l = (found : List Edge) × AreAhead (pairs_by (map framed_of l.pairs) (views_in l.verdicts)) l.place found × (l.rows ≡ rows_of found) × (l.count ≡ length found)
