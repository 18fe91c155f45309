use Rattle.std.proofs.Common.{map, All}
use Rattle.ped_edges.specs.CodeEdges.{edge_of, HasAtMostSixLoops}
use Rattle.ped_graph.specs.HeldSelections.{asks}
use Rattle.ped_graph.specs.Held.{pairs_by}
use Rattle.ped_graph.specs.CodeFacts.{framed_of, views_in}
use Rattle.ped_graph.proofs.EdgesAsked.{AreAheadAsked}
use Rattle.ped_graph.proofs.edges.edges_asked.Given as goal

-- as to what is asked for, the dependences so far, and those of the pairs ahead, are all
abbrev pub invariant-loop-place : goal.invariant-loop-place
invariant-loop-place g l = AreAheadAsked (asks l.question) (pairs_by (map framed_of l.pairs) (views_in l.verdicts)) l.place (map edge_of l.edges.items) × All HasAtMostSixLoops l.edges.items
