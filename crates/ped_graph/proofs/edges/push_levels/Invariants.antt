use Rattle.std.proofs.Common.{◌≡◌, ◌++◌, map, drop, All}
use Rattle.ped_edges.specs.CodeEdges.{edge_of, HasAtMostSixLoops}
use Rattle.ped_graph.specs.CodeFacts.{pair_seen}
use Rattle.ped_graph.specs.Levels.{edge_by}
use Rattle.ped_graph.proofs.edges.push_levels.Given as goal

-- the dependences so far and those of the levels ahead are those of all
abbrev pub invariant-loop-part : goal.invariant-loop-part
invariant-loop-part l =
    (map edge_of l.edges.items ++ map (edge_by (pair_seen l.pair)) (drop l.part-index l.levels) ≡ map edge_of l.initial.edges.items ++ map (edge_by (pair_seen l.pair)) l.levels)
    × (All HasAtMostSixLoops l.initial.edges.items → All HasAtMostSixLoops l.edges.items)
