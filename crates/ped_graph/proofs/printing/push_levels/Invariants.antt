use Rattle.std.proofs.Common.{◌≡◌, ◌++◌, map, drop}
use Rattle.ped_graph.specs.CodeFacts.{pair_seen}
use Rattle.ped_graph.specs.HeldPairs.{rows_of}
use Rattle.ped_graph.specs.Levels.{edge_by}
use Rattle.ped_graph.proofs.printing.push_levels.Given as goal

-- the rows so far and those of what is left are those of all
abbrev pub invariant-loop-part : goal.invariant-loop-part
invariant-loop-part l = l.rows ++ rows_of (map (edge_by (pair_seen l.pair)) (drop l.part-index l.levels)) ≡ l.initial.rows ++ rows_of (map (edge_by (pair_seen l.pair)) l.levels)
