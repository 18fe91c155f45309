use Rattle.std.proofs.Common.{◌≡◌, ◌++◌, map, take, drop}
use Rattle.ped_graph.specs.Parts.{turned}
use Rattle.ped_graph.proofs.parts.turn.Given as goal

-- the pairs so far are turned
abbrev pub invariant-loop-i : goal.invariant-loop-i
invariant-loop-i l = l.kept ≡ map turned (take l.i l.initial.kept) ++ drop l.i l.initial.kept
