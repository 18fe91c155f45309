use Rattle.std.proofs.Common.{◌≡◌, ◌+◌, ◌≤◌, map}
use Rattle.arrayvec.specs.ArrayVec.{array_vec_len}
use Rattle.ped_graph.specs.Dependences.{carried}
use Rattle.ped_graph.specs.Held.{Pair}
use Rattle.ped_graph.specs.HeldPairs.{held_carried}
use Rattle.ped_graph.specs.Levels.{AreLeft, edge_by}
use Rattle.ped_graph.proofs.levels.carried_levels.Given as goal

-- the levels so far, and the vectors that are left
abbrev pub invariant-loop-place : goal.invariant-loop-place
invariant-loop-place l =
    ((p : Pair) → map (edge_by p) l.levels.items ≡ held_carried p l.vectors l.place)
    × (array_vec_len l.levels ≤ l.place)
    × AreLeft (carried (l.place + 1)) l.vectors l.rest
