use Rattle.std.proofs.Common.{◌≡◌, ◌+◌, drop}
use Rattle.ped_graph.specs.Dependences.{carriage_from}
use Rattle.ped_graph.proofs.edges.is_of.Given as goal

-- the directions ahead decide
abbrev pub invariant-loop-place : goal.invariant-loop-place
invariant-loop-place l = carriage_from (l.place + 1) (drop l.place l.directions) ≡ carriage_from 1 l.directions
