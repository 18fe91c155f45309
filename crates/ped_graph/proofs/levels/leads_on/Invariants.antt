use Rattle.std.proofs.Common.{◌≡◌, ◌+◌, drop}
use Rattle.ped_graph.specs.Dependences.{carriage_from}
use Rattle.ped_graph.specs.Levels.{leads_on}
use Rattle.ped_graph.proofs.levels.leads_on.Given as goal

-- the directions ahead decide
abbrev pub invariant-loop-direction : goal.invariant-loop-direction
invariant-loop-direction l =
    leads_on l.is_forward (carriage_from (l.direction-index + 1) (drop l.direction-index l.directions)) ≡ leads_on l.is_forward (carriage_from 1 l.directions)
