use Rattle.std.proofs.Common.{◌≡◌, drop}
use Rattle.ped_views.specs.Vectors.{first_distance}
use Rattle.ped_verdict.proofs.distances.first_distance.Given as goal

-- the positions ahead decide
abbrev pub invariant-loop-position : goal.invariant-loop-position
invariant-loop-position l = first_distance l.place l.step (drop l.position-index l.positions) ≡ first_distance l.place l.step l.positions
