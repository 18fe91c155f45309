use Rattle.std.proofs.Common.{◌≡◌, map}
use Rattle.std.specs.List.{range_with_len}
use Rattle.arrayvec.specs.ArrayVec.{array_vec_len}
use Rattle.ped_views.specs.Vectors.{distance}
use Rattle.ped_graph.proofs.edges.distances_of.Given as goal

-- the distances in the loops so far
abbrev pub invariant-loop-place : goal.invariant-loop-place
invariant-loop-place l = (l.distances.items ≡ map (distance l.view) (range_with_len 0 l.place)) × (array_vec_len l.distances ≡ l.place)
