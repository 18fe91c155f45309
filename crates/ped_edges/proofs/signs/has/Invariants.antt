use Rattle.std.proofs.Common.{◌≡◌, drop}
use Rattle.std.specs.List.{list_any}
use Rattle.ped_views.specs.Excluded.{direction_at}
use Rattle.ped_edges.specs.Rows.{same_direction}
use Rattle.ped_edges.proofs.signs.has.Given as goal

-- no vector so far has the direction
abbrev pub invariant-loop-vector : goal.invariant-loop-vector
invariant-loop-vector l =
    list_any (λ v. same_direction l.direction (direction_at v l.place)) (drop l.vector-index l.vectors)
    ≡ list_any (λ v. same_direction l.direction (direction_at v l.place)) l.vectors
