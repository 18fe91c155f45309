use Rattle.std.proofs.Common.{◌≡◌, ◌++◌, [], ◌∷◌, map, drop}
use Rattle.std.specs.List.{flat_map}
use Rattle.ped_edges.specs.Rows.{vector_text}
use Rattle.ped_edges.proofs.vectors.push_each.Given as goal

-- the vectors so far and those that are left are all vectors
abbrev pub invariant-loop-vector : goal.invariant-loop-vector
invariant-loop-vector l =
    l.out ++ flat_map (λ v. vector_text (map (λ d. d ∷ []) v)) (drop l.vector-index l.vectors)
    ≡ l.initial.out ++ flat_map (λ v. vector_text (map (λ d. d ∷ []) v)) l.vectors
