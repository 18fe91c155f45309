use Rattle.std.proofs.Common.{◌≡◌, [], ◌∷◌, ◌++◌, map, drop}
use Rattle.std.specs.List.{flat_map}
use Rattle.ped_edges.specs.Rows.{edge_row}
use Rattle.ped_edges.specs.CodeEdges.{edge_of}
use Rattle.ped_edges.proofs.pane.push_rows.Given as goal

-- the rows so far and those of what is left are those of all
abbrev pub invariant-loop-edge : goal.invariant-loop-edge
invariant-loop-edge l =
    l.out ++ flat_map (λ e. edge_row e ++ 10 ∷ []) (map edge_of (drop l.edge-index l.edges))
    ≡ l.initial.out ++ flat_map (λ e. edge_row e ++ 10 ∷ []) (map edge_of l.edges)
