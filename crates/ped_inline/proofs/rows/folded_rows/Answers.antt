use Rattle.std.proofs.Common.{◌≡◌, ◌+◌, ◌++◌, [], ◌∷◌, List, map, take, sym, ap, ◌∙◌, subst}
use Rattle.std.proofs.lemmas.List.{map_push, take_more}
use Rattle.ped_edges.specs.CodeEdges.{edge_of}
use Rattle.ped_edges.specs.Edges as plain
use Rattle.ped_edges.specs.declared.edges.Edge.{Edge}
use Rattle.ped_inline.specs.Folding.{AreRows}
use Rattle.ped_inline.specs.CodeFolding.{places_seen, row_seen}
use Rattle.ped_inline.specs.declared.rows.FoldedRow.{FoldedRow}
use Rattle.ped_inline.proofs.InsertedRows.{no_rows}
use Rattle.ped_inline.proofs.rows.folded_rows.Goals as goal

pub loop-edge-init : goal.loop-edge-init
loop-edge-init c = let bs = places_seen c.args.places.now in subst (λ (keys : List FoldedRow). AreRows bs [] (map row_seen keys)) (sym c.new-rows.ensures.empty) (no_rows bs)

pub loop-edge-preserved : goal.loop-edge-preserved
loop-edge-preserved c =
    let bs = places_seen c.args.places.now in
    let all = c.args.edges.now in
    let i = c.loop-edge.edge-index in
    let e = c.edge-item.result in
    let more : take (i + 1) all ≡ take i all ++ e ∷ [] = take_more all i e c.loop-edge-test.true ∙ ap (λ (x : Edge). take i all ++ x ∷ []) (sym c.edge-item.is) in
    let seen : map edge_of (take (i + 1) all) ≡ map edge_of (take i all) ++ edge_of e ∷ [] = ap (map edge_of) more ∙ map_push edge_of (take i all) e in
    subst (λ (es : List plain.Edge). AreRows bs es (map row_seen c.add_folded.new.rows.keys)) (sym seen) (c.in_ok-add_folded.ensures (map edge_of (take i all)) c.loop-edge.invariant)
