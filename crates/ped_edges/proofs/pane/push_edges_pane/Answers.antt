use Rattle.std.proofs.Common.{◌++◌, ◌∷◌, [], ◌∙◌, ℕ, codes, length, map, sym, ap}
use Rattle.std.proofs.lemmas.List.{length-map}
use Rattle.std.proofs.lemmas.Result.{on_ok_weaker}
use Rattle.std.specs.Fmt.{decimal}
use Rattle.std.specs.List.{flat_map}
use Rattle.ped_edges.specs.Rows.{edge_row}
use Rattle.ped_edges.specs.CodeEdges.{edge_of}
use Rattle.ped_edges.proofs.PushedRows.{heading_pushed}
use Rattle.ped_edges.proofs.pane.push_edges_pane.Goals as goal

pub returns : goal.returns
returns c =
    let edges = map edge_of c.args.edges.now in
    let count = c.in_ok-push_number.ensures ∙ ap (λ (n : ℕ). c.extend_from_slice.new.self ++ decimal n) (sym (length-map c.args.edges.now edge_of)) in
    on_ok_weaker c.push_rows.result (λ e. heading_pushed c.args.out.now (codes "dependences ") (decimal (length edges)) (flat_map (λ e. edge_row e ++ 10 ∷ []) edges)
    c.extend_from_slice.new.self c.push_number.new.out c.push.new.self c.push_rows.new.out
    c.in_ok-extend_from_slice.ensures.ok count c.in_ok-push.ensures.ok e) c.push_rows.ensures
