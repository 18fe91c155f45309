use Rattle.std.proofs.Common.{◌≡◌, ◌++◌, [], ◌∷◌, map, true, false, sym, ap, ◌∙◌, subst}
use Rattle.std.specs.BTreeSet.{insert_key}
use Rattle.std.specs.List.Sorted.{IsStrictlySortedBy}
use Rattle.ped_edges.specs.CodeEdges.{edge_of}
use Rattle.ped_inline.specs.Folding.{block_at, is_folded_by, is_folded, number_by, row_of, row_cmp, AreRows}
use Rattle.ped_inline.specs.CodeFolding.{places_seen, row_seen}
use Rattle.ped_inline.specs.declared.rows.FoldedRow.{FoldedRow}
use Rattle.ped_inline.proofs.InsertedRows.{seen_inserted, seen_sorted, one_added, one_passed}
use Rattle.ped_inline.proofs.rows.add_folded.Goals as goal

pub returns-in_ok-insert : goal.returns-in_ok-insert
returns-in_ok-insert c = λ done are.
    let bs = places_seen c.args.places.now in
    let e = edge_of c.args.edge.now in
    let rows = map row_seen c.args.rows.now.keys in
    let key : FoldedRow = record { source = c.number_by.result; sink = c.number_by-then-is_folded.result; name = c.args.edge.now.name; kind = c.args.edge.now.kind; level = c.args.edge.now.level } in
    let source = c.block_at-source.ensures in
    let sink = c.block_at-sink.ensures in
    let begins : c.number_by.result ≡ number_by e.source.0 (block_at bs e.source.0) = c.number_by.ensures ∙ ap (number_by e.source.0) source in
    let ends : c.number_by-then-is_folded.result ≡ number_by e.sink.0 (block_at bs e.sink.0) = c.number_by-then-is_folded.ensures ∙ ap (number_by e.sink.0) sink in
    let same : row_seen key ≡ row_of bs e = λ i. record { source = begins i; sink = ends i; name = e.name; kind = e.kind; level = e.level } in
    let keys : map row_seen c.insert.new.self.keys ≡ insert_key row_cmp rows (row_of bs e) = ap (map row_seen) c.in_ok-insert.ensures.keys ∙ seen_inserted row_seen row_cmp key c.args.rows.now.keys ∙ ap (insert_key row_cmp rows) same in
    let folded : is_folded bs e ≡ true = (λ i. is_folded_by (sym source i) (sym sink i) e.level) ∙ sym c.is_folded.ensures ∙ c.if-is_folded.true in
    let ordered = subst (IsStrictlySortedBy row_cmp) keys (seen_sorted row_seen row_cmp c.insert.new.self.keys c.in_ok-insert.ensures.ordered) in
    subst (AreRows bs (done ++ e ∷ [])) (sym keys) (one_added bs e done rows folded are ordered)

pub returns-else-is_folded : goal.returns-else-is_folded
returns-else-is_folded c = λ done are.
    let bs = places_seen c.args.places.now in
    let e = edge_of c.args.edge.now in
    let rows = map row_seen c.args.rows.now.keys in
    let other : is_folded bs e ≡ false = (λ i. is_folded_by (sym c.block_at-source.ensures i) (sym c.block_at-sink.ensures i) e.level) ∙ sym c.is_folded.ensures ∙ c.if-is_folded.false in
    one_passed bs e done rows other are
