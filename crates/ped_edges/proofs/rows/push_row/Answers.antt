use Rattle.std.proofs.Common.{length}
use Rattle.std.proofs.lemmas.Result.{on_ok_weaker}
use Rattle.ped_edges.specs.Rows as shown
use Rattle.ped_edges.specs.CodeEdges.{kind_of, mark_of}
use Rattle.ped_refs.specs.Occurrences.{name_text}
use Rattle.ped_edges.proofs.PushedRows.{eight_pushed}
use Rattle.ped_edges.proofs.rows.push_row.Goals as goal

pub returns : goal.returns
returns c =
    let edge = c.args.edge.now in
    on_ok_weaker c.push_mark.result (λ e. eight_pushed c.args.out.now
    (shown.place_text edge.source) (shown.place_text edge.sink) (name_text edge.name.now) (shown.kind_text (kind_of edge.kind)) (shown.level_text edge.level)
    (shown.vectors_text (length edge.distances.now) edge.vectors.now) (shown.distances_text edge.distances.now) (shown.mark_text (mark_of edge.mark))
    c.push_place.new.out c.push_place-2.new.out c.push_name.new.out c.push_kind_word.new.out c.push_level.new.out c.push.new.self
    c.push_vectors.new.out c.push-2.new.self c.push_distances.new.out c.push_mark.new.out
    c.in_ok-push_place.ensures c.in_ok-push_place-2.ensures c.in_ok-push_name.ensures c.in_ok-push_kind_word.ensures c.in_ok-push_level.ensures c.in_ok-push.ensures.ok
    c.in_ok-push_vectors.ensures c.in_ok-push-2.ensures.ok c.in_ok-push_distances.ensures e) c.push_mark.ensures
