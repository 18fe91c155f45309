use Rattle.std.proofs.Common.{ℕ, List, ◌++◌, ap, ◌∙◌}
use Rattle.std.proofs.lemmas.Result.{on_ok_weaker}
use Rattle.std.specs.Fmt.{decimal}
use Rattle.ped_refs.specs.Occurrences.{name_text}
use Rattle.ped_edges.specs.CodeEdges.{kind_of}
use Rattle.ped_edges.specs.Rows.{kind_text, level_text}
use Rattle.ped_inline.proofs.PushedLines.{five_pushed}
use Rattle.ped_inline.proofs.pane.push_row.Goals as goal

pub returns : goal.returns
returns c =
    let row = c.args.row.now in
    on_ok_weaker c.push_level.result
    (λ e. five_pushed c.args.out.now (decimal row.source) (decimal row.sink) (name_text row.name) (kind_text (kind_of row.kind)) (level_text row.level)
    c.push_number.new.out c.push.new.self c.push_number-2.new.out c.push-2.new.self c.extend_from_slice.new.self c.push-3.new.self c.push_kind.new.out c.push-4.new.self c.push_level.new.out
    (c.in_ok-push_number.ensures ∙ ap (λ (n : ℕ). c.args.out.now ++ decimal n) c.from.ensures) c.in_ok-push.ensures.ok
    (c.in_ok-push_number-2.ensures ∙ ap (λ (n : ℕ). c.push.new.self ++ decimal n) c.from-2.ensures) c.in_ok-push-2.ensures.ok (c.in_ok-extend_from_slice.ensures.ok ∙ ap (λ (x : List ℕ). c.push-2.new.self ++ x) c.bytes_of.ensures) c.in_ok-push-3.ensures.ok c.in_ok-push_kind.ensures c.in_ok-push-4.ensures.ok e)
    c.push_level.ensures
