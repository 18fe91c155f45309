use Rattle.std.proofs.Common.{◌∙◌, ◌++◌, ℕ, List, length, codes, ap}
use Rattle.std.specs.Fmt.{decimal}
use Rattle.ped_graph.specs.HeldPairs.{rows_of}
use Rattle.ped_graph.proofs.PrintedRows.{heading_pushed}
use Rattle.ped_graph.proofs.printing.pane_of_rows.Goals as goal

pub returns : goal.returns
returns c = λ edges many rows.
    heading_pushed (codes "dependences ") (decimal (length edges)) (rows_of edges) c.new-pane.result c.extend_from_slice.new.self c.push_number.new.out c.push.new.self c.extend_from_slice-2.new.self
    c.new-pane.ensures c.in_ok-extend_from_slice.ensures.ok (c.in_ok-push_number.ensures ∙ ap (λ (n : ℕ). c.extend_from_slice.new.self ++ decimal n) many) c.in_ok-push.ensures.ok
    (c.in_ok-extend_from_slice-2.ensures.ok ∙ ap (λ (x : List ℕ). c.push.new.self ++ x) (c.as_slice.ensures ∙ rows))
