-- A program has one pane of calls.
use Rattle.std.proofs.Common.{◌≡◌, ℕ, List, sym, ap, ◌∙◌, subst}
use Rattle.ped_tree.specs.Tree.{ProgramTree}
use Rattle.ped_edges.specs.Edges.{Edge}
use Rattle.ped_rules.specs.ped_graph.proofs.OnePane.{one_edges}
use Rattle.ped_inline.specs.Folding.{blocks, Row, AreRows}
use Rattle.ped_inline.specs.CallsPane.{calls, calls_pane, IsCallsPane}
use Rattle.ped_inline.proofs.OneRows.{one_rows}

pub one_pane_of_calls : (t : ProgramTree) (p q : List ℕ) → IsCallsPane t p → IsCallsPane t q → p ≡ q
one_pane_of_calls t p q a b =
    let edges : a.0 ≡ b.0 = one_edges t a.0 b.0 a.1 b.1 in
    let rows : a.2 ≡ b.2 = one_rows (blocks t) b.0 a.2 b.2 (subst (λ (es : List Edge). AreRows (blocks t) es a.2) edges a.3) b.3 in
    a.4 ∙ ap (λ (rs : List Row). calls_pane (calls t) rs) rows ∙ sym b.4
