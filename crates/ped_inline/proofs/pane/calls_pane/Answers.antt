use Rattle.std.proofs.Common.{◌≡◌, ℕ, ◌+◌, ◌<◌, ◌^◌, List, Option, map, sym, ap, ◌∙◌, subst}
use Rattle.std.proofs.lemmas.Result.{IfOk-weaker}
use Rattle.ped_tree.specs.Views.{stmt_trees, program_tree}
use Rattle.ped_tree.specs.Numbering.{all_numbered, statements_count}
use Rattle.ped_tree.specs.declared.statements.Stmt.{Stmt}
use Rattle.ped_edges.specs.CodeEdges.{edge_of}
use Rattle.ped_edges.specs.declared.edges.Edge.{Edge}
use Rattle.ped_rules.specs.ped_steps.proofs.Answering.{few_numbers}
use Rattle.ped_inline.specs.Folding.{CallBlock, all_blocks_in, blocks, AreRows}
use Rattle.ped_inline.specs.CallsPane.{Called, called_from, calls, calls_pane, IsCallsPane}
use Rattle.ped_inline.specs.CodeFolding.{places_seen, called_seen, row_seen}
use Rattle.ped_inline.specs.declared.called.Called as code
use Rattle.ped_inline.proofs.pane.calls_pane.Goals as goal

pub block_places-requires : goal.block_places-requires
block_places-requires g c =
    subst (λ (ss : List Stmt). statements_count (stmt_trees ss) + 1 < 2 ^ 32) (sym c.deref.ensures.value) (few_numbers (program_tree c.args.scene.now.tree.now) c.requires.valid)

pub calls-requires : goal.calls-requires
calls-requires g c =
    subst (λ (ss : List Stmt). statements_count (stmt_trees ss) + 1 < 2 ^ 32) (sym c.deref-4.ensures.value) (few_numbers (program_tree c.args.scene.now.tree.now) c.requires.valid)

pub returns : goal.returns
returns g c =
    let t = program_tree c.args.scene.now.tree.now in
    let edges = map edge_of c.in_ok-edges.edges.items in
    let rows = map row_seen c.in_ok-rows.rows.keys in
    let placed : places_seen c.deref-2.result.now ≡ blocks t = ap places_seen c.deref-2.ensures.value ∙ c.in_ok-places.ensures ∙ ap (λ (ss : List Stmt). all_blocks_in 0 1 (stmt_trees ss)) c.deref.ensures.value in
    let folded : AreRows (blocks t) edges rows =
    subst (λ (es : List Edge). AreRows (blocks t) (map edge_of es) rows) c.deref-3.ensures.value (subst (λ (bs : List (Option CallBlock)). AreRows bs (map edge_of c.deref-3.result.now) rows) placed c.in_ok-rows.ensures) in
    let called : map called_seen c.deref-5.result.now ≡ calls t =
    ap (λ (cs : List code.Called). map called_seen cs) c.deref-5.ensures.value ∙ c.in_ok-calls.ensures ∙ ap (λ (ss : List Stmt). called_from 1 (all_numbered (stmt_trees ss))) c.deref-4.ensures.value in
    IfOk-weaker c.pane_of.result (λ (pane : List ℕ). pane ≡ calls_pane (map called_seen c.deref-5.result.now) rows) (IsCallsPane t)
    (λ pane is. (edges, c.in_ok-edges.ensures.edges t c.requires.graph, rows, folded, is ∙ ap (λ (cs : List Called). calls_pane cs rows) called))
    c.pane_of.ensures
