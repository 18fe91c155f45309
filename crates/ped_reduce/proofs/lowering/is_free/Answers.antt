use Rattle.std.proofs.Common.{is_some, sym, ◌∙◌}
use Rattle.ped_tree.specs.Views.{program_tree}
use Rattle.ped_reduce.proofs.LoweringAnswers.{turned, early_found, late_found, not_free, rules_clear, free_by_edge}
use Rattle.ped_reduce.proofs.lowering.is_free.Goals as goal

pub returns-then-is_some : goal.returns-then-is_some
returns-then-is_some g c =
    let t = program_tree c.args.scene.now.tree.now in
    let s = c.args.number in
    let names = c.args.names.now in
    not_free t s names (early_found t s names c.in_ok-early.field-0 (sym c.is_some.ensures ∙ c.if-is_some.true) c.in_ok-early.ensures)

pub returns-then-is_some-2 : goal.returns-then-is_some-2
returns-then-is_some-2 g c =
    let t = program_tree c.args.scene.now.tree.now in
    let s = c.args.number in
    let names = c.args.names.now in
    not_free t s names (late_found t s names c.in_ok-late.field-0 (sym c.is_some-2.ensures ∙ c.if-is_some-2.true) c.in_ok-late.ensures)

pub returns : goal.returns
returns g c =
    let t = program_tree c.args.scene.now.tree.now in
    let s = c.args.number in
    let names = c.args.names.now in
    let clear = rules_clear t s names c.in_ok-early.field-0 c.in_ok-late.field-0
    (sym c.is_some.ensures ∙ c.if-is_some.false) c.in_ok-early.ensures (sym c.is_some-2.ensures ∙ c.if-is_some-2.false) c.in_ok-late.ensures in
    free_by_edge t s names clear c.in_ok-edge.edge c.is_none.result (turned (is_some c.in_ok-edge.edge) c.is_none.result c.is_none.ensures) c.in_ok-edge.ensures
