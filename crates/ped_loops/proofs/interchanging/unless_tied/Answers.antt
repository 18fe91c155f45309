use Rattle.std.proofs.Common.{sym, ◌∙◌}
use Rattle.ped_tree.specs.Views.{program_tree, stmt_trees, head_of}
use Rattle.ped_rules.specs.ped_steps.specs.declared.rules.Rule.TheVariants.{BoundsShape}
use Rattle.ped_loops.specs.CodeShapes.{shape_in}
use Rattle.ped_loops.specs.Shapes.{isnt_shaped}
use Rattle.ped_loops.proofs.InterchangeAnswers.{refused, first_tied, upto_tied, are_shaped}
use Rattle.ped_loops.proofs.interchanging.unless_tied.Goals as goal

pub returns-in-None : goal.returns-in-None
returns-in-None g c =
    let t = program_tree c.args.scene.now.tree.now in
    let s = c.args.number in
    let outer = c.args.outer.now in
    let inner = c.args.inner.now in
    refused s t BoundsShape s c.against.result c.against.ensures
    (first_tied t s (head_of outer) (stmt_trees outer.body.items) c.requires.is (head_of inner) (stmt_trees inner.body.items) c.requires.only c.requires.none c.in-None.ensures)

pub unless_stepping-requires-clause-none : goal.unless_stepping-requires-clause-none
unless_stepping-requires-clause-none g c =
    let t = program_tree c.args.scene.now.tree.now in
    let s = c.args.number in
    let outer = c.args.outer.now in
    let inner = c.args.inner.now in
    let pair = c.in-Some.pair in
    let made = c.in-Some.ensures in
    upto_tied t s (head_of outer) (stmt_trees outer.body.items) c.requires.is (head_of inner) (stmt_trees inner.body.items) c.requires.only c.requires.none
    ((λ i. isnt_shaped (head_of (sym made.0 i)) (head_of (sym made.1 i))) ∙ are_shaped (head_of pair.outer.now) (head_of pair.inner.now) (shape_in pair.first) (shape_in pair.last) made.2.first made.2.last)
