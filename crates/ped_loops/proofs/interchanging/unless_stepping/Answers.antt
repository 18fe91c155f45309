use Rattle.std.proofs.Common.{ap, ◌∙◌}
use Rattle.ped_tree.specs.Views.{program_tree, stmt_trees, head_of}
use Rattle.ped_rules.specs.ped_symbols.specs.Kinds.{Table}
use Rattle.ped_rules.specs.ped_steps.specs.declared.rules.Rule.TheVariants.{StepShape}
use Rattle.ped_loops.proofs.InterchangeAnswers.{refused, first_stepping, upto_units}
use Rattle.ped_loops.proofs.interchanging.unless_stepping.Goals as goal

pub returns-then-lacks_units : goal.returns-then-lacks_units
returns-then-lacks_units g c =
    let t = program_tree c.args.scene.now.tree.now in
    let s = c.args.number in
    let outer = c.args.outer.now in
    let inner = c.args.inner.now in
    let consts = c.consts.ensures ∙ ap (λ (table : Table). table.constants) c.requires.scene.symbols in
    refused s t StepShape s c.against.result c.against.ensures
    (first_stepping t s (head_of outer) (stmt_trees outer.body.items) c.requires.is (head_of inner) (stmt_trees inner.body.items) c.requires.only _ consts c.lacks_units.result c.lacks_units.ensures c.requires.none c.if-lacks_units.true)

pub unless_far-answer-requires-clause-none : goal.unless_far-answer-requires-clause-none
unless_far-answer-requires-clause-none g c =
    let t = program_tree c.args.scene.now.tree.now in
    let s = c.args.number in
    let outer = c.args.outer.now in
    let inner = c.args.inner.now in
    let consts = c.consts.ensures ∙ ap (λ (table : Table). table.constants) c.requires.scene.symbols in
    upto_units t s (head_of outer) (stmt_trees outer.body.items) c.requires.is (head_of inner) (stmt_trees inner.body.items) c.requires.only _ consts c.lacks_units.result c.lacks_units.ensures c.requires.none c.if-lacks_units.false
