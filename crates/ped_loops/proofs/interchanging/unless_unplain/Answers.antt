use Rattle.ped_tree.specs.Views.{program_tree, stmt_trees, head_of}
use Rattle.ped_rules.specs.ped_steps.specs.declared.rules.Rule.TheVariants.{BoundNotPlain}
use Rattle.ped_loops.proofs.InterchangeRules as rules
use Rattle.ped_loops.proofs.InterchangeAnswers.{refused, some_unplain, none_unplain_found}
use Rattle.ped_loops.proofs.interchanging.unless_unplain.Goals as goal

pub returns-in-Some : goal.returns-in-Some
returns-in-Some g c =
    let t = program_tree c.args.scene.now.tree.now in
    let s = c.args.number in
    let outer = c.args.outer.now in
    let inner = c.args.inner.now in
    let found = some_unplain t s (head_of outer) (stmt_trees outer.body.items) c.requires.is (head_of inner) (stmt_trees inner.body.items) c.requires.only c.in_ok-statement.field-0 c.in-Some.statement c.in-Some.is c.in_ok-statement.ensures in
    refused s t BoundNotPlain c.in-Some.statement c.against.result c.against.ensures (rules.bound_first s t c.requires.none c.in-Some.statement found)

pub unless_tied-requires-clause-none : goal.unless_tied-requires-clause-none
unless_tied-requires-clause-none g c =
    let t = program_tree c.args.scene.now.tree.now in
    let s = c.args.number in
    let outer = c.args.outer.now in
    let inner = c.args.inner.now in
    let none = none_unplain_found t s (head_of outer) (stmt_trees outer.body.items) c.requires.is (head_of inner) (stmt_trees inner.body.items) c.requires.only c.in_ok-statement.field-0 c.in-None.is c.in_ok-statement.ensures in
    rules.upto_bound s t c.requires.none none
