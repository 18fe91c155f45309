use Rattle.std.proofs.Common.{sym, ◌∙◌}
use Rattle.ped_tree.specs.Views.{program_tree, stmt_trees, head_of}
use Rattle.ped_rules.specs.ped_steps.specs.declared.rules.Rule.TheVariants.{ParallelState, HasPrivate, IndexEscapes}
use Rattle.ped_loops.proofs.InterchangeRules as rules
use Rattle.ped_loops.proofs.InterchangeAnswers.{refused, first_state, upto_state, first_list, upto_list}
use Rattle.ped_loops.proofs.interchanging.interchange_two.Goals as goal

pub returns-then-are_parallel : goal.returns-then-are_parallel
returns-then-are_parallel g c =
    let t = program_tree c.args.scene.now.tree.now in
    let s = c.args.number in
    let outer = c.args.outer.now in
    let inner = c.args.inner.now in
    refused s t ParallelState s c.against.result c.against.ensures
    (first_state t s (head_of outer) (stmt_trees outer.body.items) c.requires.is (head_of inner) (stmt_trees inner.body.items) c.requires.only (sym c.are_parallel.ensures ∙ c.if-are_parallel.true))

pub returns-then-have_private : goal.returns-then-have_private
returns-then-have_private g c =
    let t = program_tree c.args.scene.now.tree.now in
    let s = c.args.number in
    let outer = c.args.outer.now in
    let inner = c.args.inner.now in
    let none = upto_state t s (head_of outer) (stmt_trees outer.body.items) c.requires.is (head_of inner) (stmt_trees inner.body.items) c.requires.only (sym c.are_parallel.ensures ∙ c.if-are_parallel.false) in
    refused s t HasPrivate s c.against-then-have_private.result c.against-then-have_private.ensures
    (first_list t s (head_of outer) (stmt_trees outer.body.items) c.requires.is (head_of inner) (stmt_trees inner.body.items) c.requires.only none (sym c.have_private.ensures ∙ c.if-have_private.true))

pub returns-in-Some : goal.returns-in-Some
returns-in-Some g c =
    let t = program_tree c.args.scene.now.tree.now in
    let s = c.args.number in
    let outer = c.args.outer.now in
    let inner = c.args.inner.now in
    let none = upto_state t s (head_of outer) (stmt_trees outer.body.items) c.requires.is (head_of inner) (stmt_trees inner.body.items) c.requires.only (sym c.are_parallel.ensures ∙ c.if-are_parallel.false) in
    let more = upto_list t s (head_of outer) (stmt_trees outer.body.items) c.requires.is (head_of inner) (stmt_trees inner.body.items) c.requires.only none (sym c.have_private.ensures ∙ c.if-have_private.false) in
    refused s t IndexEscapes c.in-Some.statement c.against-in-Some.result c.against-in-Some.ensures (rules.escape_first s t more c.in-Some.statement c.in-Some.ensures)

pub unless_unplain-requires-clause-none : goal.unless_unplain-requires-clause-none
unless_unplain-requires-clause-none g c =
    let t = program_tree c.args.scene.now.tree.now in
    let s = c.args.number in
    let outer = c.args.outer.now in
    let inner = c.args.inner.now in
    let none = upto_state t s (head_of outer) (stmt_trees outer.body.items) c.requires.is (head_of inner) (stmt_trees inner.body.items) c.requires.only (sym c.are_parallel.ensures ∙ c.if-are_parallel.false) in
    let more = upto_list t s (head_of outer) (stmt_trees outer.body.items) c.requires.is (head_of inner) (stmt_trees inner.body.items) c.requires.only none (sym c.have_private.ensures ∙ c.if-have_private.false) in
    rules.upto_escape s t more c.in-None.ensures
