use Rattle.std.proofs.Common.{sym, ◌∙◌}
use Rattle.ped_tree.specs.Views.{program_tree, stmt_trees, head_of}
use Rattle.ped_rules.specs.ped_steps.specs.declared.rules.Rule.TheVariants.{ParallelState, HasPrivate, IndexEscapes}
use Rattle.ped_reindex.proofs.StripRules as rules
use Rattle.ped_reindex.proofs.StripAnswers.{refused}
use Rattle.ped_reindex.proofs.stripping.strip_in.Goals as goal

pub returns-then-d : goal.returns-then-d
returns-then-d g c =
    let t = program_tree c.args.scene.now.tree.now in
    let s = c.args.number in
    let k = c.args.size in
    let h = head_of c.args.d.now in
    let body = stmt_trees c.args.d.now.body.items in
    refused s k t ParallelState s c.against.result c.against.ensures (rules.state_first s k t h body c.requires.is c.if-d.true)

pub returns-then-has_list : goal.returns-then-has_list
returns-then-has_list g c =
    let t = program_tree c.args.scene.now.tree.now in
    let s = c.args.number in
    let k = c.args.size in
    let h = head_of c.args.d.now in
    let body = stmt_trees c.args.d.now.body.items in
    refused s k t HasPrivate s c.against-then-has_list.result c.against-then-has_list.ensures
    (rules.private_first s k t h body c.requires.is c.if-d.false (sym c.has_list.ensures ∙ c.if-has_list.true))

pub returns-in-Some : goal.returns-in-Some
returns-in-Some g c =
    let t = program_tree c.args.scene.now.tree.now in
    let s = c.args.number in
    let k = c.args.size in
    let h = head_of c.args.d.now in
    let body = stmt_trees c.args.d.now.body.items in
    refused s k t IndexEscapes c.in-Some.statement c.against-in-Some.result c.against-in-Some.ensures
    (rules.escape_first s k t h body c.requires.is c.if-d.false (sym c.has_list.ensures ∙ c.if-has_list.false) c.in-Some.statement c.in-Some.ensures)
