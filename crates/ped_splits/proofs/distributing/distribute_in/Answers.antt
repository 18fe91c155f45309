use Rattle.ped_tree.specs.Views.{program_tree, stmt_trees, head_of}
use Rattle.ped_rules.specs.ped_steps.specs.declared.rules.Rule.TheVariants.{ParallelState, IndexEscapes}
use Rattle.ped_splits.proofs.DistributeRules as rules
use Rattle.ped_splits.proofs.DistributeAnswers.{refused}
use Rattle.ped_splits.proofs.distributing.distribute_in.Goals as goal

pub returns-then-d : goal.returns-then-d
returns-then-d g c =
    let t = program_tree c.args.scene.now.tree.now in
    let s = c.args.number in
    let h = head_of c.args.d.now in
    let body = stmt_trees c.args.d.now.body.items in
    refused s t ParallelState s c.against.result c.against.ensures (rules.state_first s t h body c.requires.is c.if-d.true)

pub returns-in-Some : goal.returns-in-Some
returns-in-Some g c =
    let t = program_tree c.args.scene.now.tree.now in
    let s = c.args.number in
    let h = head_of c.args.d.now in
    let body = stmt_trees c.args.d.now.body.items in
    refused s t IndexEscapes c.in-Some.statement c.against-in-Some.result c.against-in-Some.ensures
    (rules.escape_first s t h body c.requires.is c.if-d.false c.in-Some.statement c.in-Some.ensures)
