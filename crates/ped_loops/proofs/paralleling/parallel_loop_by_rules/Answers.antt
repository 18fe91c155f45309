use Rattle.std.proofs.Common.{true}
use Rattle.ped_tree.specs.Views.{program_tree, stmt_trees, head_of}
use Rattle.ped_rules.specs.Rules.{is_parallel}
use Rattle.ped_rules.specs.ped_steps.specs.declared.rules.Rule.TheVariants.{ParallelState, IndexEscapes, Limit}
use Rattle.ped_rules.specs.ped_steps.specs.Replacing.{all_kept}
use Rattle.ped_rules.specs.Flags.{flagged}
use Rattle.ped_rules.proofs.HeadLaws.FlagRules as rules
use Rattle.ped_loops.proofs.FlagAnswers.{some_made, none_made, parallel_refused}
use Rattle.ped_loops.proofs.paralleling.parallel_loop_by_rules.Goals as goal

pub returns-then-d : goal.returns-then-d
returns-then-d g c =
    let t = program_tree c.args.scene.now.tree.now in
    let s = c.args.number in
    parallel_refused t s ParallelState s c.against.result c.against.ensures (rules.state_first is_parallel true s t (head_of c.args.d.now) (stmt_trees c.args.d.now.body.items) c.requires.is c.if-d.true)

pub returns-in-Some : goal.returns-in-Some
returns-in-Some g c =
    let t = program_tree c.args.scene.now.tree.now in
    let s = c.args.number in
    parallel_refused t s IndexEscapes c.in-Some.statement c.against-in-Some.result c.against-in-Some.ensures
    (rules.escape_first is_parallel true s t (head_of c.args.d.now) (stmt_trees c.args.d.now.body.items) c.requires.is c.in-Some.statement c.if-d.false c.in-Some.ensures)

pub returns-in-Some-2 : goal.returns-in-Some-2
returns-in-Some-2 g c =
    let t = program_tree c.args.scene.now.tree.now in
    let s = c.args.number in
    let made = some_made (flagged t s true) (all_kept t) c.in_ok-change.field-0 c.in-Some-2.change c.in-Some-2.is c.in_ok-change.ensures in
    (rules.nothing_stands is_parallel true s t (head_of c.args.d.now) (stmt_trees c.args.d.now.body.items) c.requires.is c.if-d.false c.in_default.ensures made.valid, made)

pub returns-in-None : goal.returns-in-None
returns-in-None g c =
    let t = program_tree c.args.scene.now.tree.now in
    let s = c.args.number in
    parallel_refused t s Limit s c.against-in-None.result c.against-in-None.ensures
    (rules.limit_first is_parallel true s t (head_of c.args.d.now) (stmt_trees c.args.d.now.body.items) c.requires.is c.if-d.false c.in_default.ensures (none_made (flagged (program_tree c.args.scene.now.tree.now) c.args.number true) (all_kept (program_tree c.args.scene.now.tree.now)) c.in_ok-change.field-0 c.in-None.is c.in_ok-change.ensures))
