use Rattle.ped_tree.specs.Constants.ConstantExpressions.{constant_value}
use Rattle.ped_tree.specs.Views.{program_tree, stmt_trees, head_of}
use Rattle.ped_rules.specs.ped_symbols.specs.Kinds.{table_of}
use Rattle.ped_rules.specs.ped_steps.specs.declared.rules.Rule.TheVariants.{Limit}
use Rattle.ped_rules.specs.ped_steps.specs.Replacing.{all_kept}
use Rattle.ped_loops.specs.Reversing.{reversed}
use Rattle.ped_loops.proofs.FlagAnswers.{some_made, none_made}
use Rattle.ped_loops.proofs.ReverseRules as rules
use Rattle.ped_loops.proofs.ReverseAnswers.{refused}
use Rattle.ped_loops.proofs.reversing.unless_limited.Goals as goal

pub returns-in-Some : goal.returns-in-Some
returns-in-Some g c =
    let t = program_tree c.args.scene.now.tree.now in
    let s = c.args.number in
    let h = head_of c.args.d.now in
    let unit = rules.value_unit (constant_value (table_of t).constants h.step) c.args.step c.requires.step c.requires.unit in
    let made = some_made (reversed t s) (all_kept t) c.in_ok-change.field-0 c.in-Some.change c.in-Some.is c.in_ok-change.ensures in
    (rules.nothing_stands s t h (stmt_trees c.args.d.now.body.items) c.requires.is c.requires.serial c.requires.contained unit made.valid, made)

pub returns-in-None : goal.returns-in-None
returns-in-None g c =
    let t = program_tree c.args.scene.now.tree.now in
    let s = c.args.number in
    let h = head_of c.args.d.now in
    let unit = rules.value_unit (constant_value (table_of t).constants h.step) c.args.step c.requires.step c.requires.unit in
    refused s t Limit s c.against.result c.against.ensures
    (rules.limit_first s t h (stmt_trees c.args.d.now.body.items) c.requires.is c.requires.serial c.requires.contained unit (none_made (reversed (program_tree c.args.scene.now.tree.now) c.args.number) (all_kept (program_tree c.args.scene.now.tree.now)) c.in_ok-change.field-0 c.in-None.is c.in_ok-change.ensures))
