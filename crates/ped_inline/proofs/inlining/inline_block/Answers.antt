use Rattle.ped_tree.specs.Views.{program_tree, stmt_trees}
use Rattle.ped_rules.specs.ped_steps.specs.declared.rules.Rule.TheVariants.{Limit}
use Rattle.ped_inline.specs.Inlining.{inlined, inline_kept}
use Rattle.ped_inline.proofs.InlineRules.{limit_first, nothing_stands}
use Rattle.ped_inline.proofs.InlineAnswers.{refused, accepted, some_made, none_made}
use Rattle.ped_inline.proofs.inlining.inline_block.Goals as goal

pub returns-in-Some : goal.returns-in-Some
returns-in-Some g c =
    let t = program_tree c.args.scene.now.tree.now in
    let s = c.args.number in
    let made = some_made (inlined t s) (inline_kept t s) c.in_ok-change.field-0 c.in-Some.change c.in-Some.is c.in_ok-change.ensures in
    accepted s t c.in-Some.change (nothing_stands s t (stmt_trees c.args.body.now) c.requires.is made.valid) made

pub returns-in-None : goal.returns-in-None
returns-in-None g c =
    let t = program_tree c.args.scene.now.tree.now in
    let s = c.args.number in
    refused s t Limit s c.against.result c.against.ensures
    (limit_first s t (stmt_trees c.args.body.now) c.requires.is (none_made (inlined t s) (inline_kept t s) c.in_ok-change.field-0 c.in-None.is c.in_ok-change.ensures))
