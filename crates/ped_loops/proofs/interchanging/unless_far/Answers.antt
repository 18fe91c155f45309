use Rattle.std.proofs.Common.{◌+◌, sym, ◌∙◌}
use Rattle.ped_tree.specs.Views.{program_tree, stmt_trees, head_of}
use Rattle.ped_rules.specs.KeepMaps.{all_but}
use Rattle.ped_rules.specs.ped_steps.specs.declared.rules.Rule.TheVariants.{Range, Limit}
use Rattle.ped_loops.specs.Interchanging.{interchanged}
use Rattle.ped_loops.proofs.FlagAnswers.{some_made, none_made}
use Rattle.ped_loops.proofs.InterchangeRules as rules
use Rattle.ped_loops.proofs.InterchangeAnswers.{refused}
use Rattle.ped_loops.proofs.interchanging.unless_far.Goals as goal

pub returns-then-branch : goal.returns-then-branch
returns-then-branch g c =
    let t = program_tree c.args.scene.now.tree.now in
    let s = c.args.number in
    let outer = c.args.outer.now in
    refused s t Range s c.against.result c.against.ensures
    (rules.range_first s t (head_of outer) (stmt_trees outer.body.items) c.requires.is c.requires.none (sym c.in_ok-leaves_either.ensures ∙ c.if-branch.true))

pub returns-in-Some : goal.returns-in-Some
returns-in-Some g c =
    let t = program_tree c.args.scene.now.tree.now in
    let s = c.args.number in
    let outer = c.args.outer.now in
    let none = rules.upto_range s t (head_of outer) (stmt_trees outer.body.items) c.requires.is c.requires.none (sym c.in_ok-leaves_either.ensures ∙ c.if-branch.false) in
    let made = some_made (interchanged t s) (all_but s (s + 1) t) c.in_ok-change.field-0 c.in-Some.change c.in-Some.is c.in_ok-change.ensures in
    (rules.nothing_stands s t none made.valid, made)

pub returns-in-None : goal.returns-in-None
returns-in-None g c =
    let t = program_tree c.args.scene.now.tree.now in
    let s = c.args.number in
    let outer = c.args.outer.now in
    let none = rules.upto_range s t (head_of outer) (stmt_trees outer.body.items) c.requires.is c.requires.none (sym c.in_ok-leaves_either.ensures ∙ c.if-branch.false) in
    refused s t Limit s c.against-in-None.result c.against-in-None.ensures
    (rules.limit_first s t (head_of outer) (stmt_trees outer.body.items) c.requires.is none (none_made (interchanged t s) (all_but s (s + 1) t) c.in_ok-change.field-0 c.in-None.is c.in_ok-change.ensures))
