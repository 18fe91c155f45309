use Rattle.std.proofs.Common.{Some, ap, ◌∙◌}
use Rattle.ped_tree.specs.Views.{program_tree, stmt_trees, head_of}
use Rattle.ped_rules.specs.ped_symbols.specs.Kinds.{table_of}
use Rattle.ped_rules.specs.ped_steps.specs.declared.rules.Rule.TheVariants.{Limit}
use Rattle.ped_reindex.specs.CodePeeling.{peeled_in}
use Rattle.ped_reindex.specs.Peeling.{has_far, peeled, peel_kept}
use Rattle.ped_reindex.proofs.Answering.{some_made, none_made}
use Rattle.ped_reindex.proofs.PeelRules as rules
use Rattle.ped_reindex.proofs.PeelAnswers.{refused, accepted, near_peeled, known_by}
use Rattle.ped_reindex.proofs.peeling.peel_off.Goals as goal

pub returns-in-Some : goal.returns-in-Some
returns-in-Some g c =
    let t = program_tree c.args.scene.now.tree.now in
    let s = c.args.number in
    let k = c.args.last in
    let h = head_of c.args.d.now in
    let body = stmt_trees c.args.d.now.body.items in
    let p = peeled_in c.args.taken in
    let made = some_made (peeled t s k p) (peel_kept t s k body) c.in_ok-change.field-0 c.in-Some.change c.in-Some.is c.in_ok-change.ensures in
    accepted s k t h body c.requires.is p c.in-Some.change c.requires.taken
    (rules.nothing_stands s k t h body c.requires.is c.requires.serial c.requires.shared c.requires.contained (ap has_far c.requires.taken ∙ near_peeled c.args.taken c.requires.near) (known_by k (table_of t).constants h body (Some p) c.requires.taken) p c.requires.taken made.valid) made

pub returns-in-None : goal.returns-in-None
returns-in-None g c =
    let t = program_tree c.args.scene.now.tree.now in
    let s = c.args.number in
    let k = c.args.last in
    let h = head_of c.args.d.now in
    let body = stmt_trees c.args.d.now.body.items in
    let p = peeled_in c.args.taken in
    refused s k t Limit s c.against.result c.against.ensures
    (rules.limit_first s k t h body c.requires.is c.requires.serial c.requires.shared c.requires.contained (ap has_far c.requires.taken ∙ near_peeled c.args.taken c.requires.near) (known_by k (table_of t).constants h body (Some p) c.requires.taken) p c.requires.taken
    (none_made (peeled t s k p) (peel_kept t s k body) c.in_ok-change.field-0 c.in-None.is c.in_ok-change.ensures))
