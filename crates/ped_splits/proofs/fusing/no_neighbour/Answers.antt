use Rattle.std.proofs.Common.{inl, inr, refl}
use Rattle.ped_tree.specs.Views.{program_tree, stmt_trees, head_of}
use Rattle.ped_rules.specs.ped_steps.specs.declared.rules.Rule.TheVariants.{BoundNotPlain, NoNeighbour}
use Rattle.ped_splits.proofs.FuseFirst as rules
use Rattle.ped_splits.proofs.FuseAnswers.{refused}
use Rattle.ped_splits.proofs.PlainBounds.{not_plain, so_plain}
use Rattle.ped_splits.proofs.fusing.no_neighbour.Goals as goal

pub returns-then-not-first : goal.returns-then-not-first
returns-then-not-first g c =
    let t = program_tree c.args.scene.now.tree.now in
    let s = c.args.number in
    let h = head_of c.args.own.now in
    let body = stmt_trees c.args.own.now.body.items in
    refused s t BoundNotPlain s c.against.result c.against.ensures
    (rules.plain_first s t h body c.requires.is c.requires.serial c.requires.unshared c.requires.contained h.first (inl refl) (not_plain c.in_ok-first.first c.if-not-first.true c.in_ok-first.ensures))

pub returns-then-not-last : goal.returns-then-not-last
returns-then-not-last g c =
    let t = program_tree c.args.scene.now.tree.now in
    let s = c.args.number in
    let h = head_of c.args.own.now in
    let body = stmt_trees c.args.own.now.body.items in
    refused s t BoundNotPlain s c.against-then-not-last.result c.against-then-not-last.ensures
    (rules.plain_first s t h body c.requires.is c.requires.serial c.requires.unshared c.requires.contained h.last (inr refl) (not_plain c.in_ok-last.last c.if-not-last.true c.in_ok-last.ensures))

pub returns : goal.returns
returns g c =
    let t = program_tree c.args.scene.now.tree.now in
    let s = c.args.number in
    let h = head_of c.args.own.now in
    let body = stmt_trees c.args.own.now.body.items in
    refused s t NoNeighbour s c.against-2.result c.against-2.ensures
    (rules.alone_first s t h body c.requires.is c.requires.serial c.requires.unshared c.requires.contained (so_plain c.in_ok-first.first c.if-not-first.false c.in_ok-first.ensures) (so_plain c.in_ok-last.last c.if-not-last.false c.in_ok-last.ensures)
    c.requires.nobody)
