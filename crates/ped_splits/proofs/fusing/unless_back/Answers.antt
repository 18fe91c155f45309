use Rattle.std.proofs.Common.{refl}
use Rattle.ped_tree.specs.Views.{program_tree}
use Rattle.ped_rules.specs.Carried.{level_at}
use Rattle.ped_rules.specs.ped_steps.specs.declared.causes.Refused.TheVariants as variant
use Rattle.ped_splits.proofs.FuseAnswers.{forbidden, accepted}
use Rattle.ped_splits.proofs.fusing.unless_back.Goals as goal

pub returns-in-Ok-Some : goal.returns-in-Ok-Some
returns-in-Ok-Some g c =
    let back = rw c.in-Ok-Some.field-0-is at c.in-Ok-Some.ensures in
    let t = program_tree c.args.scene.now.tree.now in
    let p = c.args.pair.now in
    let edge = c.in-Ok-Some.edge in
    forbidden t p c.requires.pair (level_at t p.number) refl c.requires.alike c.requires.nothing edge (variant.Dependence edge) refl (back c.requires.pair)

pub returns-in-Ok-None : goal.returns-in-Ok-None
returns-in-Ok-None g c =
    let back = rw c.in-Ok-None.field-0-is at c.in-Ok-None.ensures in
    let t = program_tree c.args.scene.now.tree.now in
    let p = c.args.pair.now in
    accepted t p c.requires.pair (level_at t p.number) refl c.requires.alike c.requires.nothing c.args.change (c.requires.change c.requires.pair) (back c.requires.pair)
