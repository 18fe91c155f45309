use Rattle.std.proofs.Common.{subst}
use Rattle.ped_tree.specs.Views.{program_tree}
use Rattle.ped_reduce.specs.CodeReducing.{IsFirstRefusal}
use Rattle.ped_reduce.proofs.ReducingAnswers as answers
use Rattle.ped_reduce.proofs.reducing.unless_unlowerable.Goals as goal

pub returns-in-Ok-Some : goal.returns-in-Ok-Some
returns-in-Ok-Some g c =
    let t = program_tree c.args.scene.now.tree.now in
    let s = c.args.number in
    answers.cause_answered s c.args.names.now t c.in-Ok-Some.refused (subst (IsFirstRefusal s c.args.names.now t) c.in-Ok-Some.field-0-is c.in-Ok-Some.ensures)

pub returns-in-Ok-None : goal.returns-in-Ok-None
returns-in-Ok-None g c =
    let t = program_tree c.args.scene.now.tree.now in
    let s = c.args.number in
    answers.change_answered s c.args.names.now t c.args.change (subst (IsFirstRefusal s c.args.names.now t) c.in-Ok-None.field-0-is c.in-Ok-None.ensures) c.requires.made
