use Rattle.std.proofs.Common.{◌+◌, ◌<◌, ◌^◌, Some, None, sym, subst}
use Rattle.ped_tree.specs.Tree.{ProgramTree}
use Rattle.ped_tree.specs.Views.{program_tree}
use Rattle.ped_tree.specs.Numbering.{statements_count}
use Rattle.ped_rules.specs.ped_flow.specs.Answers.{IsReader}
use Rattle.ped_rules.specs.ped_steps.proofs.Answering.{few_numbers}
use Rattle.ped_scalar.proofs.LostAnswers.{says_live, says_not}
use Rattle.ped_scalar.proofs.expanding.is_live.Goals as goal

pub live_after-requires : goal.live_after-requires
live_after-requires g c =
    subst (λ (u : ProgramTree). statements_count u.body + 1 < 2 ^ 32) (sym c.requires.flow) (few_numbers (program_tree c.args.scene.now.tree.now) c.requires.valid)

pub returns-in-Some : goal.returns-in-Some
returns-in-Some g c =
    let t = program_tree c.args.scene.now.tree.now in
    let x = c.args.name.now in
    let s = c.args.number in
    says_live t s x c.in-Some._reader (subst (λ (u : ProgramTree). IsReader u s x (Some c.in-Some._reader)) c.requires.flow c.in-Some.ensures)

pub returns-in-None : goal.returns-in-None
returns-in-None g c =
    let t = program_tree c.args.scene.now.tree.now in
    let x = c.args.name.now in
    let s = c.args.number in
    says_not t s x (subst (λ (u : ProgramTree). IsReader u s x None) c.requires.flow c.in-None.ensures)
