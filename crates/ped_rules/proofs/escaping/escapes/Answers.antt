use Rattle.std.proofs.Common.{◌+◌, ◌<◌, ◌^◌, sym, subst}
use Rattle.ped_tree.specs.Tree.{ProgramTree}
use Rattle.ped_tree.specs.Views.{program_tree}
use Rattle.ped_tree.specs.Numbering.{statements_count}
use Rattle.ped_loop_runs.specs.ped_flow.specs.Answers.{IsEscape}
use Rattle.ped_loop_runs.specs.ped_steps.proofs.Answering.{few_numbers}
use Rattle.ped_rules.proofs.escaping.escapes.Goals as goal

pub escapes-requires : goal.escapes-requires
escapes-requires g c =
    subst (λ (u : ProgramTree). statements_count u.body + 1 < 2 ^ 32) (sym c.requires.flow) (few_numbers (program_tree c.args.scene.now.tree.now) c.requires.valid)

pub returns : goal.returns
returns g c =
    c.named.ensures (program_tree c.args.scene.now.tree.now) (subst (λ (u : ProgramTree). IsEscape u c.args.number c.escapes.result) c.requires.flow c.escapes.ensures)
