use Rattle.ped_tree.specs.Views.{program_tree}
use Rattle.ped_rules.specs.ped_steps.specs.declared.rules.Rule.TheVariants.{NoLoop}
use Rattle.ped_loops.proofs.InterchangeRules.{no_loop_first}
use Rattle.ped_loops.proofs.InterchangeAnswers.{refused}
use Rattle.ped_loops.proofs.interchanging.interchange_by_rules.Goals as goal

pub returns-in-None : goal.returns-in-None
returns-in-None g c =
    let t = program_tree c.args.scene.now.tree.now in
    let s = c.args.number in
    refused s t NoLoop s c.against.result c.against.ensures (no_loop_first s t c.in-None.ensures)
