use Rattle.ped_tree.specs.Views.{program_tree}
use Rattle.ped_rules.specs.ped_steps.specs.declared.rules.Rule.TheVariants.{NoLoop}
use Rattle.ped_loops.proofs.RejectRules.{no_loop_first}
use Rattle.ped_loops.proofs.RejectAnswers.{refused}
use Rattle.ped_loops.proofs.rejecting.reject.Goals as goal

pub returns-in-None : goal.returns-in-None
returns-in-None g c =
    let t = program_tree c.args.scene.now.tree.now in
    let s = c.args.number in
    let x = c.args.name.now in
    refused t s x NoLoop s c.against.result c.against.ensures (no_loop_first s x t c.in-None.ensures)
