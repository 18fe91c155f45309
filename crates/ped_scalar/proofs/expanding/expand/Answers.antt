use Rattle.ped_tree.specs.Views.{program_tree}
use Rattle.ped_rules.specs.ped_steps.specs.declared.rules.Rule.TheVariants.{NoLoop}
use Rattle.ped_scalar.proofs.ExpandRules.{no_loop_first, refused}
use Rattle.ped_scalar.proofs.expanding.expand.Goals as goal

pub returns-in-None : goal.returns-in-None
returns-in-None g c =
    let t = program_tree c.args.scene.now.tree.now in
    let s = c.args.number in
    let x = c.args.name.now in
    refused s x t NoLoop s c.against.result c.against.ensures (no_loop_first s x t c.in-None.ensures)
