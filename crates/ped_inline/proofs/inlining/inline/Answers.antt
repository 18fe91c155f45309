use Rattle.ped_tree.specs.Views.{program_tree}
use Rattle.ped_rules.specs.ped_steps.specs.declared.rules.Rule.TheVariants.{NoCall}
use Rattle.ped_inline.proofs.InlineRules.{no_call_first}
use Rattle.ped_inline.proofs.InlineAnswers.{refused}
use Rattle.ped_inline.proofs.inlining.inline.Goals as goal

pub returns-in-None : goal.returns-in-None
returns-in-None g c =
    let t = program_tree c.args.scene.now.tree.now in
    let s = c.args.number in
    refused s t NoCall s c.against.result c.against.ensures (no_call_first s t c.in-None.ensures)
