use Rattle.ped_tree.specs.Views.{program_tree}
use Rattle.std.proofs.Common.{false}
use Rattle.ped_rules.specs.Rules.{is_serial}
use Rattle.ped_rules.specs.ped_steps.specs.declared.rules.Rule.TheVariants.{NoLoop}
use Rattle.ped_rules.proofs.HeadLaws.FlagRules.{no_loop_first}
use Rattle.ped_loops.proofs.FlagAnswers.{serial_refused}
use Rattle.ped_loops.proofs.serialising.make_serial.Goals as goal

pub returns-in-None : goal.returns-in-None
returns-in-None g c =
    let t = program_tree c.args.scene.now.tree.now in
    let s = c.args.number in
    serial_refused t s NoLoop s c.against.result c.against.ensures (no_loop_first is_serial false s t c.in-None.ensures)
