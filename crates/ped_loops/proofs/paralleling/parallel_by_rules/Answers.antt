use Rattle.ped_tree.specs.Views.{program_tree}
use Rattle.std.proofs.Common.{true}
use Rattle.ped_rules.specs.Rules.{is_parallel}
use Rattle.ped_rules.specs.ped_steps.specs.declared.rules.Rule.TheVariants.{NoLoop}
use Rattle.ped_rules.proofs.HeadLaws.FlagRules.{no_loop_first}
use Rattle.ped_loops.proofs.FlagAnswers.{parallel_refused}
use Rattle.ped_loops.proofs.paralleling.parallel_by_rules.Goals as goal

pub returns-in-None : goal.returns-in-None
returns-in-None g c =
    let t = program_tree c.args.scene.now.tree.now in
    let s = c.args.number in
    parallel_refused t s NoLoop s c.against.result c.against.ensures (no_loop_first is_parallel true s t c.in-None.ensures)
