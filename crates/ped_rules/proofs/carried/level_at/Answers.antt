use Rattle.std.proofs.Common.{arith}
use Rattle.ped_tree.specs.Views.{program_tree}
use Rattle.ped_loop_runs.specs.ped_steps.proofs.Answering.{few_numbers}
use Rattle.ped_rules.proofs.NestDepths.{loops_short}
use Rattle.ped_rules.proofs.carried.level_at.Goals as goal

pub loops_round-requires : goal.loops_round-requires
loops_round-requires g c = few_numbers (program_tree c.args.scene.now.tree.now) c.requires.valid

pub overflow_cast-result : goal.overflow_cast-result
overflow_cast-result g c =
    let few = loops_short (program_tree c.args.scene.now.tree.now) c.args.number c.in_ok-round.round.items c.requires.valid c.in_ok-round.ensures in
    omega (arith, few)

pub overflow_add-result : goal.overflow_add-result
overflow_add-result g c =
    let few = loops_short (program_tree c.args.scene.now.tree.now) c.args.number c.in_ok-round.round.items c.requires.valid c.in_ok-round.ensures in
    omega (arith, few)
