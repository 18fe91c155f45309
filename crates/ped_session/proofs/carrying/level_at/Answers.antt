use Rattle.std.proofs.Common.{arith}
use Rattle.ped_tree.specs.Views.{program_tree}
use Rattle.ped_transformations.specs.ped_steps.proofs.Answering.{few_numbers}
use Rattle.ped_transformations.specs.ped_rules.proofs.NestDepths.{loops_short}
use Rattle.ped_session.proofs.carrying.level_at.Goals as goal

pub loops_round-requires : goal.loops_round-requires
loops_round-requires c = few_numbers (program_tree c.args.program.now) c.requires

pub overflow_cast-result : goal.overflow_cast-result
overflow_cast-result c =
    let few = loops_short (program_tree c.args.program.now) c.args.number c.in_ok-round.round.items c.requires c.in_ok-round.ensures in
    omega (arith, few)

pub overflow_add-result : goal.overflow_add-result
overflow_add-result c =
    let few = loops_short (program_tree c.args.program.now) c.args.number c.in_ok-round.round.items c.requires c.in_ok-round.ensures in
    omega (arith, few)
