use Rattle.ped_tree.specs.Views.{program_tree}
use Rattle.ped_transformations.specs.ped_steps.proofs.Answering.{few_numbers}
use Rattle.ped_session.proofs.running.lower_present.Goals as goal

pub flow_of-requires : goal.flow_of-requires
flow_of-requires g c = few_numbers (program_tree c.args.present.now.program.now) c.requires.valid
