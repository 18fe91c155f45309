use Rattle.ped_session.proofs.KeptMeanings.{opened_keeps, command_keeps}
use Rattle.ped_session.proofs.laws.transformations_keep_the_meaning.Goals as goal

pub returns : goal.returns
returns c = record { opened = opened_keeps; step = command_keeps c.every_step_is_lawful.ensures }
