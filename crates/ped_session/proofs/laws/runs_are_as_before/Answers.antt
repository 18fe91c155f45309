use Rattle.ped_versions.specs.States.{opened}
use Rattle.ped_session.proofs.KeptMeanings.{opened_keeps, items_as_before}
use Rattle.ped_session.proofs.laws.runs_are_as_before.Goals as goal

pub returns : goal.returns
returns c = λ t items d said last answers. items_as_before c.interleavings_agree.ensures c.lowering_keeps_the_meaning.ensures c.every_step_is_lawful.ensures items d (opened t) last said (opened_keeps t) answers
