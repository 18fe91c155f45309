use Rattle.ped_auto.proofs.Accepted.{accepted_of_strategy, accepted_are_written}
use Rattle.ped_auto.proofs.laws.accepted_are_commands.Goals as goal

pub returns-clause-strategy : goal.returns-clause-strategy
returns-clause-strategy g c = accepted_of_strategy g.E.Editor.editing g.met.E.Editor.laws

pub returns-clause-written : goal.returns-clause-written
returns-clause-written g c = λ start last report tests short h. accepted_are_written g.E.Editor.editing g.met.E.Editor.laws short start last report tests h
