use Rattle.std.proofs.Common.{ap}
use Rattle.ped_versions.specs.States.{State}
use Rattle.ped_versions.proofs.PresentProgram.{reads_version}
use Rattle.ped_versions.proofs.versions.Versions.present.Goals as goal

pub returns-clause-reads : goal.returns-clause-reads
returns-clause-reads g c = reads_version c.self.inside.present c.self.invariant.version c.args.self.now.present (ap (λ (u : State). u.present) c.self.view_is)
