use Rattle.std.proofs.Common.{ap}
use Rattle.ped_versions.specs.States.{State}
use Rattle.ped_versions.proofs.PresentProgram.{graph_of}
use Rattle.ped_versions.proofs.versions.Versions.pairs.Goals as goal

pub returns : goal.returns
returns g c t reads =
    let s = c.self.inside in
    c.pair_count.ensures t (graph_of s.present s.graph s.history.past s.history.future c.self.invariant c.args.self.now.present (ap (λ (u : State). u.present) c.self.view_is) t reads)
