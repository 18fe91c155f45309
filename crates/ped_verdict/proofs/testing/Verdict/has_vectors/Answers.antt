use Rattle.std.proofs.Common.{subst}
use Rattle.ped_views.specs.Views.{View}
use Rattle.ped_verdict.specs.Marked.{AreMarked}
use Rattle.ped_verdict.proofs.Possible.{has_some}
use Rattle.ped_verdict.proofs.testing.Verdict.has_vectors.Goals as goal

pub returns : goal.returns
returns g c = has_some c.args.self.now c.self.inside.possible (subst (λ (v : View). AreMarked v c.self.inside.possible) c.self.view_is c.self.invariant) c.meets.result c.meets.ensures
