use Rattle.std.proofs.Common.{subst, arith}
use Rattle.ped_views.specs.Views.{View}
use Rattle.ped_verdict.specs.Marked.{AreMarked}
use Rattle.ped_verdict.proofs.testing.Verdict.holds.Goals as goal

pub place_of-requires : goal.place_of-requires
place_of-requires g c =
    let few = (subst (λ (v : View). AreMarked v c.self.inside.possible) c.self.view_is c.self.invariant).few in
    let long = c.requires in
    omega arith
