use Rattle.std.proofs.Common.{rules, FitsSigned}
use Rattle.std.specs.Int.{w128}
use Rattle.std.proofs.lemmas.Int.{to_z-of_z}
use Rattle.ped_views.proofs.Images.{min_image}
use Rattle.ped_views.proofs.intervals.Interval.min.Goals as goal

pub returns : goal.returns
returns c =
    let a1 : FitsSigned w128 c.args.self.lo = search rules in
    let a2 : FitsSigned w128 c.args.self.hi = search rules in
    let b1 : FitsSigned w128 c.args.b.lo = search rules in
    let b2 : FitsSigned w128 c.args.b.hi = search rules in
    let f1 : FitsSigned w128 c.min.result = search rules in
    let f2 : FitsSigned w128 c.min-2.result = search rules in
    let l = simp to_z-of_z at c.min.ensures.value in
    let h = simp to_z-of_z at c.min-2.ensures.value in
    simp to_z-of_z (min_image c.args.self c.args.b _ c.requires.first c.requires.second l h)
