use Rattle.std.proofs.Common.{rules, FitsSigned}
use Rattle.std.specs.Int.{w128}
use Rattle.std.proofs.lemmas.Int.{to_z-of_z}
use Rattle.ped_views.proofs.Images.{mul_image}
use Rattle.ped_views.proofs.intervals.Interval.mul.Goals as goal

pub returns : goal.returns
returns c =
    let a1 : FitsSigned w128 c.args.self.lo = search rules in
    let a2 : FitsSigned w128 c.args.self.hi = search rules in
    let b1 : FitsSigned w128 c.args.b.lo = search rules in
    let b2 : FitsSigned w128 c.args.b.hi = search rules in
    let fa : FitsSigned w128 c.product.result = search rules in
    let fb : FitsSigned w128 c.product-2.result = search rules in
    let fc : FitsSigned w128 c.product-3.result = search rules in
    let fd : FitsSigned w128 c.product-4.result = search rules in
    let ea = simp to_z-of_z at c.product.ensures.value in
    let eb = simp to_z-of_z at c.product-2.ensures.value in
    let ec = simp to_z-of_z at c.product-3.ensures.value in
    let ed = simp to_z-of_z at c.product-4.ensures.value in
    let l1 = simp to_z-of_z at c.between-at_lo.ensures.lo in
    let h1 = simp to_z-of_z at c.between-at_lo.ensures.hi in
    let l2 = simp to_z-of_z at c.between-at_hi.ensures.lo in
    let h2 = simp to_z-of_z at c.between-at_hi.ensures.hi in
    mul_image c.args.self c.args.b c.join.result _ _ _ _ c.requires.first.ordered c.requires.second.ordered ea eb ec ed (simp (l1, l2) at c.join.ensures.lo) (simp (h1, h2) at c.join.ensures.hi)
