use Rattle.std.proofs.Common.{arith, rules, ℤ, ◌≤◌, ◌^◌, ◌≡◌, ◌*ℤ◌, ◌-ℤ◌, unsigned_abs, FitsSigned, w64}
use Rattle.std.specs.Int.{w128}
use Rattle.std.proofs.lemmas.Int.{to_z-of_z}
use Rattle.ped_views.proofs.Products.{linear, mul_small}
use Rattle.ped_miv.proofs.extremes.corner.Goals as goal

-- the two products, and so their difference, are small
small : (a i b j p q : ℤ) → p ≡ a *ℤ i → q ≡ b *ℤ j → unsigned_abs a ≤ 2 ^ 31 → unsigned_abs i ≤ 2 ^ 62 → unsigned_abs b ≤ 2 ^ 31 → unsigned_abs j ≤ 2 ^ 62 → unsigned_abs (p -ℤ q) ≤ 2 ^ 94
small a i b j p q e f sa si sb sj =
    let s = mul_small a i (2 ^ 31) (2 ^ 62) sa si in
    let t = mul_small b j (2 ^ 31) (2 ^ 62) sb sj in
    omega (arith, linear)

pub overflow_sub-result : goal.overflow_sub-result
overflow_sub-result c =
    let fa : FitsSigned w64 c.args.a = c.ranges.a in
    let fi : FitsSigned w64 c.args.i = c.ranges.i in
    let fb : FitsSigned w64 c.args.b = c.ranges.b in
    let fj : FitsSigned w64 c.args.j = c.ranges.j in
    let fp : FitsSigned w128 c.product.result = search rules in
    let fq : FitsSigned w128 c.product-2.result = search rules in
    let p = simp to_z-of_z at c.product.ensures.value in
    let q = simp to_z-of_z at c.product-2.ensures.value in
    let s = small c.args.a c.args.i c.args.b c.args.j c.product.result c.product-2.result p q c.requires.source c.requires.i c.requires.sink c.requires.j in
    simp to_z-of_z (omega (arith, linear))

pub returns-clause-value : goal.returns-clause-value
returns-clause-value c =
    let fa : FitsSigned w64 c.args.a = c.ranges.a in
    let fi : FitsSigned w64 c.args.i = c.ranges.i in
    let fb : FitsSigned w64 c.args.b = c.ranges.b in
    let fj : FitsSigned w64 c.args.j = c.ranges.j in
    let fp : FitsSigned w128 c.product.result = search rules in
    let fq : FitsSigned w128 c.product-2.result = search rules in
    let p = simp to_z-of_z at c.product.ensures.value in
    let q = simp to_z-of_z at c.product-2.ensures.value in
    let s = small c.args.a c.args.i c.args.b c.args.j c.product.result c.product-2.result p q c.requires.source c.requires.i c.requires.sink c.requires.j in
    let f : FitsSigned w128 (c.product.result -ℤ c.product-2.result) = omega (arith, linear) in
    simp to_z-of_z (omega (arith, linear))

pub returns-clause-small : goal.returns-clause-small
returns-clause-small c =
    let fa : FitsSigned w64 c.args.a = c.ranges.a in
    let fi : FitsSigned w64 c.args.i = c.ranges.i in
    let fb : FitsSigned w64 c.args.b = c.ranges.b in
    let fj : FitsSigned w64 c.args.j = c.ranges.j in
    let fp : FitsSigned w128 c.product.result = search rules in
    let fq : FitsSigned w128 c.product-2.result = search rules in
    let p = simp to_z-of_z at c.product.ensures.value in
    let q = simp to_z-of_z at c.product-2.ensures.value in
    let s = small c.args.a c.args.i c.args.b c.args.j c.product.result c.product-2.result p q c.requires.source c.requires.i c.requires.sink c.requires.j in
    let f : FitsSigned w128 (c.product.result -ℤ c.product-2.result) = omega (arith, linear) in
    simp to_z-of_z (omega (arith, linear))
