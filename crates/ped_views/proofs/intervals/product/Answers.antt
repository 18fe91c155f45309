use Rattle.std.proofs.Common.{arith, ◌^◌, ◌≤◌, ℤ, ◌*ℤ◌, unsigned_abs, FitsSigned}
use Rattle.std.specs.Int.{w128}
use Rattle.std.proofs.lemmas.Int.{to_z-of_z}
use Rattle.ped_views.proofs.Products.{linear, mul_small}
use Rattle.ped_views.proofs.intervals.product.Goals as goal

fits : (x y : ℤ) → unsigned_abs x ≤ 2 ^ 62 → unsigned_abs y ≤ 2 ^ 62 → FitsSigned w128 (x *ℤ y)
fits x y p q = let s = mul_small x y (2 ^ 62) (2 ^ 62) p q in omega (arith, linear)

pub returns-clause-value : goal.returns-clause-value
returns-clause-value c =
    let fx : FitsSigned w128 c.args.x = c.ranges.x in
    let fy : FitsSigned w128 c.args.y = c.ranges.y in
    let f = fits c.args.x c.args.y c.requires.first c.requires.second in
    simp to_z-of_z

pub returns-clause-small : goal.returns-clause-small
returns-clause-small c =
    let fx : FitsSigned w128 c.args.x = c.ranges.x in
    let fy : FitsSigned w128 c.args.y = c.ranges.y in
    let f = fits c.args.x c.args.y c.requires.first c.requires.second in
    let s = mul_small c.args.x c.args.y (2 ^ 62) (2 ^ 62) c.requires.first c.requires.second in
    simp to_z-of_z (omega arith)
