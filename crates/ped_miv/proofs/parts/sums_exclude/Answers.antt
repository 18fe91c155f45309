use Rattle.std.proofs.Common.{arith, rules, refl, pos, ◌≤ℤ◌, ◌<ℤ◌, FitsSigned}
use Rattle.std.specs.Int.{w128}
use Rattle.std.proofs.lemmas.Int.{to_z-of_z, ints}
use Rattle.ped_miv.proofs.Points.{beyond_nothing, beyond_least, beyond_decided}
use Rattle.ped_miv.proofs.parts.sums_exclude.Goals as goal

pub returns-in-None : goal.returns-in-None
returns-in-None c = (λ t. beyond_nothing c.args.view.now c.args.position.now c.args.front.now c.in-None.ensures, λ b. refl)

pub returns-then-extremes-gt0 : goal.returns-then-extremes-gt0
returns-then-extremes-gt0 c =
    let f : FitsSigned w128 c.in-Some.extremes.lo = search rules in
    let h : pos 0 <ℤ c.in-Some.extremes.lo = omega (arith, ints) in
    (λ t. beyond_least c.args.view.now c.args.position.now c.args.front.now _ _ c.in-Some.ensures h, λ b. c.if-extremes-gt0.true)

pub returns-else-extremes-gt0 : goal.returns-else-extremes-gt0
returns-else-extremes-gt0 c =
    let f : FitsSigned w128 c.in-Some.extremes.lo = search rules in
    let g : FitsSigned w128 c.in-Some.extremes.hi = search rules in
    let h : c.in-Some.extremes.lo ≤ℤ pos 0 = omega (arith, ints) in
    simp to_z-of_z (beyond_decided c.args.view.now c.args.position.now c.args.front.now _ _ c.in-Some.ensures h)
