use Rattle.std.proofs.Common.{arith, rules, FitsSigned}
use Rattle.std.specs.Int.{w128}
use Rattle.std.proofs.lemmas.Int.{to_z-of_z}
use Rattle.ped_views.proofs.Products.{linear}
use Rattle.ped_views.proofs.Dividing.{rounded_near, rounded_apart}
use Rattle.ped_views.proofs.floors.floor_div.Goals as goal

pub returns-then-rest-lt0 : goal.returns-then-rest-lt0
returns-then-rest-lt0 c =
    let fa : FitsSigned w128 c.args.a = c.ranges.a in
    let fb : FitsSigned w128 c.args.b = c.ranges.b in
    let fr : FitsSigned w128 c.remainder-rest.result = search rules in
    let fq : FitsSigned w128 c.quotient-whole.result = search rules in
    let e = simp to_z-of_z at c.remainder-rest.ensures in
    let q = simp to_z-of_z at c.quotient-whole.ensures.value in
    rounded_apart c.args.a c.args.b _ c.requires.divisor_some (omega (arith, linear)) (λ p. omega (arith, linear)) (λ p. absurd (omega (arith, linear)))

pub returns-then-rest-gt0 : goal.returns-then-rest-gt0
returns-then-rest-gt0 c =
    let fa : FitsSigned w128 c.args.a = c.ranges.a in
    let fb : FitsSigned w128 c.args.b = c.ranges.b in
    let fr : FitsSigned w128 c.remainder-rest.result = search rules in
    let fq : FitsSigned w128 c.quotient-whole.result = search rules in
    let e = simp to_z-of_z at c.remainder-rest.ensures in
    let q = simp to_z-of_z at c.quotient-whole.ensures.value in
    rounded_apart c.args.a c.args.b _ c.requires.divisor_some (omega (arith, linear)) (λ p. absurd (omega (arith, linear))) (λ p. omega (arith, linear))

pub returns-else-rest-gt0 : goal.returns-else-rest-gt0
returns-else-rest-gt0 c =
    let fa : FitsSigned w128 c.args.a = c.ranges.a in
    let fb : FitsSigned w128 c.args.b = c.ranges.b in
    let fr : FitsSigned w128 c.remainder-rest.result = search rules in
    let fq : FitsSigned w128 c.quotient-whole.result = search rules in
    let e = simp to_z-of_z at c.remainder-rest.ensures in
    let q = simp to_z-of_z at c.quotient-whole.ensures.value in
    rounded_near c.args.a c.args.b _ c.requires.divisor_some (omega (arith, linear)) (λ p. absurd (omega (arith, linear))) (λ p. omega (arith, linear))

pub returns-else-rest-lt0 : goal.returns-else-rest-lt0
returns-else-rest-lt0 c =
    let fa : FitsSigned w128 c.args.a = c.ranges.a in
    let fb : FitsSigned w128 c.args.b = c.ranges.b in
    let fr : FitsSigned w128 c.remainder-rest.result = search rules in
    let fq : FitsSigned w128 c.quotient-whole.result = search rules in
    let e = simp to_z-of_z at c.remainder-rest.ensures in
    let q = simp to_z-of_z at c.quotient-whole.ensures.value in
    rounded_near c.args.a c.args.b _ c.requires.divisor_some (omega (arith, linear)) (λ p. omega (arith, linear)) (λ p. absurd (omega (arith, linear)))
