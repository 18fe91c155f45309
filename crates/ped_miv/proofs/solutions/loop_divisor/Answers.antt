use Rattle.std.proofs.Common.{rules, FitsSigned, w64}
use Rattle.std.specs.Int.{w128}
use Rattle.std.proofs.lemmas.Int.{to_z-of_z}
use Rattle.ped_miv.proofs.Multiples.{shared_multiples, apart_multiples}
use Rattle.ped_miv.proofs.solutions.loop_divisor.Goals as goal

pub returns-then-has_one_unknown-clause-multiples : goal.returns-then-has_one_unknown-clause-multiples
returns-then-has_one_unknown-clause-multiples c =
    let fa : FitsSigned w64 c.args.a = c.ranges.a in
    let fb : FitsSigned w64 c.args.b = c.ranges.b in
    let fd : FitsSigned w128 c.difference.result = search rules in
    let d = simp to_z-of_z at c.difference.ensures.value in
    simp to_z-of_z (shared_multiples c.args.direction c.args.a c.args.b c.difference.result (c.has_one_unknown.ensures.one c.if-has_one_unknown.true) d)

pub returns-else-has_one_unknown-clause-multiples : goal.returns-else-has_one_unknown-clause-multiples
returns-else-has_one_unknown-clause-multiples c =
    let fa : FitsSigned w64 c.args.a = c.ranges.a in
    let fb : FitsSigned w64 c.args.b = c.ranges.b in
    let f1 : FitsSigned w128 c.from.result = search rules in
    let f2 : FitsSigned w128 c.from-else-has_one_unknown.result = search rules in
    let f3 : FitsSigned w128 c.gcd.result = search rules in
    let e1 = simp to_z-of_z at c.from.ensures in
    let e2 = simp to_z-of_z at c.from-else-has_one_unknown.ensures in
    let h = simp to_z-of_z at c.gcd.ensures in
    let g = simp (e1, e2) at h in
    simp to_z-of_z (apart_multiples c.args.direction c.args.a c.args.b c.gcd.result (c.has_one_unknown.ensures.two c.if-has_one_unknown.false) g)
