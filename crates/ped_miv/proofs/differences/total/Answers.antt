use Rattle.std.proofs.Common.{arith, ◌+ℤ◌, ◌-ℤ◌, FitsSigned}
use Rattle.std.specs.Int.{w128}
use Rattle.std.proofs.lemmas.Int.{to_z-of_z}
use Rattle.ped_views.proofs.Products.{linear}
use Rattle.ped_miv.proofs.differences.total.Goals as goal

pub overflow_sub-result : goal.overflow_sub-result
overflow_sub-result c =
    let f1 : FitsSigned w128 c.args.common = c.ranges.common in
    let f2 : FitsSigned w128 c.args.source = c.ranges.source in
    let f3 : FitsSigned w128 c.args.sink = c.ranges.sink in
    let f4 : FitsSigned w128 c.args.constant = c.ranges.constant in
    let fa : FitsSigned w128 (c.args.common +ℤ c.args.source) = omega (arith, linear) in
    simp to_z-of_z (omega (arith, linear))

pub overflow_add-result-2 : goal.overflow_add-result-2
overflow_add-result-2 c =
    let f1 : FitsSigned w128 c.args.common = c.ranges.common in
    let f2 : FitsSigned w128 c.args.source = c.ranges.source in
    let f3 : FitsSigned w128 c.args.sink = c.ranges.sink in
    let f4 : FitsSigned w128 c.args.constant = c.ranges.constant in
    let fa : FitsSigned w128 (c.args.common +ℤ c.args.source) = omega (arith, linear) in
    let fb : FitsSigned w128 (c.args.common +ℤ c.args.source -ℤ c.args.sink) = omega (arith, linear) in
    simp to_z-of_z (omega (arith, linear))

pub returns : goal.returns
returns c =
    let f1 : FitsSigned w128 c.args.common = c.ranges.common in
    let f2 : FitsSigned w128 c.args.source = c.ranges.source in
    let f3 : FitsSigned w128 c.args.sink = c.ranges.sink in
    let f4 : FitsSigned w128 c.args.constant = c.ranges.constant in
    let fa : FitsSigned w128 (c.args.common +ℤ c.args.source) = omega (arith, linear) in
    let fb : FitsSigned w128 (c.args.common +ℤ c.args.source -ℤ c.args.sink) = omega (arith, linear) in
    let fc : FitsSigned w128 (c.args.common +ℤ c.args.source -ℤ c.args.sink +ℤ c.args.constant) = omega (arith, linear) in
    simp to_z-of_z (omega (arith, linear))
