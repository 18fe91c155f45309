use Rattle.std.proofs.Common.{rules, FitsSigned}
use Rattle.std.specs.Int.{w128}
use Rattle.std.proofs.lemmas.Int.{to_z-of_z}
use Rattle.ped_miv.proofs.Unknowns.{no_solution_decided}
use Rattle.ped_miv.proofs.solutions.gcd_excludes.Goals as goal

pub returns : goal.returns
returns c =
    let f1 : FitsSigned w128 c.source_divisor.result = search rules in
    let f2 : FitsSigned w128 c.sink_divisor.result = search rules in
    let f3 : FitsSigned w128 c.loops_divisor.result = search rules in
    let f4 : FitsSigned w128 c.gcd-inner.result = search rules in
    let f5 : FitsSigned w128 c.gcd-divisor.result = search rules in
    let f6 : FitsSigned w128 c.constant_difference.result = search rules in
    let inner = simp to_z-of_z at c.gcd-inner.ensures in
    let whole = simp to_z-of_z at c.gcd-divisor.ensures in
    no_solution_decided c.args.position.now c.args.directions.now c.loops_divisor.result c.source_divisor.result c.sink_divisor.result c.gcd-inner.result c.gcd-divisor.result c.constant_difference.result c.loops_divisor.ensures.paired c.loops_divisor.ensures.multiples c.source_divisor.ensures.multiples c.sink_divisor.ensures.multiples inner whole c.constant_difference.ensures.value c.divides.result (simp to_z-of_z at c.divides.ensures)
