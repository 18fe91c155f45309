use Rattle.std.proofs.Common.{rules, FitsSigned, w64, sym, ◌∙◌}
use Rattle.std.specs.Int.{w128}
use Rattle.std.proofs.lemmas.Int.{to_z-of_z}
use Rattle.ped_siv.proofs.Answering.{product_some}
use Rattle.ped_siv.proofs.strong.strong_distance.Goals as goal

pub exact_quotient-requires-clause-divisor : goal.exact_quotient-requires-clause-divisor
exact_quotient-requires-clause-divisor c =
    let fa : FitsSigned w64 c.args.a = c.ranges.a in
    let fs : FitsSigned w64 c.args.step = c.ranges.step in
    let fp : FitsSigned w128 c.product.result = search rules in
    let e = simp to_z-of_z at c.product.ensures.value in
    simp to_z-of_z (λ z. product_some c.args.a c.args.step c.requires.coefficient c.requires.step (sym e ∙ z))
