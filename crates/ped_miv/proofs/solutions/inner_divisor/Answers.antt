use Rattle.std.proofs.Common.{arith, rules, refl, ◌+◌, pos, FitsSigned, w64, get_or, to_z}
use Rattle.std.specs.Int.{w128}
use Rattle.std.proofs.lemmas.Int.{to_z-of_z}
use Rattle.ped_views.proofs.Products.{linear}
use Rattle.ped_views.specs.Whole.{Divides}
use Rattle.ped_miv.specs.Values.{InnerForm}
use Rattle.ped_miv.proofs.Multiples.{AreAhead-start, AreAhead-step, AreAhead-end}
use Rattle.ped_miv.proofs.Unknowns.{inner_forms_from, inner_forms_step, inner_forms_end}
use Rattle.ped_miv.proofs.solutions.inner_divisor.Goals as goal

pub loop-a-init : goal.loop-a-init
loop-a-init c = record { ahead = AreAhead-start (InnerForm c.args.row.now) (pos 0) refl; not_negative = omega (arith, linear) }

pub loop-a-preserved : goal.loop-a-preserved
loop-a-preserved c =
    let fa : FitsSigned w64 (get_or c.args.row.now c.loop-a.a-index (pos 0)) = search rules in
    let ff : FitsSigned w128 c.from.result = search rules in
    let fg : FitsSigned w128 c.gcd-divisor.result = search rules in
    let e = simp to_z-of_z at c.from.ensures in
    let h = simp to_z-of_z at c.gcd-divisor.ensures in
    let g = simp e at h in
    let opens = inner_forms_step c.args.row.now c.loop-a.a-index _ c.loop-a-test.true refl in
    record {
      ahead = simp to_z-of_z (AreAhead-step (InnerForm c.args.row.now)
          (inner_forms_from c.args.row.now c.loop-a.a-index)
          (Divides (get_or c.args.row.now c.loop-a.a-index (pos 0)))
          (inner_forms_from c.args.row.now (c.loop-a.a-index + 1))
          (to_z w128 c.loop-a.divisor-bits) (get_or c.args.row.now c.loop-a.a-index (pos 0)) c.gcd-divisor.result c.loop-a.invariant.ahead opens (λ v. (λ x. x, λ x. x)) g);
      not_negative = simp to_z-of_z c.gcd-divisor.ensures.not_negative;
    }

pub returns-clause-multiples : goal.returns-clause-multiples
returns-clause-multiples c =
    AreAhead-end (InnerForm c.args.row.now) (inner_forms_from c.args.row.now c.loop-a.a-index) (to_z w128 c.loop-a.divisor-bits) c.loop-a.invariant.ahead
    (inner_forms_end c.args.row.now c.loop-a.a-index (omega arith))
