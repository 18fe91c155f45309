use Rattle.std.proofs.Common.{arith, rules, refl, ◌∙◌, ◌+◌, pos, FitsSigned, w64, get_or, to_z}
use Rattle.std.specs.Int.{w128}
use Rattle.std.proofs.lemmas.Int.{to_z-of_z}
use Rattle.ped_views.proofs.Products.{linear}
use Rattle.ped_miv.specs.Values.{CommonForm, FormValue, IsShared}
use Rattle.ped_miv.proofs.Multiples.{AreAhead-start, AreAhead-step, AreAhead-end}
use Rattle.ped_miv.proofs.Steps.{looked_up}
use Rattle.ped_miv.proofs.Unknowns.{forms_from, forms_step, forms_end}
use Rattle.ped_miv.proofs.solutions.common_divisor.Goals as goal

pub loop-k-init : goal.loop-k-init
loop-k-init c = record { ahead = AreAhead-start (CommonForm c.args.source.now c.args.sink.now c.args.directions.now) (pos 0) refl; not_negative = omega (arith, linear) }

pub loop-k-preserved : goal.loop-k-preserved
loop-k-preserved c =
    let fa : FitsSigned w64 (get_or c.args.source.now c.loop-k.k (pos 0)) = search rules in
    let fb : FitsSigned w64 (get_or c.args.sink.now c.loop-k.k (pos 0)) = search rules in
    let fl : FitsSigned w128 c.loop_divisor.result = search rules in
    let fg : FitsSigned w128 c.gcd-divisor.result = search rules in
    let d = c.copied.ensures ∙ looked_up c.get.result c.args.directions.now c.loop-k.k c.get.ensures.lookup.0 c.get.ensures.lookup.1 in
    let opens = forms_step c.args.source.now c.args.sink.now c.args.directions.now c.loop-k.k c.copied.result _ _ c.loop-k-test.true c.requires d refl refl in
    let part = simp to_z-of_z at c.loop_divisor.ensures.multiples in
    let g = simp to_z-of_z at c.gcd-divisor.ensures in
    record {
      ahead = simp to_z-of_z (AreAhead-step (CommonForm c.args.source.now c.args.sink.now c.args.directions.now)
          (forms_from c.args.source.now c.args.sink.now c.args.directions.now c.loop-k.k)
          (FormValue (IsShared c.copied.result) (get_or c.args.source.now c.loop-k.k (pos 0)) (get_or c.args.sink.now c.loop-k.k (pos 0)))
          (forms_from c.args.source.now c.args.sink.now c.args.directions.now (c.loop-k.k + 1))
          (to_z w128 c.loop-k.divisor-bits) c.loop_divisor.result c.gcd-divisor.result c.loop-k.invariant.ahead opens part g);
      not_negative = simp to_z-of_z c.gcd-divisor.ensures.not_negative;
    }

pub returns-clause-multiples : goal.returns-clause-multiples
returns-clause-multiples c =
    AreAhead-end (CommonForm c.args.source.now c.args.sink.now c.args.directions.now) (forms_from c.args.source.now c.args.sink.now c.args.directions.now c.loop-k.k) (to_z w128 c.loop-k.divisor-bits) c.loop-k.invariant.ahead
    (forms_end c.args.source.now c.args.sink.now c.args.directions.now c.loop-k.k (omega arith))
