use Rattle.std.proofs.Common.{◌≡◌, ◌≤◌, ◌^◌, get_or, sym, ap, ◌∙◌, ℤ, pos, ◌+ℤ◌, unsigned_abs, to_z, of_z, w64, FitsSigned, rules, arith}
use Rattle.std.specs.Int.{w128}
use Rattle.std.proofs.lemmas.Int.{ints, to_z-of_z}
use Rattle.ped_views.specs.Limits.{IsSmallCoefficient}
use Rattle.ped_affine.specs.AffineForms.{is_small}
use Rattle.ped_affine.proofs.CoefficientSteps.{combined_step, test_step, test_ends, rest_step, rest_first}
use Rattle.ped_affine.proofs.coefficients.add_all.Goals as goal

-- the code's sum
added : (a b : ℤ) → unsigned_abs a ≤ 2 ^ 31 → unsigned_abs b ≤ 2 ^ 31 → to_z w64 (of_z w64 (to_z w64 (of_z w64 a) +ℤ to_z w64 (of_z w64 b))) ≡ a +ℤ b
added a b p q = omega (arith, ints)

pub overflow_add-sum : goal.overflow_add-sum
overflow_add-sum c =
    let p = rest_first IsSmallCoefficient c.loop-i.sums c.loop-i.i (omega arith) c.loop-i.invariant.first in
    let q = c.requires.second c.loop-i.i (pos 0) (omega arith) in
    omega (arith, ints)

pub returns-then-not-is_small-clause-answer : goal.returns-then-not-is_small-clause-answer
returns-then-not-is_small-clause-answer c =
    let p = rest_first IsSmallCoefficient c.loop-i.sums c.loop-i.i (omega arith) c.loop-i.invariant.first in
    let q = c.requires.second c.loop-i.i (pos 0) (omega arith) in
    let a : ℤ = get_or c.loop-i.sums c.loop-i.i (pos 0) in
    let b : ℤ = get_or c.args.others.now c.loop-i.i (pos 0) in
    let f : FitsSigned w128 c.from.result = search rules in
    let t = simp to_z-of_z at c.is_small.ensures in
    test_ends is_small ◌+ℤ◌ c.loop-i.sums c.args.others.now _ c.loop-i.i _ (omega arith) (omega arith) (added a b p q)
    (ap is_small (sym c.from.ensures) ∙ sym t ∙ c.if-not-is_small.true) c.loop-i.invariant.answer

pub loop-i-preserved : goal.loop-i-preserved
loop-i-preserved c =
    let p = rest_first IsSmallCoefficient c.loop-i.sums c.loop-i.i (omega arith) c.loop-i.invariant.first in
    let q = c.requires.second c.loop-i.i (pos 0) (omega arith) in
    let a : ℤ = get_or c.loop-i.sums c.loop-i.i (pos 0) in
    let b : ℤ = get_or c.args.others.now c.loop-i.i (pos 0) in
    let s = added a b p q in
    let f : FitsSigned w128 c.from.result = search rules in
    let t = simp to_z-of_z at c.is_small.ensures in
    record {
      sums = combined_step ◌+ℤ◌ c.loop-i.sums c.args.others.now _ c.loop-i.i _ (omega arith) (omega arith) s c.loop-i.invariant.sums;
      answer = test_step is_small ◌+ℤ◌ c.loop-i.sums c.args.others.now _ c.loop-i.i _ (omega arith) (omega arith) s
          (ap is_small (sym c.from.ensures) ∙ sym t ∙ c.if-not-is_small.false) c.loop-i.invariant.answer;
      first = rest_step IsSmallCoefficient c.loop-i.sums c.loop-i.i _ (omega arith) c.loop-i.invariant.first;
    }
