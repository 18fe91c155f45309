use Rattle.std.proofs.Common.{◌≡◌, ◌^◌, true, get_or, sym, ap, ◌∙◌, ℤ, pos, unsigned_abs, to_z, of_z, w64, FitsSigned, rules, arith}
use Rattle.std.specs.Int.{w128}
use Rattle.std.proofs.lemmas.Int.{ints, to_z-of_z}
use Rattle.std.proofs.lemmas.Bool.{leb-true}
use Rattle.ped_affine.specs.AffineForms.{is_small}
use Rattle.ped_affine.proofs.CoefficientSteps.{map_step, map_test_step}
use Rattle.ped_affine.proofs.coefficients.multiply_all.Goals as goal

-- the number that the code writes, where it is small
written : (r : ℤ) → is_small r ≡ true → to_z w64 (of_z w64 (to_z w128 (of_z w128 r))) ≡ r
written r e = let h = leb-true (unsigned_abs r) (2 ^ 31) e in omega (arith, ints)

pub loop-i-preserved : goal.loop-i-preserved
loop-i-preserved c =
    let g : ℤ = get_or c.loop-i.products c.loop-i.i (pos 0) in
    let fg : FitsSigned w64 g = search rules in
    let fr : FitsSigned w128 c.product-a.result = search rules in
    let t = simp to_z-of_z at c.is_small.ensures in
    let passes : is_small c.product-a.result ≡ true = sym t ∙ c.if-not-is_small.false in
    let w = written c.product-a.result passes in
    let e = simp (to_z-of_z w64 g fg) at c.product-a.ensures.value in
    record {
      products = map_step _ c.loop-i.products _ c.loop-i.i _ (omega arith) (w ∙ e) c.loop-i.invariant.products;
      answer = map_test_step is_small _ c.loop-i.products _ c.loop-i.i _ (omega arith) (w ∙ e) (ap is_small w ∙ passes) c.loop-i.invariant.answer;
    }
