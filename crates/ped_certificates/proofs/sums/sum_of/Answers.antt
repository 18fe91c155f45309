use Rattle.std.proofs.Common.{rules, ◌≡◌, ◌∙◌, ◌-◌, ◌<◌, ◌++◌, ◌&&◌, ◌+ℤ◌, ◌*ℤ◌, sym, ap, ℤ, map, length, get_or, pos, to_z, FitsSigned, arith}
use Rattle.std.specs.Int.{w128}
use Rattle.std.proofs.lemmas.Int.{to_z-of_z, fits_signed_from_abs}
use Rattle.std.proofs.lemmas.List.{get_or_default, with_items_is}
use Rattle.ped_certificates.specs.declared.systems.Part.{Part}
use Rattle.ped_certificates.specs.Certificates.{plus}
use Rattle.ped_certificates.proofs.Walking.{sum_goes_on, sum_fails}
use Rattle.ped_certificates.proofs.sums.sum_of.Goals as goal

pub returns-in_default-clause-sum : goal.returns-in_default-clause-sum
returns-in_default-clause-sum c =
    let n = c.args.system.now.unknowns in
    let rows = c.args.system.now.rows ++ c.args.added.now in
    let parts = c.args.parts.now in
    let left = c.loop-left.left in
    let within = c.loop-left.invariant.within in
    let some : 0 < left = c.loop-left-test.true in
    let below : left - 1 < length parts = omega arith in
    sym (sum_fails n rows parts left _ _ _ c.loop-left.invariant some _ (get_or_default parts (left - 1) _ _ below) c.in_default.ensures.row)

pub loop-left-preserved-then-row : goal.loop-left-preserved-then-row
loop-left-preserved-then-row c =
    let n = c.args.system.now.unknowns in
    let rows = c.args.system.now.rows ++ c.args.added.now in
    let parts = c.args.parts.now in
    let left = c.loop-left.left in
    let within = c.loop-left.invariant.within in
    let some : 0 < left = c.loop-left-test.true in
    let below : left - 1 < length parts = omega arith in
    let row = c.in-Some.row.now in
    let part : Part = get_or parts (left - 1) (record { row = 0; factor = pos 0 }) in
    let new = c.add_multiple.new.sum in
    let whole : length new ≡ c.loop-left.coefficients.len = omega (arith, c.add_multiple.auto.sum, c.deref_mut.ensures.len) in
    let small = c.in-Some.ensures.fits.constant in
    let fits : FitsSigned w128 row.constant = fits_signed_from_abs w128 row.constant (omega arith) in
    let result_fits : FitsSigned w128 c.multiple_and-constant.result = search rules in
    sum_goes_on n rows parts left _ _ c.loop-left.equation c.loop-left.invariant some _ (get_or_default parts (left - 1) _ _ below) row _ _ _ c.in-Some.ensures.row c.in-Some.ensures.fits c.multiple_and-constant.ensures.factor
    (with_items_is c.loop-left.coefficients new whole ∙ c.add_multiple.ensures ∙ (λ i. plus (map (λ a. part.factor *ℤ a) (c.as_slice.ensures i)) (c.deref_mut.ensures.value i)))
    (to_z-of_z w128 c.multiple_and-constant.result result_fits ∙ c.multiple_and-constant.ensures.sum ∙ ap (λ (x : ℤ). part.factor *ℤ x +ℤ to_z w128 c.loop-left.constant-bits) (to_z-of_z w128 row.constant fits))
    (sym (ap (λ b. b && c.loop-left.equation) c.if-row.true))

pub loop-left-preserved : goal.loop-left-preserved
loop-left-preserved c =
    let n = c.args.system.now.unknowns in
    let rows = c.args.system.now.rows ++ c.args.added.now in
    let parts = c.args.parts.now in
    let left = c.loop-left.left in
    let within = c.loop-left.invariant.within in
    let some : 0 < left = c.loop-left-test.true in
    let below : left - 1 < length parts = omega arith in
    let row = c.in-Some.row.now in
    let part : Part = get_or parts (left - 1) (record { row = 0; factor = pos 0 }) in
    let new = c.add_multiple.new.sum in
    let whole : length new ≡ c.loop-left.coefficients.len = omega (arith, c.add_multiple.auto.sum, c.deref_mut.ensures.len) in
    let small = c.in-Some.ensures.fits.constant in
    let fits : FitsSigned w128 row.constant = fits_signed_from_abs w128 row.constant (omega arith) in
    let result_fits : FitsSigned w128 c.multiple_and-constant.result = search rules in
    sum_goes_on n rows parts left _ _ c.loop-left.equation c.loop-left.invariant some _ (get_or_default parts (left - 1) _ _ below) row _ _ _ c.in-Some.ensures.row c.in-Some.ensures.fits c.multiple_and-constant.ensures.factor
    (with_items_is c.loop-left.coefficients new whole ∙ c.add_multiple.ensures ∙ (λ i. plus (map (λ a. part.factor *ℤ a) (c.as_slice.ensures i)) (c.deref_mut.ensures.value i)))
    (to_z-of_z w128 c.multiple_and-constant.result result_fits ∙ c.multiple_and-constant.ensures.sum ∙ ap (λ (x : ℤ). part.factor *ℤ x +ℤ to_z w128 c.loop-left.constant-bits) (to_z-of_z w128 row.constant fits))
    (c.if-row.false ∙ sym (ap (λ b. b && c.loop-left.equation) c.if-row.false))
