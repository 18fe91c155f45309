use Rattle.std.proofs.Common.{◌≡◌, ◌∙◌, ◌+ℤ◌, rules, w64, FitsSigned}
use Rattle.std.proofs.lemmas.Int.{to_z-of_z}
use Rattle.std.proofs.lemmas.List.{with_items_is}
use Rattle.ped_affine.specs.AffineForms.{form, combined, within_limits}
use Rattle.ped_affine.specs.KeptForms.{unknowns_of, coefficients_of}
use Rattle.ped_affine.proofs.forms.Terms.total_of_both.Goals as goal

pub returns-then-add_all-clause-form : goal.returns-then-add_all-clause-form
returns-then-add_all-clause-form c =
    let fb : FitsSigned w64 c.args.b.constant = search rules in
    let items : _ ≡ combined ◌+ℤ◌ c.args.a.coefficients.items c.args.b.coefficients.items =
    with_items_is c.args.a.coefficients c.add_all.new.sums (c.add_all.auto.sums ∙ c.deref_mut.ensures.len) ∙ c.if-add_all.ensures.sums
    ∙ (λ i. combined ◌+ℤ◌ (c.deref_mut.ensures.value i) (c.deref.ensures.value i)) in
    let n = to_z-of_z w64 c.args.b.constant fb in
    c.with_constant.ensures.form ∙ (λ i. within_limits (form (coefficients_of (unknowns_of c.args.self.now) (items i)) (c.args.a.constant +ℤ n i)))
