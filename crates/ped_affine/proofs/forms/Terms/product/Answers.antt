use Rattle.std.proofs.Common.{◌≡◌, false, true, sym, ap, ◌∙◌, rules, FitsSigned, w64}
use Rattle.std.specs.List.{list_all}
use Rattle.std.proofs.lemmas.Int.{to_z-of_z}
use Rattle.ped_views.specs.Whole.{is_zero}
use Rattle.ped_affine.specs.AffineForms.{is_constant_form, product}
use Rattle.ped_affine.specs.KeptForms.{unknowns_of, kept, form_kept}
use Rattle.ped_affine.proofs.FormLaws.{product_first, product_second, coefficients_zero}
use Rattle.ped_affine.proofs.forms.Terms.product.Goals as goal

pub multiple-requires-clause-form : goal.multiple-requires-clause-form
multiple-requires-clause-form c = c.requires.second c.in-Some-Some.b c.in-Some-Some.is-1

pub multiple-requires-then-are_zeros-2-clause-form : goal.multiple-requires-then-are_zeros-2-clause-form
multiple-requires-then-are_zeros-2-clause-form c = c.requires.first c.in-Some-Some.a c.in-Some-Some.is-0

pub returns-then-are_zeros-clause-form : goal.returns-then-are_zeros-clause-form
returns-then-are_zeros-clause-form c =
    let us = unknowns_of c.args.self.now in
    let a = c.in-Some-Some.a in
    let b = c.in-Some-Some.b in
    let f : FitsSigned w64 a.constant = search rules in
    let m = simp (to_z-of_z w64 a.constant f) at c.multiple.ensures.form in
    let first : is_constant_form (form_kept us a) ≡ true = coefficients_zero us a.coefficients.items ∙ ap (list_all is_zero) (sym c.deref.ensures.value) ∙ sym c.are_zeros.ensures ∙ c.if-are_zeros.true in
    m ∙ product_first (form_kept us a) (form_kept us b) first ∙ (λ i. product (kept us (sym c.in-Some-Some.is-0 i)) (kept us (sym c.in-Some-Some.is-1 i)))

pub returns-then-are_zeros-2-clause-form : goal.returns-then-are_zeros-2-clause-form
returns-then-are_zeros-2-clause-form c =
    let us = unknowns_of c.args.self.now in
    let a = c.in-Some-Some.a in
    let b = c.in-Some-Some.b in
    let f : FitsSigned w64 b.constant = search rules in
    let m = simp (to_z-of_z w64 b.constant f) at c.multiple-then-are_zeros-2.ensures.form in
    let first : is_constant_form (form_kept us a) ≡ false = coefficients_zero us a.coefficients.items ∙ ap (list_all is_zero) (sym c.deref.ensures.value) ∙ sym c.are_zeros.ensures ∙ c.if-are_zeros.false in
    let second : is_constant_form (form_kept us b) ≡ true = coefficients_zero us b.coefficients.items ∙ ap (list_all is_zero) (sym c.deref-else-are_zeros.ensures.value) ∙ sym c.are_zeros-else-are_zeros.ensures ∙ c.if-are_zeros-2.true in
    m ∙ product_second (form_kept us a) (form_kept us b) first second ∙ (λ i. product (kept us (sym c.in-Some-Some.is-0 i)) (kept us (sym c.in-Some-Some.is-1 i)))
