use Rattle.std.proofs.Common.{◌≡◌, map, length, All, subst, neg_ℤ, sym, ap, ◌∙◌, arith}
use Rattle.std.proofs.lemmas.Int.{ints}
use Rattle.std.proofs.lemmas.List.{with_items_is, length-map}
use Rattle.ped_views.specs.Limits.{IsSmallCoefficient}
use Rattle.ped_affine.specs.KeptForms.{unknowns_of}
use Rattle.ped_affine.proofs.FormLaws.{opposite_is, complete_again, negations_small}
use Rattle.ped_affine.proofs.forms.Terms.negated.Goals as goal

pub returns-clause-form : goal.returns-clause-form
returns-clause-form c =
    let new = c.negate_all.ensures ∙ ap (map neg_ℤ) c.deref_mut.ensures.value in
    let as_many : length c.negate_all.new.coefficients ≡ length c.args.f.coefficients.items = ap length new ∙ length-map c.args.f.coefficients.items neg_ℤ in
    opposite_is (unknowns_of c.args.self.now) c.args.f.coefficients.items _ c.args.f.constant _
    (with_items_is c.args.f.coefficients c.negate_all.new.coefficients (omega (arith, c.deref_mut.ensures.len, ap length c.deref_mut.ensures.value)) ∙ new) (omega (arith, ints))

pub returns-clause-over : goal.returns-clause-over
returns-clause-over c =
    let new = c.negate_all.ensures ∙ ap (map neg_ℤ) c.deref_mut.ensures.value in
    let as_many : length c.negate_all.new.coefficients ≡ length c.args.f.coefficients.items = ap length new ∙ length-map c.args.f.coefficients.items neg_ℤ in
    let items = with_items_is c.args.f.coefficients c.negate_all.new.coefficients (omega (arith, c.deref_mut.ensures.len, ap length c.deref_mut.ensures.value)) in
    record {
      complete = complete_again (unknowns_of c.args.self.now) c.args.f.coefficients.items _ (ap length items ∙ as_many) c.requires.complete;
      coefficients = subst (All IsSmallCoefficient) (sym (items ∙ new)) (negations_small c.args.f.coefficients.items c.requires.coefficients);
      constant = omega (arith, ints);
    }
