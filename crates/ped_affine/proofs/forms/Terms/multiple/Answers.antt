use Rattle.std.proofs.Common.{◌≡◌, map, length, All, subst, true, ℤ, ◌*ℤ◌, sym, ap, ◌∙◌, rules, w64, FitsSigned}
use Rattle.std.specs.Int.{w128}
use Rattle.std.specs.List.{list_all}
use Rattle.std.proofs.lemmas.Int.{to_z-of_z}
use Rattle.std.proofs.lemmas.List.{with_items_is}
use Rattle.ped_views.specs.Limits.{IsSmallConstant, IsSmallCoefficient}
use Rattle.ped_affine.specs.Ranges.{is_near}
use Rattle.ped_affine.specs.AffineForms.{is_small}
use Rattle.ped_affine.specs.KeptForms.{unknowns_of}
use Rattle.ped_affine.proofs.FormLaws.{multiple_is, is_near_is, complete_again, smalls, written}
use Rattle.ped_affine.proofs.forms.Terms.multiple.Goals as goal

pub returns-then-is_near-clause-form : goal.returns-then-is_near-clause-form
returns-then-is_near-clause-form c =
    let fc : FitsSigned w64 c.args.f.constant = search rules in
    let fr : FitsSigned w128 c.product-constant.result = search rules in
    let fn = c.ranges.n in
    let e = simp to_z-of_z at c.product-constant.ensures.value in
    let t = simp to_z-of_z at c.is_near.ensures in
    let near : is_near (c.args.n *ℤ c.args.f.constant) ≡ true = ap is_near (sym e) ∙ sym t ∙ c.if-is_near.true in
    let n = to_z-of_z w64 c.args.n fn in
    let products : c.multiply_all.new.products ≡ map (λ a. c.args.n *ℤ a) c.args.f.coefficients.items =
    c.if-multiply_all.ensures.products ∙ (λ i. map (λ a. n i *ℤ a) (c.deref_mut.ensures.value i)) in
    let answer : list_all is_small (map (λ a. c.args.n *ℤ a) c.args.f.coefficients.items) ≡ true =
    sym (c.if-multiply_all.ensures.answer ∙ (λ i. list_all is_small (map (λ a. n i *ℤ a) (c.deref_mut.ensures.value i)))) in
    multiple_is (unknowns_of c.args.self.now) c.args.f.coefficients.items _ c.args.n c.args.f.constant _
    (with_items_is c.args.f.coefficients c.multiply_all.new.products (c.multiply_all.auto.products ∙ c.deref_mut.ensures.len) ∙ products)
    (written c.product-constant.result (c.args.n *ℤ c.args.f.constant) e (is_near_is (c.args.n *ℤ c.args.f.constant) near)) answer near

pub returns-then-is_near-clause-over : goal.returns-then-is_near-clause-over
returns-then-is_near-clause-over c =
    let fc : FitsSigned w64 c.args.f.constant = search rules in
    let fr : FitsSigned w128 c.product-constant.result = search rules in
    let fn = c.ranges.n in
    let e = simp to_z-of_z at c.product-constant.ensures.value in
    let t = simp to_z-of_z at c.is_near.ensures in
    let near : is_near (c.args.n *ℤ c.args.f.constant) ≡ true = ap is_near (sym e) ∙ sym t ∙ c.if-is_near.true in
    let small = is_near_is (c.args.n *ℤ c.args.f.constant) near in
    let items = with_items_is c.args.f.coefficients c.multiply_all.new.products (c.multiply_all.auto.products ∙ c.deref_mut.ensures.len) in
    record {
      complete = complete_again (unknowns_of c.args.self.now) c.args.f.coefficients.items _ (ap length items ∙ c.multiply_all.auto.products ∙ ap length c.deref_mut.ensures.value) c.requires.form.complete;
      coefficients = subst (All IsSmallCoefficient) (sym (items ∙ c.if-multiply_all.ensures.products)) (smalls _ (sym c.if-multiply_all.ensures.answer));
      constant = subst IsSmallConstant (sym (written c.product-constant.result (c.args.n *ℤ c.args.f.constant) e small)) small;
    }
