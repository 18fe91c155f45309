use Rattle.std.proofs.Common.{◌≡◌, true, sym, ap, ◌∙◌, ◌+ℤ◌, rules, w64, FitsSigned}
use Rattle.std.specs.Int.{w128}
use Rattle.std.proofs.lemmas.Int.{to_z-of_z}
use Rattle.ped_affine.specs.Ranges.{is_near}
use Rattle.ped_affine.specs.KeptForms.{unknowns_of, coefficients_of}
use Rattle.ped_affine.proofs.FormLaws.{constant_changed, far_constant, is_near_is, written}
use Rattle.ped_affine.proofs.forms.Terms.with_constant.Goals as goal

pub returns-then-is_near-clause-form : goal.returns-then-is_near-clause-form
returns-then-is_near-clause-form c =
    let fn = c.ranges.n in
    let fc : FitsSigned w64 c.args.f.constant = search rules in
    let fr : FitsSigned w128 c.sum-constant.result = search rules in
    let e = simp to_z-of_z at c.sum-constant.ensures in
    let t = simp to_z-of_z at c.is_near.ensures in
    let near : is_near (c.args.f.constant +ℤ c.args.n) ≡ true = ap is_near (sym e) ∙ sym t ∙ c.if-is_near.true in
    constant_changed (unknowns_of c.args.self.now) c.args.f.coefficients.items (c.args.f.constant +ℤ c.args.n) _ c.requires.form.coefficients
    (written c.sum-constant.result (c.args.f.constant +ℤ c.args.n) e (is_near_is (c.args.f.constant +ℤ c.args.n) near)) near

pub returns-else-is_near-clause-form : goal.returns-else-is_near-clause-form
returns-else-is_near-clause-form c =
    let fn = c.ranges.n in
    let fc : FitsSigned w64 c.args.f.constant = search rules in
    let fr : FitsSigned w128 c.sum-constant.result = search rules in
    let e = simp to_z-of_z at c.sum-constant.ensures in
    let t = simp to_z-of_z at c.is_near.ensures in
    sym (far_constant (coefficients_of (unknowns_of c.args.self.now) c.args.f.coefficients.items) (c.args.f.constant +ℤ c.args.n) (ap is_near (sym e) ∙ sym t ∙ c.if-is_near.false))
