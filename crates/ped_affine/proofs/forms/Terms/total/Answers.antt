use Rattle.std.proofs.Common.{◌≡◌, length, ◌∙◌, arith, rules, w64, FitsSigned}
use Rattle.std.proofs.lemmas.Int.{to_z-of_z}
use Rattle.std.proofs.lemmas.Grind.{common_steps}
use Rattle.ped_affine.specs.KeptForms.{unknowns_of}
use Rattle.ped_affine.proofs.FormLaws.{total_with_second, total_with_first, nil_of}
use Rattle.ped_affine.proofs.forms.Terms.total.Goals as goal

pub returns-then-is_empty-clause-form : goal.returns-then-is_empty-clause-form
returns-then-is_empty-clause-form c =
    let fb : FitsSigned w64 c.args.b.constant = search rules in
    let none : length c.args.b.coefficients.items ≡ 0 = grind (arith, common_steps) in
    c.with_constant.ensures.form
    ∙ total_with_second (unknowns_of c.args.self.now) c.args.a.coefficients.items c.args.b.coefficients.items c.args.a.constant c.args.b.constant _ (nil_of c.args.b.coefficients.items none) c.requires.first.complete (to_z-of_z w64 c.args.b.constant fb)

pub returns-then-is_empty-2-clause-form : goal.returns-then-is_empty-2-clause-form
returns-then-is_empty-2-clause-form c =
    let fa : FitsSigned w64 c.args.a.constant = search rules in
    let none : length c.args.a.coefficients.items ≡ 0 = grind (arith, common_steps) in
    c.with_constant-then-is_empty-2.ensures.form
    ∙ total_with_first (unknowns_of c.args.self.now) c.args.a.coefficients.items c.args.b.coefficients.items c.args.a.constant c.args.b.constant _ (nil_of c.args.a.coefficients.items none) c.requires.second.complete (to_z-of_z w64 c.args.a.constant fa)
