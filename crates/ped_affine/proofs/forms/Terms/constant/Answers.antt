use Rattle.std.proofs.Common.{◌≡◌, true, sym, ◌∙◌, arith}
use Rattle.std.proofs.lemmas.Int.{ints, to_z-of_z}
use Rattle.ped_affine.specs.Ranges.{is_near}
use Rattle.ped_affine.specs.KeptForms.{unknowns_of}
use Rattle.ped_affine.proofs.FormLaws.{constant_is, is_near_is}
use Rattle.ped_affine.proofs.forms.Terms.constant.Goals as goal

pub returns-then-is_near-clause-form : goal.returns-then-is_near-clause-form
returns-then-is_near-clause-form c =
    let f = c.ranges.n in
    let t = simp to_z-of_z at c.is_near.ensures in
    let near : is_near c.args.n ≡ true = sym t ∙ c.if-is_near.true in
    let h = is_near_is c.args.n near in
    constant_is (unknowns_of c.args.self.now) c.new.result.items c.args.n _ c.new.ensures.items (omega (arith, ints)) near
