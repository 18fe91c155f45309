use Rattle.std.proofs.Common.{rules, FitsSigned, ◌*ℤ◌}
use Rattle.std.specs.Int.{w128}
use Rattle.std.proofs.lemmas.Int.{to_z-of_z}
use Rattle.ped_evidence.proofs.Fitting.{product_fits}
use Rattle.ped_evidence.proofs.affine.product.Goals as goal

pub returns : goal.returns
returns c =
    let fa : FitsSigned w128 c.args.a = search rules in
    let fb : FitsSigned w128 c.args.b = search rules in
    let fp : FitsSigned w128 (c.args.a *ℤ c.args.b) = product_fits c.args.a c.args.b c.requires.first c.requires.second in
    simp to_z-of_z
