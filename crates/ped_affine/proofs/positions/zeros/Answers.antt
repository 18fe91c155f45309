use Rattle.std.proofs.Common.{pos, ◌∙◌}
use Rattle.std.proofs.lemmas.List.{take-replicate}
use Rattle.ped_affine.proofs.positions.zeros.Goals as goal

pub returns : goal.returns
returns c = c.coefficients.ensures ∙ take-replicate c.args.count 6 (pos 0) c.requires
