use Rattle.std.proofs.Common.{◌∙◌}
use Rattle.ped_base.proofs.NameEquality.{name_same}
use Rattle.ped_affine.proofs.names.is_same.Goals as goal

pub returns : goal.returns
returns c = c.eq.ensures ∙ name_same c.args.a.now c.args.b.now
