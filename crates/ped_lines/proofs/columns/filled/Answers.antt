use Rattle.std.proofs.Common.{refl}
use Rattle.ped_lines.proofs.Filling.{filled_is}
use Rattle.ped_lines.proofs.columns.filled.Goals as goal

pub returns : goal.returns
returns c = filled_is c.args.text.now c.copy_from_slice.new.self _ c.copy_from_slice.ensures.after refl
