use Rattle.std.proofs.lemmas.Slice.Eq.{slice_eq-Decides}
use Rattle.ped_answer.proofs.SameEnds.{value_decided}
use Rattle.ped_answer.proofs.endings.same_values.Goals as goal

pub returns : goal.returns
returns c = slice_eq-Decides value_decided c.args.left.now c.args.right.now c.eq.result c.eq.ensures
