use Rattle.std.proofs.lemmas.Slice.Eq.{slice_eq-Decides}
use Rattle.ped_graph.proofs.SideLaws.{range_decided}
use Rattle.ped_graph.proofs.sides.same_ranges.Goals as goal

pub returns : goal.returns
returns c = (slice_eq-Decides range_decided c.args.left.now c.args.right.now c.eq.result c.eq.ensures).0
