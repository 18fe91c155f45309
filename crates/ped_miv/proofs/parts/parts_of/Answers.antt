use Rattle.std.proofs.Common.{FitsSigned, w64}
use Rattle.std.proofs.lemmas.Int.{to_z-of_z}
use Rattle.ped_miv.proofs.parts.parts_of.Goals as goal

pub returns : goal.returns
returns c =
    let fa : FitsSigned w64 c.args.a = c.ranges.a in
    let fb : FitsSigned w64 c.args.b = c.ranges.b in
    record {
      any = record { extremes = simp to_z-of_z at c.loop_extremes.ensures.extremes; small = c.loop_extremes.ensures.small };
      before = record { extremes = simp to_z-of_z at c.loop_extremes-2.ensures.extremes; small = c.loop_extremes-2.ensures.small };
      same = record { extremes = simp to_z-of_z at c.loop_extremes-3.ensures.extremes; small = c.loop_extremes-3.ensures.small };
      after = record { extremes = simp to_z-of_z at c.loop_extremes-4.ensures.extremes; small = c.loop_extremes-4.ensures.small };
    }
