use Rattle.ped_bits.proofs.Relations.{IsClosedBelow}
use Rattle.ped_bits.proofs.square.Matrix.close.Given as goal

abbrev pub invariant-loop-middle : goal.invariant-loop-middle
invariant-loop-middle l = IsClosedBelow l.initial.self-inside.rows.items l.middle l.self-inside.rows.items
