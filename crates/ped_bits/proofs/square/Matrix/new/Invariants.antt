use Rattle.std.proofs.Common.{◌≡◌, false, replicate}
use Rattle.ped_bits.proofs.square.Matrix.new.Given as goal

abbrev pub invariant-loop-place : goal.invariant-loop-place
invariant-loop-place l = l.rows.items ≡ replicate l._place (replicate l.fn.width false)
