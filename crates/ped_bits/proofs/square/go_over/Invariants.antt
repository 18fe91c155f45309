use Rattle.ped_bits.proofs.Merging.{IsGoneOver}
use Rattle.ped_bits.proofs.square.go_over.Given as goal

abbrev pub invariant-loop-row : goal.invariant-loop-row
invariant-loop-row l = IsGoneOver l.initial.rows l.middle l.row l.rows
