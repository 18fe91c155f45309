use Rattle.std.proofs.Common.{◌≡◌, drop}
use Rattle.ped_evidence.specs.Signs.{fits}
use Rattle.ped_evidence.proofs.judging.fits.Given as goal

abbrev pub invariant-loop-i : goal.invariant-loop-i
invariant-loop-i l = fits (drop l.i l.pattern) (drop l.i l.vector) ≡ fits l.pattern l.vector
