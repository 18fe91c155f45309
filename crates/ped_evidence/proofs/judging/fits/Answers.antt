use Rattle.ped_evidence.proofs.JudgedLines.{fits_as_many}
use Rattle.ped_evidence.proofs.judging.fits.Goals as goal

pub returns-then-pattern-vector : goal.returns-then-pattern-vector
returns-then-pattern-vector c = fits_as_many c.args.pattern.now c.args.vector.now c.if-pattern-vector.true
