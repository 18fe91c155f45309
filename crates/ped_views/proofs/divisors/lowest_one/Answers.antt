use Rattle.std.proofs.Common.{w64}
use Rattle.std.proofs.lemmas.Nat.Bits.{bit_at-trailing_zeros}
use Rattle.ped_views.proofs.divisors.lowest_one.Goals as goal

pub returns-clause-one : goal.returns-clause-one
returns-clause-one c = (bit_at-trailing_zeros w64 c.args.n c.requires c.ranges.n.fits).1

pub returns-clause-zeros : goal.returns-clause-zeros
returns-clause-zeros c = (bit_at-trailing_zeros w64 c.args.n c.requires c.ranges.n.fits).2
