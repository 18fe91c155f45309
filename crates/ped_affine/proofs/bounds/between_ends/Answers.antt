use Rattle.std.proofs.Common.{arith}
use Rattle.std.proofs.lemmas.Int.{clamps, ints}
use Rattle.ped_affine.proofs.bounds.between_ends.Goals as goal

pub returns-clause-near : goal.returns-clause-near
returns-clause-near c = record {
  ordered = omega (arith, ints, clamps);
  lo_small = omega (arith, ints, clamps);
  hi_small = omega (arith, ints, clamps);
}
