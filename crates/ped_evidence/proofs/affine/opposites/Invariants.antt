use Rattle.std.proofs.Common.{◌≡◌, length, map, take, neg_ℤ}
use Rattle.ped_evidence.proofs.affine.opposites.Given as goal

abbrev pub invariant-loop-n : goal.invariant-loop-n
invariant-loop-n l = record {
  so_far : l.found ≡ map neg_ℤ (take l.n-index l.numbers);
  as_many : length l.found ≡ l.n-index;
}
