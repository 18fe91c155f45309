use Rattle.std.proofs.Common.{◌≡◌, length, map, take, ◌*ℤ◌}
use Rattle.ped_evidence.proofs.affine.multiples.Given as goal

abbrev pub invariant-loop-n : goal.invariant-loop-n
invariant-loop-n l = record {
  so_far : l.found ≡ map (λ a. l.factor *ℤ a) (take l.n-index l.numbers);
  as_many : length l.found ≡ l.n-index;
}
