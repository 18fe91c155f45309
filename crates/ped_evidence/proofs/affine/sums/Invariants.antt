use Rattle.std.proofs.Common.{◌≡◌, length, ◌++◌, ◌+ℤ◌, drop}
use Rattle.ped_affine.specs.AffineForms.{combined}
use Rattle.ped_evidence.proofs.affine.sums.Given as goal

abbrev pub invariant-loop-i : goal.invariant-loop-i
invariant-loop-i l = record {
  so_far : l.numbers ++ combined ◌+ℤ◌ (drop l.i l.a) (drop l.i l.b) ≡ combined ◌+ℤ◌ l.a l.b;
  as_many : length l.numbers ≡ l.i;
}
