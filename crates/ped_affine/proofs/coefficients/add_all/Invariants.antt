use Rattle.std.proofs.Common.{◌≡◌, ◌+ℤ◌, ◌++◌, take, drop, All}
use Rattle.std.specs.List.{list_all}
use Rattle.ped_views.specs.Limits.{IsSmallCoefficient}
use Rattle.ped_affine.specs.AffineForms.{is_small, combined}
use Rattle.ped_affine.proofs.coefficients.add_all.Given as goal

abbrev pub invariant-loop-i : goal.invariant-loop-i
invariant-loop-i l = record {
  sums : take l.i l.sums ++ combined ◌+ℤ◌ (drop l.i l.sums) (drop l.i l.others) ≡ combined ◌+ℤ◌ l.fn.sums l.others;
  answer : list_all is_small (combined ◌+ℤ◌ (drop l.i l.sums) (drop l.i l.others)) ≡ list_all is_small (combined ◌+ℤ◌ l.fn.sums l.others);
  first : All IsSmallCoefficient (drop l.i l.sums);
}
