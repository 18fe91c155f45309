use Rattle.std.proofs.Common.{ℕ, ◌<◌, ◌^◌}
use Rattle.std.specs.Int.{IsGcd}
use Rattle.ped_views.proofs.divisors.euclidean_gcd.Given as goal

-- x and y have the greatest common divisor of a and b
abbrev pub invariant-loop-y : goal.invariant-loop-y
invariant-loop-y l = record {
  same : (g : ℕ) → IsGcd l.x l.y g → IsGcd l.fn.a l.fn.b g;
  small : l.fn.a < 2 ^ 127 → l.fn.b < 2 ^ 127 → (l.x < 2 ^ 127) × (l.y < 2 ^ 127);
}

abbrev pub decreases-loop-y : goal.decreases-loop-y
decreases-loop-y l = l.y
