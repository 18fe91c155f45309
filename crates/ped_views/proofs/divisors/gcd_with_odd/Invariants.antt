use Rattle.std.proofs.Common.{ℕ, ◌≡◌, ◌+◌, ◌%◌}
use Rattle.std.specs.Int.{IsGcd}
use Rattle.ped_views.proofs.divisors.gcd_with_odd.Given as goal

-- x is odd, and x and y have the greatest common divisor of the two numbers
abbrev pub invariant-loop-y : goal.invariant-loop-y
invariant-loop-y l = record {
  odd : l.x % 2 ≡ 1;
  same : (g : ℕ) → IsGcd l.x l.y g → IsGcd l.fn.odd l.fn.other g;
}

abbrev pub decreases-loop-y : goal.decreases-loop-y
decreases-loop-y l = l.x + l.y
