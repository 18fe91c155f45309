use Rattle.std.proofs.Common.{arith, ℕ, sym, subst, ◌/◌, ◌^◌}
use Rattle.std.proofs.lemmas.Nat.{le_or_l}
use Rattle.std.proofs.lemmas.Nat.Bits.{bit_at_or}
use Rattle.std.proofs.lemmas.Nat.Gcd.{IsGcd-swap}
use Rattle.std.specs.Int.{IsGcd}
use Rattle.ped_views.proofs.Twos.{gcd_of_shifted}
use Rattle.ped_views.proofs.divisors.binary_gcd.Goals as goal
use Rattle.ped_views.proofs.divisors.binary_gcd.Goals.{then-first-eq1, else-first-eq1}

pub lowest_one-twos-requires : goal.lowest_one-twos-requires
lowest_one-twos-requires c = omega (arith, le_or_l c.args.a c.args.b)

pub gcd_with_odd-divisor-requires-else-first-eq1 : goal.gcd_with_odd-divisor-requires-else-first-eq1
gcd_with_odd-divisor-requires-else-first-eq1 c =
    let e = bit_at_or c.args.a c.args.b c.lowest_one-twos.result in
    let one = c.lowest_one-twos.ensures.one in
    omega arith

pub returns : goal.returns
returns c =
    let t = c.lowest_one-twos.result in
    let first = c.args.a / 2 ^ t in
    let second = c.args.b / 2 ^ t in
    let divisor : IsGcd first second c.if-first-eq1.divisor = elim c.if-first-eq1.branch [
      | then-first-eq1 w ↦ subst (λ (n : ℕ). IsGcd first second n) (sym w.divisor-is) w.gcd_with_odd-divisor.ensures
      | else-first-eq1 w ↦ subst (λ (n : ℕ). IsGcd first second n) (sym w.divisor-is) (IsGcd-swap second first _ w.gcd_with_odd-divisor-else-first-eq1.ensures)
    ] in
    gcd_of_shifted c.args.a c.args.b t c.if-first-eq1.divisor (omega arith) c.ranges.a.fits c.lowest_one-twos.ensures.zeros divisor
