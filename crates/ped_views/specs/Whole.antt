-- Whole numbers: divisibility, greatest common divisors, and quotients that are whole or rounded down (plain words).
use Rattle.std.specs.Prelude.{◌≡◌, ℤ, pos, ◌+ℤ◌, ◌*ℤ◌, ◌≤ℤ◌, ◌<ℤ◌, Bool, Option, Some, None, int_div, int_rem, if◌then◌else◌}
use Rattle.std.specs.Ordering.{int_eq}

-- d times some whole number is n; zero divides zero alone
abbrev pub Divides : ℤ → ℤ → Type 0
Divides d n = (k : ℤ) × (d *ℤ k ≡ n)

-- n is 0
abbrev pub is_zero : ℤ → Bool
is_zero n = int_eq n (pos 0)

-- n / d, where d isn't 0 and divides n
abbrev pub whole_quotient : ℤ → ℤ → Option ℤ
whole_quotient n d = if is_zero (int_rem n d) then Some (int_div n d) else None

-- g isn't negative, divides both, and each common divisor divides g
pub record IsGreatestDivisor (a b g : ℤ) : Type 0 where
  pub not_negative : pos 0 ≤ℤ g
  pub divides_first : Divides g a
  pub divides_second : Divides g b
  pub greatest : (d : ℤ) → Divides d a → Divides d b → Divides d g

-- q is a / b rounded down: a lies at b * q or beyond it, and not as far as b * (q + 1)
pub record IsRoundedDown (a b q : ℤ) : Type 0 where
  pub above : pos 0 <ℤ b → ((b *ℤ q) ≤ℤ a) × (a <ℤ (b *ℤ q +ℤ b))
  pub below : b <ℤ pos 0 → (a ≤ℤ (b *ℤ q)) × ((b *ℤ q +ℤ b) <ℤ a)
