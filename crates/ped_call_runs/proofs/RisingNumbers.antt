-- Numbers that rise by one more at some places.
use Rattle.std.proofs.Common.{ℕ, ◌+◌, List, [], ◌∷◌, nat_lt, if◌then◌else◌}

-- how many of these places lie at the number or before it
abbrev pub passed : List ℕ → ℕ → ℕ
passed [] j = 0
passed (g ∷ gs) j = (if nat_lt j g then 0 else 1) + passed gs j

-- the number with one more for each place that it has passed
abbrev pub number_past : List ℕ → ℕ → ℕ
number_past gs j = j + passed gs j
