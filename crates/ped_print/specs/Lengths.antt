-- Lengths as far as 64 bits hold them (this project).
use Rattle.std.specs.Prelude.{ℕ, min, ◌-◌, ◌^◌}

-- the length, or the greatest number of 64 bits where it is greater
abbrev pub limited : ℕ → ℕ
limited n = min n (2 ^ 64 - 1)
