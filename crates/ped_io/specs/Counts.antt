-- Counts that end at the greatest number of 64 bits (this project).
use Rattle.std.specs.Prelude.{ℕ, ◌+◌, min}

-- one more, as long as 64 bits hold it
abbrev pub one_more : ℕ → ℕ
one_more count = min (count + 1) 18446744073709551615
