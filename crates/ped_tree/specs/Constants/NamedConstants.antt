-- Named constants with their values, in an order (ANSI X3.9-1978, section 8.6).
use Rattle.std.specs.Prelude.{ℕ, ℤ, List, [], ◌∷◌, ◌++◌, Option, is_some, if◌then◌else◌}
use Rattle.std.specs.Map.{lookup}
use Rattle.ped_base.specs.Lists.{is_same_text}

-- the value of the first constant with this name
abbrev pub value_named : List (List ℕ × ℤ) → List ℕ → Option ℤ
value_named consts x = lookup (is_same_text x) consts

-- with one more constant at the end, where none has its name yet: the first value of a name counts
abbrev pub with_constant : List (List ℕ × ℤ) → List ℕ → ℤ → List (List ℕ × ℤ)
with_constant consts x value = if is_some (value_named consts x) then consts else consts ++ (x, value) ∷ []
