-- How large the numbers of a system may be (this project).
use Rattle.std.specs.Prelude.{◌≡◌, ℕ, ◌≤◌, ◌^◌, ℤ, unsigned_abs, length, All}
use Rattle.ped_certificates.specs.declared.systems.Row.{Row}
use Rattle.ped_certificates.specs.declared.systems.System.{System}

-- a number is no further from zero than this
abbrev pub IsWithin : ℕ → ℤ → Type 0
IsWithin most x = unsigned_abs x ≤ most

-- a row has a coefficient for each unknown, and its numbers are no further from zero than this
pub record IsRow (unknowns most : ℕ) (row : Row) : Type 0 where
  pub as_many : length row.coefficients ≡ unknowns
  pub coefficients : All (IsWithin most) row.coefficients
  pub constant : IsWithin most row.constant

-- the rows of a system are so, within 2^64
abbrev pub IsSystem : System → Type 0
IsSystem system = All (IsRow system.unknowns (2 ^ 64)) system.rows
