-- Rows of a system, and what it means that whole numbers satisfy them (plain words).
use Rattle.std.specs.Prelude.{◌≡◌, ℤ, pos, ◌+ℤ◌, ◌*ℤ◌, ◌≤ℤ◌, List, [], ◌∷◌, Bool, true, false}
use Rattle.std.specs.List.{AllByRecursion}
use Rattle.ped_certificates.specs.declared.systems.Row.{Row}

-- the sum of the multiples of the values; a value that is missing counts as 0
abbrev pub dot : List ℤ → List ℤ → ℤ
dot [] values = pos 0
dot (a ∷ coefficients) [] = pos 0
dot (a ∷ coefficients) (x ∷ values) = a *ℤ x +ℤ dot coefficients values

-- what the left side of a row is for these values of the unknowns
abbrev pub value_of : Row → List ℤ → ℤ
value_of row values = dot row.coefficients values +ℤ row.constant

-- a number is 0, as an equation says, or at least 0, as an inequality says
abbrev pub IsAs : Bool → ℤ → Type 0
IsAs true x = x ≡ pos 0
IsAs false x = pos 0 ≤ℤ x

-- these values of the unknowns satisfy the row
abbrev pub Holds : Row → List ℤ → Type 0
Holds row values = IsAs row.equation (value_of row values)

-- they satisfy each row
abbrev pub Meets : List Row → List ℤ → Type 0
Meets rows values = AllByRecursion (λ row. Holds row values) rows
