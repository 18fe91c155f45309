-- Certificates: steps that refute a system, by sums of its rows that are divided and rounded as in Gomory's cuts, and by cases (this project).
use Rattle.std.specs.Prelude.{ℕ, ◌-◌, ◌^◌, ℤ, pos, negsuc, ◌+ℤ◌, ◌-ℤ◌, ◌*ℤ◌, unsigned_abs, int_le, int_lt, int_div, int_rem, List, [], ◌∷◌, ◌++◌, map, replicate, slice_get, Bool, true, false, not, ◌&&◌, ◌||◌, ◌==◌, nat_le, if◌then◌else◌, Option, Some, None, option_map, option_and_then}
use Rattle.std.specs.Int.{int_div_euclid}
use Rattle.std.specs.List.{list_all}
use Rattle.std.specs.Option.{option_map_or}
use Rattle.std.specs.Ordering.{int_eq}
use Rattle.ped_certificates.specs.declared.systems.Part.{Part}
use Rattle.ped_certificates.specs.declared.systems.Row.{Row}
use Rattle.ped_certificates.specs.declared.systems.Step.{Step}
use Rattle.ped_certificates.specs.declared.systems.Step.TheVariants.{Cut, Gcd, Split}
use Rattle.ped_certificates.specs.declared.systems.System.{System}

-- the row of this number, counted from 1
abbrev pub row_at : List Row → ℕ → Option Row
row_at rows n = if n == 0 then None else slice_get rows (n - 1)

-- a multiple of a row
abbrev pub multiple : ℤ → Row → Row
multiple m row = record { coefficients = map (λ a. m *ℤ a) row.coefficients; constant = m *ℤ row.constant; equation = row.equation }

-- coefficients added unknown by unknown
abbrev pub plus : List ℤ → List ℤ → List ℤ
plus [] second = second
plus (a ∷ first) [] = a ∷ first
plus (a ∷ first) (b ∷ second) = (a +ℤ b) ∷ plus first second

-- the sum of two rows: an equation where both are
abbrev pub sum : Row → Row → Row
sum r s = record { coefficients = plus r.coefficients s.coefficients; constant = r.constant +ℤ s.constant; equation = r.equation && s.equation }

-- 0 = 0, for so many unknowns
abbrev pub zero_row : ℕ → Row
zero_row unknowns = record { coefficients = replicate unknowns (pos 0); constant = pos 0; equation = true }

-- a row may be multiplied by this number: an equation by any, an inequality by one that isn't negative
abbrev pub may_multiply : ℤ → Row → Bool
may_multiply m row = row.equation || int_le (pos 0) m

-- the multiple that a part names; none where its number is no row's, or where the row may not be multiplied so
abbrev pub part_of : List Row → Part → Option Row
part_of rows part = option_and_then (λ row. if may_multiply part.factor row then Some (multiple part.factor row) else None) (row_at rows part.row)

-- the sum of the parts, an equation where each part is; none where a part is none
abbrev pub sum_of : ℕ → List Row → List Part → Option Row
sum_of unknowns rows [] = Some (zero_row unknowns)
sum_of unknowns rows (part ∷ parts) = option_and_then (λ rest. option_map (λ row. sum row rest) (part_of rows part)) (sum_of unknowns rows parts)

-- d divides the number
abbrev pub divides : ℕ → ℤ → Bool
divides d n = int_eq (int_rem n (pos d)) (pos 0)

-- d is at least 1, and divides each coefficient
abbrev pub divides_each : ℕ → Row → Bool
divides_each d row = nat_le 1 d && list_all (divides d) row.coefficients

-- the inequality whose coefficients are those of the row divided by d, and its constant so, too, and rounded down
abbrev pub divided : ℕ → Row → Row
divided d row = record { coefficients = map (λ a. int_div a (pos d)) row.coefficients; constant = int_div_euclid row.constant (pos d); equation = false }

-- within 2^64 of zero
abbrev pub is_small : ℤ → Bool
is_small x = nat_le (unsigned_abs x) (2 ^ 64)

-- each number of the row is
abbrev pub has_small_numbers : Row → Bool
has_small_numbers row = list_all is_small row.coefficients && is_small row.constant

-- the row, where its numbers are small
abbrev pub if_small : Row → Option Row
if_small row = if has_small_numbers row then Some row else None

-- what a cut adds: the sum divided by d, where d divides each of its coefficients
abbrev pub cut_of : ℕ → List Row → List Part → ℕ → Option Row
cut_of unknowns rows parts d = option_and_then (λ row. if divides_each d row then if_small (divided d row) else None) (sum_of unknowns rows parts)

-- no coefficient is other than 0, and the constant is negative: as an inequality the row is never true
abbrev pub is_never : Row → Bool
is_never row = list_all (λ a. int_eq a (pos 0)) row.coefficients && int_lt row.constant (pos 0)

-- the row is an equation whose coefficients d divides, but not its constant: it is never true
abbrev pub is_indivisible : ℕ → Row → Bool
is_indivisible d row = row.equation && divides_each d row && not (divides d row.constant)

-- as many coefficients as unknowns: a at the unknown of this number, counted from 1, and 0 elsewhere
abbrev pub only_at : ℕ → ℕ → ℤ → List ℤ
only_at unknowns u a = replicate (u - 1) (pos 0) ++ (a ∷ replicate (unknowns - u) (pos 0))

-- k - u >= 0
abbrev pub at_most : ℕ → ℕ → ℤ → Row
at_most unknowns u k = record { coefficients = only_at unknowns u (negsuc 0); constant = k; equation = false }

-- u - k - 1 >= 0
abbrev pub more_than : ℕ → ℕ → ℤ → Row
more_than unknowns u k = record { coefficients = only_at unknowns u (pos 1); constant = negsuc 0 -ℤ k; equation = false }

-- a branch is its rows. What is left of a branch once a row is added: nothing where the row is never true
abbrev pub with_row : List Row → Row → List (List Row)
with_row rows row = if is_never row then [] else (rows ++ row ∷ []) ∷ []

-- what a step leaves of a branch: no branch where it closes it, one, or two; none where it can't be taken
abbrev pub after : ℕ → List Row → Step → Option (List (List Row))
after unknowns rows (Cut parts d) = option_map (with_row rows) (cut_of unknowns rows parts d)
after unknowns rows (Gcd parts d) = option_and_then (λ row. if is_indivisible d row then Some [] else None) (sum_of unknowns rows parts)
after unknowns rows (Split u k) =
    if nat_le 1 u && nat_le u unknowns then Some ((rows ++ at_most unknowns u k ∷ []) ∷ (rows ++ more_than unknowns u k ∷ []) ∷ [])
    else None

-- the steps close all of these branches, the first one first, and none is left over
abbrev pub close : ℕ → List (List Row) → List Step → Bool
close unknowns [] [] = true
close unknowns [] (step ∷ steps) = false
close unknowns (rows ∷ branches) [] = false
close unknowns (rows ∷ branches) (step ∷ steps) = option_map_or (λ parts. close unknowns (parts ++ branches) steps) (after unknowns rows step) false

-- the steps refute the system: they close the branch of its rows
abbrev pub refutes : System → List Step → Bool
refutes system steps = close system.unknowns (system.rows ∷ []) steps
