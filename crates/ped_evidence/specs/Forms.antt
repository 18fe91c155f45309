-- Forms over the unknowns of a system: a coefficient for each, and a constant; and the rows that compare them (plain words).
use Rattle.std.specs.Prelude.{ℕ, ℤ, pos, neg_ℤ, ◌-ℤ◌, map, replicate, true, false}
use Rattle.ped_certificates.specs.declared.systems.Row.{Row}
use Rattle.ped_certificates.specs.Certificates.{plus, only_at}
use Rattle.ped_affine.specs.AffineForms.{AffineForm, form}

-- a multiple of the unknown with this number, counted from 1, among so many
abbrev pub multiple : ℕ → ℕ → ℤ → AffineForm
multiple unknowns u m = form (only_at unknowns u m) (pos 0)

-- the unknown with this number
abbrev pub unknown : ℕ → ℕ → AffineForm
unknown unknowns u = multiple unknowns u (pos 1)

-- a number, as a form over so many unknowns
abbrev pub number : ℕ → ℤ → AffineForm
number unknowns n = form (replicate unknowns (pos 0)) n

-- the first form less the second
abbrev pub less : AffineForm → AffineForm → AffineForm
less a b = form (plus a.coefficients (map neg_ℤ b.coefficients)) (a.constant -ℤ b.constant)

-- the row that says that a form is at least 0
abbrev pub at_least_zero : AffineForm → Row
at_least_zero f = record { coefficients = f.coefficients; constant = f.constant; equation = false }

-- the row that says that a form is 0
abbrev pub is_zero : AffineForm → Row
is_zero f = record { coefficients = f.coefficients; constant = f.constant; equation = true }

-- the row that says that the first form is at most the second
abbrev pub at_most : AffineForm → AffineForm → Row
at_most a b = at_least_zero (less b a)

-- the row that says that the first form is less than the second, among so many unknowns
abbrev pub below : ℕ → AffineForm → AffineForm → Row
below unknowns a b = at_least_zero (less (less b a) (number unknowns (pos 1)))

-- the row that says that both forms are equal
abbrev pub equal : AffineForm → AffineForm → Row
equal a b = is_zero (less a b)
