-- What is left of a branch by what a step did to the rows that were added. Only contracts of private functions use it.
use Rattle.std.specs.Prelude.{ℕ, ◌≤◌, List, [], ◌∷◌, ◌++◌, Option, Some, None, ⊤}
use Rattle.ped_certificates.specs.declared.checking.Taken.{Taken}
use Rattle.ped_certificates.specs.declared.checking.Taken.TheVariants.{Refused, Closed, Open, Divided}
use Rattle.ped_certificates.specs.declared.systems.Row.{Row}
use Rattle.ped_certificates.specs.Certificates.{more_than}

-- the branches that are left, where these rows had been added before, and these now
abbrev pub left_by : ℕ → List Row → List Row → List Row → Taken → Option (List (List Row))
left_by unknowns rows before now Refused = None
left_by unknowns rows before now Closed = Some []
left_by unknowns rows before now Open = Some ((rows ++ now) ∷ [])
left_by unknowns rows before now (Divided u k) = Some ((rows ++ now) ∷ (rows ++ (before ++ more_than unknowns u k ∷ [])) ∷ [])

-- where the branch is divided, it is by an unknown
abbrev pub IsByUnknown : ℕ → Taken → Type 0
IsByUnknown unknowns Refused = ⊤
IsByUnknown unknowns Closed = ⊤
IsByUnknown unknowns Open = ⊤
IsByUnknown unknowns (Divided u k) = (1 ≤ u) × (u ≤ unknowns)
