-- Values that satisfy rows.
use Rattle.std.proofs.Common.{ℤ, List, [], ◌∷◌, ◌++◌}
use Rattle.ped_certificates.specs.declared.systems.Row.{Row}
use Rattle.ped_certificates.specs.Rows.{Meets}

pub meets_both : (rs qs : List Row) (xs : List ℤ) → Meets rs xs → Meets qs xs → Meets (rs ++ qs) xs
meets_both [] qs xs h k = k
meets_both (r ∷ rs) qs xs h k = (h.0, meets_both rs qs xs h.1 k)
