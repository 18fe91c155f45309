-- How the code finds the iteration that is taken out of a DO (this project).
use Rattle.std.specs.Prelude.{◌≡◌, ◌≤◌, ℤ, pos, ◌+ℤ◌, int_lt, unsigned_abs, true, ◌&&◌, ◌||◌, Option, Some, None, if◌then◌else◌}
use Rattle.ped_reindex.specs.Peeling.{Peeled, has_far}
use Rattle.ped_reindex.specs.declared.iterations.TakenOut.{TakenOut}
use Rattle.ped_reindex.specs.declared.iterations.Iteration.{Iteration}
use Rattle.ped_reindex.specs.declared.iterations.Iteration.TheVariants.{Unknown, Far, Near}

-- the value and the bound that the code keeps (this project)
abbrev pub peeled_in : TakenOut → Peeled
peeled_in p = record { value = p.value; bound = p.bound }

-- literals have both (this project)
pub record IsNear (p : TakenOut) : Type 0 where
  pub value : unsigned_abs p.value ≤ 2147483647
  pub bound : unsigned_abs p.bound ≤ 2147483647

-- there is no iteration to take out; or there is one, with a value or a bound that no literal has; or there is this one, whose value and bound literals have (this project)
abbrev pub IsFound : Option Peeled → Iteration → Type 0
IsFound peeled Unknown = peeled ≡ None
IsFound peeled Far = has_far peeled ≡ true
IsFound peeled (Near p) = (peeled ≡ Some (peeled_in p)) × IsNear p

-- a remainder with the sign of the divisor: one more divisor where the signs differ (this project)
abbrev pub towards : ℤ → ℤ → ℤ
towards rest step = if (int_lt rest (pos 0) && int_lt (pos 0) step) || (int_lt (pos 0) rest && int_lt step (pos 0)) then rest +ℤ step else rest
