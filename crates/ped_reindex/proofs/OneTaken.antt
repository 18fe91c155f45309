-- The iteration that is taken out, as the code has its value and its bound.
use Rattle.std.proofs.Common.{◌≡◌, ◌<◌, ◌≤◌, ℤ, ◌-ℤ◌, unsigned_abs, FitsSigned, Some, subst, arith}
use Rattle.std.specs.Int.{w128}
use Rattle.ped_rules.specs.ped_views.proofs.Products.{linear}
use Rattle.ped_reindex.specs.CodePeeling.{IsFound}
use Rattle.ped_reindex.specs.Peeling.{Peeled}
use Rattle.ped_reindex.specs.declared.iterations.Iteration.{Iteration}

-- the same value and the same bound
pub found_at : (v w b c : ℤ) (r : Iteration) → v ≡ w → b ≡ c → IsFound (Some (record { value = v; bound = b })) r → IsFound (Some (record { value = w; bound = c })) r
found_at v w b c r e f h = subst (λ (p : Peeled). IsFound (Some p) r) (λ i. record { value = e i; bound = f i }) h

-- an increment before or behind a value that a literal has, there are 128 bits
pub step_apart : (v d : ℤ) → unsigned_abs v ≤ 2147483647 → unsigned_abs d < 2147483648 → FitsSigned w128 (v -ℤ d)
step_apart v d a b = omega (arith, linear, a, b)
