use Rattle.std.proofs.Common.{◌≡◌, ◌++◌, take, drop, map, ◌*ℤ◌}
use Rattle.ped_certificates.specs.Certificates.{plus}
use Rattle.ped_certificates.proofs.rows.add_multiple.Given as goal

-- the sums so far, and the numbers to which nothing is added yet
abbrev pub invariant-loop-k : goal.invariant-loop-k
invariant-loop-k l = l.sum ≡ plus (map (λ a. l.part.factor *ℤ a) (take l.k l.row)) (take l.k l.initial.sum) ++ drop l.k l.initial.sum
