use Rattle.std.proofs.Common.{◌≡◌, ◌≤◌, ◌++◌, ◌∷◌, ◌-◌, replicate, pos}
use Rattle.ped_certificates.proofs.rows.only_at.Given as goal

-- the coefficients so far
abbrev pub invariant-loop-place : goal.invariant-loop-place
invariant-loop-place l = record {
  begun : l.unknown ≤ l.place;
  within : l.place ≤ l.unknowns;
  so_far : l.numbers ≡ replicate (l.unknown - 1) (pos 0) ++ (l.coefficient ∷ replicate (l.place - l.unknown) (pos 0));
}

abbrev pub decreases-loop-place : goal.decreases-loop-place
decreases-loop-place l = l.unknowns - l.place
