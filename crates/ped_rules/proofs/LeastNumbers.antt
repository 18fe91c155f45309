-- Where no number is the least of which something holds, it holds of none.
use Rattle.std.proofs.Common.{ℕ, zero, suc, ◌<◌, ◌≤◌, Some, arith}
use Rattle.ped_loop_runs.specs.ped_flow.specs.Questions.{IsFirst}

pub least : (P : ℕ → Type 0) → ((n : ℕ) → IsFirst P (Some n) → ⊥) → (n : ℕ) → P n → ⊥
least P unfound n h = below (suc n) n (omega arith) h
  where
    not_less : (m n : ℕ) → (m < n → ⊥) → n ≤ m
    not_less m n h = omega (arith, h)

    below : (k n : ℕ) → n < k → P n → ⊥
    below zero n lt p = omega (arith, lt)
    below (suc k) n lt p = unfound n (p, λ m q. not_less m n (λ less. below k m (omega (arith, lt, less)) q))
