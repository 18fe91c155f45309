-- The statements that a change of a program keeps (this project).
use Rattle.std.specs.Prelude.{ℕ, ◌≢◌, List, AllPairs}

-- statements with their numbers before a change and after it: no number occurs twice among the former ones, and none twice among the latter (this project)
pub record IsOneToOne (keep : List (ℕ × ℕ)) : Type 0 where
  pub before : AllPairs (λ p q. p.0 ≢ q.0) keep
  pub behind : AllPairs (λ p q. p.1 ≢ q.1) keep
