-- A DO of which no variable is read outside it is contained.
use Rattle.std.proofs.Common.{ℕ, refl, inl, inr}
use Rattle.ped_tree.specs.Tree.{ProgramTree}
use Rattle.ped_loop_runs.specs.ped_flow.specs.Questions.{LoopOf, IsBrokenBy, IsLiveAfter, IsContained}
use Rattle.ped_rules.specs.Rules.{WhereEscape}
use Rattle.ped_rules.proofs.LeastNumbers.{least}

module _ (t : ProgramTree) (s : ℕ) (loop : LoopOf t s) (unescaped : (n : ℕ) → WhereEscape t s n → ⊥) where
  unbroken : (n : ℕ) → IsBrokenBy t s n → ⊥
  unbroken = least (IsBrokenBy t s) (λ n first. unescaped n (loop, inl first))

  pub contained : IsContained t s
  contained x index = ((λ n read. unbroken n (record { scalar = x; index = index; read = inl read })), dead)
    where
      dead : IsLiveAfter t s x → ⊥
      dead (inl read) = unbroken read.0 (record { scalar = x; index = index; read = inr read.1 })
      dead (inr shown) = unescaped s (loop, inr ((unbroken, record { scalar = x; index = index; shown = shown }), refl))
