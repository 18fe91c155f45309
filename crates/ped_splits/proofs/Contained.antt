-- A DO of which no variable is read outside it is contained.
use Rattle.std.proofs.Common.{ℕ, zero, suc, ◌<◌, ◌≤◌, Some, refl, inl, inr, arith}
use Rattle.ped_tree.specs.Tree.{ProgramTree}
use Rattle.ped_rules.specs.ped_flow.specs.Questions.{LoopOf, IsFirst, IsBrokenBy, IsLiveAfter, IsContained}
use Rattle.ped_rules.specs.Rules.{WhereEscape}

-- where no number is the least of which this holds, it holds of none
pub least : (P : ℕ → Type 0) → ((n : ℕ) → IsFirst P (Some n) → ⊥) → (n : ℕ) → P n → ⊥
least P unfound n h = below (suc n) n (omega arith) h
  where
    not_less : (m n : ℕ) → (m < n → ⊥) → n ≤ m
    not_less m n h = omega (arith, h)

    below : (k n : ℕ) → n < k → P n → ⊥
    below zero n lt p = omega (arith, lt)
    below (suc k) n lt p = unfound n (p, λ m q. not_less m n (λ less. below k m (omega (arith, lt, less)) q))

module _ (t : ProgramTree) (s : ℕ) (loop : LoopOf t s) (unescaped : (n : ℕ) → WhereEscape t s n → ⊥) where
  unbroken : (n : ℕ) → IsBrokenBy t s n → ⊥
  unbroken = least (IsBrokenBy t s) (λ n first. unescaped n (loop, inl first))

  pub contained : IsContained t s
  contained x index = ((λ n read. unbroken n (record { scalar = x; index = index; read = inl read })), dead)
    where
      dead : IsLiveAfter t s x → ⊥
      dead (inl read) = unbroken read.0 (record { scalar = x; index = index; read = inr read.1 })
      dead (inr shown) = unescaped s (loop, inr ((unbroken, record { scalar = x; index = index; shown = shown }), refl))
