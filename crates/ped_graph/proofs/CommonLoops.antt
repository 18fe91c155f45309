-- The loops that two references have in common stand at the front of the loops round each.
use Rattle.std.proofs.Common.{◌≡◌, ℕ, zero, suc, ◌<◌, List, [], ◌∷◌, length, Bool, true, false, refl, arith}
use Rattle.std.specs.Prelude.{◌==◌, slice_get, slice_index_or, if◌then◌else◌}
use Rattle.ped_tree.specs.Nests.{Loop, common_nest}

-- a common loop is that of the first nest at the same place
pub common_there : (ls ms : List Loop) (n : ℕ) → n < length (common_nest ls ms) → slice_get (common_nest ls ms) n ≡ slice_get ls n
common_there [] ms n below = absurd (omega (arith, below))
common_there (l ∷ ls) [] n below = absurd (omega (arith, below))
common_there (l ∷ ls) (m ∷ ms) n below = go (λ k h. common_there ls ms k h) (l.number == m.number) n below
  where
    go : ((k : ℕ) → k < length (common_nest ls ms) → slice_get (common_nest ls ms) k ≡ slice_get ls k) → (same : Bool) (n : ℕ)
        → n < length (if same then l ∷ common_nest ls ms else []) → slice_get (if same then l ∷ common_nest ls ms else []) n ≡ slice_get (l ∷ ls) n
    go inside true zero below = refl
    go inside true (suc n) below = inside n (omega (arith, below))
    go inside false n below = absurd (omega (arith, below))

-- what is listed for six places, at each of them
pub six_places : (f : ℕ → Bool) (n : ℕ) → n < 6 → slice_index_or (f 0 ∷ f 1 ∷ f 2 ∷ f 3 ∷ f 4 ∷ f 5 ∷ []) n false ≡ f n
six_places f zero below = refl
six_places f (suc zero) below = refl
six_places f (suc (suc zero)) below = refl
six_places f (suc (suc (suc zero))) below = refl
six_places f (suc (suc (suc (suc zero)))) below = refl
six_places f (suc (suc (suc (suc (suc zero))))) below = refl
six_places f (suc (suc (suc (suc (suc (suc n)))))) below = absurd (omega (arith, below))
