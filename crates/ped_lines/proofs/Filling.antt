-- Bytes written over the front of blanks.
use Rattle.std.proofs.Common.{◌≡◌, ◌++◌, ◌-◌, ℕ, List, length, drop, replicate, ap, ◌∙◌}
use Rattle.std.proofs.lemmas.List.{drop-replicate}

-- the bytes stand first, and the blanks behind them are left
pub filled_is : (bytes copied blanks : List ℕ) → copied ≡ bytes → blanks ≡ replicate 66 32 → copied ++ drop (length bytes) blanks ≡ bytes ++ replicate (66 - length bytes) 32
filled_is bytes copied blanks same all = ap (λ (c : List ℕ). c ++ drop (length bytes) blanks) same ∙ ap (λ (z : List ℕ). bytes ++ drop (length bytes) z) all ∙ ap (λ (z : List ℕ). bytes ++ z) (drop-replicate (length bytes) 66 32)
