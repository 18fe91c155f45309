-- Sentences that are settled (plain words).
use Rattle.std.specs.Prelude.{◌⊎◌}

-- the sentence holds, or it doesn't
abbrev pub Decided : Type 0 → Type 0
Decided P = P ⊎ ¬ P
