-- The line of a PRINT, item by item.
use Rattle.std.proofs.Common.{ℕ, List, ◌∷◌, if◌then◌else◌}
use Rattle.std.specs.Prelude.{◌==◌}
use Rattle.std.specs.List.{join_with_byte, flat_map}

-- what the texts of the items from place i on add to a line: a blank goes before each but the first
abbrev pub tail_text : ℕ → List (List ℕ) → List ℕ
tail_text i texts = if i == 0 then join_with_byte 32 texts else flat_map (λ t. 32 ∷ t) texts
