-- Questions about lists of any kind, and about texts and lists of names (plain words).
use Rattle.std.specs.Prelude.{ℕ, List, [], ◌∷◌, Bool, true, false, ◌==◌}
use Rattle.std.specs.List.{list_any}
use Rattle.std.specs.Cmp.Lexicographic.{pointwise}

-- some item is in the list
abbrev pub has_some : {X : Type 0} → List X → Bool
has_some [] = false
has_some (x ∷ xs) = true

-- the same text, or the same name: byte for byte
abbrev pub is_same_text : List ℕ → List ℕ → Bool
is_same_text = pointwise ◌==◌

-- the name is one of these
abbrev pub is_among : List ℕ → List (List ℕ) → Bool
is_among x names = list_any (is_same_text x) names
