-- Names as they are collected one after another, each once (plain words).
use Rattle.std.specs.Prelude.{◌≡◌, ℕ, List, [], ◌∷◌, ◌++◌, fold, if◌then◌else◌}
use Rattle.ped_base.specs.Lists.{is_among}

-- the names with one more at the end, where they haven't got it
abbrev pub with_name : List (List ℕ) → List ℕ → List (List ℕ)
with_name names x = if is_among x names then names else names ++ x ∷ []

-- the names with others after them, each once
abbrev pub with_names : List (List ℕ) → List (List ℕ) → List (List ℕ)
with_names names others = fold with_name names others

-- the same names are in both lists
abbrev pub HaveSame : List (List ℕ) → List (List ℕ) → Type 0
HaveSame a b = (x : List ℕ) → is_among x a ≡ is_among x b
