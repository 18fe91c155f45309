-- Names that something is known of, each with what is known of it (plain words).
use Rattle.std.specs.Prelude.{ℕ, List, [], ◌∷◌, ◌++◌, Option, is_some, if◌then◌else◌}
use Rattle.std.specs.Map.{lookup}
use Rattle.ped_base.specs.Lists.{is_same_text}

-- what comes first under a name in a list (plain words)
abbrev pub entry_of : {X : Type 0} → List (List ℕ × X) → List ℕ → Option X
entry_of es x = lookup (is_same_text x) es

-- the list with one more at the end; of a name that is already in it the first counts (plain words)
abbrev pub with_entry : {X : Type 0} → List (List ℕ × X) → List ℕ → X → List (List ℕ × X)
with_entry es x v = if is_some (entry_of es x) then es else es ++ (x, v) ∷ []
