-- Reading items with a comma between two, and items that end a text (this project).
use Rattle.std.specs.Prelude.{ℕ, zero, suc, List, [], ◌∷◌, length, codes, Option, Some, None, Bool, true, false, if◌then◌else◌}
use Rattle.ped_expressions.specs.Scanning.{Answer, ◌>>=◌, go_on, after}

-- the end of the text
abbrev pub is_end : List ℕ → Bool
is_end [] = true
is_end (c ∷ cs) = false

-- what is read, where nothing follows it
abbrev pub whole : {A : Type 0} → Answer A → Option A
whole r = r >>= λ x. if is_end x.1 then Some x.0 else None

-- one item or more, with at most n of them
abbrev pub several_at : {A : Type 0} → (List ℕ → Answer A) → ℕ → List ℕ → Answer (List A)
several_at item zero text = None
several_at item (suc n) text = item text >>= λ x. go_on (after (codes ",") x.1) (Some (x.0 ∷ [], x.1)) (λ r. several_at item n r >>= λ y. Some (x.0 ∷ y.0, y.1))

-- one item or more
unfoldable pub several : {A : Type 0} → (List ℕ → Answer A) → List ℕ → Answer (List A)
several item text = several_at item (suc (length text)) text

-- items to the end of the text, each after a comma, or none
unfoldable pub each_behind_comma : {A : Type 0} → (List ℕ → Answer A) → List ℕ → Option (List A)
each_behind_comma item text = if is_end text then Some [] else after (codes ",") text >>= λ r. whole (several item r)
