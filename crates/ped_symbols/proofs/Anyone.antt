-- Whether one of a list passes a test, item by item.
use Rattle.std.proofs.Common.{◌≡◌, List, ◌∷◌, Bool, true, false, sym, ap, ◌∙◌}
use Rattle.std.specs.Prelude.{◌||◌}
use Rattle.std.specs.List.{list_any}

-- the first one passes
pub found_here : {X : Type 0} (f : X → Bool) (x : X) (xs : List X) (total : Bool) → f x ≡ true → list_any f (x ∷ xs) ≡ total → true ≡ total
found_here f x xs total h k = sym (ap (λ r. r || list_any f xs) h) ∙ k

-- the first one doesn't pass
pub missed_here : {X : Type 0} (f : X → Bool) (x : X) (xs : List X) (total : Bool) → f x ≡ false → list_any f (x ∷ xs) ≡ total → list_any f xs ≡ total
missed_here f x xs total h k = sym (ap (λ r. r || list_any f xs) h) ∙ k
