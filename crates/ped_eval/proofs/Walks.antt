-- Walks through lists of names: what is done for one name, and what is left.
use Rattle.std.proofs.Common.{◌≡◌, ℕ, ◌+◌, ◌<◌, List, ◌∷◌, length, get_or, drop, Bool, true, sym, ap, ◌∙◌, add-one, drop-cons}
use Rattle.std.proofs.lemmas.Bool.{and_parts}
use Rattle.std.specs.List.{list_all}
use Rattle.ped_store.specs.Memories.{Memory}

pub next_drop : {X : Type 0} (xs : List X) (i : ℕ) (d : X) → i < length xs → drop i xs ≡ get_or xs i d ∷ drop (i + 1) xs
next_drop xs i d h = drop-cons xs i d h ∙ ap (λ n. get_or xs i d ∷ drop n xs) (sym (add-one i))

-- what is done for all names is done where it is done for one and then for those behind it
pub walked : (step : List ℕ → Memory → Memory) (all : List (List ℕ) → Memory → Memory) → ((x : List ℕ) (xs : List (List ℕ)) (m : Memory) → all (x ∷ xs) m ≡ all xs (step x m))
    → (names : List (List ℕ)) (i : ℕ) (x : List ℕ) (m after whole : Memory) → i < length names → x ≡ get_or names i x → after ≡ step x m → all (drop i names) m ≡ whole → all (drop (i + 1) names) after ≡ whole
walked step all is names i x m after whole h e k rest =
    ap (all (drop (i + 1) names)) (k ∙ ap (λ y. step y m) e)
    ∙ sym (is (get_or names i x) (drop (i + 1) names) m)
    ∙ ap (λ xs. all xs m) (sym (next_drop names i x h)) ∙ rest

-- what all of the names have, one has, and those behind it
pub one_of_all : {X : Type 0} (p : X → Bool) (xs : List X) (i : ℕ) (x : X) → i < length xs → x ≡ get_or xs i x → list_all p (drop i xs) ≡ true → (p x ≡ true) × (list_all p (drop (i + 1) xs) ≡ true)
one_of_all p xs i x h e all =
    let k = and_parts (p (get_or xs i x)) (list_all p (drop (i + 1) xs)) (ap (list_all p) (sym (next_drop xs i x h)) ∙ all) in
    (ap p e ∙ k.0, k.1)
