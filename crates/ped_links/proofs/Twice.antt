-- Names that stand twice, looked at one after the other.
use Rattle.std.proofs.Common.{◌≡◌, ℕ, List, [], ◌∷◌, ◌++◌, Bool, true, false, refl, sym, ap, ◌∙◌, ◌||◌}
use Rattle.std.proofs.lemmas.Bool.{or_right, or_left}
use Rattle.ped_base.specs.Lists.{is_same_text, is_among}
use Rattle.ped_base.proofs.NameEquality.{same_flip}
use Rattle.ped_units.specs.ped_valid.specs.ped_symbols.specs.NameRefusals.{has_twice}

or_moved : (a b c : Bool) → ((a || b) || c) ≡ (a || (b || c))
or_moved true b c = refl
or_moved false b c = refl

or_false : (b : Bool) → (b || false) ≡ b
or_false true = refl
or_false false = refl

or_swap : (a b c : Bool) → (a || (b || c)) ≡ (b || (a || c))
or_swap true true c = refl
or_swap true false c = refl
or_swap false true c = refl
or_swap false false c = refl

among_behind : (y : List ℕ) (xs : List (List ℕ)) (z : List ℕ) → is_among y (xs ++ z ∷ []) ≡ (is_among y xs || is_same_text y z)
among_behind y [] z = or_false (is_same_text y z)
among_behind y (x ∷ xs) z = ap (λ (b : Bool). is_same_text y x || b) (among_behind y xs z) ∙ sym (or_moved (is_same_text y x) (is_among y xs) (is_same_text y z))

-- one name more
pub twice_behind : (xs : List (List ℕ)) (y : List ℕ) → has_twice (xs ++ y ∷ []) ≡ (is_among y xs || has_twice xs)
twice_behind [] y = refl
twice_behind (x ∷ xs) y =
    ap (λ (b : Bool). b || has_twice (xs ++ y ∷ [])) (among_behind x xs y)
    ∙ ap (λ (b : Bool). (is_among x xs || is_same_text x y) || b) (twice_behind xs y)
    ∙ ap (λ (b : Bool). (is_among x xs || b) || (is_among y xs || has_twice xs)) (same_flip x y)
    ∙ shuffled (is_among x xs) (is_same_text y x) (is_among y xs) (has_twice xs)
  where
    shuffled : (a b c d : Bool) → ((a || b) || (c || d)) ≡ ((b || c) || (a || d))
    shuffled true true c d = refl
    shuffled true false true d = refl
    shuffled true false false d = refl
    shuffled false true c d = refl
    shuffled false false true d = refl
    shuffled false false false d = refl

among_front : (z : List ℕ) (zs ws : List (List ℕ)) → is_among z zs ≡ true → is_among z (zs ++ ws) ≡ true
among_front z [] ws e = absurd cc
among_front z (v ∷ vs) ws e = by (among_front z vs ws) (is_same_text z v) e
  where
    by : (is_among z vs ≡ true → is_among z (vs ++ ws) ≡ true) → (b : Bool) → (b || is_among z vs) ≡ true → (b || is_among z (vs ++ ws)) ≡ true
    by later true q = refl
    by later false q = later q

-- what stands twice among the first stands twice among all
pub twice_in_front : (xs ys : List (List ℕ)) → has_twice xs ≡ true → has_twice (xs ++ ys) ≡ true
twice_in_front [] ys h = absurd cc
twice_in_front (x ∷ xs) ys h = by (twice_in_front xs ys) (is_among x xs) refl h
  where
    by : (has_twice xs ≡ true → has_twice (xs ++ ys) ≡ true) → (b : Bool) → is_among x xs ≡ b → (b || has_twice xs) ≡ true → (is_among x (xs ++ ys) || has_twice (xs ++ ys)) ≡ true
    by later true e k = or_left (is_among x (xs ++ ys)) (has_twice (xs ++ ys)) (among_front x xs ys e)
    by later false e k = or_right (is_among x (xs ++ ys)) (has_twice (xs ++ ys)) (later k)
