-- What holds for each name of a list.
use Rattle.std.proofs.Common.{◌≡◌, ℕ, List, [], ◌∷◌, ◌++◌, map, Bool, true, false, ◌||◌, refl, sym, ap, ◌∙◌, subst}
use Rattle.ped_base.specs.Lists.{is_same_text, is_among}
use Rattle.ped_base.proofs.NameEquality.{same_is, same_itself}

-- something holds for each name
abbrev pub Each : (List ℕ → Type 0) → List (List ℕ) → Type 0
Each P [] = Unit {0}
Each P (x ∷ xs) = P x × Each P xs

pub each_front : (P : List ℕ → Type 0) (xs ys : List (List ℕ)) → Each P (xs ++ ys) → Each P xs
each_front P [] ys h = tt
each_front P (x ∷ xs) ys h = (h.0, each_front P xs ys h.1)

pub each_behind : (P : List ℕ → Type 0) (xs ys : List (List ℕ)) → Each P (xs ++ ys) → Each P ys
each_behind P [] ys h = h
each_behind P (x ∷ xs) ys h = each_behind P xs ys h.1

-- what holds for each name of a list, holds for each of its members
pub each_of : (P : List ℕ → Type 0) (xs : List (List ℕ)) → Each P xs → (z : List ℕ) → is_among z xs ≡ true → P z
each_of P [] h z e = absurd cc
each_of P (x ∷ xs) h z e = go (is_same_text z x) refl (each_of P xs h.1 z)
  where
    go : (t : Bool) → is_same_text z x ≡ t → (is_among z xs ≡ true → P z) → P z
    go true k more = subst P (sym (same_is z x k)) h.0
    go false k more = more (sym (ap (λ (t : Bool). t || is_among z xs) k) ∙ e)

pub of_each : (P : List ℕ → Type 0) (xs : List (List ℕ)) → ((z : List ℕ) → is_among z xs ≡ true → P z) → Each P xs
of_each P [] h = tt
of_each P (x ∷ xs) h =
    (h x (ap (λ (t : Bool). t || is_among x xs) (same_itself x)), of_each P xs (λ z e. h z (ap (λ (t : Bool). is_same_text z x || t) e ∙ either (is_same_text z x))))
  where
    either : (t : Bool) → (t || true) ≡ true
    either true = refl
    either false = refl

pub each_map : (P Q : List ℕ → Type 0) (xs : List (List ℕ)) → ((x : List ℕ) → P x → Q x) → Each P xs → Each Q xs
each_map P Q [] g h = tt
each_map P Q (x ∷ xs) g h = (g x h.0, each_map P Q xs g h.1)

pub each_mapped : (P : List ℕ → Type 0) (g : List ℕ → List ℕ) (xs : List (List ℕ)) → Each (λ x. P (g x)) xs → Each P (map g xs)
each_mapped P g [] h = tt
each_mapped P g (x ∷ xs) h = (h.0, each_mapped P g xs h.1)

pub each_joined : (P : List ℕ → Type 0) (xs ys : List (List ℕ)) → Each P xs → Each P ys → Each P (xs ++ ys)
each_joined P [] ys h k = k
each_joined P (x ∷ xs) ys h k = (h.0, each_joined P xs ys h.1 k)

-- what holds for each name of a list in two ways
pub each_two : (P Q R : List ℕ → Type 0) (xs : List (List ℕ)) → ((x : List ℕ) → P x → Q x → R x) → Each P xs → Each Q xs → Each R xs
each_two P Q R [] f h k = tt
each_two P Q R (x ∷ xs) f h k = (f x h.0 k.0, each_two P Q R xs f h.1 k.1)
