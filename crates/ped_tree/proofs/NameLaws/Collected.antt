-- Which names are among those that were collected.
use Rattle.std.proofs.Common.{◌≡◌, ℕ, List, [], ◌∷◌, ◌++◌, Bool, true, false, refl, ap, ◌∙◌, if◌then◌else◌}
use Rattle.std.specs.Prelude.{◌||◌}
use Rattle.std.proofs.lemmas.List.Folds.{list_any-append}
use Rattle.ped_base.specs.Lists.{is_same_text, is_among}
use Rattle.ped_tree.specs.Names.Collecting.{with_name, with_names}
use Rattle.ped_base.proofs.NameEquality.{same_is}

-- a name is in two lists, one behind the other, where it is in one of them
pub among_append : (x : List ℕ) (a b : List (List ℕ)) → is_among x (a ++ b) ≡ (is_among x a || is_among x b)
among_append x a b = list_any-append (is_same_text x) a b

absorbed : (a b : Bool) (c : Bool) → (b ≡ true → a ≡ true) → (a || c) ≡ (a || (b || c))
absorbed true b c h = refl
absorbed false true c h = absurd (let k : false ≡ true = h refl in cc)
absorbed false false c h = refl

or_false : (a : Bool) → a ≡ (a || false)
or_false true = refl
or_false false = refl

or_assoc : (a b c : Bool) → ((a || (b || false)) || c) ≡ (a || (b || c))
or_assoc true b c = refl
or_assoc false true c = refl
or_assoc false false c = refl

among_more : (a : List (List ℕ)) (x y : List ℕ) (t : Bool) → (is_among x (with_name a y) || t) ≡ (is_among x a || (is_same_text x y || t))
among_more a x y t =
    let go : (r : Bool) → is_among y a ≡ r → (is_among x (if r then a else a ++ y ∷ []) || t) ≡ (is_among x a || (is_same_text x y || t)) = λ r. elim r as (λ r. is_among y a ≡ r → (is_among x (if r then a else a ++ y ∷ []) || t) ≡ (is_among x a || (is_same_text x y || t))) [
      | true ↦ λ e. absorbed (is_among x a) (is_same_text x y) t (λ h. ap (λ (z : List ℕ). is_among z a) (same_is x y h) ∙ e)
      | false ↦ λ e. ap (λ (r : Bool). r || t) (among_append x a (y ∷ [])) ∙ or_assoc (is_among x a) (is_same_text x y) t
    ] in
    go (is_among y a) refl

-- a name is collected where it stood there or came
pub among_collected : (x : List ℕ) (a xs : List (List ℕ)) → is_among x (with_names a xs) ≡ (is_among x a || is_among x xs)
among_collected x a [] = or_false (is_among x a)
among_collected x a (y ∷ ys) = among_collected x (with_name a y) ys ∙ among_more a x y (is_among x ys)
