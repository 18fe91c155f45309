-- Names that are collected one behind the other, and which of them SAVE without a list stands for.
use Rattle.std.proofs.Common.{◌≡◌, ℕ, List, [], ◌∷◌, ◌++◌, Bool, true, false, not, ◌&&◌, eqb, eqb-true, filter, refl, ap, ◌∙◌, sym, append_assoc, append-nil, if◌then◌else◌}
use Rattle.std.specs.Prelude.{◌||◌}
use Rattle.std.specs.List.{fold}
use Rattle.ped_base.specs.Lists.{is_same_text, is_among}
use Rattle.ped_base.proofs.NameEquality.{same_is}
use Rattle.ped_tree.specs.NamesIn.{first_occurrences}
use Rattle.ped_tree.specs.Names.Collecting.{with_name, with_names}
use Rattle.ped_limits.proofs.SameNames.{HaveSame, among_append}

or_back : (a b : Bool) → (a || (b || false)) ≡ (b || a)
or_back true true = refl
or_back true false = refl
or_back false true = refl
or_back false false = refl

absorbed : (a b : Bool) (c : Bool) → (b ≡ true → a ≡ true) → (a || c) ≡ (a || (b || c))
absorbed true b c h = refl
absorbed false true c h = absurd (let k : false ≡ true = h refl in cc)
absorbed false false c h = refl

both_true : (a b : Bool) → a && b ≡ true → (a ≡ true) × (b ≡ true)
both_true true b h = (refl, h)
both_true false b h = absurd cc

-- one name more at either end is the same
same_more : (a b : List (List ℕ)) (x : List ℕ) → HaveSame a b → HaveSame (a ++ x ∷ []) (x ∷ b)
same_more a b x h y = among_append y a (x ∷ []) ∙ or_back (is_among y a) (is_same_text y x) ∙ ap (λ (t : Bool). is_same_text y x || t) (h y)

pick : (a b : List (List ℕ)) (x : List ℕ) (xs : List (List ℕ)) (r : Bool)
    → (fold with_name a xs ≡ a ++ first_occurrences b xs)
    → (fold with_name (a ++ x ∷ []) xs ≡ (a ++ x ∷ []) ++ first_occurrences (x ∷ b) xs)
    → fold with_name (if r then a else a ++ x ∷ []) xs ≡ a ++ (if r then first_occurrences b xs else x ∷ first_occurrences (x ∷ b) xs)
pick a b x xs true h k = h
pick a b x xs false h k = k ∙ append_assoc a (x ∷ []) (first_occurrences (x ∷ b) xs)

-- what collecting adds is what occurs first
collected : (a b : List (List ℕ)) → HaveSame a b → (xs : List (List ℕ)) → fold with_name a xs ≡ a ++ first_occurrences b xs
collected a b h [] = sym (append-nil a)
collected a b h (x ∷ xs) =
    pick a b x xs (is_among x a) (collected a b h xs) (collected (a ++ x ∷ []) (x ∷ b) (same_more a b x h) xs)
    ∙ ap (λ (r : Bool). a ++ (if r then first_occurrences b xs else x ∷ first_occurrences (x ∷ b) xs)) (h x)

or_false : (a : Bool) → a ≡ (a || false)
or_false true = refl
or_false false = refl

or_assoc : (a b c : Bool) → ((a || (b || false)) || c) ≡ (a || (b || c))
or_assoc true b c = refl
or_assoc false true c = refl
or_assoc false false c = refl

among_more : (a : List (List ℕ)) (x y : List ℕ) (t : Bool) → (is_among x (with_name a y) || t) ≡ (is_among x a || (is_same_text x y || t))
among_more a x y t =
    let go : (r : Bool) → is_among y a ≡ r → (is_among x (if r then a else a ++ y ∷ []) || t) ≡ (is_among x a || (is_same_text x y || t)) = λ r. elim r as (λ r. is_among y a ≡ r → (is_among x (if r then a else a ++ y ∷ []) || t) ≡ (is_among x a || (is_same_text x y || t))) [
      | true ↦ λ e. absorbed (is_among x a) (is_same_text x y) t (λ h. ap (λ (z : List ℕ). is_among z a) (same_is x y h) ∙ e)
      | false ↦ λ e. ap (λ (r : Bool). r || t) (among_append x a (y ∷ [])) ∙ or_assoc (is_among x a) (is_same_text x y) t
    ] in
    go (is_among y a) refl

-- a name is collected where it stood there or came
among_collected : (x : List ℕ) (a xs : List (List ℕ)) → is_among x (fold with_name a xs) ≡ (is_among x a || is_among x xs)
among_collected x a [] = or_false (is_among x a)
among_collected x a (y ∷ ys) = among_collected x (with_name a y) ys ∙ among_more a x y (is_among x ys)

neither : (a b : Bool) → not (a || b) ≡ (not a && not b)
neither true b = refl
neither false b = refl

-- what SAVE without a list stands for
pub saved : (constants variables all : List (List ℕ))
    → filter (λ x. not (is_among x (with_names (with_names [] constants) variables))) (with_names [] all)
    ≡ filter (λ x. not (is_among x constants) && not (is_among x variables)) (first_occurrences [] all)
saved constants variables all =
    let left : (x : List ℕ) → not (is_among x (with_names (with_names [] constants) variables)) ≡ (not (is_among x constants) && not (is_among x variables)) =
    λ x. ap not (among_collected x (with_names [] constants) variables ∙ ap (λ (r : Bool). r || is_among x variables) (among_collected x [] constants)) ∙ neither (is_among x constants) (is_among x variables) in
    λ i. filter (λ x. left x i) (collected [] [] (λ x. refl) all i)
