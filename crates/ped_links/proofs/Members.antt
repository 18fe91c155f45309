-- What is in lists.
use Rattle.std.proofs.Common.{◌≡◌, ◌⊎◌, inl, inr, ℕ, zero, suc, ◌<◌, List, [], ◌∷◌, ◌++◌, length, map, get_or, refl, sym, ap, arith}
use Rattle.ped_units.specs.Linking.{IsIn}

pub in_left : {X : Type 0} (x : X) (xs ys : List X) → IsIn x xs → IsIn x (xs ++ ys)
in_left x [] ys h = absurd h
in_left x (z ∷ zs) ys (inl e) = inl e
in_left x (z ∷ zs) ys (inr h) = inr (in_left x zs ys h)

pub in_right : {X : Type 0} (x : X) (xs ys : List X) → IsIn x ys → IsIn x (xs ++ ys)
in_right x [] ys h = h
in_right x (z ∷ zs) ys h = inr (in_right x zs ys h)

pub in_either : {X : Type 0} (x : X) (xs ys : List X) → IsIn x (xs ++ ys) → IsIn x xs ⊎ IsIn x ys
in_either x [] ys h = inr h
in_either x (z ∷ zs) ys (inl e) = inl (inl e)
in_either x (z ∷ zs) ys (inr h) = elim (in_either x zs ys h) [ inl a ↦ inl (inr a) | inr b ↦ inr b ]

pub in_one : {X : Type 0} (x y : X) → IsIn x (y ∷ []) → x ≡ y
in_one x y (inl e) = e
in_one x y (inr h) = absurd h

-- what is in a list that a function gives
pub in_map : {X Y : Type 0} (f : X → Y) (y : Y) (xs : List X) → IsIn y (map f xs) → (x : X) × IsIn x xs × (y ≡ f x)
in_map f y [] h = absurd h
in_map f y (x ∷ xs) (inl e) = (x, inl refl, e)
in_map f y (x ∷ xs) (inr h) = let there = in_map f y xs h in (there.0, inr there.1, there.2)

pub map_in : {X Y : Type 0} (f : X → Y) (x : X) (xs : List X) → IsIn x xs → IsIn (f x) (map f xs)
map_in f x [] h = absurd h
map_in f x (z ∷ zs) (inl e) = inl (ap f e)
map_in f x (z ∷ zs) (inr h) = inr (map_in f x zs h)

-- what is in a list has a place
pub place_in : {X : Type 0} (x : X) (xs : List X) (d : X) → IsIn x xs → (k : ℕ) × (k < length xs) × (get_or xs k d ≡ x)
place_in x [] d h = absurd h
place_in x (z ∷ zs) d (inl e) = (0, omega arith, sym e)
place_in x (z ∷ zs) d (inr h) = let there = place_in x zs d h in (suc there.0, omega (arith, there.1), there.2)

-- what stands at a place is in the list
pub in_place : {X : Type 0} (xs : List X) (k : ℕ) (d : X) → k < length xs → IsIn (get_or xs k d) xs
in_place [] k d h = absurd (omega (arith, h))
in_place (x ∷ xs) zero d h = inl refl
in_place (x ∷ xs) (suc k) d h = inr (in_place xs k d (omega (arith, h)))

-- what is read at a place is in the list
pub in_item : {X : Type 0} (xs : List X) (k : ℕ) (x : X) → k < length xs → x ≡ get_or xs k x → IsIn x xs
in_item [] k x h e = absurd (omega (arith, h))
in_item (z ∷ zs) zero x h e = inl e
in_item (z ∷ zs) (suc k) x h e = inr (in_item zs k x (omega (arith, h)) e)
