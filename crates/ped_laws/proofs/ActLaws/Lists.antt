-- Items of lists, and which stands before which.
use Rattle.std.proofs.Common.{◌≡◌, ℕ, ◌+◌, ◌≤◌, ◌<◌, List, [], ◌∷◌, ◌++◌, refl, sym, ap, ◌∙◌, arith, ◌⊎◌, inl, inr}
use Rattle.ped_eval.specs.ped_store.specs.Acts.{Act}
use Rattle.ped_laws.specs.Acts.Orders.{IsIn, StandsBefore, EachOnce, Numbered, number_from, acts_in}

pub in_left : {X : Type 0} (x : X) (xs ys : List X) → IsIn x xs → IsIn x (xs ++ ys)
in_left x (z ∷ xs) ys (inl e) = inl e
in_left x (z ∷ xs) ys (inr i) = inr (in_left x xs ys i)
in_left x [] ys i = absurd i

pub in_right : {X : Type 0} (x : X) (xs ys : List X) → IsIn x ys → IsIn x (xs ++ ys)
in_right x [] ys i = i
in_right x (z ∷ xs) ys i = inr (in_right x xs ys i)

pub in_parts : {X : Type 0} (x : X) (xs ys : List X) → IsIn x (xs ++ ys) → IsIn x xs ⊎ IsIn x ys
in_parts x [] ys i = inr i
in_parts x (z ∷ xs) ys (inl e) = inl (inl e)
in_parts x (z ∷ xs) ys (inr i) = elim (in_parts x xs ys i) [ inl j ↦ inl (inr j) | inr j ↦ inr j ]

-- an item more in the middle
pub in_more : {X : Type 0} (x y : X) (xs ys : List X) → IsIn x (xs ++ ys) → IsIn x (xs ++ y ∷ ys)
in_more x y [] ys i = inr i
in_more x y (z ∷ xs) ys (inl e) = inl e
in_more x y (z ∷ xs) ys (inr i) = inr (in_more x y xs ys i)

pub in_middle : {X : Type 0} (x y : X) (xs ys : List X) → x ≡ y → IsIn x (xs ++ y ∷ ys)
in_middle x y [] ys e = inl e
in_middle x y (z ∷ xs) ys e = inr (in_middle x y xs ys e)

-- an item fewer in the middle
pub in_fewer : {X : Type 0} (x y : X) (xs ys : List X) → IsIn x (xs ++ y ∷ ys) → (x ≡ y) ⊎ IsIn x (xs ++ ys)
in_fewer x y [] ys (inl e) = inl e
in_fewer x y [] ys (inr i) = inr i
in_fewer x y (z ∷ xs) ys (inl e) = inr (inl e)
in_fewer x y (z ∷ xs) ys (inr i) = elim (in_fewer x y xs ys i) [ inl e ↦ inl e | inr j ↦ inr (inr j) ]

-- an item has what stands before it and behind it
pub split_at : {X : Type 0} (x : X) (xs : List X) → IsIn x xs → (left : List X) × (right : List X) × (xs ≡ left ++ x ∷ right)
split_at x [] i = absurd i
split_at x (y ∷ ys) (inl e) = ([], ys, ap (λ z. z ∷ ys) (sym e))
split_at x (y ∷ ys) (inr i) = let r = split_at x ys i in (y ∷ r.0, r.1, ap (λ z. y ∷ z) r.2)

pub first_in : {X : Type 0} (x y : X) (xs : List X) → StandsBefore x y xs → IsIn x xs
first_in x y [] b = absurd b
first_in x y (z ∷ xs) (inl p) = inl p.0
first_in x y (z ∷ xs) (inr b) = inr (first_in x y xs b)

pub second_in : {X : Type 0} (x y : X) (xs : List X) → StandsBefore x y xs → IsIn y xs
second_in x y [] b = absurd b
second_in x y (z ∷ xs) (inl p) = inr p.1
second_in x y (z ∷ xs) (inr b) = inr (second_in x y xs b)

-- an item more in the middle
pub before_more : {X : Type 0} (x y z : X) (left right : List X) → StandsBefore x y (left ++ right) → StandsBefore x y (left ++ z ∷ right)
before_more x y z [] right b = inr b
before_more x y z (w ∷ left) right (inl p) = inl (p.0, in_more y z left right p.1)
before_more x y z (w ∷ left) right (inr b) = inr (before_more x y z left right b)

-- what stands in front of an item
pub before_it : {X : Type 0} (x y : X) (left right : List X) → IsIn x left → StandsBefore x y (left ++ y ∷ right)
before_it x y [] right i = absurd i
before_it x y (w ∷ left) right (inl e) = inl (e, in_middle y y left right refl)
before_it x y (w ∷ left) right (inr i) = inr (before_it x y left right i)

-- what stands behind an item
pub behind_it : {X : Type 0} (x y : X) (left right : List X) → IsIn y right → StandsBefore x y (left ++ x ∷ right)
behind_it x y [] right i = inl (refl, i)
behind_it x y (w ∷ left) right i = inr (behind_it x y left right i)

-- in one of two lists, or in the first and the second
pub before_parts : {X : Type 0} (x y : X) (xs ys : List X) → StandsBefore x y (xs ++ ys) → StandsBefore x y xs ⊎ ((IsIn x xs × IsIn y ys) ⊎ StandsBefore x y ys)
before_parts x y [] ys b = inr (inr b)
before_parts x y (z ∷ xs) ys (inl p) = elim (in_parts y xs ys p.1) [ inl i ↦ inl (inl (p.0, i)) | inr j ↦ inr (inl (inl p.0, j)) ]
before_parts x y (z ∷ xs) ys (inr b) = elim (before_parts x y xs ys b) [ inl c ↦ inl (inr c) | inr q ↦ inr (elim q [ inl p ↦ inl (inr p.0, p.1) | inr c ↦ inr c ]) ]

pub before_left : {X : Type 0} (x y : X) (xs ys : List X) → StandsBefore x y xs → StandsBefore x y (xs ++ ys)
before_left x y [] ys b = absurd b
before_left x y (z ∷ xs) ys (inl p) = inl (p.0, in_left y xs ys p.1)
before_left x y (z ∷ xs) ys (inr b) = inr (before_left x y xs ys b)

pub before_right : {X : Type 0} (x y : X) (xs ys : List X) → StandsBefore x y ys → StandsBefore x y (xs ++ ys)
before_right x y [] ys b = b
before_right x y (z ∷ xs) ys b = inr (before_right x y xs ys b)

pub before_across : {X : Type 0} (x y : X) (xs ys : List X) → IsIn x xs → IsIn y ys → StandsBefore x y (xs ++ ys)
before_across x y [] ys i j = absurd i
before_across x y (z ∷ xs) ys (inl e) j = inl (e, in_right y xs ys j)
before_across x y (z ∷ xs) ys (inr i) j = inr (before_across x y xs ys i j)

-- of two items one stands before the other, or they are the same
pub in_order : {X : Type 0} (x y : X) (xs : List X) → IsIn x xs → IsIn y xs → (x ≡ y) ⊎ (StandsBefore x y xs ⊎ StandsBefore y x xs)
in_order x y [] i j = absurd i
in_order x y (z ∷ xs) (inl e) (inl f) = inl (e ∙ sym f)
in_order x y (z ∷ xs) (inl e) (inr j) = inr (inl (inl (e, j)))
in_order x y (z ∷ xs) (inr i) (inl f) = inr (inr (inl (f, i)))
in_order x y (z ∷ xs) (inr i) (inr j) = elim (in_order x y xs i j) [
  | inl e ↦ inl e
  | inr o ↦ inr (elim o [ inl b ↦ inl (inr b) | inr b ↦ inr (inr b) ])
]

-- a list without one of its items, each of which stands there once
pub once_fewer : {X : Type 0} (y : X) (left right : List X) → EachOnce (left ++ y ∷ right) → EachOnce (left ++ right)
once_fewer y left right once x b = once x (before_more x x y left right b)

-- an item isn't among the others
pub not_in_rest : {X : Type 0} (y : X) (left right : List X) → EachOnce (left ++ y ∷ right) → IsIn y (left ++ right) → ⊥
not_in_rest y left right once i = elim (in_parts y left right i) [
  | inl j ↦ once y (before_it y y left right j)
  | inr j ↦ once y (behind_it y y left right j)
]

-- the numbers of numbered acts rise
pub above : (k : ℕ) (acts : List Act) (x : Numbered) → IsIn x (number_from k acts) → k ≤ x.number
above k [] x i = absurd i
above k (a ∷ acts) x (inl e) = let n : x.number ≡ k = ap (λ (z : Numbered). z.number) e in omega arith
above k (a ∷ acts) x (inr i) = let n = above (k + 1) acts x i in omega arith

pub numbers_rise : (k : ℕ) (acts : List Act) (x y : Numbered) → StandsBefore x y (number_from k acts) → x.number < y.number
numbers_rise k [] x y b = absurd b
numbers_rise k (a ∷ acts) x y (inl p) =
    let e : x.number ≡ k = ap (λ (z : Numbered). z.number) p.0 in
    let n = above (k + 1) acts y p.1 in
    omega arith
numbers_rise k (a ∷ acts) x y (inr b) = numbers_rise (k + 1) acts x y b

pub numbered_once : (k : ℕ) (acts : List Act) → EachOnce (number_from k acts)
numbered_once k acts x b = let n = numbers_rise k acts x x b in omega arith

pub acts_numbered : (k : ℕ) (acts : List Act) → acts_in (number_from k acts) ≡ acts
acts_numbered k [] = refl
acts_numbered k (a ∷ acts) = ap (λ z. a ∷ z) (acts_numbered (k + 1) acts)
