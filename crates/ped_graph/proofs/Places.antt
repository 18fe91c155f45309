-- The references at the places of a pair.
use Rattle.std.proofs.Common.{◌≡◌, ℕ, zero, suc, ◌<◌, ◌≤◌, List, [], ◌∷◌, ◌++◌, length, map, drop, Option, Some, None, refl, ap, sym, ◌∙◌, append_assoc, append-nil, arith}
use Rattle.std.specs.Prelude.{slice_get, slice_index_or}
use Rattle.ped_refs.specs.References.{Reference}
use Rattle.ped_refs.specs.Occurrences.{both, pair_at}
use Rattle.ped_refs.specs.declared.pairing.Pair.{Pair}

some_is : {A : Type 0} (x y : A) → Some x ≡ Some y → x ≡ y
some_is x y e = cc

-- where both are there, both are there
both_there : (a b : Option Reference) (p : Reference × Reference) → both a b ≡ Some p → (a ≡ Some p.0) × (b ≡ Some p.1)
both_there (Some x) (Some y) p e = let is = some_is (x, y) p e in (ap (λ (q : Reference × Reference). Some q.0) is, ap (λ (q : Reference × Reference). Some q.1) is)
both_there (Some x) None p e = cc
both_there None b p e = cc

-- the source and the sink of a pair
pub places_there : (refs : List Reference) (pair : Pair) (p : Reference × Reference) → pair_at refs pair ≡ Some p
    → (slice_get refs pair.source ≡ Some p.0) × (slice_get refs pair.sink ≡ Some p.1)
places_there refs pair p e = both_there (slice_get refs pair.source) (slice_get refs pair.sink) p e

-- one thing stands at a place
pub one_there : (refs : List Reference) (n : ℕ) (a b : Reference) → slice_get refs n ≡ Some a → slice_get refs n ≡ Some b → a ≡ b
one_there refs n a b e f = cc

-- what is made of each item, at the place of one
pub item_mapped : {A B C : Type 0} (f : A → B) (g : B → C) (xs : List A) (ys : List C) (k : ℕ) (r : B) (y : C) → ys ≡ map (λ x. g (f x)) xs
    → slice_get (map f xs) k ≡ Some r → slice_get ys k ≡ Some y → y ≡ g r
item_mapped f g xs ys k r y are e there = some_is y (g r) (sym there ∙ ap (λ (zs : List _). slice_get zs k) are ∙ made f g xs k r e)
  where
    made : {A B C : Type 0} (f : A → B) (g : B → C) (xs : List A) (k : ℕ) (r : B) → slice_get (map f xs) k ≡ Some r → slice_get (map (λ x. g (f x)) xs) k ≡ Some (g r)
    made f g [] k r e = cc
    made f g (x ∷ xs) zero r e = ap (λ z. Some (g z)) (some_is (f x) r e)
    made f g (x ∷ xs) (suc k) r e = made f g xs k r e

none_is_some : {A : Type 0} (x : A) → None ≡ Some x → ⊥
none_is_some x e = cc

nil_is_more : {A : Type 0} (x : A) (xs : List A) → x ∷ xs ≡ [] → ⊥
nil_is_more x xs e = cc

heads : {A : Type 0} (x y : A) (xs ys : List A) → x ∷ xs ≡ y ∷ ys → x ≡ y
heads x y xs ys e = cc

tails : {A : Type 0} (x y : A) (xs ys : List A) → x ∷ xs ≡ y ∷ ys → xs ≡ ys
tails x y xs ys e = cc

-- what a listed item stands for, where all stand for something
pub next_listed : {A B : Type 0} (f : A → Option B) (xs : List A) (ps : List B) (i : ℕ) (x : A) → map f xs ≡ map Some ps → slice_get xs i ≡ Some x
    → (p : B) × (f x ≡ Some p) × (drop i ps ≡ p ∷ drop (suc i) ps)
next_listed f [] ps i x e d = elim (none_is_some x d) [ ]
next_listed f (y ∷ xs) [] i x e d = elim (nil_is_more (f y) (map f xs) e) [ ]
next_listed f (y ∷ xs) (p ∷ ps) zero x e d = (p, ap f (sym (some_is y x d)) ∙ heads (f y) (Some p) (map f xs) (map Some ps) e, refl)
next_listed f (y ∷ xs) (p ∷ ps) (suc i) x e d =
    let r = next_listed f xs ps i x (tails (f y) (Some p) (map f xs) (map Some ps) e) d in (r.0, r.1, r.2)

-- an item at a place that is there
pub index_there : {A : Type 0} (xs : List A) (i : ℕ) (d : A) → i < length xs → slice_get xs i ≡ Some (slice_index_or xs i d)
index_there [] i d h = elim (none_below i h) [ ] where
  none_below : (i : ℕ) → i < 0 → ⊥
  none_below i h = omega (arith, h)
index_there (x ∷ xs) zero d h = refl
index_there (x ∷ xs) (suc i) d h = index_there xs i d (omega (arith, h))

-- as many items as what they stand for
pub same_length : {A B : Type 0} (f : A → Option B) (xs : List A) (ps : List B) → map f xs ≡ map Some ps → length xs ≡ length ps
same_length f [] [] e = refl
same_length f [] (p ∷ ps) e = elim (nil_is_more (Some p) (map Some ps) (sym e)) [ ]
same_length f (x ∷ xs) [] e = elim (nil_is_more (f x) (map f xs) e) [ ]
same_length f (x ∷ xs) (p ∷ ps) e = ap suc (same_length f xs ps (tails (f x) (Some p) (map f xs) (map Some ps) e))

-- nothing is left behind the last
pub none_left : {B : Type 0} (ps : List B) (i : ℕ) → length ps ≤ i → drop i ps ≡ []
none_left [] zero h = refl
none_left [] (suc i) h = refl
none_left (p ∷ ps) zero h = elim (none_long (length ps) h) [ ] where
  none_long : (n : ℕ) → suc n ≤ 0 → ⊥
  none_long n h = omega (arith, h)
none_left (p ∷ ps) (suc i) h = none_left ps i (omega (arith, h))

-- one more of what is made, and one fewer to come
pub more_made : {B C : Type 0} (g : B → C) (done new all : List C) (p : B) (rest behind : List B) → new ≡ done ++ g p ∷ [] → rest ≡ p ∷ behind → done ++ map g rest ≡ all → new ++ map g behind ≡ all
more_made g done new all p rest behind e f h =
    ap (λ (xs : List _). xs ++ map g behind) e ∙ append_assoc done (g p ∷ []) (map g behind) ∙ ap (λ (xs : List _). done ++ map g xs) (sym f) ∙ h

-- all are made where none are to come
pub all_made : {B C : Type 0} (g : B → C) (done all : List C) (rest : List B) → rest ≡ [] → done ++ map g rest ≡ all → done ≡ all
all_made g done all rest none h = sym (append-nil done) ∙ ap (λ (xs : List _). done ++ map g xs) (sym none) ∙ h
