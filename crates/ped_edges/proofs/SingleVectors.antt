-- A single vector is written with its signs, whether it counts as a product or not.
use Rattle.std.proofs.Common.{◌≡◌, ◌||◌, ℕ, List, [], ◌∷◌, ◌++◌, map, filter, Bool, true, false, refl, sym, ap, ◌∙◌}
use Rattle.std.proofs.lemmas.Bool.{cond-true, cond-false}
use Rattle.std.proofs.lemmas.List.{append-nil}
use Rattle.std.specs.List.{flat_map, range_with_len}
use Rattle.ped_views.specs.declared.directions.Direction.{Direction}
use Rattle.ped_views.specs.declared.directions.Direction.TheVariants.{Before, Same, After}
use Rattle.ped_views.specs.Excluded.{direction_at}
use Rattle.ped_edges.specs.Rows.{same_direction, signs_at, product, all_signs, is_product, vector_text, vectors_text}
use Rattle.ped_edges.proofs.Directions.{are_vectors-decides}

-- of the three signs, one is this
one_of_three : (d : Direction) → filter (λ e. same_direction e d || false) (Before ∷ Same ∷ After ∷ []) ≡ d ∷ []
one_of_three Before = refl
one_of_three Same = refl
one_of_three After = refl

-- a vector has one sign at each place
signs_of_one : (v : List Direction) (k : ℕ) → signs_at (v ∷ []) k ≡ direction_at v k ∷ []
signs_of_one v k = one_of_three (direction_at v k)

-- the signs of one vector, as singles
all_of_one : (n : ℕ) (v : List Direction) → all_signs n (v ∷ []) ≡ map (λ k. direction_at v k ∷ []) (range_with_len 0 n)
all_of_one n v = λ i. map (λ k. signs_of_one v k i) (range_with_len 0 n)

-- the product of singles is one vector
product_of_ones : (f : ℕ → Direction) (ks : List ℕ) → product (map (λ k. f k ∷ []) ks) ≡ map f ks ∷ []
product_of_ones f [] = refl
product_of_ones f (k ∷ ks) = ap (λ (p : List (List Direction)). map (λ v. f k ∷ v) p ++ []) (product_of_ones f ks)

singles : (f : ℕ → Direction) (ks : List ℕ) → map (λ k. f k ∷ []) ks ≡ map (λ d. d ∷ []) (map f ks)
singles f [] = refl
singles f (k ∷ ks) = ap (λ (t : List (List Direction)). (f k ∷ []) ∷ t) (singles f ks)

head_same : (x y : List Direction) → x ∷ [] ≡ y ∷ [] → x ≡ y
head_same x y e = cc

-- where one vector is a product, its signs are its directions
signs_are : (n : ℕ) (v : List Direction) → is_product n (v ∷ []) ≡ true → all_signs n (v ∷ []) ≡ map (λ d. d ∷ []) v
signs_are n v whole =
    let ks = range_with_len 0 n in
    let f : ℕ → Direction = direction_at v in
    let one : product (all_signs n (v ∷ [])) ≡ map f ks ∷ [] = ap product (all_of_one n v) ∙ product_of_ones f ks in
    let same : map f ks ∷ [] ≡ v ∷ [] = sym one ∙ (are_vectors-decides (product (all_signs n (v ∷ []))) (v ∷ [])).0 whole in
    all_of_one n v ∙ singles f ks ∙ ap (λ (w : List Direction). map (λ d. d ∷ []) w) (head_same (map f ks) v same)

by_product : (n : ℕ) (v : List Direction) (b : Bool) → is_product n (v ∷ []) ≡ b → vectors_text n (v ∷ []) ≡ vector_text (map (λ d. d ∷ []) v)
by_product n v true e =
    cond-true (is_product n (v ∷ [])) (vector_text (all_signs n (v ∷ []))) (flat_map (λ w. vector_text (map (λ d. d ∷ []) w)) (v ∷ [])) e
    ∙ ap vector_text (signs_are n v e)
by_product n v false e =
    cond-false (is_product n (v ∷ [])) (vector_text (all_signs n (v ∷ []))) (flat_map (λ w. vector_text (map (λ d. d ∷ []) w)) (v ∷ [])) e
    ∙ append-nil (vector_text (map (λ d. d ∷ []) v))

-- the text of one vector
pub text_of_one : (n : ℕ) (vectors : List (List Direction)) (v : List Direction) → vectors ≡ v ∷ [] → vectors_text n vectors ≡ vector_text (map (λ d. d ∷ []) v)
text_of_one n vectors v one = ap (λ (x : List (List Direction)). vectors_text n x) one ∙ by_product n v (is_product n (v ∷ [])) refl
