-- Lists with a comma between two.
use Rattle.std.proofs.Common.{◌≡◌, ℕ, List, [], ◌∷◌, ◌++◌, map, codes, Bool, true, refl, sym, ap, ◌∙◌}
use Rattle.std.specs.List.{flat_map, join_by}
use Rattle.ped_views.specs.declared.directions.Direction.{Direction}
use Rattle.ped_views.specs.declared.directions.Direction.TheVariants.{Before, Same, After}
use Rattle.std.proofs.lemmas.Bool.{cond-true}
use Rattle.std.specs.Cmp.Lexicographic.{pointwise}
use Rattle.ped_edges.specs.Rows.{direction_text, signs_text, vector_text, vectors_text, are_signs, product, all_signs, is_product}
use Rattle.ped_edges.specs.CodeSigns.{signs_of, sign_of}
use Rattle.ped_edges.specs.declared.signs.Signs.{Signs}

flat_map-map : {X Y : Type 0} (f : Y → List ℕ) (g : X → Y) (xs : List X) → flat_map f (map g xs) ≡ flat_map (λ x. f (g x)) xs
flat_map-map f g [] = refl
flat_map-map f g (x ∷ xs) = ap (λ (t : List ℕ). f (g x) ++ t) (flat_map-map f g xs)

-- a list of what is made of other items
pub join_by-map : {X Y : Type 0} (f : Y → List ℕ) (g : X → Y) (sep : List ℕ) (xs : List X) → join_by f sep (map g xs) ≡ join_by (λ x. f (g x)) sep xs
join_by-map f g sep [] = refl
join_by-map f g sep (x ∷ xs) = ap (λ (t : List ℕ). f (g x) ++ t) (flat_map-map (λ y. sep ++ f y) g xs)

-- one sign
one_sign : (d : Direction) → signs_text (d ∷ []) ≡ direction_text d
one_sign Before = refl
one_sign Same = refl
one_sign After = refl

-- a vector with one sign at each place
pub single_vector : (v : List Direction) → vector_text (map (λ d. d ∷ []) v) ≡ codes "(" ++ join_by direction_text (codes ",") v ++ codes ")"
single_vector v =
    ap (λ (t : List ℕ). codes "(" ++ t ++ codes ")")
    (join_by-map signs_text (λ d. d ∷ []) (codes ",") v ∙ (λ i. join_by (λ d. one_sign d i) (codes ",") v))

sign_text : (d : Direction) → direction_text d ≡ sign_of d ∷ []
sign_text Before = refl
sign_text Same = refl
sign_text After = refl

by_bytes : (v : List Direction) → codes "(" ++ join_by (λ d. sign_of d ∷ []) (codes ",") v ++ codes ")" ≡ vector_text (map (λ d. d ∷ []) v)
by_bytes v = sym (single_vector v ∙ (λ i. codes "(" ++ join_by (λ d. sign_text d i) (codes ",") v ++ codes ")"))

-- a vector over two loops, byte by byte
pub two_signs : (a b : Direction) (x y : ℕ) → x ≡ sign_of a → y ≡ sign_of b → 40 ∷ x ∷ 44 ∷ y ∷ 41 ∷ [] ≡ vector_text (map (λ d. d ∷ []) (a ∷ b ∷ []))
two_signs a b x y ea eb = (λ i. 40 ∷ ea i ∷ 44 ∷ eb i ∷ 41 ∷ []) ∙ by_bytes (a ∷ b ∷ [])

-- a vector over six loops, byte by byte
pub six_signs : (a b c d e f : Direction) (u v w x y z : ℕ) → u ≡ sign_of a → v ≡ sign_of b → w ≡ sign_of c → x ≡ sign_of d → y ≡ sign_of e → z ≡ sign_of f
    → 40 ∷ u ∷ 44 ∷ v ∷ 44 ∷ w ∷ 44 ∷ x ∷ 44 ∷ y ∷ 44 ∷ z ∷ 41 ∷ [] ≡ vector_text (map (λ s. s ∷ []) (a ∷ b ∷ c ∷ d ∷ e ∷ f ∷ []))
six_signs a b c d e f u v w x y z ea eb ec ed ee ef =
    (λ i. 40 ∷ ea i ∷ 44 ∷ eb i ∷ 44 ∷ ec i ∷ 44 ∷ ed i ∷ 44 ∷ ee i ∷ 44 ∷ ef i ∷ 41 ∷ []) ∙ by_bytes (a ∷ b ∷ c ∷ d ∷ e ∷ f ∷ [])

-- one vector with the signs of each place, where the vectors are their product
pub one_vector : (loops : ℕ) (vectors : List (List Direction)) (places : List Signs) (whole : Bool)
    → map signs_of places ≡ all_signs loops vectors → whole ≡ true → whole ≡ pointwise are_signs (product (map signs_of places)) vectors
    → codes "(" ++ join_by (λ s. signs_text (signs_of s)) (codes ",") places ++ codes ")" ≡ vectors_text loops vectors
one_vector loops vectors places whole e t w =
    let is : is_product loops vectors ≡ true = sym (ap (λ (p : List (List Direction)). pointwise are_signs (product p) vectors) e) ∙ sym w ∙ t in
    ap (λ (x : List ℕ). codes "(" ++ x ++ codes ")") (sym (join_by-map signs_text signs_of (codes ",") places))
    ∙ ap vector_text e
    ∙ sym (cond-true (is_product loops vectors) (vector_text (all_signs loops vectors)) (flat_map (λ v. vector_text (map (λ d. d ∷ []) v)) vectors) is)
