-- The places of direction vectors in their lexicographic order.
use Rattle.std.proofs.Common.{◌≡◌, ℕ, zero, suc, ◌+◌, ◌-◌, ◌*◌, ◌/◌, ◌%◌, ◌^◌, ◌<◌, ◌≤◌, List, [], ◌∷◌, ◌++◌, length, map, take, get_or, refl, sym, ap, ◌∙◌, inl, inr, arith}
use Rattle.std.proofs.Math.Nat.{pow-succ', pow-le-pow_right}
use Rattle.std.proofs.lemmas.Bool.Decides.{leb_tells}
use Rattle.std.proofs.lemmas.List.{length-append, length-map, length_push, get_or_append_left, get_or-append_right, get_or-map, take_more, take_all}
use Rattle.ped_views.specs.declared.directions.Direction.{Direction}
use Rattle.ped_views.specs.declared.directions.Direction.TheVariants.{Before, Same, After}
use Rattle.ped_views.specs.Excluded.{direction_at}
use Rattle.ped_views.specs.Vectors.{all_vectors}
use Rattle.ped_verdict.specs.Marked.{digit, place_of}

thrice : (n : ℕ) → 3 ^ suc n ≡ 3 ^ n + 3 ^ n + 3 ^ n
thrice n = let e = pow-succ' 3 n in omega arith

-- over at most six loops there are at most 729 vectors
pub few : (n : ℕ) → n ≤ 6 → 3 ^ n ≤ 729
few n h = pow-le-pow_right {n = 3} (omega arith) h

-- there is a vector over any number of loops
pub some_place : (n : ℕ) → 0 < 3 ^ n
some_place zero = omega arith
some_place (suc n) = let e = thrice n in let s = some_place n in omega arith

-- a place lies below the number of vectors over as many loops
pub place_below : (v : List Direction) → place_of v < 3 ^ length v
place_below [] = omega arith
place_below (Before ∷ v) = let e = thrice (length v) in let b = place_below v in omega arith
place_below (Same ∷ v) = let e = thrice (length v) in let b = place_below v in omega arith
place_below (After ∷ v) = let e = thrice (length v) in let b = place_below v in omega arith

pub place_small : (v : List Direction) → length v ≤ 6 → place_of v < 729
place_small v h = let b = place_below v in let f = few (length v) h in omega arith

one_digit : (d : Direction) → place_of (d ∷ []) ≡ digit d
one_digit Before = refl
one_digit Same = refl
one_digit After = refl

head_push : (e : Direction) (x p y q r : ℕ) → y ≡ x + x + x → q ≡ 3 * p + r → digit e * y + q ≡ 3 * (digit e * x + p) + r
head_push Before x p y q r h k = omega arith
head_push Same x p y q r h k = omega arith
head_push After x p y q r h k = omega arith

-- a vector with a direction of one more loop
pub place-push : (v : List Direction) (d : Direction) → place_of (v ++ d ∷ []) ≡ 3 * place_of v + digit d
place-push [] d = one_digit d ∙ omega arith
place-push (e ∷ v) d =
    let l : length (v ++ d ∷ []) ≡ suc (length v) = length_push v d ∙ omega arith in
    head_push e (3 ^ length v) (place_of v) (3 ^ length (v ++ d ∷ [])) (place_of (v ++ d ∷ [])) (digit d) (ap (λ (n : ℕ). 3 ^ n) l ∙ thrice (length v)) (place-push v d)

-- a place and the number of vectors, over one loop less
pub without_last : (n place : ℕ) → place < 3 ^ suc n → place / 3 < 3 ^ n
without_last n place h = let e = thrice n in omega arith

-- a vector's place is that of its front and its last direction
pub pushed : (v w : List Direction) (d : Direction) (place : ℕ) → w ≡ v ++ d ∷ [] → place_of v ≡ place / 3 → digit d ≡ place % 3 → place_of w ≡ place
pushed v w d place e f g = let p = place-push v d in ap place_of e ∙ p ∙ omega arith

-- a vector is its front and its last direction
pub last_split : (v : List Direction) → 0 < length v → v ≡ take (length v - 1) v ++ direction_at v (length v - 1) ∷ []
last_split v some =
    sym (take_all (length v) v (omega arith)) ∙ ap (λ (n : ℕ). take n v) (omega arith) ∙ take_more v (length v - 1) Same (omega arith)

-- the next place is that of the next direction of the last loop
pub stepped : (v front w : List Direction) (d e : Direction) → v ≡ front ++ d ∷ [] → w ≡ front ++ e ∷ [] → digit e ≡ digit d + 1 → place_of w ≡ place_of v + 1
stepped v front w d e is next up =
    let p = place-push front d in
    let q = place-push front e in
    let r = ap place_of is in
    let s = ap place_of next in
    omega arith

-- behind the last direction of the last loop, its first follows under the next front
pub carried : (v front next w : List Direction) → v ≡ front ++ After ∷ [] → w ≡ next ++ Before ∷ [] → (place_of front + 1 < 3 ^ length front → place_of next ≡ place_of front + 1) → place_of v + 1 < 3 ^ length v → place_of w ≡ place_of v + 1
carried v front next w is more step below =
    let p = place-push front After in
    let q = place-push next Before in
    let r = ap place_of is in
    let s = ap place_of more in
    let l : length v ≡ suc (length front) = ap length is ∙ length_push front After ∙ omega arith in
    let t = ap (λ (n : ℕ). 3 ^ n) l ∙ thrice (length front) in
    let n = step (omega arith) in
    omega arith

same_head : (d e : Direction) (x p q : ℕ) → p < x → q < x → digit d * x + p ≡ digit e * x + q → (d ≡ e) × (p ≡ q)
same_head Before Before x p q h k s = (refl, omega arith)
same_head Before Same x p q h k s = absurd (omega arith)
same_head Before After x p q h k s = absurd (omega arith)
same_head Same Before x p q h k s = absurd (omega arith)
same_head Same Same x p q h k s = (refl, omega arith)
same_head Same After x p q h k s = absurd (omega arith)
same_head After Before x p q h k s = absurd (omega arith)
same_head After Same x p q h k s = absurd (omega arith)
same_head After After x p q h k s = (refl, omega arith)

-- two vectors over as many loops have two places
pub place-same : (v w : List Direction) → length v ≡ length w → place_of v ≡ place_of w → v ≡ w
place-same [] [] l s = refl
place-same [] (e ∷ w) l s = absurd (omega arith)
place-same (d ∷ v) [] l s = absurd (omega arith)
place-same (d ∷ v) (e ∷ w) l s =
    let n : length v ≡ length w = omega arith in
    let x : 3 ^ length w ≡ 3 ^ length v = ap (λ (k : ℕ). 3 ^ k) (sym n) in
    let b = place_below w in
    let h = same_head d e (3 ^ length v) (place_of v) (place_of w) (place_below v) (omega arith) (s ∙ ap (λ (y : ℕ). digit e * y + place_of w) x) in
    λ i. h.0 i ∷ place-same v w n h.1 i

-- a vector over n loops at a place
pub record AtPlace (n place : ℕ) : Type 0 where
  pub vector : List Direction
  pub long : length vector ≡ n
  pub is : place_of vector ≡ place

begun : (d : Direction) (n place rest : ℕ) → digit d * 3 ^ n + rest ≡ place → AtPlace n rest → AtPlace (suc n) place
begun d n place rest e a = record {
  vector = d ∷ a.vector;
  long = ap suc a.long;
  is = ap (λ (k : ℕ). digit d * 3 ^ k + place_of a.vector) a.long ∙ ap (λ (p : ℕ). digit d * 3 ^ n + p) a.is ∙ e;
}

-- each place below their number is that of a vector
pub at_place : (n place : ℕ) → place < 3 ^ n → AtPlace n place
at_place zero place h = record { vector = []; long = refl; is = omega arith }
at_place (suc n) place h =
    let t = thrice n in
    elim (leb_tells (3 ^ n) place) [
      | inr (f, low) ↦ begun Before n place place (omega arith) (at_place n place low)
      | inl (f, up) ↦ elim (leb_tells (3 ^ n + 3 ^ n) place) [
        | inr (g, low) ↦ begun Same n place (place - 3 ^ n) (omega arith) (at_place n (place - 3 ^ n) (omega arith))
        | inl (g, high) ↦ begun After n place (place - (3 ^ n + 3 ^ n)) (omega arith) (at_place n (place - (3 ^ n + 3 ^ n)) (omega arith))
      ]
    ]

-- three lists of one length, one behind the other
module _ {X : Type 0} (xs ys zs : List X) (n : ℕ) (lx : length xs ≡ n) (ly : length ys ≡ n) (i : ℕ) (below : i < n) (d : X) where
  in_first : get_or (xs ++ ys ++ zs) i d ≡ get_or xs i d
  in_first = get_or_append_left (xs ++ ys) zs d i (let l = length-append xs ys in omega arith) ∙ get_or_append_left xs ys d i (omega arith)

  in_second : get_or (xs ++ ys ++ zs) (n + i) d ≡ get_or ys i d
  in_second =
      get_or_append_left (xs ++ ys) zs d (n + i) (let l = length-append xs ys in omega arith)
      ∙ get_or-append_right xs ys n (n + i) d lx (omega arith)
      ∙ ap (λ (k : ℕ). get_or ys k d) (omega arith)

  in_third : get_or (xs ++ ys ++ zs) (n + n + i) d ≡ get_or zs i d
  in_third =
      get_or-append_right (xs ++ ys) zs (n + n) (n + n + i) d (length-append xs ys ∙ omega arith) (omega arith)
      ∙ ap (λ (k : ℕ). get_or zs k d) (omega arith)

begins : Direction → List Direction → List Direction
begins d v = d ∷ v

-- there are 3^n vectors
pub length-all_vectors : (n : ℕ) → length (all_vectors n) ≡ 3 ^ n
length-all_vectors zero = refl
length-all_vectors (suc n) =
    let all = all_vectors n in
    let x = length-map all (λ v. Before ∷ v) in
    let y = length-map all (λ v. Same ∷ v) in
    let z = length-map all (λ v. After ∷ v) in
    let p = length-append (map (λ v. Before ∷ v) all) (map (λ v. Same ∷ v) all) in
    let q = length-append (map (λ v. Before ∷ v) all ++ map (λ v. Same ∷ v) all) (map (λ v. After ∷ v) all) in
    let e = length-all_vectors n in
    let t = thrice n in
    omega arith

-- a vector stands at its place among all
module _ (v e : List Direction) (at : get_or (all_vectors (length v)) (place_of v) [] ≡ v) where
  abbrev all : List (List Direction)
  all = all_vectors (length v)

  abbrev first : List (List Direction)
  first = map (λ w. Before ∷ w) all

  abbrev second : List (List Direction)
  second = map (λ w. Same ∷ w) all

  abbrev third : List (List Direction)
  third = map (λ w. After ∷ w) all

  long : (d : Direction) → length (map (λ w. d ∷ w) all) ≡ 3 ^ length v
  long d = length-map all (λ w. d ∷ w) ∙ length-all_vectors (length v)

  mapped : (d : Direction) → get_or (map (λ w. d ∷ w) all) (place_of v) e ≡ d ∷ v
  mapped d = get_or-map (λ w. d ∷ w) all (place_of v) [] e (let l = length-all_vectors (length v) in let b = place_below v in omega arith) ∙ ap (λ w. d ∷ w) at

  at_before : get_or (first ++ second ++ third) (0 * 3 ^ length v + place_of v) e ≡ Before ∷ v
  at_before = ap (λ (k : ℕ). get_or (first ++ second ++ third) k e) (omega arith) ∙ in_first first second third (3 ^ length v) (long Before) (long Same) (place_of v) (place_below v) e ∙ mapped Before

  at_same : get_or (first ++ second ++ third) (1 * 3 ^ length v + place_of v) e ≡ Same ∷ v
  at_same = ap (λ (k : ℕ). get_or (first ++ second ++ third) k e) (omega arith) ∙ in_second first second third (3 ^ length v) (long Before) (long Same) (place_of v) (place_below v) e ∙ mapped Same

  at_after : get_or (first ++ second ++ third) (2 * 3 ^ length v + place_of v) e ≡ After ∷ v
  at_after = ap (λ (k : ℕ). get_or (first ++ second ++ third) k e) (omega arith) ∙ in_third first second third (3 ^ length v) (long Before) (long Same) (place_of v) (place_below v) e ∙ mapped After

pub all_vectors_at : (v e : List Direction) → get_or (all_vectors (length v)) (place_of v) e ≡ v
all_vectors_at [] e = refl
all_vectors_at (Before ∷ v) e = at_before v e (all_vectors_at v [])
all_vectors_at (Same ∷ v) e = at_same v e (all_vectors_at v [])
all_vectors_at (After ∷ v) e = at_after v e (all_vectors_at v [])
