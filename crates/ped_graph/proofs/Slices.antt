-- Items at places of lists, and two tests that hold.
use Rattle.std.proofs.Common.{◌≡◌, ℕ, zero, suc, ◌<◌, ◌≤◌, List, [], ◌∷◌, ◌++◌, length, map, take, drop, Bool, true, false, ◌&&◌, Some, None, refl, ap, sym, ◌∙◌, subst, arith}
use Rattle.std.specs.Prelude.{◌≢◌, slice_get, slice_set, slice_index_or, AllPairs}
use Rattle.std.specs.List.{AllByRecursion}
use Rattle.ped_refs.proofs.Ascending.{Ascending}

-- at the place that was set
pub get_set_same : {X : Type 0} (xs : List X) (i : ℕ) (x : X) → i < length xs → slice_get (slice_set xs i x) i ≡ Some x
get_set_same [] i x h = absurd (omega (arith, h))
get_set_same (y ∷ xs) zero x h = refl
get_set_same (y ∷ xs) (suc i) x h = get_set_same xs i x (omega (arith, h))

-- at another place
pub get_set_other : {X : Type 0} (xs : List X) (i n : ℕ) (x : X) → i ≢ n → slice_get (slice_set xs i x) n ≡ slice_get xs n
get_set_other [] i n x h = refl
get_set_other (y ∷ xs) zero zero x h = absurd (h refl)
get_set_other (y ∷ xs) zero (suc n) x h = refl
get_set_other (y ∷ xs) (suc i) zero x h = refl
get_set_other (y ∷ xs) (suc i) (suc n) x h = get_set_other xs i n x (λ e. h (ap suc e))

pub length_set : {X : Type 0} (xs : List X) (i : ℕ) (x : X) → length (slice_set xs i x) ≡ length xs
length_set [] i x = refl
length_set (y ∷ xs) zero x = refl
length_set (y ∷ xs) (suc i) x = ap suc (length_set xs i x)

-- an item that is there
pub get_there : {X : Type 0} (xs : List X) (i : ℕ) (d : X) → i < length xs → slice_get xs i ≡ Some (slice_index_or xs i d)
get_there [] i d h = absurd (omega (arith, h))
get_there (x ∷ xs) zero d h = refl
get_there (x ∷ xs) (suc i) d h = get_there xs i d (omega (arith, h))

pub some_is : {X : Type 0} (x y : X) → Some x ≡ Some y → x ≡ y
some_is x y e = cc

-- lists with the same item at each place are the same
pub same_places : {X : Type 0} (xs ys : List X) → ((n : ℕ) → slice_get xs n ≡ slice_get ys n) → xs ≡ ys
same_places [] [] h = refl
same_places [] (y ∷ ys) h = let e : None ≡ Some y = h 0 in cc
same_places (x ∷ xs) [] h = let e : Some x ≡ None = h 0 in cc
same_places (x ∷ xs) (y ∷ ys) h =
    let first : x ≡ y = some_is x y (h 0) in
    let rest : xs ≡ ys = same_places xs ys (λ n. h (suc n)) in
    λ i. first i ∷ rest i

-- what all have, the item at a place has
pub at_place : {X : Type 0} (P : X → Type 0) (xs : List X) (n : ℕ) (x : X) → AllByRecursion P xs → slice_get xs n ≡ Some x → P x
at_place P [] n x h e = cc
at_place P (y ∷ xs) zero x h e = subst P (some_is y x e) h.0
at_place P (y ∷ xs) (suc n) x h e = at_place P xs n x h.1 e

-- what is so of each item at its place is so of all
pub by_places : {X : Type 0} (P : X → Type 0) (xs : List X) → ((n : ℕ) (x : X) → slice_get xs n ≡ Some x → P x) → AllByRecursion P xs
by_places P [] h = tt
by_places P (x ∷ xs) h = (h 0 x refl, by_places P xs (λ n y e. h (suc n) y e))

pub all_both : {X : Type 0} (P Q : X → Type 0) (xs : List X) → AllByRecursion P xs → AllByRecursion Q xs → AllByRecursion (λ x. P x × Q x) xs
all_both P Q [] h k = tt
all_both P Q (x ∷ xs) h k = ((h.0, k.0), all_both P Q xs h.1 k.1)

-- what is so of all places is so of one
read_place : {X : Type 0} (P : X → Type 0) (xs : List X) → ((i : ℕ) (d : X) → i < length xs → P (slice_index_or xs i d)) → (n : ℕ) (y : X) → slice_get xs n ≡ Some y → P y
read_place P [] h n y e = cc
read_place P (x ∷ xs) h zero y e = subst P (some_is x y e) (h 0 y (omega arith))
read_place P (x ∷ xs) h (suc n) y e = read_place P xs (λ i d below. h (suc i) d (omega (arith, below))) n y e

-- pairs of places, item by item
pub ascending_from_pairs : {X : Type 0} (R : X → X → Type 0) (xs : List X) → AllPairs R xs → Ascending R xs
ascending_from_pairs R [] h = tt
ascending_from_pairs R (x ∷ xs) h = (
  by_places (R x) xs (read_place (R x) xs (λ i d below. h 0 (suc i) d (omega arith) (omega (arith, below)))),
  ascending_from_pairs R xs (λ i j d less below. h (suc i) (suc j) d (omega (arith, less)) (omega (arith, below))),
)

-- an item of a list of what is made
pub mapped_there : {X Y : Type 0} (f : X → Y) (xs : List X) (n : ℕ) (y : Y) → slice_get (map f xs) n ≡ Some y → (x : X) × (slice_get xs n ≡ Some x) × (f x ≡ y)
mapped_there f [] n y e = cc
mapped_there f (x ∷ xs) zero y e = (x, refl, some_is (f x) y e)
mapped_there f (x ∷ xs) (suc n) y e = mapped_there f xs n y e

pub mapped_at : {X Y : Type 0} (f : X → Y) (xs : List X) (n : ℕ) (x : X) → slice_get xs n ≡ Some x → slice_get (map f xs) n ≡ Some (f x)
mapped_at f [] n x e = cc
mapped_at f (y ∷ xs) zero x e = ap (λ z. Some (f z)) (some_is y x e)
mapped_at f (y ∷ xs) (suc n) x e = mapped_at f xs n x e

-- one more item
pub map_more : {X Y : Type 0} (f : X → Y) (xs : List X) (x : X) → map f (xs ++ x ∷ []) ≡ map f xs ++ f x ∷ []
map_more f [] x = refl
map_more f (y ∷ xs) x = ap (λ (ys : List _). f y ∷ ys) (map_more f xs x)

-- nothing stands behind the last
pub none_past : {X : Type 0} (xs : List X) (n : ℕ) → length xs ≤ n → slice_get xs n ≡ None
none_past [] n h = refl
none_past (x ∷ xs) zero h = absurd (omega (arith, h))
none_past (x ∷ xs) (suc n) h = none_past xs n (omega (arith, h))

pub within : {X : Type 0} (xs : List X) (n : ℕ) (x : X) → slice_get xs n ≡ Some x → n < length xs
within [] n x e = cc
within (y ∷ xs) zero x e = omega arith
within (y ∷ xs) (suc n) x e = let rest = within xs n x e in omega (arith, rest)

pub past : {X : Type 0} (xs : List X) (n : ℕ) → slice_get xs n ≡ None → length xs ≤ n
past [] n e = omega arith
past (x ∷ xs) zero e = cc
past (x ∷ xs) (suc n) e = let rest = past xs n e in omega (arith, rest)

pub length_mapped : {X Y : Type 0} (f : X → Y) (xs : List X) → length (map f xs) ≡ length xs
length_mapped f [] = refl
length_mapped f (x ∷ xs) = ap suc (length_mapped f xs)

-- an item at a place that is there
pub item_there : {X : Type 0} (xs : List X) (n : ℕ) (x : X) → x ≡ slice_index_or xs n x → n < length xs → slice_get xs n ≡ Some x
item_there xs n x e below = get_there xs n x below ∙ ap Some (sym e)

-- the items before a place are made, and the next one is made, too
pub set_mapped : {X : Type 0} (f : X → X) (xs : List X) (i : ℕ) (x : X) → slice_get xs i ≡ Some x → slice_set (map f (take i xs) ++ drop i xs) i (f x) ≡ map f (take (suc i) xs) ++ drop (suc i) xs
set_mapped f [] i x e = cc
set_mapped f (y ∷ xs) zero x e = ap (λ z. f z ∷ xs) (sym (some_is y x e))
set_mapped f (y ∷ xs) (suc i) x e = ap (λ zs. f y ∷ zs) (set_mapped f xs i x e)

pub next_unmapped : {X : Type 0} (f : X → X) (xs : List X) (i : ℕ) → slice_get (map f (take i xs) ++ drop i xs) i ≡ slice_get xs i
next_unmapped f [] zero = refl
next_unmapped f [] (suc i) = refl
next_unmapped f (y ∷ xs) zero = refl
next_unmapped f (y ∷ xs) (suc i) = next_unmapped f xs i

pub all_mapped_past : {X : Type 0} (f : X → X) (xs : List X) (i : ℕ) → length xs ≤ i → map f (take i xs) ++ drop i xs ≡ map f xs
all_mapped_past f [] zero h = refl
all_mapped_past f [] (suc i) h = refl
all_mapped_past f (y ∷ xs) zero h = absurd (omega (arith, h))
all_mapped_past f (y ∷ xs) (suc i) h = ap (λ zs. f y ∷ zs) (all_mapped_past f xs i (omega (arith, h)))

pub length_half : {X : Type 0} (f : X → X) (xs : List X) (i : ℕ) → length (map f (take i xs) ++ drop i xs) ≡ length xs
length_half f [] zero = refl
length_half f [] (suc i) = refl
length_half f (y ∷ xs) zero = refl
length_half f (y ∷ xs) (suc i) = ap suc (length_half f xs i)

all_front : {X : Type 0} (xs rest : List X) → take (length xs) (xs ++ rest) ≡ xs
all_front [] [] = refl
all_front [] (y ∷ rest) = refl
all_front (x ∷ xs) rest = ap (λ ys. x ∷ ys) (all_front xs rest)

-- the front of joined lists
pub front_is : {X : Type 0} (n : ℕ) (xs rest : List X) → n ≡ length xs → take n (xs ++ rest) ≡ xs
front_is n xs rest e = ap (λ m. take m (xs ++ rest)) e ∙ all_front xs rest

-- both tests hold
pub both_hold : (a b : Bool) → (a && b) ≡ true → (a ≡ true) × (b ≡ true)
both_hold true b e = (refl, e)
both_hold false b e = cc
