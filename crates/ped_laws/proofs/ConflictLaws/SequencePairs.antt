-- Lists of which each item stands in a relation to each later one.
use Rattle.std.proofs.Common.{List, [], ◌∷◌, ◌++◌, map, filter, cond, Bool, true, false, refl, inl, inr}
use Rattle.ped_laws.proofs.ActLaws.Lists.{in_middle}
use Rattle.ped_laws.proofs.RunLaws.Touches.{Each, each_none, each_more, each_append}

-- each item stands so to each later one
abbrev pub Pairwise : {X : Type 0} → (X → X → Type 0) → List X → Type 0
Pairwise R [] = Unit {0}
Pairwise R (x ∷ xs) = Each (R x) xs × Pairwise R xs

pub each_weaker : {X : Type 0} (P Q : X → Type 0) (xs : List X) → ((x : X) → P x → Q x) → Each P xs → Each Q xs
each_weaker P Q xs f h x i = f x (h x i)

pub pairwise_weaker : {X : Type 0} (R S : X → X → Type 0) (xs : List X) → ((x y : X) → R x y → S x y) → Pairwise R xs → Pairwise S xs
pairwise_weaker R S [] f h = tt
pairwise_weaker R S (x ∷ xs) f h = (each_weaker (R x) (S x) xs (f x) h.0, pairwise_weaker R S xs f h.1)

pub pairwise_append : {X : Type 0} (P Q : X → Type 0) (R : X → X → Type 0) (xs ys : List X) → ((x y : X) → P x → Q y → R x y) → Each P xs → Each Q ys → Pairwise R xs → Pairwise R ys → Pairwise R (xs ++ ys)
pairwise_append P Q R [] ys across h k r s = s
pairwise_append P Q R (x ∷ xs) ys across h k r s =
    (each_append (R x) xs ys r.0 (λ y i. across x y (h x (inl refl)) (k y i)), pairwise_append P Q R xs ys across (λ z i. h z (inr i)) k r.1 s)

-- what passes a test, in another form
module _ {X Y : Type 0} (q : X → Bool) (f : X → Y) where
  pub each_kept : (P : Y → Type 0) (xs : List X) → Each (λ x. P (f x)) xs → Each P (map f (filter q xs))
  each_kept P [] h = each_none P
  each_kept P (x ∷ xs) h = go (q x) (each_kept P xs (λ z i. h z (inr i)))
    where
      go : (b : Bool) → Each P (map f (filter q xs)) → Each P (map f (cond b (x ∷ filter q xs) (filter q xs)))
      go true more = each_more P (f x) (map f (filter q xs)) (h x (inl refl)) more
      go false more = more

  pub pairwise_kept : (R : Y → Y → Type 0) (xs : List X) → Pairwise (λ x y. R (f x) (f y)) xs → Pairwise R (map f (filter q xs))
  pairwise_kept R [] h = tt
  pairwise_kept R (x ∷ xs) h = go (q x) (pairwise_kept R xs h.1)
    where
      go : (b : Bool) → Pairwise R (map f (filter q xs)) → Pairwise R (map f (cond b (x ∷ filter q xs) (filter q xs)))
      go true more = (each_kept (R (f x)) xs h.0, more)
      go false more = more

-- two items of the list
pub pair_of : {X : Type 0} (R : X → X → Type 0) (front between back : List X) (a b : X) → Pairwise R (front ++ a ∷ (between ++ b ∷ back)) → R a b
pair_of R [] between back a b h = h.0 b (in_middle b b between back refl)
pair_of R (x ∷ front) between back a b h = pair_of R front between back a b h.1
