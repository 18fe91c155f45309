-- Tests that run through a short list.
use Rattle.std.proofs.Common.{◌≡◌, ℕ, ◌<◌, List, [], ◌∷◌, Bool, true, false, ◌&&◌, ◌||◌, eqb, eqb-true, refl, ap, ◌∙◌, ◌⊎◌, inl, inr}
use Rattle.std.specs.Prelude.{nat_lt, not}
use Rattle.std.specs.List.{list_all}
use Rattle.std.proofs.lemmas.Bool.{and_parts, ltb-true, lt-ltb}
use Rattle.ped_laws.specs.ped_store.specs.Cells.{Cell}
use Rattle.ped_laws.specs.Acts.Orders.{IsIn, StandsBefore, Numbered, IsSortedBy, Block, block_conflict, IsByRows, IsByColumns, NoneCrosses}
use Rattle.ped_laws.proofs.ActLaws.Renamings.{or_either}

-- each item passes
pub in_passes : {X : Type 0} (test : X → Bool) (xs : List X) → list_all test xs ≡ true → (x : X) → IsIn x xs → test x ≡ true
in_passes test [] h x i = absurd i
in_passes test (y ∷ ys) h x (inl e) = ap test e ∙ (and_parts (test y) (list_all test ys) h).0
in_passes test (y ∷ ys) h x (inr i) = in_passes test ys (and_parts (test y) (list_all test ys) h).1 x i

-- each two items pass, in their order
abbrev pub all_before : {X : Type 0} → (X → X → Bool) → List X → Bool
all_before test [] = true
all_before test (x ∷ xs) = list_all (test x) xs && all_before test xs

pub before_passes : {X : Type 0} (test : X → X → Bool) (xs : List X) → all_before test xs ≡ true → (x y : X) → StandsBefore x y xs → test x y ≡ true
before_passes test [] h x y b = absurd b
before_passes test (z ∷ zs) h x y (inl p) = ap (λ w. test w y) p.0 ∙ in_passes (test z) zs (and_parts (list_all (test z) zs) (all_before test zs) h).0 y p.1
before_passes test (z ∷ zs) h x y (inr b) = before_passes test zs (and_parts (list_all (test z) zs) (all_before test zs) h).1 x y b

abbrev pub lesser : ℕ → ℕ → ℕ → ℕ → Bool
lesser m n k l = nat_lt m n || (eqb m n && nat_lt k l)

lesser_is : (m n k l : ℕ) → lesser m n k l ≡ true → (m < n) ⊎ ((m ≡ n) × (k < l))
lesser_is m n k l h = elim (or_either (nat_lt m n) (eqb m n && nat_lt k l) h) [
  | inl p ↦ inl (ltb-true m n p)
  | inr q ↦ let r = and_parts (eqb m n) (nat_lt k l) q in inr (eqb-true m n r.0, ltb-true k l r.1)
]

pub by_rows : (bs : List Block) → all_before (λ x y. lesser x.outer y.outer x.inner y.inner) bs ≡ true → IsByRows bs
by_rows bs h x y b = lesser_is x.outer y.outer x.inner y.inner (before_passes (λ x y. lesser x.outer y.outer x.inner y.inner) bs h x y b)

pub by_columns : (bs : List Block) → all_before (λ x y. lesser x.inner y.inner x.outer y.outer) bs ≡ true → IsByColumns bs
by_columns bs h x y b = lesser_is x.inner y.inner x.outer y.outer (before_passes (λ x y. lesser x.inner y.inner x.outer y.outer) bs h x y b)

pub sorted_by : (key : Numbered → ℕ) (xs : List Numbered) → all_before (λ x y. lesser (key x) (key y) x.number y.number) xs ≡ true → IsSortedBy key xs
sorted_by key xs h x y b = lesser_is (key x) (key y) x.number y.number (before_passes (λ x y. lesser (key x) (key y) x.number y.number) xs h x y b)

pub not_is : (b : Bool) → not b ≡ true → b ≡ false
not_is true h = absurd cc
not_is false h = refl

pub is_not : (b : Bool) → not b ≡ false → b ≡ true
is_not true h = refl
is_not false h = absurd cc

pub implied : (p q : Bool) → not p || q ≡ true → p ≡ true → q ≡ true
implied true q h k = h
implied false q h k = absurd cc

abbrev pub crosses_not : (Cell → Bool) → Block → Block → Bool
crosses_not d x y = not (nat_lt x.outer y.outer && nat_lt y.inner x.inner) || not (block_conflict d x y)

-- no block conflicts with one of a greater outer and a lesser inner number
pub none_crosses : (d : Cell → Bool) (bs : List Block) → list_all (λ x. list_all (crosses_not d x) bs) bs ≡ true → NoneCrosses d bs
none_crosses d bs h x y i j o n =
    let k = in_passes (crosses_not d x) bs (in_passes (λ x. list_all (crosses_not d x) bs) bs h x i) y j in
    let c : nat_lt x.outer y.outer && nat_lt y.inner x.inner ≡ true = ap (λ z. z && nat_lt y.inner x.inner) (lt-ltb x.outer y.outer o) ∙ lt-ltb y.inner x.inner n in
    not_is (block_conflict d x y) (implied (nat_lt x.outer y.outer && nat_lt y.inner x.inner) (not (block_conflict d x y)) k c)

-- the items of four in two orders
pub four_lost : {X : Type 0} (p q r s x : X) → IsIn x (p ∷ q ∷ r ∷ s ∷ []) → IsIn x (p ∷ r ∷ q ∷ s ∷ [])
four_lost p q r s x (inl e) = inl e
four_lost p q r s x (inr (inl e)) = inr (inr (inl e))
four_lost p q r s x (inr (inr (inl e))) = inr (inl e)
four_lost p q r s x (inr (inr (inr i))) = inr (inr (inr i))
