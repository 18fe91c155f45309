-- Blocks by rows and by columns are the same, in their orders.
use Rattle.std.proofs.Common.{◌≡◌, ℕ, ◌<◌, List, [], ◌∷◌, map, Bool, true, false, refl, sym, ap, subst, ◌∙◌, arith, ◌⊎◌, inl, inr}
use Rattle.std.specs.List.{filter, flat_map}
use Rattle.ped_eval.specs.ped_store.specs.Cells.{Cell}
use Rattle.ped_eval.specs.ped_store.specs.Acts.{Act}
use Rattle.ped_laws.specs.Acts.Conflicts.{blocks_conflict_outside}
use Rattle.ped_laws.specs.Acts.Orders.{IsIn, StandsBefore, HaveSameItems, Block, block_conflict, IsByRows, IsByColumns, NoneCrosses}
use Rattle.ped_laws.specs.Acts.Grids.{IsRising, block_at, by_rows, by_columns}
use Rattle.ped_laws.proofs.ActLaws.Lists.{in_left, in_right, in_parts, before_parts}

kept_first : {X : Type 0} (p : X → Bool) (x : X) (xs : List X) → p x ≡ true → filter p (x ∷ xs) ≡ x ∷ filter p xs
kept_first p x xs h = rw h refl

dropped_first : {X : Type 0} (p : X → Bool) (x : X) (xs : List X) → p x ≡ false → filter p (x ∷ xs) ≡ filter p xs
dropped_first p x xs h = rw h refl

-- items that pass
in_filter : {X : Type 0} (p : X → Bool) (xs : List X) (x : X) → IsIn x xs → p x ≡ true → IsIn x (filter p xs)
in_filter p [] x i h = absurd i
in_filter p (y ∷ ys) x (inl e) h = subst (IsIn x) (sym (kept_first p y ys (ap p (sym e) ∙ h))) (inl e)
in_filter p (y ∷ ys) x (inr i) h = go (in_filter p ys x i h) (p y) refl
  where
    go : IsIn x (filter p ys) → (b : Bool) → p y ≡ b → IsIn x (filter p (y ∷ ys))
    go more true q = subst (IsIn x) (sym (kept_first p y ys q)) (inr more)
    go more false q = subst (IsIn x) (sym (dropped_first p y ys q)) more

from_filter : {X : Type 0} (p : X → Bool) (xs : List X) (x : X) → IsIn x (filter p xs) → IsIn x xs × (p x ≡ true)
from_filter p [] x i = absurd i
from_filter p (y ∷ ys) x i = go (from_filter p ys x) (p y) refl
  where
    go : (IsIn x (filter p ys) → IsIn x ys × (p x ≡ true)) → (b : Bool) → p y ≡ b → IsIn x (y ∷ ys) × (p x ≡ true)
    go more true q = elim (subst (IsIn x) (kept_first p y ys q) i) [
      | inl e ↦ (inl e, ap p e ∙ q)
      | inr k ↦ let r = more k in (inr r.0, r.1)
    ]
    go more false q = let r = more (subst (IsIn x) (dropped_first p y ys q) i) in (inr r.0, r.1)

before_filter : {X : Type 0} (p : X → Bool) (xs : List X) (x y : X) → StandsBefore x y (filter p xs) → StandsBefore x y xs
before_filter p [] x y b = absurd b
before_filter p (z ∷ zs) x y b = go (before_filter p zs x y) (p z) refl
  where
    go : (StandsBefore x y (filter p zs) → StandsBefore x y zs) → (b : Bool) → p z ≡ b → StandsBefore x y (z ∷ zs)
    go more true q = elim (subst (StandsBefore x y) (kept_first p z zs q) b) [
      | inl k ↦ inl (k.0, (from_filter p zs y k.1).0)
      | inr k ↦ inr (more k)
    ]
    go more false q = inr (more (subst (StandsBefore x y) (dropped_first p z zs q) b))

-- images of items
in_map : {X Y : Type 0} (f : X → Y) (xs : List X) (x : X) → IsIn x xs → IsIn (f x) (map f xs)
in_map f [] x i = absurd i
in_map f (y ∷ ys) x (inl e) = inl (ap f e)
in_map f (y ∷ ys) x (inr i) = inr (in_map f ys x i)

from_map : {X Y : Type 0} (f : X → Y) (xs : List X) (y : Y) → IsIn y (map f xs) → (x : X) × IsIn x xs × (y ≡ f x)
from_map f [] y i = absurd i
from_map f (x ∷ xs) y (inl e) = (x, inl refl, e)
from_map f (x ∷ xs) y (inr i) = let r = from_map f xs y i in (r.0, inr r.1, r.2)

before_map : {X Y : Type 0} (f : X → Y) (xs : List X) (y z : Y) → StandsBefore y z (map f xs) → (v w : X) × StandsBefore v w xs × (y ≡ f v) × (z ≡ f w)
before_map f [] y z b = absurd b
before_map f (x ∷ xs) y z (inl p) = let r = from_map f xs z p.1 in (x, r.0, inl (refl, r.1), p.0, r.2)
before_map f (x ∷ xs) y z (inr b) = let r = before_map f xs y z b in (r.0, r.1, inr r.2, r.3, r.4)

-- lists of items
in_flat : {X Y : Type 0} (f : X → List Y) (xs : List X) (x : X) (y : Y) → IsIn x xs → IsIn y (f x) → IsIn y (flat_map f xs)
in_flat f [] x y i j = absurd i
in_flat f (z ∷ zs) x y (inl e) j = in_left y (f z) (flat_map f zs) (subst (λ w. IsIn y (f w)) e j)
in_flat f (z ∷ zs) x y (inr i) j = in_right y (f z) (flat_map f zs) (in_flat f zs x y i j)

from_flat : {X Y : Type 0} (f : X → List Y) (xs : List X) (y : Y) → IsIn y (flat_map f xs) → (x : X) × IsIn x xs × IsIn y (f x)
from_flat f [] y i = absurd i
from_flat f (x ∷ xs) y i = elim (in_parts y (f x) (flat_map f xs) i) [
  | inl j ↦ (x, inl refl, j)
  | inr j ↦ let r = from_flat f xs y j in (r.0, inr r.1, r.2)
]

before_flat : {X Y : Type 0} (f : X → List Y) (xs : List X) (y z : Y) → StandsBefore y z (flat_map f xs) → ((x : X) × StandsBefore y z (f x)) ⊎ ((v w : X) × StandsBefore v w xs × IsIn y (f v) × IsIn z (f w))
before_flat f [] y z b = absurd b
before_flat f (x ∷ xs) y z b = elim (before_parts y z (f x) (flat_map f xs) b) [
  | inl c ↦ inl (x, c)
  | inr q ↦ elim q [
    | inl p ↦ let r = from_flat f xs z p.1 in inr (x, r.0, inl (refl, r.1), p.0, r.2)
    | inr c ↦ elim (before_flat f xs y z c) [
      | inl r ↦ inl r
      | inr r ↦ inr (r.0, r.1, inr r.2, r.3, r.4)
    ]
  ]
]

-- a block of the rows is one of the columns, and the other way round
row_items : (done : ℕ → ℕ → Bool) (acts : ℕ → ℕ → List Act) (outer inner : List ℕ) (b : Block) → IsIn b (by_rows done acts outer inner) → (i j : ℕ) × IsIn i outer × IsIn j inner × (done i j ≡ true) × (b ≡ block_at acts i j)
row_items done acts outer inner b k =
    let r = from_flat (λ i. map (block_at acts i) (filter (done i) inner)) outer b k in
    let m = from_map (block_at acts r.0) (filter (done r.0) inner) b r.2 in
    let p = from_filter (done r.0) inner m.0 m.1 in
    (r.0, m.0, r.1, p.0, p.1, m.2)

column_items : (done : ℕ → ℕ → Bool) (acts : ℕ → ℕ → List Act) (outer inner : List ℕ) (b : Block) → IsIn b (by_columns done acts outer inner) → (i j : ℕ) × IsIn i outer × IsIn j inner × (done i j ≡ true) × (b ≡ block_at acts i j)
column_items done acts outer inner b k =
    let r = from_flat (λ j. map (λ i. block_at acts i j) (filter (λ i. done i j) outer)) inner b k in
    let m = from_map (λ i. block_at acts i r.0) (filter (λ i. done i r.0) outer) b r.2 in
    let p = from_filter (λ i. done i r.0) outer m.0 m.1 in
    (m.0, r.0, p.0, r.1, p.1, m.2)

in_rows : (done : ℕ → ℕ → Bool) (acts : ℕ → ℕ → List Act) (outer inner : List ℕ) (i j : ℕ) → IsIn i outer → IsIn j inner → done i j ≡ true → IsIn (block_at acts i j) (by_rows done acts outer inner)
in_rows done acts outer inner i j k l h =
    in_flat (λ i. map (block_at acts i) (filter (done i) inner)) outer i (block_at acts i j) k (in_map (block_at acts i) (filter (done i) inner) j (in_filter (done i) inner j l h))

in_columns : (done : ℕ → ℕ → Bool) (acts : ℕ → ℕ → List Act) (outer inner : List ℕ) (i j : ℕ) → IsIn i outer → IsIn j inner → done i j ≡ true → IsIn (block_at acts i j) (by_columns done acts outer inner)
in_columns done acts outer inner i j k l h =
    in_flat (λ j. map (λ i. block_at acts i j) (filter (λ i. done i j) outer)) inner j (block_at acts i j) l
    (in_map (λ i. block_at acts i j) (filter (λ i. done i j) outer) i (in_filter (λ i. done i j) outer i k h))

pub same_blocks : (done : ℕ → ℕ → Bool) (acts : ℕ → ℕ → List Act) (outer inner : List ℕ) → HaveSameItems (by_rows done acts outer inner) (by_columns done acts outer inner)
same_blocks done acts outer inner = record {
  none_lost = λ b k. let r = row_items done acts outer inner b k in subst (λ z. IsIn z (by_columns done acts outer inner)) (sym r.5) (in_columns done acts outer inner r.0 r.1 r.2 r.3 r.4);
  none_added = λ b k. let r = column_items done acts outer inner b k in subst (λ z. IsIn z (by_rows done acts outer inner)) (sym r.5) (in_rows done acts outer inner r.0 r.1 r.2 r.3 r.4);
}

-- the numbers of a block
outer_is : (x y : Block) → x ≡ y → x.outer ≡ y.outer
outer_is x y e = ap (λ (z : Block). z.outer) e

inner_is : (x y : Block) → x ≡ y → x.inner ≡ y.inner
inner_is x y e = ap (λ (z : Block). z.inner) e

moved_less : (m n k l : ℕ) → m ≡ k → n ≡ l → k < l → m < n
moved_less m n k l e f h = omega (arith, e, f, h)

-- rows stand by rows
pub rows_stand : (done : ℕ → ℕ → Bool) (acts : ℕ → ℕ → List Act) (outer inner : List ℕ) → IsRising outer → IsRising inner → IsByRows (by_rows done acts outer inner)
rows_stand done acts outer inner rise_outer rise_inner x y b = elim (before_flat (λ i. map (block_at acts i) (filter (done i) inner)) outer x y b) [
  | inl r ↦
      let m = before_map (block_at acts r.0) (filter (done r.0) inner) x y r.1 in
      let less = rise_inner m.0 m.1 (before_filter (done r.0) inner m.0 m.1 m.2) in
      inr (outer_is x (block_at acts r.0 m.0) m.3 ∙ sym (outer_is y (block_at acts r.0 m.1) m.4), moved_less x.inner y.inner m.0 m.1 (inner_is x (block_at acts r.0 m.0) m.3) (inner_is y (block_at acts r.0 m.1) m.4) less)
  | inr r ↦
      let p = from_map (block_at acts r.0) (filter (done r.0) inner) x r.3 in
      let q = from_map (block_at acts r.1) (filter (done r.1) inner) y r.4 in
      inl (moved_less x.outer y.outer r.0 r.1 (outer_is x (block_at acts r.0 p.0) p.2) (outer_is y (block_at acts r.1 q.0) q.2) (rise_outer r.0 r.1 r.2))
]

-- columns stand by columns
pub columns_stand : (done : ℕ → ℕ → Bool) (acts : ℕ → ℕ → List Act) (outer inner : List ℕ) → IsRising outer → IsRising inner → IsByColumns (by_columns done acts outer inner)
columns_stand done acts outer inner rise_outer rise_inner x y b = elim (before_flat (λ j. map (λ i. block_at acts i j) (filter (λ i. done i j) outer)) inner x y b) [
  | inl r ↦
      let m = before_map (λ i. block_at acts i r.0) (filter (λ i. done i r.0) outer) x y r.1 in
      let less = rise_outer m.0 m.1 (before_filter (λ i. done i r.0) outer m.0 m.1 m.2) in
      inr (inner_is x (block_at acts m.0 r.0) m.3 ∙ sym (inner_is y (block_at acts m.1 r.0) m.4), moved_less x.outer y.outer m.0 m.1 (outer_is x (block_at acts m.0 r.0) m.3) (outer_is y (block_at acts m.1 r.0) m.4) less)
  | inr r ↦
      let p = from_map (λ i. block_at acts i r.0) (filter (λ i. done i r.0) outer) x r.3 in
      let q = from_map (λ i. block_at acts i r.1) (filter (λ i. done i r.1) outer) y r.4 in
      inl (moved_less x.inner y.inner r.0 r.1 (inner_is x (block_at acts p.0 r.0) p.2) (inner_is y (block_at acts q.0 r.1) q.2) (rise_inner r.0 r.1 r.2))
]

-- none crosses where no two iterations do
pub rows_cross_not : (d : Cell → Bool) (done : ℕ → ℕ → Bool) (acts : ℕ → ℕ → List Act) (outer inner : List ℕ)
    → ((i j k l : ℕ) → IsIn i outer → IsIn j inner → IsIn k outer → IsIn l inner → done i j ≡ true → done k l ≡ true → i < k → l < j → blocks_conflict_outside d (acts i j) (acts k l) ≡ false) → NoneCrosses d (by_rows done acts outer inner)
rows_cross_not d done acts outer inner none x y i j o n =
    let p = row_items done acts outer inner x i in
    let q = row_items done acts outer inner y j in
    let x_is : block_at acts p.0 p.1 ≡ x = sym p.5 in
    let y_is : block_at acts q.0 q.1 ≡ y = sym q.5 in
    let less = moved_less p.0 q.0 x.outer y.outer (outer_is (block_at acts p.0 p.1) x x_is) (outer_is (block_at acts q.0 q.1) y y_is) o in
    let more = moved_less q.1 p.1 y.inner x.inner (inner_is (block_at acts q.0 q.1) y y_is) (inner_is (block_at acts p.0 p.1) x x_is) n in
    (λ z. block_conflict d (p.5 z) (q.5 z)) ∙ none p.0 p.1 q.0 q.1 p.2 p.3 q.2 q.3 p.4 q.4 less more
