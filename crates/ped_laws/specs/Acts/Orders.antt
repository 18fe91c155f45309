-- Lists that hold the same items in another order (plain words; this project).
use Rattle.std.specs.Prelude.{◌≡◌, ℕ, ◌+◌, ◌<◌, List, [], ◌∷◌, ◌++◌, map, Bool, true, false, ◌⊎◌}
use Rattle.ped_eval.specs.ped_store.specs.Cells.{Cell}
use Rattle.ped_eval.specs.ped_store.specs.Acts.{Act}
use Rattle.ped_laws.specs.Acts.Conflicts.{acts_conflict_outside, blocks_conflict_outside}

-- x is an item of the list (plain words)
abbrev pub IsIn : {X : Type 0} → X → List X → Type 0
IsIn x [] = ⊥
IsIn x (y ∷ ys) = (x ≡ y) ⊎ IsIn x ys

-- x is somewhere before y in the list (plain words)
abbrev pub StandsBefore : {X : Type 0} → X → X → List X → Type 0
StandsBefore x y [] = ⊥
StandsBefore x y (z ∷ zs) = ((x ≡ z) × IsIn y zs) ⊎ StandsBefore x y zs

-- no item is in the list twice (plain words)
abbrev pub EachOnce : {X : Type 0} → List X → Type 0
EachOnce xs = (x : _) → StandsBefore x x xs → ⊥

-- the two lists hold the same items (plain words)
pub record HaveSameItems {X : Type 0} (xs ys : List X) : Type 0 where
  pub none_lost : (x : X) → IsIn x xs → IsIn x ys
  pub none_added : (x : X) → IsIn x ys → IsIn x xs

-- the second list holds each item of the first once, and no other (plain words)
pub record IsReordered {X : Type 0} (xs ys : List X) : Type 0 where
  pub once : EachOnce ys
  pub same : HaveSameItems xs ys

-- two items that clash are in the same order in both lists: each dependence is kept (Allen and Kennedy, section 2.2.3)
abbrev pub KeepsOrder : {X : Type 0} → (X → X → Bool) → List X → List X → Type 0
KeepsOrder clash xs ys = (x y : _) → StandsBefore x y xs → clash x y ≡ true → StandsBefore x y ys

-- an act with its number in a list (this project)
pub record Numbered : Type 0 where
  pub number : ℕ
  pub act : Act

-- acts numbered in order, the first with this number (plain words)
abbrev pub number_from : ℕ → List Act → List Numbered
number_from k [] = []
number_from k (a ∷ acts) = record { number = k; act = a } ∷ number_from (k + 1) acts

-- numbered acts without their numbers (plain words)
abbrev pub acts_in : List Numbered → List Act
acts_in xs = map (λ x. x.act) xs

-- two numbered acts conflict on a cell outside the set (plain words)
abbrev pub numbered_conflict : (Cell → Bool) → Numbered → Numbered → Bool
numbered_conflict d x y = acts_conflict_outside d x.act y.act

-- a list is in the order of a key, and where the key is the same in the order of the numbers (plain words)
abbrev pub IsSortedBy : (Numbered → ℕ) → List Numbered → Type 0
IsSortedBy key xs = (x y : Numbered) → StandsBefore x y xs → (key x < key y) ⊎ ((key x ≡ key y) × (x.number < y.number))

-- blocks of acts, one after the other (plain words)
abbrev pub acts_in_all : List (List Act) → List Act
acts_in_all [] = []
acts_in_all (b ∷ bs) = b ++ acts_in_all bs

-- no two blocks conflict on a cell outside the set (plain words)
abbrev pub AreApart : (Cell → Bool) → List (List Act) → Type 0
AreApart d bs = (x y : List Act) → StandsBefore x y bs → blocks_conflict_outside d x y ≡ false

-- a block of acts with two numbers, as those of the iterations of an outer and of an inner loop in which it is done (this project)
pub record Block : Type 0 where
  pub outer : ℕ
  pub inner : ℕ
  pub acts : List Act

-- the acts of numbered blocks, one block after the other (plain words)
abbrev pub acts_in_blocks : List Block → List Act
acts_in_blocks [] = []
acts_in_blocks (b ∷ bs) = b.acts ++ acts_in_blocks bs

-- two blocks conflict on a cell outside the set (plain words)
abbrev pub block_conflict : (Cell → Bool) → Block → Block → Bool
block_conflict d x y = blocks_conflict_outside d x.acts y.acts

-- blocks are ordered by the outer number, and those of one outer number by the inner (plain words)
abbrev pub IsByRows : List Block → Type 0
IsByRows bs = (x y : Block) → StandsBefore x y bs → (x.outer < y.outer) ⊎ ((x.outer ≡ y.outer) × (x.inner < y.inner))

-- blocks are ordered by the inner number, and those of one inner number by the outer (plain words)
abbrev pub IsByColumns : List Block → Type 0
IsByColumns bs = (x y : Block) → StandsBefore x y bs → (x.inner < y.inner) ⊎ ((x.inner ≡ y.inner) × (x.outer < y.outer))

-- no block conflicts on a cell outside the set with one of a greater outer and a lesser inner number: no dependence has the directions (<,>) (Allen and Kennedy, section 5.2)
abbrev pub NoneCrosses : (Cell → Bool) → List Block → Type 0
NoneCrosses d bs = (x y : Block) → IsIn x bs → IsIn y bs → x.outer < y.outer → y.inner < x.inner → block_conflict d x y ≡ false
