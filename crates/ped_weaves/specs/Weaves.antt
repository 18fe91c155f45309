-- Lists of acts woven of blocks and of acts of control, as the bodies of loops and the entries and ends of these loops: blocks are in another order on other cells, and other controls are between them (this project).
use Rattle.std.specs.Prelude.{◌≡◌, ℕ, ◌≤◌, List, [], ◌∷◌, ◌++◌, map, Bool, true, false}
use Rattle.std.specs.List.{range_with_len}
use Rattle.ped_laws.specs.ped_store.specs.Cells.{Cell}
use Rattle.ped_laws.specs.ped_store.specs.Stores.{Store}
use Rattle.ped_laws.specs.ped_store.specs.Acts.{reads, Touch, Act}
use Rattle.ped_laws.specs.Acts.Fitting.{touches_of}
use Rattle.ped_laws.specs.Acts.Sets.{needs, written}
use Rattle.ped_laws.specs.Acts.Conflicts.{without, ReadNone, WriteWithin}
use Rattle.ped_laws.specs.Acts.Orders.{IsIn, EachOnce, IsReordered, KeepsOrder, Block, acts_in_blocks, block_conflict}
use Rattle.ped_laws.specs.Acts.Grids.{block_at}
use Rattle.ped_laws.specs.Acts.Renaming.{Renamed, touch, IsOneToOne, IsFree}
use Rattle.ped_weaves.specs.Puttings.{Suit}

-- what a list is woven of: a block, as the body in an iteration of an outer and one of an inner loop, by its two numbers; or acts of control, as the entry of a loop or the end of an iteration (this project)
pub data Knot : Type 0 where
  block : ℕ → ℕ → Knot
  control : List Act → Knot

-- the acts of a list that is woven so, where the blocks have these acts (plain words)
abbrev pub knotted : (ℕ → ℕ → List Act) → List Knot → List Act
knotted acts [] = []
knotted acts (block i j ∷ ks) = acts i j ++ knotted acts ks
knotted acts (control c ∷ ks) = c ++ knotted acts ks

-- the blocks alone (plain words)
abbrev pub blocks_in : (ℕ → ℕ → List Act) → List Knot → List Block
blocks_in acts [] = []
blocks_in acts (block i j ∷ ks) = block_at acts i j ∷ blocks_in acts ks
blocks_in acts (control c ∷ ks) = blocks_in acts ks

-- how a list is woven anew: the new names of cells; the cells that count for nothing, as the variables of the loops; what the old and the new list are woven of; the acts of the old blocks, and those of the new ones (this project)
pub record Weave : Type 0 where
  pub names : Cell → Cell
  pub idle : Cell → Bool
  pub old : List Knot
  pub new : List Knot
  pub acts : ℕ → ℕ → List Act
  pub others : ℕ → ℕ → List Act

-- the old list (plain words)
abbrev pub old_list : Weave → List Act
old_list w = knotted w.acts w.old

-- the new list (plain words)
abbrev pub new_list : Weave → List Act
new_list w = knotted w.others w.new

-- what counts of the old list: its blocks, without their writes to idle cells (this project)
abbrev pub counted : Weave → List Act
counted w = without w.idle (acts_in_blocks (blocks_in w.acts w.old))

-- controls write idle cells alone (this project)
abbrev pub ControlWithin : (Cell → Bool) → List Knot → Type 0
ControlWithin idle ks = (c : List Act) → IsIn (control c) ks → WriteWithin idle (touches_of c)

-- what a new control reads is there all the time: the store at the start holds it, in a cell that isn't idle, on which the stores agree, and into which no cell that counts is renamed where it is written (this project)
pub record IsSteady (w : Weave) (before : Cell → Bool) (s : Store) (x : Touch) : Type 0 where
  pub held : s x.cell ≡ x.content
  pub agreed : before x.cell ≡ true
  pub counts : w.idle x.cell ≡ false
  pub unwritten : (c : Cell) → written (counted w) c ≡ true → w.names c ≡ x.cell → ⊥

-- a list may be woven anew so, which is done from the store s, where the stores agree on the one set before it and shall agree on the other after it: controls write idle cells alone, and new ones read what is steady; blocks read no idle cell, and the new ones do the same on renamed cells, but for writes to idle cells; names of cells that count are one to one, and none is that of an idle cell; blocks that conflict on cells which count keep their order; and what is needed before the list, or wanted after it, keeps its name (this project)
pub record IsWoven (w : Weave) (before behind : Cell → Bool) (s : Store) : Type 0 where
  pub controls : ControlWithin w.idle w.old
  pub new_controls : ControlWithin w.idle w.new
  pub steady : (c : List Act) (x : Touch) → IsIn (control c) w.new → IsIn x (touches_of c) → x.manner ≡ reads → IsSteady w before s x
  pub unread : (i j : ℕ) → IsIn (block i j) w.old → ReadNone w.idle (w.acts i j)
  pub renamed : (i j : ℕ) → IsIn (block i j) w.old → Renamed w.names (without w.idle (w.acts i j)) (without w.idle (w.others i j))
  pub one_to_one : IsOneToOne w.names (counted w)
  pub idle_names : (c : Cell) → touch (counted w) c ≡ true → w.idle (w.names c) ≡ false
  pub once : EachOnce (blocks_in w.acts w.old)
  pub reordered : IsReordered (blocks_in w.acts w.old) (blocks_in w.acts w.new)
  pub kept : KeepsOrder (block_conflict w.idle) (blocks_in w.acts w.old) (blocks_in w.acts w.new)
  pub suit : Suit w.idle before behind (old_list w)
  pub own : (c : Cell) → needs (counted w) c ≡ true → w.names c ≡ c
  pub own_behind : (c : Cell) → behind c ≡ true → (w.names c ≡ c) × IsFree w.names (counted w) c

-- trips 1 to n have new numbers 1 to n, and these have the old ones (plain words)
pub record AreInverse (n : ℕ) (to of : ℕ → ℕ) : Type 0 where
  pub new : (k : ℕ) → 1 ≤ k → k ≤ n → (1 ≤ to k) × (to k ≤ n) × (of (to k) ≡ k)
  pub old : (j : ℕ) → 1 ≤ j → j ≤ n → (1 ≤ of j) × (of j ≤ n) × (to (of j) ≡ j)

-- the blocks of n trips in their old order, each with its old and its new number (this project)
abbrev pub old_trips : (ℕ → ℕ → List Act) → (n : ℕ) → (ℕ → ℕ) → List Block
old_trips acts n to = map (λ k. block_at acts k (to k)) (range_with_len 1 n)

-- the blocks of n trips in their new order (this project)
abbrev pub new_trips : (ℕ → ℕ → List Act) → (n : ℕ) → (ℕ → ℕ) → List Block
new_trips acts n of = map (λ j. block_at acts (of j) j) (range_with_len 1 n)
