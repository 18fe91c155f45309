-- A piece of a list exchanged for another: cells get new names, idle acts go, blocks change places, idle acts come (this project).
use Rattle.std.specs.Prelude.{◌≡◌, List, Bool, true, false, ◌⊎◌}
use Rattle.ped_eval.specs.ped_store.specs.Cells.{Cell}
use Rattle.ped_eval.specs.ped_store.specs.Stores.{Store}
use Rattle.ped_eval.specs.ped_store.specs.Acts.{Act}
use Rattle.ped_laws.specs.Acts.Fitting.{Fits}
use Rattle.ped_laws.specs.Acts.Sets.{AgreeIn, needs, written}
use Rattle.ped_laws.specs.Acts.Conflicts.{ReadNone}
use Rattle.ped_laws.specs.Acts.Orders.{EachOnce, IsReordered, KeepsOrder, Block, acts_in_blocks, block_conflict}
use Rattle.ped_laws.specs.Acts.Changes.{Change, acts_before, acts_behind, ChangeWithin}
use Rattle.ped_laws.specs.Acts.Renaming.{Renamed, IsOneToOne, IsFree}

-- how a piece is exchanged: the new names of cells; the cells that count for nothing, as the variables of its loops; the acts that go; the blocks that are left, and their new order; the acts that come (this project)
pub record Exchange : Type 0 where
  pub names : Cell → Cell
  pub idle : Cell → Bool
  pub going : List Change
  pub blocks : List Block
  pub order : List Block
  pub coming : List Change

-- the exchange is allowed for these acts, done from the store s, where the stores agree on the one set before it and shall agree on the other after it (this project)
pub record IsAllowed (e : Exchange) (acts : List Act) (before behind : Cell → Bool) (s : Store) : Type 0 where
  pub renamed : Renamed e.names acts (acts_before e.going)
  pub one_to_one : IsOneToOne e.names acts
  pub needed : (c : Cell) → needs acts c ≡ true → (before c ≡ true) × (e.names c ≡ c)
  pub go : (t : Store) → AgreeIn before s t → Fits (acts_before e.going) t → ChangeWithin e.idle e.going t t
  pub are_left : acts_behind e.going ≡ acts_in_blocks e.blocks
  pub once : EachOnce e.blocks
  pub reordered : IsReordered e.blocks e.order
  pub kept : KeepsOrder (block_conflict e.idle) e.blocks e.order
  pub unread : ReadNone e.idle (acts_in_blocks e.blocks)
  pub are_taken : acts_before e.coming ≡ acts_in_blocks e.order
  pub come : (t : Store) → AgreeIn before s t → Fits (acts_before e.coming) t → ChangeWithin e.idle e.coming t t
  pub wanted : (c : Cell) → behind c ≡ true → (e.idle c ≡ false) × (e.names c ≡ c) × IsFree e.names acts c × ((before c ≡ true) ⊎ (written acts c ≡ true))
