-- Acts that stay, go and come, where the stores may differ on a set of cells (this project).
use Rattle.std.specs.Prelude.{◌≡◌, List, [], ◌∷◌, map, Bool, false}
use Rattle.ped_eval.specs.ped_store.specs.Cells.{Cell}
use Rattle.ped_eval.specs.ped_store.specs.Stores.{Content, Store}
use Rattle.ped_eval.specs.ped_store.specs.Acts.{Manner, reads, writes, is_told, Touch, Act, store_behind}
use Rattle.ped_laws.specs.Acts.Fitting.{Find, of_cells}
use Rattle.ped_laws.specs.Acts.Sets.{AgreeOutside}
use Rattle.ped_laws.specs.Acts.Conflicts.{touches_without, LeaveUnread, WriteWithin}
use Rattle.ped_laws.specs.Acts.Renaming.{AreRenamed, own_name}

-- a change of a list of acts: an act stays, perhaps with other writes or at another place; an act goes; an act comes (this project)
pub data Change : Type 0 where
  stays : Act → Act → Change
  goes : Act → Change
  comes : Act → Change

-- the acts before the changes (plain words)
abbrev pub acts_before : List Change → List Act
acts_before [] = []
acts_before (stays a b ∷ w) = a ∷ acts_before w
acts_before (goes a ∷ w) = a ∷ acts_before w
acts_before (comes b ∷ w) = acts_before w

-- the acts after the changes (plain words)
abbrev pub acts_behind : List Change → List Act
acts_behind [] = []
acts_behind (stays a b ∷ w) = b ∷ acts_behind w
acts_behind (goes a ∷ w) = acts_behind w
acts_behind (comes b ∷ w) = b ∷ acts_behind w

-- acts that all stay as they are (plain words)
abbrev pub stay_all : List Act → List Change
stay_all acts = map (λ a. stays a a) acts

-- an act that stays: where the old one finds what it reads, the new one does, and the stores agree after them as before (this project)
abbrev pub StaysWithin : (Cell → Bool) → List Touch → List Touch → Store → Store → Type 0
StaysWithin d xs ys s t = Find xs s → AgreeOutside d s t → Find ys t × AgreeOutside d (store_behind xs s) (store_behind ys t)

-- changes on the set alone: an act that stays does outside it what it did; acts that go or come write nothing outside it; and one that comes finds what it reads. The old acts are done from the first store, the new ones from the second (this project)
abbrev pub ChangeWithin : (Cell → Bool) → List Change → Store → Store → Type 0
ChangeWithin d [] s t = Unit {0}
ChangeWithin d (stays a b ∷ w) s t = StaysWithin d a.touches b.touches s t × ChangeWithin d w (store_behind a.touches s) (store_behind b.touches t)
ChangeWithin d (goes a ∷ w) s t = WriteWithin d a.touches × ChangeWithin d w (store_behind a.touches s) t
ChangeWithin d (comes b ∷ w) s t = WriteWithin d b.touches × (AgreeOutside d s t → Find b.touches t) × ChangeWithin d w s (store_behind b.touches t)

-- the same reads and writes in the same order outside the set, and no read of it (this project)
abbrev pub AreSameOutside : (Cell → Bool) → List Touch → List Touch → Type 0
AreSameOutside d xs ys = LeaveUnread d xs × AreRenamed own_name (of_cells (touches_without d xs)) (of_cells (touches_without d ys))

-- what is read is outside the set, and the store holds it (plain words)
abbrev pub IsHeldOutside : (Cell → Bool) → (Cell → Bool) → Store → Manner → Cell → Content → Type 0
IsHeldOutside d changing s reads c content = (d c ≡ false) × (changing c ≡ false) × (s c ≡ content)
IsHeldOutside d changing s writes c content = Unit {0}
IsHeldOutside d changing s is_told c content = Unit {0}

-- touches that read only cells outside the set which don't change, and find them in the store (this project)
abbrev pub ReadPlain : (Cell → Bool) → (Cell → Bool) → Store → List Touch → Type 0
ReadPlain d changing s [] = Unit {0}
ReadPlain d changing s (t ∷ ts) = IsHeldOutside d changing s t.manner t.cell t.content × ReadPlain d changing s ts

-- changes on the set alone, where acts that come read only cells that no old act writes, as the bounds of a DO that are plain in the outermost loop (this project)
abbrev pub PlainChange : (Cell → Bool) → (Cell → Bool) → Store → List Change → Type 0
PlainChange d changing s [] = Unit {0}
PlainChange d changing s (stays a b ∷ w) = AreSameOutside d a.touches b.touches × PlainChange d changing s w
PlainChange d changing s (goes a ∷ w) = WriteWithin d a.touches × PlainChange d changing s w
PlainChange d changing s (comes b ∷ w) = WriteWithin d b.touches × ReadPlain d changing s b.touches × PlainChange d changing s w
