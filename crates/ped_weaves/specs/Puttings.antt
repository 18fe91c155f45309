-- Acts put for others, where some cells count for nothing (this project).
use Rattle.std.specs.Prelude.{◌≡◌, List, ◌++◌, Bool, true, false, ◌⊎◌}
use Rattle.ped_laws.specs.ped_store.specs.Cells.{Cell}
use Rattle.ped_laws.specs.ped_store.specs.Acts.{reads, Touch, Act}
use Rattle.ped_laws.specs.Acts.Sets.{nothing, needs, written}
use Rattle.ped_laws.specs.Acts.Conflicts.{WriteWithin}
use Rattle.ped_laws.specs.Acts.Changes.{AreSameOutside}
use Rattle.ped_laws.specs.Acts.Orders.{IsIn}

-- the sets of cells on which the stores agree before and after these acts suit them: what they need is agreed on before them; what shall be agreed on after them isn't idle, and they write it, or it was agreed on before (this project)
pub record Suit (idle before behind : Cell → Bool) (acts : List Act) : Type 0 where
  pub needed : (c : Cell) → needs acts c ≡ true → before c ≡ true
  pub wanted : (c : Cell) → behind c ≡ true → (idle c ≡ false) × ((before c ≡ true) ⊎ (written acts c ≡ true))

-- what the second touches read, the first ones read, too, in whatever order (plain words)
abbrev pub ReadAmong : List Touch → List Touch → Type 0
ReadAmong xs ys = (y : Touch) → IsIn y ys → y.manner ≡ reads → (x : Touch) × IsIn x xs × (x.manner ≡ reads) × (x.cell ≡ y.cell) × (x.content ≡ y.content)

-- an act may be put for another: first it reads what that one reads first, or some of it, in any order; then it does the same, but for writes to idle cells (this project)
pub record IsPutFor (idle : Cell → Bool) (old new : Act) : Type 0 where
  pub reading : List Touch
  pub rest : List Touch
  pub new_reading : List Touch
  pub new_rest : List Touch
  pub in_old : old.touches ≡ reading ++ rest
  pub in_new : new.touches ≡ new_reading ++ new_rest
  pub writes_nothing : WriteWithin nothing reading
  pub new_writes_nothing : WriteWithin nothing new_reading
  pub among : ReadAmong reading new_reading
  pub same : AreSameOutside idle rest new_rest
