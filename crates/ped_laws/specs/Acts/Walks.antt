-- Two lists of touches walked together, an old one and a new one (this project).
use Rattle.std.specs.Prelude.{◌≡◌, List, [], ◌∷◌, true, false}
use Rattle.std.specs.Bool.{MatchBool}
use Rattle.ped_eval.specs.ped_store.specs.Cells.{Cell}
use Rattle.ped_eval.specs.ped_store.specs.Stores.{Store}
use Rattle.ped_eval.specs.ped_store.specs.Acts.{Manner, reads, writes, is_told, Touch, touched}
use Rattle.ped_laws.specs.Acts.Fitting.{IsFound}
use Rattle.ped_laws.specs.Acts.Sets.{writes_to}

-- a stride of the walk: a touch of both lists, of the old alone, or of the new alone (this project)
pub data Stride : Type 0 where
  both : Touch → Touch → Stride
  old_alone : Touch → Stride
  new_alone : Touch → Stride

-- the touches of the old list (plain words)
abbrev pub olds : List Stride → List Touch
olds [] = []
olds (both x y ∷ w) = x ∷ olds w
olds (old_alone x ∷ w) = x ∷ olds w
olds (new_alone y ∷ w) = olds w

-- the touches of the new list (plain words)
abbrev pub news : List Stride → List Touch
news [] = []
news (both x y ∷ w) = y ∷ news w
news (old_alone x ∷ w) = news w
news (new_alone y ∷ w) = y ∷ news w

-- the walk in which the touches of two lists meet one by one (plain words)
abbrev pub in_step : List Touch → List Touch → List Stride
in_step [] [] = []
in_step [] (y ∷ ys) = new_alone y ∷ in_step [] ys
in_step (x ∷ xs) [] = old_alone x ∷ in_step xs []
in_step (x ∷ xs) (y ∷ ys) = both x y ∷ in_step xs ys

-- what c holds in the old list and what d holds in the new one come from one source: their last writes have met, or neither is written and both held one content at the start. The strides so far are listed with the last first (this project)
abbrev pub SameSource : List Stride → Store → Store → Cell → Cell → Type 0
SameSource [] s t c d = s c ≡ t d
SameSource (both x y ∷ before) s t c d = MatchBool (writes_to x c) (writes_to y d ≡ true) ((writes_to y d ≡ false) × SameSource before s t c d)
SameSource (old_alone x ∷ before) s t c d = (writes_to x c ≡ false) × SameSource before s t c d
SameSource (new_alone y ∷ before) s t c d = (writes_to y d ≡ false) × SameSource before s t c d

-- the store of the new list after the strides so far, which are listed with the last first (plain words)
abbrev pub new_store : List Stride → Store → Store
new_store [] t = t
new_store (both x y ∷ before) t = touched y.manner y.cell y.content (new_store before t)
new_store (old_alone x ∷ before) t = new_store before t
new_store (new_alone y ∷ before) t = touched y.manner y.cell y.content (new_store before t)

-- what is asked of reads alone (plain words)
abbrev pub OfReads : Manner → Type 0 → Type 0
OfReads reads asked = asked
OfReads writes asked = Unit {0}
OfReads is_told asked = Unit {0}

-- a stride may be made: touches that meet are alike, and reads that meet have one source; a touch of the new list alone finds what it reads (this project)
abbrev pub MayBeMade : List Stride → Store → Store → Stride → Type 0
MayBeMade before s t (both x y) = (x.manner ≡ y.manner) × (x.content ≡ y.content) × OfReads x.manner (SameSource before s t x.cell y.cell)
MayBeMade before s t (old_alone x) = Unit {0}
MayBeMade before s t (new_alone y) = IsFound y.manner y.cell y.content (new_store before t)

-- the lists go side by side: each stride may be made, after those before it (this project)
abbrev pub SideBySide : List Stride → List Stride → Store → Store → Type 0
SideBySide before [] s t = Unit {0}
SideBySide before (x ∷ w) s t = MayBeMade before s t x × SideBySide (x ∷ before) w s t

-- the strides of a walk, the last first, in front of those before it (plain words)
abbrev pub walked : List Stride → List Stride → List Stride
walked before [] = before
walked before (x ∷ w) = walked (x ∷ before) w
