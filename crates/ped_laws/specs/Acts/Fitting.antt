-- What it means that acts are done from a store: each read finds its content (this project).
use Rattle.std.specs.Prelude.{◌≡◌, List, [], ◌∷◌, ◌++◌, Bool, true, false, filter}
use Rattle.ped_eval.specs.ped_store.specs.Cells.{Cell}
use Rattle.ped_eval.specs.ped_store.specs.Stores.{Content, Store}
use Rattle.ped_eval.specs.ped_store.specs.Acts.{Manner, reads, writes, is_told, Touch, Act, touched, store_behind}

-- what is read in a cell is what the store holds there; a write, or a value that the place gives, asks nothing (this project)
abbrev pub IsFound : Manner → Cell → Content → Store → Type 0
IsFound reads c content s = s c ≡ content
IsFound writes c content s = Unit {0}
IsFound is_told c content s = Unit {0}

-- touches, one after the other, find what they read, also after writes of their own (this project)
abbrev pub Find : List Touch → Store → Type 0
Find [] s = Unit {0}
Find (t ∷ ts) s = IsFound t.manner t.cell t.content s × Find ts (touched t.manner t.cell t.content s)

-- acts fit a store where each reads what the store and the acts before it have left (this project)
abbrev pub Fits : List Act → Store → Type 0
Fits [] s = Unit {0}
Fits (a ∷ acts) s = Find a.touches s × Fits acts (store_behind a.touches s)

-- the store that acts leave (this project)
abbrev pub store_after : List Act → Store → Store
store_after [] s = s
store_after (a ∷ acts) s = store_after acts (store_behind a.touches s)

-- the touches of acts, in order (plain words)
abbrev pub touches_of : List Act → List Touch
touches_of [] = []
touches_of (a ∷ acts) = a.touches ++ touches_of acts

-- a read or a write of a cell, and no value that the place gives (plain words)
abbrev pub has_cell : Manner → Bool
has_cell reads = true
has_cell writes = true
has_cell is_told = false

-- touches without the values that the place gives (this project)
abbrev pub of_cells : List Touch → List Touch
of_cells ts = filter (λ t. has_cell t.manner) ts
