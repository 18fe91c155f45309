-- Acts that conflict, and acts without their writes to a set of cells (Allen and Kennedy, section 2.2.1; this project).
use Rattle.std.specs.Prelude.{◌≡◌, List, [], ◌∷◌, map, filter, Bool, true, false, ◌&&◌, not}
use Rattle.std.specs.List.{list_any}
use Rattle.ped_eval.specs.ped_store.specs.Cells.{Cell, same_cell}
use Rattle.ped_eval.specs.ped_store.specs.Acts.{Manner, reads, writes, is_told, Touch, Act}
use Rattle.ped_eval.specs.ped_store.specs.Races.{is_write}
use Rattle.ped_laws.specs.Acts.Fitting.{touches_of}

-- one of two touches of a cell writes it, and the other isn't a value that the place gives (Allen and Kennedy, section 2.2.1; this project)
abbrev pub manners_clash : Manner → Manner → Bool
manners_clash writes writes = true
manners_clash writes reads = true
manners_clash reads writes = true
manners_clash reads reads = false
manners_clash writes is_told = false
manners_clash reads is_told = false
manners_clash is_told other = false

-- two touches of one cell, of which at least one writes it (Allen and Kennedy, section 2.2.1)
abbrev pub clash : Touch → Touch → Bool
clash x y = same_cell x.cell y.cell && manners_clash x.manner y.manner

-- one of these touches and one of those clash (plain words)
abbrev pub some_clash : List Touch → List Touch → Bool
some_clash xs ys = list_any (λ x. list_any (clash x) ys) xs

-- two touches clash on a cell outside the set (plain words)
abbrev pub clash_outside : (Cell → Bool) → Touch → Touch → Bool
clash_outside d x y = clash x y && not (d x.cell)

-- one of these touches and one of those clash on a cell outside the set (plain words)
abbrev pub some_clash_outside : (Cell → Bool) → List Touch → List Touch → Bool
some_clash_outside d xs ys = list_any (λ x. list_any (clash_outside d x) ys) xs

-- two acts conflict where they touch one cell and at least one of them writes it (Allen and Kennedy, section 2.2.1)
abbrev pub acts_conflict : Act → Act → Bool
acts_conflict a b = some_clash a.touches b.touches

-- two acts conflict on a cell outside the set (this project)
abbrev pub acts_conflict_outside : (Cell → Bool) → Act → Act → Bool
acts_conflict_outside d a b = some_clash_outside d a.touches b.touches

-- an act of the one block and an act of the other conflict (plain words)
abbrev pub blocks_conflict : List Act → List Act → Bool
blocks_conflict xs ys = some_clash (touches_of xs) (touches_of ys)

-- an act of the one block and an act of the other conflict on a cell outside the set (plain words)
abbrev pub blocks_conflict_outside : (Cell → Bool) → List Act → List Act → Bool
blocks_conflict_outside d xs ys = some_clash_outside d (touches_of xs) (touches_of ys)

-- touches without the writes to the set (this project)
abbrev pub touches_without : (Cell → Bool) → List Touch → List Touch
touches_without d ts = filter (λ t. not (is_write t.manner && d t.cell)) ts

-- an act without its writes to the set (this project)
abbrev pub act_without : (Cell → Bool) → Act → Act
act_without d a = record { step = a.step; place = a.place; touches = touches_without d a.touches }

-- acts without their writes to the set (this project)
abbrev pub without : (Cell → Bool) → List Act → List Act
without d acts = map (act_without d) acts

-- a touch that doesn't read the set (plain words)
abbrev pub IsNoReadOf : (Cell → Bool) → Manner → Cell → Type 0
IsNoReadOf d reads c = d c ≡ false
IsNoReadOf d writes c = Unit {0}
IsNoReadOf d is_told c = Unit {0}

-- touches that don't read the set (plain words)
abbrev pub LeaveUnread : (Cell → Bool) → List Touch → Type 0
LeaveUnread d [] = Unit {0}
LeaveUnread d (t ∷ ts) = IsNoReadOf d t.manner t.cell × LeaveUnread d ts

-- acts that don't read the set (plain words)
abbrev pub ReadNone : (Cell → Bool) → List Act → Type 0
ReadNone d [] = Unit {0}
ReadNone d (a ∷ acts) = LeaveUnread d a.touches × ReadNone d acts

-- a touch that writes no cell outside the set (plain words)
abbrev pub IsWriteWithin : (Cell → Bool) → Manner → Cell → Type 0
IsWriteWithin d writes c = d c ≡ true
IsWriteWithin d reads c = Unit {0}
IsWriteWithin d is_told c = Unit {0}

-- touches that write no cell outside the set: an act of such touches is idle (this project)
abbrev pub WriteWithin : (Cell → Bool) → List Touch → Type 0
WriteWithin d [] = Unit {0}
WriteWithin d (t ∷ ts) = IsWriteWithin d t.manner t.cell × WriteWithin d ts
