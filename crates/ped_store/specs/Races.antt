-- Accesses of a run, their conflicts, and runs without a race (Allen and Kennedy, section 2.2.1; this project).
use Rattle.std.specs.Prelude.{◌≡◌, ℕ, List, [], ◌∷◌, map, Bool, true, false, ◌==◌, ◌&&◌, ◌||◌, not, filter, if◌then◌else◌}
use Rattle.std.specs.List.{flat_map, All}
use Rattle.ped_store.specs.Cells.{Cell, Scalar, Element, Private, In, Out, same_cell}
use Rattle.ped_store.specs.Acts.{Manner, reads, writes, is_told, Touch, Turn, Place, Act}

-- an access: a read or a write of a cell, by the reference with this number of a statement, 0 where none makes it, in these iterations
pub record Access : Type 0 where
  pub cell : Cell
  pub writes : Bool
  pub place : Place
  pub reference : ℕ

-- the data or the output
abbrev pub is_lines : Cell → Bool
is_lines In = true
is_lines Out = true
is_lines (Scalar x) = false
is_lines (Element x subscripts) = false
is_lines (Private x iterations) = false

-- it is a write
abbrev pub is_write : Manner → Bool
is_write writes = true
is_write reads = false
is_write is_told = false

-- a touch is an access, but for the read that goes with each write of the data or of the output
abbrev pub is_access : Touch → Bool
is_access t = is_write t.manner || not (is_lines t.cell)

-- the accesses of an act, in order
abbrev pub accesses_of : Act → List Access
accesses_of a = map (λ t. record { cell = t.cell; writes = is_write t.manner; place = a.place; reference = t.reference }) (filter is_access a.touches)

-- the accesses of acts, in order
abbrev pub accesses : List Act → List Access
accesses acts = flat_map accesses_of acts

-- two accesses conflict where they touch one cell and at least one of them writes (Allen and Kennedy, section 2.2.1)
abbrev pub conflict : Access → Access → Bool
conflict a b = same_cell a.cell b.cell && (a.writes || b.writes)

-- the places are in two iterations of one execution of a PARALLEL DO: where their iterations differ first, those are of one PARALLEL DO
abbrev pub are_apart : List Turn → List Turn → Bool
are_apart (t ∷ ts) (u ∷ us) = (t.statement == u.statement) && (if t.number == u.number then are_apart ts us else t.parallel)
are_apart [] us = false
are_apart (t ∷ ts) [] = false

-- two accesses race: they conflict, in two iterations of one execution of a PARALLEL DO
abbrev pub race : Access → Access → Bool
race a b = are_apart a.place.turns b.place.turns && conflict a b

-- no access races with a later one
abbrev pub HasNoRace : List Access → Type 0
HasNoRace [] = Unit {0}
HasNoRace (a ∷ more) = All (λ b. race a b ≡ false) more × HasNoRace more
