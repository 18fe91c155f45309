-- The states of the iterations of an open loop, by their places, from 0 (this project).
use Rattle.std.specs.Prelude.{ℕ, List, Bool, true, false, slice_index_or}
use Rattle.ped_marks.specs.declared.marks.Mark.{Mark}
use Rattle.ped_marks.specs.declared.marks.Mark.TheVariants.{Waits, Running, Done}

-- the state of the iteration at a place (plain words)
abbrev pub at : List Mark → ℕ → Mark
at marks place = slice_index_or marks place Waits

-- the iteration is finished (plain words)
abbrev pub is_done : Mark → Bool
is_done Waits = false
is_done (Running key) = false
is_done Done = true

-- the iteration has begun, and isn't finished (plain words)
abbrev pub is_running : Mark → Bool
is_running Waits = false
is_running (Running key) = true
is_running Done = false
