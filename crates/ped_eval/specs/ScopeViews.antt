-- The iterations that the code's scopes stand for (this project).
use Rattle.std.specs.Prelude.{ℕ, ℤ, List, [], ◌∷◌, map, reverse}
use Rattle.ped_store.specs.Cells.{Iteration}
use Rattle.ped_store.specs.Memories.{Memory}
use Rattle.ped_eval.specs.Scopes.{Frame, Scope, Names, cell_of, index_value}
use Rattle.ped_eval.specs.declared.scopes.Frame as code

-- the iteration that a frame of the code stands for
abbrev pub frame_view : code.Frame → Frame
frame_view f = record {
  turn = record { statement = f.statement; parallel = f.parallel; number = f.number; value = f.value };
  variable = f.variable;
  private = f.private;
}

-- the iteration of a DO that a frame stands for
abbrev pub frame_iteration : code.Frame → Iteration
frame_iteration f = record { statement = f.statement; number = f.number }

-- the iterations of frames that are kept from the outermost on; the innermost comes first
abbrev pub scope_view : List code.Frame → Scope
scope_view frames = reverse (map frame_view frames)

-- what names stand for in these iterations, by what a store keeps and these constants
abbrev pub names_at : Memory → Scope → List (List ℕ × ℤ) → Names
names_at m scope constants = record { bounds = m.bounds; constants = constants; cell = cell_of scope; index = index_value scope }

-- another iteration of the innermost loop, with this number and this value of its variable (ANSI X3.9-1978, section 11.10.7; this project)
abbrev pub with_turn : ℕ → ℤ → Scope → Scope
with_turn number value [] = []
with_turn number value (f ∷ fs) = record f { turn = record f.turn { number = number; value = value } } ∷ fs

-- outside the innermost loop (plain words)
abbrev pub outside : Scope → Scope
outside [] = []
outside (f ∷ fs) = fs
