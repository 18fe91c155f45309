-- Runs in which statements count under other numbers (this project).
use Rattle.std.specs.Prelude.{◌≡◌, ℕ, map}
use Rattle.ped_weaves.specs.ped_store.specs.Cells.{Cell, Scalar, Element, Private, In, Out, Iteration}
use Rattle.ped_weaves.specs.ped_store.specs.Stores.{Store}
use Rattle.ped_weaves.specs.ped_store.specs.Acts.{Touch, Turn, Place, Act}
use Rattle.ped_weaves.specs.ped_eval.specs.Scopes.{Setting}
use Rattle.ped_weaves.specs.ped_eval.specs.Runs.{Ending, going, stopped, failed, Run}

-- an iteration under the DO's new number (this project)
abbrev pub renumbered_iteration : (ℕ → ℕ) → Iteration → Iteration
renumbered_iteration f i = record { statement = f i.statement; number = i.number }

-- a cell under new numbers: copies belong to renumbered iterations (this project)
abbrev pub renumbered_cell : (ℕ → ℕ) → Cell → Cell
renumbered_cell f (Private x path) = Private x (map (renumbered_iteration f) path)
renumbered_cell f (Scalar x) = Scalar x
renumbered_cell f (Element x subscripts) = Element x subscripts
renumbered_cell f In = In
renumbered_cell f Out = Out

-- a store under the old numbers: each cell holds what its renumbered one holds (this project)
abbrev pub old_store : (ℕ → ℕ) → Store → Store
old_store f s c = s (renumbered_cell f c)

-- a touch, an iteration that a place is in, a place and an act under new numbers (this project)
abbrev pub renumbered_touch : (ℕ → ℕ) → Touch → Touch
renumbered_touch f t = record t { cell = renumbered_cell f t.cell }

-- an iteration that a place is in, under the DO's new number (this project)
abbrev pub renumbered_turn : (ℕ → ℕ) → Turn → Turn
renumbered_turn f t = record t { statement = f t.statement }

-- a place under new numbers (this project)
abbrev pub renumbered_place : (ℕ → ℕ) → Place → Place
renumbered_place f p = record { statement = f p.statement; turns = map (renumbered_turn f) p.turns }

-- an act under new numbers (this project)
abbrev pub renumbered_act : (ℕ → ℕ) → Act → Act
renumbered_act f a = record { step = a.step; place = renumbered_place f a.place; touches = map (renumbered_touch f) a.touches }

-- the first ending is the second under new numbers (this project)
abbrev pub EndsAs : (ℕ → ℕ) → Ending → Ending → Type 0
EndsAs f (going s) (going u) = old_store f s ≡ u
EndsAs f (stopped s) (stopped u) = old_store f s ≡ u
EndsAs f (failed fault statement) (failed other old) = (fault ≡ other) × (statement ≡ f old)
EndsAs f (going s) (stopped u) = ⊥
EndsAs f (going s) (failed fault statement) = ⊥
EndsAs f (stopped s) (going u) = ⊥
EndsAs f (stopped s) (failed fault statement) = ⊥
EndsAs f (failed fault statement) (going u) = ⊥
EndsAs f (failed fault statement) (stopped u) = ⊥

-- the first run is the second under new numbers (this project)
pub record IsRenumbered (f : ℕ → ℕ) (new old : Run) : Type 0 where
  pub acts : new.acts ≡ map (renumbered_act f) old.acts
  pub ending : EndsAs f new.ending old.ending

-- new numbers, that determine the old ones (plain words)
pub record IsToldBack (f g : ℕ → ℕ) : Type 0 where
  pub back : (n : ℕ) → g (f n) ≡ n

-- the same setting under new numbers (this project)
abbrev pub renumbered : (ℕ → ℕ) → Setting → Setting
renumbered f p = record { bounds = p.bounds; constants = p.constants; number = λ n. f (p.number n) }
