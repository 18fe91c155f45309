-- The iterations that a part of a machine is in from its beginning to its end, its base, and the copies that it may drop: those of its base, and of the iterations inside (this project).
use Rattle.std.specs.Prelude.{◌≡◌, ℕ, List, [], ◌∷◌, ◌++◌, Bool, true, false, ◌⊎◌}
use Rattle.ped_base.specs.Lists.{is_among}
use Rattle.ped_store.specs.Cells.{Cell, Scalar, Element, Private, In, Out, Iteration, same_cell}
use Rattle.ped_store.specs.Memories.{Memory}
use Rattle.ped_interleavings.specs.ped_eval.specs.Scopes.{Scope}
use Rattle.ped_interleavings.specs.ped_eval.specs.Agreement.{path_of}

-- a path has this one before it (plain words)
abbrev pub IsLonger : List Iteration → List Iteration → Type 0
IsLonger front path = (more : List Iteration) × (path ≡ front ++ more)

-- the cell is a copy of these iterations, or of others inside of them
abbrev pub IsInside : Scope → Cell → Type 0
IsInside base (Private x path) = IsLonger (path_of base) path
IsInside base (Scalar x) = ⊥
IsInside base (Element x subscripts) = ⊥
IsInside base In = ⊥
IsInside base Out = ⊥

-- the cell may be needed in these iterations: it is no copy, or one of theirs, of some around them or of some inside of them
abbrev pub IsNear : Scope → Cell → Type 0
IsNear base (Private x path) = IsLonger (path_of base) path ⊎ IsLonger path (path_of base)
IsNear base (Scalar x) = Unit {0}
IsNear base (Element x subscripts) = Unit {0}
IsNear base In = Unit {0}
IsNear base Out = Unit {0}

-- the name has a copy in the innermost of these iterations
abbrev pub is_own : Scope → List ℕ → Bool
is_own [] x = false
is_own (f ∷ fs) x = is_among x f.private

-- some iterations are inside of these
abbrev pub IsWithin : Scope → Scope → Type 0
IsWithin base scope = (inner : Scope) × (scope ≡ inner ++ base)

-- arrays have the same bounds, and all cells that existed still exist, but for copies of these iterations and of others inside of them
pub record HasKept (base : Scope) (old new : Memory) : Type 0 where
  pub bounds : new.bounds ≡ old.bounds
  pub stands : (c : Cell) → (IsInside base c → ⊥) → old.stands c ≡ true → new.stands c ≡ true

-- this cell may have been dropped, which held nothing, and all else is as it was
pub record HasLost (lost : Cell) (old new : Memory) : Type 0 where
  pub cells : new.cells ≡ old.cells
  pub bounds : new.bounds ≡ old.bounds
  pub stands : (c : Cell) → same_cell lost c ≡ false → new.stands c ≡ old.stands c

-- this cell may have been forgotten, and all else is as it was
pub record HasForgotten (lost : Cell) (old new : Memory) : Type 0 where
  pub cells : (c : Cell) → same_cell lost c ≡ false → new.cells c ≡ old.cells c
  pub bounds : new.bounds ≡ old.bounds
  pub stands : (c : Cell) → same_cell lost c ≡ false → new.stands c ≡ old.stands c

-- each cell holds what it held, or is a copy of these iterations or of others inside of them
abbrev pub HasSameBut : Scope → Memory → Memory → Type 0
HasSameBut base old new = (c : Cell) → (new.cells c ≡ old.cells c) ⊎ IsInside base c
