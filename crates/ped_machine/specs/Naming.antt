-- The private copies that the rest of a run can name, and those that it can't any more (this project).
use Rattle.std.specs.Prelude.{◌≡◌, ◌⊎◌, ℕ, suc, ◌+◌, ◌≤◌, ◌<◌, List, ◌∷◌, ◌++◌, true}
use Rattle.ped_tree.specs.Numbering.{statement_count}
use Rattle.ped_store.specs.Cells.{Cell, Scalar, Element, Private, In, Out, Iteration}
use Rattle.ped_store.specs.Stores.{Store}
use Rattle.ped_store.specs.Memories.{Memory}
use Rattle.ped_interleavings.specs.ped_eval.specs.Scopes.{Scope}
use Rattle.ped_interleavings.specs.ped_eval.specs.Loops.{Entered}
use Rattle.ped_interleavings.specs.ped_eval.specs.Agreement.{path_of, IsSameOutside, DoCopiesStand}
use Rattle.ped_machine.specs.Bases.{IsLonger, HasKept}
use Rattle.ped_interleavings.specs.Lefts.{Left, finished, begins, ends_turn, open_loop, Lefts, no_lefts, more_lefts, is_finished}

-- a path goes on from these iterations into one of a DO among the statements whose numbers are from n on, this many
abbrev pub IsAmong : List Iteration → ℕ → ℕ → List Iteration → Type 0
IsAmong front n many path = (i : Iteration) × (more : List Iteration) × (path ≡ front ++ i ∷ more) × (n ≤ i.statement) × (i.statement < n + many)

-- a path goes on from these iterations into iteration k of the DO with number n
abbrev pub IsInTurn : List Iteration → ℕ → ℕ → List Iteration → Type 0
IsInTurn front n k path = (more : List Iteration) × (path ≡ front ++ record { statement = n; number = k } ∷ more)

-- into one of its iterations
abbrev pub IsInLoop : List Iteration → ℕ → List Iteration → Type 0
IsInLoop front n path = (k : ℕ) × IsInTurn front n k path

-- into one after iteration k
abbrev pub IsInLaterTurn : List Iteration → ℕ → ℕ → List Iteration → Type 0
IsInLaterTurn front n k path = (j : ℕ) × (k < j) × IsInTurn front n j path

abbrev mutual
  -- what is left can name copies of these iterations
  pub CanName : Left → List Iteration → Type 0
  CanName finished path = ⊥
  CanName (begins t n scope rest) path = IsLonger path (path_of scope) ⊎ (IsAmong (path_of scope) n (statement_count t) path ⊎ CanName rest path)
  CanName (ends_turn e body n scope k more rest) path = IsLonger path (path_of scope) ⊎ (IsInLaterTurn (path_of scope) e.number k path ⊎ CanName rest path)
  CanName (open_loop e n scope ls rest) path = IsLonger path (path_of scope) ⊎ (CanOneName ls path ⊎ CanName rest path)

  -- one of the iterations can
  pub CanOneName : Lefts → List Iteration → Type 0
  CanOneName no_lefts path = ⊥
  CanOneName (more_lefts l ls) path = CanName l path ⊎ CanOneName ls path

-- both stores hold the same in all cells that what is left can name
pub record AgreeOn (l : Left) (u s : Store) : Type 0 where
  pub outside : IsSameOutside u s
  pub copies : (x : List ℕ) (path : List Iteration) → CanName l path → u (Private x path) ≡ s (Private x path)

abbrev mutual
  -- a copy of these iterations belongs to a finished one of a PARALLEL DO that is open
  pub IsSpent : Left → List Iteration → Type 0
  IsSpent finished path = ⊥
  IsSpent (begins t n scope rest) path = ⊥
  IsSpent (ends_turn e body n scope k more rest) path = ⊥
  IsSpent (open_loop e n scope ls rest) path = IsOneSpent e scope 1 ls path

  pub IsOneSpent : Entered → Scope → ℕ → Lefts → List Iteration → Type 0
  IsOneSpent e scope k no_lefts path = ⊥
  IsOneSpent e scope k (more_lefts l ls) path = (IsInTurn (path_of scope) e.number k path × ((is_finished l ≡ true) ⊎ IsSpent l path)) ⊎ IsOneSpent e scope (suc k) ls path

-- the cell is such a copy
abbrev pub IsSpentCell : Left → Cell → Type 0
IsSpentCell l (Scalar x) = ⊥
IsSpentCell l (Element x subscripts) = ⊥
IsSpentCell l (Private x path) = IsSpent l path
IsSpentCell l In = ⊥
IsSpentCell l Out = ⊥

abbrev mutual
  -- what follows a statement or a loop names no copies of it, and no iteration of a loop those of another
  pub IsApart : Left → Type 0
  IsApart finished = Unit {0}
  IsApart (begins t n scope rest) = ((path : List Iteration) → IsAmong (path_of scope) n (statement_count t) path → CanName rest path → ⊥) × IsApart rest
  IsApart (ends_turn e body n scope k more rest) = ((path : List Iteration) → IsInLoop (path_of scope) e.number path → CanName rest path → ⊥) × IsApart rest
  IsApart (open_loop e n scope ls rest) = ((path : List Iteration) → IsInLoop (path_of scope) e.number path → CanName rest path → ⊥) × AreApart e scope 1 ls × IsApart rest

  pub AreApart : Entered → Scope → ℕ → Lefts → Type 0
  AreApart e scope k no_lefts = Unit {0}
  AreApart e scope k (more_lefts l ls) =
      ((path : List Iteration) → CanName l path → IsLonger path (path_of scope) ⊎ IsInTurn (path_of scope) e.number k path)
      × IsApart l × AreApart e scope (suc k) ls

-- each cell holds what it held, or is a copy of a finished iteration
abbrev pub IsForgotten : Left → Store → Store → Type 0
IsForgotten l old new = (c : Cell) → (new c ≡ old c) ⊎ IsSpentCell l c

-- the same of what is kept
abbrev pub HasForgottenSpent : Left → Memory → Memory → Type 0
HasForgottenSpent l old new = IsForgotten l old.cells new.cells

-- cells that existed still exist, but for copies of iterations inside of these
pub record HasForgottenRound (scope : Scope) (old new : Memory) : Type 0 where
  pub kept : HasKept scope old new
  pub copies : DoCopiesStand scope old.stands → DoCopiesStand scope new.stands
