-- How what the code keeps agrees with the store of a run. The code drops the private copies of an iteration after it, while in the store of a run they keep what they hold. So both agree on the cells that matter: those that aren't private copies, and the copies of the iterations around the place. And the copies of the iterations that are still to come are undefined (this project).
use Rattle.std.specs.Prelude.{◌≡◌, ℕ, List, [], ◌∷◌, ◌++◌, Bool, true, false, ◌==◌, nat_lt, if◌then◌else◌}
use Rattle.ped_base.specs.Lists.{is_among}
use Rattle.ped_store.specs.Cells.{Cell, Scalar, Element, Private, In, Out, Iteration}
use Rattle.ped_store.specs.Stores.{Undefined, Store}
use Rattle.ped_store.specs.Acts.{iterations_of}
use Rattle.ped_eval.specs.Scopes.{Frame, Scope, turns_of}

-- the iterations around a place, the outermost DO's first
abbrev pub path_of : Scope → List Iteration
path_of scope = iterations_of (turns_of scope)

-- iterations as a row of numbers: the number of each DO, and after it that of the iteration
abbrev pub row_of : List Iteration → List ℕ
row_of [] = []
row_of (i ∷ is) = i.statement ∷ (i.number ∷ row_of is)

-- a row of numbers comes at a moment of the run or after it; moments are rows of numbers, too, and are in the order of words in a dictionary
abbrev pub is_ahead : List ℕ → List ℕ → Bool
is_ahead [] row = true
is_ahead (n ∷ ns) [] = false
is_ahead (n ∷ ns) (k ∷ ks) = if n == k then is_ahead ns ks else nat_lt n k

-- the moment before the statement with this number, in these iterations
abbrev pub before : Scope → ℕ → List ℕ
before scope n = row_of (path_of scope) ++ n ∷ []

-- the moment before an iteration of the DO with this number
abbrev pub before_turn : Scope → ℕ → ℕ → List ℕ
before_turn scope n k = row_of (path_of scope) ++ n ∷ (k ∷ [])

-- the copies of all iterations that come at this moment or after it are undefined
abbrev pub IsFresh : List ℕ → Store → Type 0
IsFresh moment s = (x : List ℕ) (path : List Iteration) → is_ahead moment (row_of path) ≡ true → s (Private x path) ≡ Undefined

-- the cell is a private copy
abbrev pub is_copy : Cell → Bool
is_copy (Scalar x) = false
is_copy (Element x subscripts) = false
is_copy (Private x path) = true
is_copy In = false
is_copy Out = false

-- both stores hold the same outside of private copies
abbrev pub IsSameOutside : Store → Store → Type 0
IsSameOutside u s = (c : Cell) → is_copy c ≡ false → u c ≡ s c

-- both stores hold the same in the copies of this iteration
abbrev pub IsSameInside : Frame → List Iteration → Store → Store → Type 0
IsSameInside f path u s = (x : List ℕ) → is_among x f.private ≡ true → u (Private x path) ≡ s (Private x path)

-- both stores hold the same where the place reaches: outside of private copies, and in the copies of the iterations around it
abbrev pub IsSame : Scope → Store → Store → Type 0
IsSame [] u s = IsSameOutside u s
IsSame (f ∷ fs) u s = IsSameInside f (path_of (f ∷ fs)) u s × IsSame fs u s

-- at a moment of a run with this store, in these iterations, the code keeps that
pub record Agrees (scope : Scope) (moment : List ℕ) (kept s : Store) : Type 0 where
  pub same : IsSame scope kept s
  pub fresh : IsFresh moment s

-- the copies of the iterations exist
abbrev pub DoCopiesStand : Scope → (Cell → Bool) → Type 0
DoCopiesStand [] stands = Unit {0}
DoCopiesStand (f ∷ fs) stands = ((x : List ℕ) → is_among x f.private ≡ true → stands (Private x (path_of (f ∷ fs))) ≡ true) × DoCopiesStand fs stands
