-- Bodies of loops that a step moves to other iterations: what their copies are called there (this project).
use Rattle.std.specs.Prelude.{◌≡◌, ℕ, ◌+◌, ◌-◌, ◌/◌, ◌%◌, ◌≤◌, ℤ, List, [], ◌∷◌, ◌++◌, map, Bool, true, false, ◌==◌, Option, Some, None, if◌then◌else◌}
use Rattle.ped_steps.specs.ped_flow.specs.ped_base.specs.Lists.{is_same_text, is_among}
use Rattle.ped_steps.specs.ped_flow.specs.ped_tree.specs.Tree.{ExprTree}
use Rattle.ped_steps.specs.ped_flow.specs.ped_tree.specs.Constants.NamedConstants.{value_named}
use Rattle.ped_steps.specs.ped_store.specs.Cells.{Cell, Scalar, Element, Private, In, Out, Iteration, same_iteration}
use Rattle.ped_steps.specs.ped_store.specs.Acts.{iterations_of}
use Rattle.ped_steps.specs.ped_eval.specs.Scopes.{Setting, Frame, Scope, turns_of, cell_of, index_value, names_in}
use Rattle.ped_steps.specs.ped_eval.specs.Values.{value}
use Rattle.ped_steps.specs.Runs.Renumbering.{renumbered_iteration}
use Rattle.ped_bodies.specs.Likewise.{Meet}
use Rattle.ped_bodies.specs.Standing.{IsTold, HaveVariablesIn}

-- statements keep their numbers (plain words)
abbrev pub own_number : ℕ → ℕ
own_number n = n

-- a scalar's own cell or a copy of it, where the scalar is one of these (this project)
abbrev pub is_cell_among : List (List ℕ) → Cell → Bool
is_cell_among names (Scalar x) = is_among x names
is_cell_among names (Private x path) = is_among x names
is_cell_among names (Element x subscripts) = false
is_cell_among names In = false
is_cell_among names Out = false

-- what follows some iterations in a path that begins with them (plain words)
abbrev pub behind_front : List Iteration → List Iteration → Option (List Iteration)
behind_front [] path = Some path
behind_front (i ∷ front) [] = None
behind_front (i ∷ front) (j ∷ path) = if same_iteration i j then behind_front front path else None

-- a path, where something follows its front, and that is exchanged (plain words)
abbrev pub with_rest : List Iteration → (List Iteration → List Iteration) → List Iteration → Option (List Iteration) → List Iteration
with_rest front g path None = path
with_rest front g path (Some rest) = front ++ g rest

-- copies of iterations inside the front belong to other iterations there; all other cells keep their names (this project)
abbrev pub moved_behind : List Iteration → (List Iteration → List Iteration) → Cell → Cell
moved_behind front g (Scalar x) = Scalar x
moved_behind front g (Private x path) = Private x (with_rest front g path (behind_front front path))
moved_behind front g (Element x subscripts) = Element x subscripts
moved_behind front g In = In
moved_behind front g Out = Out

-- iterations of one loop, the first of n being the last (this project)
abbrev pub turned : (l n : ℕ) → List Iteration → List Iteration
turned l n [] = []
turned l n (i ∷ more) = if i.statement == l then record { statement = l; number = n + 1 - i.number } ∷ more else i ∷ more

-- iterations of an outer and an inner loop, with the inner one outside, by their new numbers (this project)
abbrev pub transposed : (outer inner : ℕ) → (column row : ℕ → ℕ → ℕ) → List Iteration → List Iteration
transposed outer inner column row [] = []
transposed outer inner column row (i ∷ []) = i ∷ []
transposed outer inner column row (i ∷ (j ∷ more)) =
    if i.statement == outer then record { statement = outer; number = column i.number j.number } ∷ (record { statement = inner; number = row i.number j.number } ∷ more) else i ∷ (j ∷ more)

-- iterations of a loop in strips of this many: the number of the strip, and the number in it (this project)
abbrev pub in_strips : (l inner size : ℕ) → List Iteration → List Iteration
in_strips l inner size [] = []
in_strips l inner size (i ∷ more) =
    if i.statement == l then record { statement = l; number = (i.number - 1) / size + 1 } ∷ (record { statement = inner; number = (i.number - 1) % size + 1 } ∷ more) else i ∷ more

-- the iteration with this number taken away from a loop, its copies counting by new numbers, and the later ones counted from one less (this project)
abbrev pub peeled : (l k : ℕ) → (ℕ → ℕ) → List Iteration → List Iteration
peeled l k f [] = []
peeled l k f (i ∷ more) =
    if i.statement == l then if i.number == k then map (renumbered_iteration f) more else record { statement = l; number = if k == 1 then i.number - 1 else i.number } ∷ more
    else i ∷ more

-- iterations of one loop as those of another (this project)
abbrev pub in_loop : (l other : ℕ) → List Iteration → List Iteration
in_loop l other [] = []
in_loop l other (i ∷ more) = if i.statement == l then record { statement = other; number = i.number } ∷ more else i ∷ more

-- what follows a front, where anything does, begins with one of this many iterations of this loop (this project)
abbrev pub IsOfTrips : (l n : ℕ) → Option (List Iteration) → Type 0
IsOfTrips l n None = Unit {0}
IsOfTrips l n (Some []) = Unit {0}
IsOfTrips l n (Some (i ∷ more)) = (i.statement ≡ l) × (1 ≤ i.number) × (i.number ≤ n)

-- the same, further inside that iteration (this project)
abbrev pub IsInsideTrips : (l n : ℕ) → Option (List Iteration) → Type 0
IsInsideTrips l n None = Unit {0}
IsInsideTrips l n (Some []) = Unit {0}
IsInsideTrips l n (Some (i ∷ [])) = ⊥
IsInsideTrips l n (Some (i ∷ (j ∷ more))) = (i.statement ≡ l) × (1 ≤ i.number) × (i.number ≤ n)

-- what follows a front, where anything does, begins with an iteration of an outer loop and one of an inner loop that are done (this project)
abbrev pub IsOfPairs : (outer inner : ℕ) → (ℕ → ℕ → Bool) → Option (List Iteration) → Type 0
IsOfPairs outer inner done None = Unit {0}
IsOfPairs outer inner done (Some []) = Unit {0}
IsOfPairs outer inner done (Some (i ∷ [])) = ⊥
IsOfPairs outer inner done (Some (i ∷ (j ∷ more))) = (i.statement ≡ outer) × (j.statement ≡ inner) × (done i.number j.number ≡ true)

-- a cell that is no copy, or one of whose path this holds: of what follows the front (this project)
abbrev pub LiesBehind : (Option (List Iteration) → Type 0) → List Iteration → Cell → Type 0
LiesBehind P front (Scalar x) = Unit {0}
LiesBehind P front (Private x path) = P (behind_front front path)
LiesBehind P front (Element x subscripts) = Unit {0}
LiesBehind P front In = Unit {0}
LiesBehind P front Out = Unit {0}

-- no two such cells get one name (this project)
abbrev pub NamesApart : (Option (List Iteration) → Type 0) → List Iteration → (Cell → Cell) → Type 0
NamesApart P front name = (c d : Cell) → LiesBehind P front c → LiesBehind P front d → name c ≡ name d → c ≡ d

-- new numbers of two iterations determine the old ones, of those that are done (this project)
abbrev pub TellNumbers : (ℕ → ℕ → Bool) → (column row : ℕ → ℕ → ℕ) → Type 0
TellNumbers done column row = (i j m n : ℕ) → done i j ≡ true → done m n ≡ true → column i j ≡ column m n → row i j ≡ row m n → (i ≡ m) × (j ≡ n)

-- no iteration has copies of its own (ParaScope; this project)
abbrev pub HaveNoCopies : Scope → Type 0
HaveNoCopies [] = Unit {0}
HaveNoCopies (f ∷ fs) = (f.private ≡ []) × HaveNoCopies fs

-- iterations inside a place, old ones and new ones: a path after the front goes where the names lead (this project)
abbrev pub LeadTo : (List Iteration → List Iteration) → (ℕ → ℕ) → (fs gs : Scope) → Type 0
LeadTo g f fs gs = (more : List Iteration) → g (iterations_of (turns_of fs) ++ more) ≡ iterations_of (turns_of gs) ++ map (renumbered_iteration f) more

-- two iterations give the same: the same variable has the same value (this project)
abbrev pub TellAlike : Frame → Frame → Type 0
TellAlike r z = (z.variable ≡ r.variable) × (z.turn.value ≡ r.turn.value)

-- both places give the same values to the DO variables among these names (this project)
abbrev pub TellTheSame : List (List ℕ) → (scope other : Scope) → Type 0
TellTheSame names scope other = (x : List ℕ) → is_among x names ≡ true → index_value other x ≡ index_value scope x

-- two places in the same iterations, where each iteration has the same copies, but for these names; the values of variables and which DO is parallel don't count (ParaScope; this project)
abbrev pub HaveSameCopies : List (List ℕ) → (scope other : Scope) → Type 0
HaveSameCopies names [] [] = Unit {0}
HaveSameCopies names [] (g ∷ gs) = ⊥
HaveSameCopies names (f ∷ fs) [] = ⊥
HaveSameCopies names (f ∷ fs) (g ∷ gs) = (g.turn.statement ≡ f.turn.statement) × (g.turn.number ≡ f.turn.number) × ((x : List ℕ) → is_among x names ≡ false → is_among x g.private ≡ is_among x f.private) × HaveSameCopies names fs gs

-- an expression has this value at a place, and further inside DO loops with variables among these, but not with this one: places and constants determine it (this project)
abbrev pub ToldInside : Setting → List (List ℕ) → List ℕ → Scope → ExprTree → ℤ → Type 0
ToldInside q loops x other e v = (fs : Scope) → HaveVariablesIn loops fs → index_value fs x ≡ None → IsTold (value (names_in q (fs ++ other)) e) v

-- the variable of a DO gives way to an expression at another place: it has the variable's value there, and both places give the same values to the other names (this project)
pub record GivesWayTo (q : Setting) (names loops : List (List ℕ)) (x : List ℕ) (by : ExprTree) (scope other : Scope) : Type 0 where
  pub value : ℤ
  pub index : index_value scope x ≡ Some value
  pub no_constant : value_named q.constants x ≡ None
  pub told : ToldInside q loops x other by value
  pub others : (y : List ℕ) → is_among y names ≡ true → is_same_text x y ≡ false → index_value other y ≡ index_value scope y

-- the cells of scalars correspond at two places, and so do copies further inside (this project)
pub record CellsCorrespond (name : Cell → Cell) (idle : Cell → Bool) (f : ℕ → ℕ) (names : List (List ℕ)) (scope other : Scope) : Type 0 where
  pub cell : (x : List ℕ) → is_among x names ≡ true → Meet name idle (cell_of scope x) (cell_of other x)
  pub inside : (x : List ℕ) (i : Iteration) (more : List Iteration) → is_among x names ≡ true → Meet name idle (Private x (iterations_of (turns_of scope) ++ i ∷ more)) (Private x (iterations_of (turns_of other) ++ map (renumbered_iteration f) (i ∷ more)))
