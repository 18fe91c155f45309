-- What happens to scalars on a path, in order: a list of events (Allen and Kennedy, section 4.4; this project).
use Rattle.std.specs.Prelude.{ℕ, List, [], ◌∷◌, ◌++◌, map, Bool, true, false, not, ◌&&◌, ◌||◌, ◌==◌, if◌then◌else◌}
use Rattle.std.specs.List.{flat_map, list_any}
use Rattle.ped_base.specs.Lists.{is_same_text, is_among}
use Rattle.ped_tree.specs.Tree.{ExprTree, ExprTrees, Int, Var, Element, Neg, Add, Sub, Mul, Div, Pow, Call, no_exprs, more_exprs, CondTree, Rel, Not, And, Or, ItemTree, Value, Text, Head, StmtTree, StmtTrees, Assign, If, Do, Print, Read, Stop, Comment}
use Rattle.ped_tree.specs.NamesIn.{all_loop_variables}

-- a scalar is read; it is overwritten and has a value; it is overwritten and has none
pub data Manner : Type 0 where
  reads : Manner
  assigns : Manner
  clears : Manner

-- a statement does this to a scalar
pub record Event : Type 0 where
  pub statement : ℕ
  pub scalar : List ℕ
  pub manner : Manner

-- the statement with this number does this to the scalar
abbrev pub event : ℕ → Manner → List ℕ → Event
event n manner x = record { statement = n; scalar = x; manner = manner }

-- a scalar by its name; a named constant is none (ANSI X3.9-1978, section 8.6)
abbrev pub unless_constant : List (List ℕ) → List ℕ → List (List ℕ)
unless_constant constants x = if is_among x constants then [] else x ∷ []

-- the scalars that an expression reads, left to right, those of DO variables too; an element is no scalar, but its subscripts may read some (ANSI X3.9-1978, section 6.1)
abbrev mutual
  pub scalars_in : List (List ℕ) → ExprTree → List (List ℕ)
  scalars_in constants (Int n) = []
  scalars_in constants (Var x) = unless_constant constants x
  scalars_in constants (Element x subscripts) = all_scalars_in constants subscripts
  scalars_in constants (Neg a) = scalars_in constants a
  scalars_in constants (Add a b) = scalars_in constants a ++ scalars_in constants b
  scalars_in constants (Sub a b) = scalars_in constants a ++ scalars_in constants b
  scalars_in constants (Mul a b) = scalars_in constants a ++ scalars_in constants b
  scalars_in constants (Div a b) = scalars_in constants a ++ scalars_in constants b
  scalars_in constants (Pow a b) = scalars_in constants a ++ scalars_in constants b
  scalars_in constants (Call f arguments) = all_scalars_in constants arguments

  -- the scalars that expressions read, one after another (ANSI X3.9-1978, section 6.1)
  pub all_scalars_in : List (List ℕ) → ExprTrees → List (List ℕ)
  all_scalars_in constants no_exprs = []
  all_scalars_in constants (more_exprs e rest) = scalars_in constants e ++ all_scalars_in constants rest

-- the scalars that a condition reads, left to right (ANSI X3.9-1978, sections 6.3, 6.4)
abbrev pub scalars_in_cond : List (List ℕ) → CondTree → List (List ℕ)
scalars_in_cond constants (Rel r a b) = scalars_in constants a ++ scalars_in constants b
scalars_in_cond constants (Not a) = scalars_in_cond constants a
scalars_in_cond constants (And a b) = scalars_in_cond constants a ++ scalars_in_cond constants b
scalars_in_cond constants (Or a b) = scalars_in_cond constants a ++ scalars_in_cond constants b

-- the scalars that an item of a PRINT reads (ANSI X3.9-1978, section 12.8.2)
abbrev pub scalars_in_item : List (List ℕ) → ItemTree → List (List ℕ)
scalars_in_item constants (Value e) = scalars_in constants e
scalars_in_item constants (Text t) = []

-- reads of these scalars
abbrev pub reads_of : ℕ → List (List ℕ) → List Event
reads_of n names = map (event n reads) names

-- a left side, or an item of a READ, assigns a scalar, or the subscripts of an element are read (ANSI X3.9-1978, sections 10.1, 12.8)
abbrev pub left_events : List (List ℕ) → ℕ → ExprTree → List Event
left_events constants n (Var x) = map (event n assigns) (unless_constant constants x)
left_events constants n (Element x subscripts) = reads_of n (all_scalars_in constants subscripts)
left_events constants n (Int k) = []
left_events constants n (Neg a) = []
left_events constants n (Add a b) = []
left_events constants n (Sub a b) = []
left_events constants n (Mul a b) = []
left_events constants n (Div a b) = []
left_events constants n (Pow a b) = []
left_events constants n (Call f arguments) = []

-- the events of a statement by itself, in order: the right side and then the left; the condition of an IF; the items of a PRINT; the items of a READ, one after the other; the entry of a DO reads its bounds and then assigns its variable (ANSI X3.9-1978, sections 10.1, 11.6, 11.10.3, 12.8)
abbrev pub own_events : List (List ℕ) → ℕ → StmtTree → List Event
own_events constants n (Assign left right) = reads_of n (scalars_in constants right) ++ left_events constants n left
own_events constants n (If condition then_part else_part) = reads_of n (scalars_in_cond constants condition)
own_events constants n (Do h body) = reads_of n (scalars_in constants h.first ++ scalars_in constants h.last) ++ event n assigns h.variable ∷ []
own_events constants n (Print items) = reads_of n (flat_map (scalars_in_item constants) items)
own_events constants n (Read items) = flat_map (left_events constants n) items
own_events constants n Stop = []
own_events constants n (Comment text) = []

-- the scalars of which each iteration has copies in addition to the DO's variable: the private names, and of a PARALLEL DO the variables of the DO loops in it (ParaScope; this project)
abbrev pub copied : Head → StmtTrees → List (List ℕ)
copied h body = h.private ++ (if h.parallel then all_loop_variables body else [])

-- an iteration starts with new copies, which have no value (ParaScope; this project)
abbrev pub start_events : ℕ → Head → StmtTrees → List Event
start_events n h body = map (event n clears) (copied h body)

-- the exit of a DO leaves those scalars without a value, and that of a PARALLEL DO its variable, too (ParaScope; this project)
abbrev pub exit_events : ℕ → Head → StmtTrees → List Event
exit_events n h body = map (event n clears) ((if h.parallel then h.variable ∷ [] else []) ++ copied h body)

-- this manner overwrites
abbrev pub is_overwriting : Manner → Bool
is_overwriting reads = false
is_overwriting assigns = true
is_overwriting clears = true

-- this manner gives a value
abbrev pub is_assigning : Manner → Bool
is_assigning reads = false
is_assigning assigns = true
is_assigning clears = false

-- the event overwrites the scalar
abbrev pub is_overwriting_of : List ℕ → Event → Bool
is_overwriting_of x e = is_same_text x e.scalar && is_overwriting e.manner

-- the event is a read of the scalar by the statement with this number
abbrev pub is_read_by : List ℕ → ℕ → Event → Bool
is_read_by x n e = is_same_text x e.scalar && not (is_overwriting e.manner) && e.statement == n

-- something overwrites the scalar
abbrev pub overwrites : List ℕ → List Event → Bool
overwrites x path = list_any (is_overwriting_of x) path

-- the statement with this number reads the scalar before anything overwrites it
abbrev pub reads_first : List ℕ → ℕ → List Event → Bool
reads_first x n [] = false
reads_first x n (e ∷ rest) = is_read_by x n e || (not (is_overwriting_of x e) && reads_first x n rest)

-- whether the scalar has a value at the end, where it has one at the beginning or not: what overwrites it last decides
abbrev pub has_value : List ℕ → Bool → List Event → Bool
has_value x before [] = before
has_value x before (e ∷ rest) = has_value x (if is_overwriting_of x e then is_assigning e.manner else before) rest
