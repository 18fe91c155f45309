-- Places and stores of an execution of an outermost DO, and the values that are there (ANSI X3.9-1978, section 11.10; this project).
use Rattle.std.specs.Prelude.{◌≡◌, ℕ, ℤ, pos, List, [], ◌∷◌, ◌++◌, Bool, true, false, Some, None, Ok, IsTrue, ◌⊎◌, if◌then◌else◌}
use Rattle.std.specs.Map.{lookup}
use Rattle.ped_flow.specs.ped_base.specs.Lists.{is_same_text, is_among}
use Rattle.ped_graph.specs.ped_views.specs.declared.intervals.Interval.{Interval}
use Rattle.ped_graph.specs.ped_views.specs.Intervals.{Lies}
use Rattle.ped_flow.specs.ped_tree.specs.Tree.{ExprTree, StmtTree, Do, ProgramTree}
use Rattle.ped_flow.specs.ped_tree.specs.Nests.{indices_of}
use Rattle.ped_flow.specs.ped_tree.specs.Accesses.{constant_names}
use Rattle.ped_flow.specs.ped_tree.specs.Constants.NamedConstants.{value_named}
use Rattle.ped_eval.specs.ped_store.specs.Cells.{Cell, Scalar}
use Rattle.ped_eval.specs.ped_store.specs.Stores.{Content, Undefined, Number, Lines, Store, is_storable}
use Rattle.ped_eval.specs.ped_store.specs.Acts.{Touch, Act}
use Rattle.ped_laws.specs.Acts.Fitting.{store_after}
use Rattle.ped_laws.specs.Acts.Sets.{writes_to}
use Rattle.ped_eval.specs.Scopes.{Frame, Scope, Setting, names_in, index_value}
use Rattle.ped_eval.specs.Values.{value}
use Rattle.ped_eval.specs.Loops.{is_bound}
use Rattle.ped_eval.specs.Runs.{run}
use Rattle.ped_flow.specs.ped_tree.specs.NamesIn.{all_loop_variables}
use Rattle.ped_flow.specs.ped_affine.specs.Ranges as ranges
use Rattle.ped_flow.specs.ped_affine.specs.Ranges.{bound_interval}
use Rattle.ped_flow.specs.PlainBounds.{Values, nest_round, setting_round, outermost_or}
use Rattle.ped_flow.specs.Questions.{LoopOf}
use Rattle.ped_laws.specs.Plain.PlainValues.{around_loop}

-- each named constant of the program has a value (ANSI X3.9-1978, section 8.6)
abbrev pub HaveValues : Values → ProgramTree → Type 0
HaveValues constants t = (x : List ℕ) → value_named constants x ≡ None → is_among x (constant_names t.decls) ≡ false

-- the statement is one of these (plain words)
abbrev pub IsOneOf : StmtTree → List StmtTree → Type 0
IsOneOf s [] = ⊥
IsOneOf s (t ∷ ts) = (t ≡ s) ⊎ IsOneOf s ts

-- an iteration of a DO in the outermost DO: its variable is that of a DO of the program, and what it has copies of is assigned there (ANSI X3.9-1978, section 11.10; ParaScope; this project)
pub record IsInside (s : ranges.Setting) (f : Frame) : Type 0 where
  pub variable : IsTrue (is_among f.variable s.loop_variables)
  pub private : (x : List ℕ) → is_among x f.private ≡ true → is_among x s.assigned ≡ true

-- iterations of DO loops in the outermost DO (this project)
abbrev pub AreInside : ranges.Setting → Scope → Type 0
AreInside s [] = Unit {0}
AreInside s (f ∷ fs) = IsInside s f × AreInside s fs

-- a place in the outermost DO that is a DO or is around it: it gives these values for the DO loops around that DO, as where the DO's bounds are evaluated, also where no run comes there (ANSI X3.9-1978, section 11.10; this project)
pub record IsPlaceWith (constants : Values) (t : ProgramTree) (l : ℕ) (told : List ℕ → ℤ) (scope : Scope) : Type 0 where
  pub inside : AreInside (setting_round constants t l) scope
  pub tells : (x : List ℕ) → IsTrue (is_among x (indices_of (nest_round t l))) → index_value scope x ≡ Some (told x)

-- these values of DO variables lie in the ranges of the DO loops around a DO (ANSI X3.9-1978, section 11.10.3; this project)
abbrev pub LieInRanges : Values → ProgramTree → ℕ → (List ℕ → ℤ) → Type 0
LieInRanges constants t l told = (x : List ℕ) (r : Interval) → lookup (is_same_text x) (around_loop constants t l) ≡ Some r → Lies (told x) r

-- the number that is held, or else 0 (plain words)
abbrev pub number_or_zero : Content → ℤ
number_or_zero (Number n) = n
number_or_zero Undefined = pos 0
number_or_zero (Lines lines) = pos 0

-- the values of names in an execution of an outermost DO: those that are given for DO variables, and for other scalars what their own cells hold in the store at its entry (ANSI X3.9-1978, section 11.10.3; this project)
abbrev pub values_with : ProgramTree → (List ℕ → ℤ) → Store → List ℕ → ℤ
values_with t told s x = if is_among x (all_loop_variables t.body) then told x else number_or_zero (s (Scalar x))

-- a store in an execution of the outermost DO that is a DO or is around it, which begins with a store: some acts of it have been done (ANSI X3.9-1978, section 11.10; this project)
pub record IsDuring (p : Setting) (t : ProgramTree) (l : ℕ) (s u : Store) : Type 0 where
  pub loop : LoopOf t (outermost_or l (nest_round t l))
  pub done : List Act
  pub left : List Act
  pub whole : (run p (Do loop.head loop.body) (outermost_or l (nest_round t l)) [] s).acts ≡ done ++ left
  pub after : u ≡ store_after done s

-- acts that come after others in a run begin with the acts of the outermost DO that is a DO or is around it, done from the store that those have left (ANSI X3.9-1978, section 11.10; this project)
pub record IsExecution (p : Setting) (t : ProgramTree) (l : ℕ) (s : Store) (front acts : List Act) : Type 0 where
  pub loop : LoopOf t (outermost_or l (nest_round t l))
  pub left : List Act
  pub begins : acts ≡ (run p (Do loop.head loop.body) (outermost_or l (nest_round t l)) [] (store_after front s)).acts ++ left

-- a number has 32 bits; what holds none is small, too (ANSI X3.9-1978, section 4.3; this project)
abbrev pub is_small : Content → Bool
is_small Undefined = true
is_small (Number n) = is_storable n
is_small (Lines lines) = true

-- touches write numbers of 32 bits alone into the cell (this project)
abbrev pub WriteSmall : Cell → List Touch → Type 0
WriteSmall c [] = Unit {0}
WriteSmall c (t ∷ ts) = (writes_to t c ≡ true → is_small t.content ≡ true) × WriteSmall c ts

-- an expression has one value at all places in the outermost DO that give these values for the DO loops around a DO, in all stores of an execution that begins with this store: it lies in the expression's interval, and a DO may have it as a bound (ANSI X3.9-1978, section 11.10.3; this project)
pub record HasValueDuring (p : Setting) (t : ProgramTree) (l : ℕ) (told : List ℕ → ℤ) (s : Store) (e : ExprTree) : Type 0 where
  pub worth : ℤ
  pub lies : Lies worth (bound_interval (setting_round p.constants t l) (around_loop p.constants t l) e)
  pub bound : is_bound worth ≡ true
  pub comes : (scope : Scope) → IsPlaceWith p.constants t l told scope → (u : Store) → IsDuring p t l s u → (value (names_in p scope) e u).result ≡ Ok worth
