-- The value of a plain bound of a DO, by the values of the DO variables around it and of the scalars that keep theirs in the outermost DO (ANSI X3.9-1978, section 11.10.3; this project).
use Rattle.std.specs.Prelude.{◌≡◌, ℕ, ℤ, List, [], true, IsTrue, Some, None, Ok}
use Rattle.std.specs.Map.{lookup}
use Rattle.ped_flow.specs.ped_base.specs.Lists.{is_same_text, is_among}
use Rattle.ped_graph.specs.ped_views.specs.declared.intervals.Interval.{Interval}
use Rattle.ped_graph.specs.ped_views.specs.Intervals.{Lies}
use Rattle.ped_flow.specs.ped_tree.specs.Tree.{ExprTree, ProgramTree}
use Rattle.ped_flow.specs.ped_tree.specs.Nests.{indices_of}
use Rattle.ped_flow.specs.ped_tree.specs.Constants.NamedConstants.{value_named}
use Rattle.ped_eval.specs.ped_store.specs.Stores.{Store, Number, is_storable}
use Rattle.ped_eval.specs.Scopes.{Names}
use Rattle.ped_eval.specs.Values.{value}
use Rattle.ped_eval.specs.Loops.{is_bound}
use Rattle.ped_flow.specs.ped_affine.specs.Ranges.{Around, bound_interval}
use Rattle.ped_flow.specs.PlainBounds.{Values, nest_round, setting_round, around_with, IsFixed}

-- the DO loops around a DO with their ranges, each inside those before it (ANSI X3.9-1978, section 11.10.3)
abbrev pub around_loop : Values → ProgramTree → ℕ → Around
around_loop constants t l = around_with (setting_round constants t l) [] (nest_round t l)

-- the scalar keeps its value throughout the outermost DO, and is no named constant (this project)
pub record IsKept (constants : Values) (t : ProgramTree) (l : ℕ) (x : List ℕ) : Type 0 where
  pub fixed : IsFixed constants t l x
  pub other : value_named constants x ≡ None

-- values of names: those of the variables of the DO loops around a DO lie in their ranges, and scalars hold those of the scalars that keep theirs (ANSI X3.9-1978, section 11.10.3; this project)
pub record AreInRange (constants : Values) (t : ProgramTree) (l : ℕ) (v : List ℕ → ℤ) : Type 0 where
  pub indices : (x : List ℕ) (r : Interval) → lookup (is_same_text x) (around_loop constants t l) ≡ Some r → Lies (v x) r
  pub scalars : (x : List ℕ) → IsKept constants t l x → is_storable (v x) ≡ true

-- these values hold where a bound may be evaluated: the place gives those of the DO variables, and the store holds those of the scalars that keep theirs (ANSI X3.9-1978, section 11.10; this project)
pub record Stand (constants : Values) (t : ProgramTree) (l : ℕ) (v : List ℕ → ℤ) (g : Names) (u : Store) : Type 0 where
  pub same : g.constants ≡ constants
  pub indices : (x : List ℕ) → IsTrue (is_among x (indices_of (nest_round t l))) → g.index x ≡ Some (v x)
  pub unbound : (x : List ℕ) → IsKept constants t l x → g.index x ≡ None
  pub scalars : (x : List ℕ) → IsKept constants t l x → u (g.cell x) ≡ Number (v x)

-- an expression has one value wherever these values of names hold: it lies in the expression's interval, and a DO may have it as a bound (ANSI X3.9-1978, section 11.10.3; this project)
pub record HasPlainValue (constants : Values) (t : ProgramTree) (l : ℕ) (v : List ℕ → ℤ) (e : ExprTree) : Type 0 where
  pub worth : ℤ
  pub lies : Lies worth (bound_interval (setting_round constants t l) (around_loop constants t l) e)
  pub bound : is_bound worth ≡ true
  pub comes : (g : Names) (u : Store) → Stand constants t l v g u → (value g e u).result ≡ Ok worth
