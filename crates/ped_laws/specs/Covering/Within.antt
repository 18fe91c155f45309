-- Values that lie in the intervals of their names, at a place of a run and in a store (ANSI X3.9-1978, section 11.10.3; this project).
use Rattle.std.specs.Prelude.{◌≡◌, ℕ, ℤ, List, [], ◌∷◌, Bool, true, false, not, Some, None}
use Rattle.ped_flow.specs.ped_base.specs.Lists.{is_among}
use Rattle.ped_graph.specs.ped_views.specs.declared.intervals.Interval.{Interval}
use Rattle.ped_graph.specs.ped_views.specs.Intervals.{Lies}
use Rattle.ped_eval.specs.ped_store.specs.Cells as cells
use Rattle.ped_eval.specs.ped_store.specs.Stores.{Store, Number, is_storable}
use Rattle.ped_eval.specs.Scopes.{Names}
use Rattle.ped_flow.specs.ped_affine.specs.Ranges.{Setting, Around, variable_interval}

-- what can be read lies in its interval: the value of a DO variable that the place gives, the number that another scalar holds, and that of an element; and both sides have the same constants (this project)
pub record AreWithin (s : Setting) (around : Around) (g : Names) (u : Store) : Type 0 where
  pub constants : g.constants ≡ s.constants
  pub indices : (x : List ℕ) (n : ℤ) (r : Interval) → g.index x ≡ Some n → variable_interval s around x ≡ Some r → Lies n r
  pub scalars : (x : List ℕ) (n : ℤ) (r : Interval) → g.index x ≡ None → u (g.cell x) ≡ Number n → variable_interval s around x ≡ Some r → Lies n r
  pub elements : (x : List ℕ) (subscripts : List ℤ) (n : ℤ) → u (cells.Element x subscripts) ≡ Number n → is_storable n ≡ true

-- one number in each interval, and as many as there are intervals (plain words)
abbrev pub AllLie : List ℤ → List Interval → Type 0
AllLie (n ∷ ns) (r ∷ rs) = Lies n r × AllLie ns rs
AllLie [] [] = Unit {0}
AllLie (n ∷ ns) [] = ⊥
AllLie [] (r ∷ rs) = ⊥

-- cells that hold a storable number or nothing: elements, and scalars that are the variable of no DO of the program, with their copies (this project)
abbrev pub is_storing : List (List ℕ) → cells.Cell → Bool
is_storing loop_variables (cells.Scalar x) = not (is_among x loop_variables)
is_storing loop_variables (cells.Element x subscripts) = true
is_storing loop_variables (cells.Private x iterations) = not (is_among x loop_variables)
is_storing loop_variables cells.In = false
is_storing loop_variables cells.Out = false

-- such cells hold storable numbers alone (ANSI X3.9-1978, section 4.3; this project)
abbrev pub HoldsStorable : List (List ℕ) → Store → Type 0
HoldsStorable loop_variables u = (c : cells.Cell) (n : ℤ) → is_storing loop_variables c ≡ true → u c ≡ Number n → is_storable n ≡ true
