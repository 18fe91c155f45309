-- Statements with an element in the place of a scalar, and what they do (Allen and Kennedy, section 5.3; this project).
use Rattle.std.specs.Prelude.{◌≡◌, ℕ, ℤ, List, [], ◌∷◌, false, true, Some, None}
use Rattle.ped_base.specs.Lists.{is_among}
use Rattle.ped_tree.specs.Tree.{ExprTree, Var, Element, no_exprs, more_exprs, StmtTrees}
use Rattle.ped_tree.specs.Constants.NamedConstants.{value_named}
use Rattle.ped_weaves.specs.ped_graph.specs.ped_symbols.specs.Sites.{stmts_sites}
use Rattle.ped_weaves.specs.ped_graph.specs.ped_symbols.specs.Kinds.{names_at}
use Rattle.ped_tree.specs.NamesIn.{all_loop_variables, all_private_names_in}
use Rattle.ped_weaves.specs.ped_store.specs.Cells.{Cell}
use Rattle.ped_weaves.specs.ped_store.specs.Acts.{Act}
use Rattle.ped_weaves.specs.ped_store.specs.Storage.{is_within}
use Rattle.ped_weaves.specs.ped_laws.specs.Acts.Fitting.{of_cells}
use Rattle.ped_weaves.specs.ped_laws.specs.Acts.Renaming.{AreRenamed}
use Rattle.ped_weaves.specs.ped_eval.specs.Scopes.{Setting, Scope, index_value}

-- two acts do the same on renamed cells: one step at one place, and the same reads and writes in the same order; what their places give may differ (this project)
pub record IsSameOn (name : Cell → Cell) (a b : Act) : Type 0 where
  pub step : b.step ≡ a.step
  pub place : b.place ≡ a.place
  pub touches : AreRenamed name (of_cells a.touches) (of_cells b.touches)

-- acts that do the same on renamed cells, one for each (this project)
abbrev pub AreSameOn : (Cell → Cell) → List Act → List Act → Type 0
AreSameOn name [] [] = Unit {0}
AreSameOn name [] (b ∷ bs) = ⊥
AreSameOn name (a ∷ others) [] = ⊥
AreSameOn name (a ∷ others) (b ∷ bs) = IsSameOn name a b × AreSameOn name others bs

-- the element of an array at the value of a DO variable (ANSI X3.9-1978, section 5.3)
abbrev pub element_at : List ℕ → List ℕ → ExprTree
element_at array v = Element array (more_exprs (Var v) no_exprs)

-- an element of an array may occur in the place of a scalar in statements: the array doesn't occur there; the scalar is no constant, no variable of a DO there or around them, and private to no DO there; the element's subscript is the variable of a DO around them, of no DO in them, and lies within the array's bounds (Allen and Kennedy, section 5.3; this project)
pub record MayStandFor (p : Setting) (S : Scope) (ts : StmtTrees) (x array v : List ℕ) (k : ℤ) : Type 0 where
  pub new : is_among array (names_at (stmts_sites ts)) ≡ false
  pub variable : value_named p.constants x ≡ None
  pub unbound : index_value S x ≡ None
  pub no_loop : is_among x (all_loop_variables ts) ≡ false
  pub shared : is_among x (all_private_names_in ts) ≡ false
  pub subscript : value_named p.constants v ≡ None
  pub told : index_value S v ≡ Some k
  pub outside : is_among v (all_loop_variables ts) ≡ false
  pub within : is_within (p.bounds array) (k ∷ []) ≡ true
