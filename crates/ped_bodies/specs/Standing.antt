-- Two places at which statements do likewise, one before and one after a step: what names stand for at the second corresponds to what they stand for at the first (this project).
use Rattle.std.specs.Prelude.{◌≡◌, ℕ, ◌+◌, ◌<◌, ℤ, List, [], ◌∷◌, ◌++◌, map, Bool, true, Some, None, Ok}
use Rattle.ped_steps.specs.ped_flow.specs.ped_base.specs.Lists.{is_among}
use Rattle.ped_steps.specs.ped_flow.specs.ped_tree.specs.Tree.{ExprTree, Var, StmtTrees}
use Rattle.ped_steps.specs.ped_flow.specs.ped_tree.specs.NamesIn.{stmts_names}
use Rattle.ped_steps.specs.ped_flow.specs.ped_tree.specs.Numbering.{statements_count}
use Rattle.ped_steps.specs.ped_flow.specs.ped_tree.specs.Constants.NamedConstants.{value_named}
use Rattle.ped_steps.specs.ped_store.specs.Cells.{Cell, Private, Iteration}
use Rattle.ped_steps.specs.ped_store.specs.Stores.{Store}
use Rattle.ped_steps.specs.ped_store.specs.Acts.{iterations_of}
use Rattle.ped_steps.specs.ped_eval.specs.Scopes.{Setting, Scope, turns_of, cell_of, index_value, names_in}
use Rattle.ped_steps.specs.ped_eval.specs.Evaluation.{Seen, cell_seen, index_seen, Evaluated}
use Rattle.ped_steps.specs.ped_eval.specs.Values.{value}
use Rattle.ped_steps.specs.ped_flow.specs.ped_tree.specs.NamesIn.{all_loop_variables}
use Rattle.ped_steps.specs.ped_eval.specs.Runs.{run_all}
use Rattle.ped_steps.specs.ped_laws.specs.Runs.Replaying.{goes_on, finish_of}
use Rattle.ped_steps.specs.Runs.Pasting.{AgreeInBounds}
use Rattle.ped_steps.specs.Runs.Renumbering.{renumbered_iteration}
use Rattle.ped_bodies.specs.Likewise.{Meet, DoesLikewise}
use Rattle.ped_bodies.specs.Rewriting.{MayBeRewritten}

-- no cell was seen (plain words)
abbrev pub SeesNoCell : List Seen → Type 0
SeesNoCell [] = Unit {0}
SeesNoCell (cell_seen c content ∷ more) = ⊥
SeesNoCell (index_seen c v ∷ more) = SeesNoCell more

-- an evaluation gives this value whatever the store holds: places and constants determine it (this project)
pub record IsTold (e : Store → Evaluated ℤ) (v : ℤ) : Type 0 where
  pub comes : (s : Store) → (e s).result ≡ Ok v
  pub unseen : (s : Store) → SeesNoCell (e s).seen

-- the DO loops of these iterations have variables among the names (this project)
abbrev pub HaveVariablesIn : List (List ℕ) → Scope → Type 0
HaveVariablesIn names [] = Unit {0}
HaveVariablesIn names (f ∷ fs) = (is_among f.variable names ≡ true) × HaveVariablesIn names fs

-- for the rewriting and these names, expressions evaluate likewise at the second place: where the first gives a DO variable a value, the rewritten variable evaluates to it there; a name to which the first gives no value gets none from the second, and isn't rewritten, nor are constants; cells of scalars correspond (this project)
pub record EvaluateLikewise (h : ExprTree → ExprTree) (name : Cell → Cell) (idle : Cell → Bool) (q : Setting) (names : List (List ℕ)) (scope other : Scope) : Type 0 where
  pub told : (x : List ℕ) (v : ℤ) → is_among x names ≡ true → value_named q.constants x ≡ None → index_value scope x ≡ Some v → IsTold (value (names_in q other) (h (Var x))) v
  pub untold : (x : List ℕ) → is_among x names ≡ true → index_value scope x ≡ None → (h (Var x) ≡ Var x) × (index_value other x ≡ None)
  pub constant : (x : List ℕ) (n : ℤ) → value_named q.constants x ≡ Some n → h (Var x) ≡ Var x
  pub cell : (x : List ℕ) → is_among x names ≡ true → Meet name idle (cell_of scope x) (cell_of other x)

-- for the rewriting and these names, the second place stands for the first: where the first gives a DO variable a value, the rewritten variable evaluates to it at the second, and further inside DO loops of other variables; a name to which the first gives no value gets none from the second, and isn't rewritten, nor are constants; cells of scalars correspond, and copies of iterations further inside (this project)
pub record StandLikewise (h : ExprTree → ExprTree) (name : Cell → Cell) (idle : Cell → Bool) (f : ℕ → ℕ) (q : Setting) (names loops : List (List ℕ)) (scope other : Scope) : Type 0 where
  pub told : (x : List ℕ) (v : ℤ) (fs : Scope) → is_among x names ≡ true → value_named q.constants x ≡ None → index_value scope x ≡ Some v → HaveVariablesIn loops fs → index_value fs x ≡ None → IsTold (value (names_in q (fs ++ other)) (h (Var x))) v
  pub untold : (x : List ℕ) → is_among x names ≡ true → index_value scope x ≡ None → (h (Var x) ≡ Var x) × (index_value other x ≡ None)
  pub constant : (x : List ℕ) (n : ℤ) → value_named q.constants x ≡ Some n → h (Var x) ≡ Var x
  pub cell : (x : List ℕ) → is_among x names ≡ true → Meet name idle (cell_of scope x) (cell_of other x)
  pub inside : (x : List ℕ) (i : Iteration) (more : List Iteration) → is_among x names ≡ true → Meet name idle (Private x (iterations_of (turns_of scope) ++ i ∷ more)) (Private x (iterations_of (turns_of other) ++ map (renumbered_iteration f) (i ∷ more)))

-- statements count as the old ones by the new numbers: this many, the first of which has one number in the old program and another in the new one (this project)
abbrev pub CountBy : (ℕ → ℕ) → Setting → Setting → ℕ → ℕ → ℕ → Type 0
CountBy f p q n m count = (k : ℕ) → k < count → q.number (m + k) ≡ f (p.number (n + k))

-- two settings agree on statements, of which the first has one number in the old program and another in the new one: on constants, on the bounds of arrays named there, and on numbers, the new ones being computed from the old ones (this project)
pub record SettingsAgree (f : ℕ → ℕ) (p q : Setting) (ts : StmtTrees) (n m : ℕ) : Type 0 where
  pub constants : p.constants ≡ q.constants
  pub bounds : AgreeInBounds p.bounds q.bounds (stmts_names ts)
  pub numbers : CountBy f p q n m (statements_count ts)

-- statements are rewritten at another place so that they do likewise (this project)
pub record StandRewritten (h : ExprTree → ExprTree) (name : Cell → Cell) (idle : Cell → Bool) (f : ℕ → ℕ) (p q : Setting) (ts : StmtTrees) (n m : ℕ) (scope other : Scope) : Type 0 where
  pub may : MayBeRewritten h p.constants ts
  pub agree : SettingsAgree f p q ts n m
  pub places : StandLikewise h name idle f q (stmts_names ts) (all_loop_variables ts) scope other

-- statements that go on do likewise at another place, with others there (this project)
abbrev pub GoLikewise : (name : Cell → Cell) (idle : Cell → Bool) (f : ℕ → ℕ) (p q : Setting) (ts others : StmtTrees) (n m : ℕ) (scope other : Scope) → Type 0
GoLikewise name idle f p q ts others n m scope other = (s : Store) → finish_of (run_all p ts n scope s).ending ≡ goes_on → DoesLikewise name idle f (turns_of scope) (turns_of other) (run_all p ts n scope s).acts goes_on (run_all q others m other)
