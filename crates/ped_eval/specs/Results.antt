-- Results of evaluations at a place of a run, without what they read (this project).
use Rattle.std.specs.Prelude.{ℕ, ℤ, List, map, Bool, Result, Ok, Err}
use Rattle.ped_tree.specs.Tree.{ExprTree, CondTree}
use Rattle.ped_tree.specs.Views.{pack_exprs, expr_tree}
use Rattle.ped_tree.specs.declared.expressions.Expr.{Expr}
use Rattle.ped_store.specs.Cells.{Cell}
use Rattle.ped_store.specs.Keeping.{memory_of}
use Rattle.ped_eval.specs.declared.surroundings.Surroundings.{Surroundings}
use Rattle.ped_eval.specs.ScopeViews.{names_at}
use Rattle.ped_eval.specs.Values.{value, values, target, truth}

-- what comes of a value; a fault stays
abbrev pub of_one : {A B : Type 0} → (A → Result B ℕ) → Result A ℕ → Result B ℕ
of_one f (Ok u) = f u
of_one f (Err n) = Err n

-- what comes of two values; the first fault stays
abbrev pub of_two : {A B C : Type 0} → (A → B → Result C ℕ) → Result A ℕ → Result B ℕ → Result C ℕ
of_two f (Ok u) (Ok v) = f u v
of_two f (Ok u) (Err n) = Err n
of_two f (Err n) b = Err n

-- the result of what is evaluated after a value; the first fault stays
abbrev pub next_result : {A B : Type 0} → Result A ℕ → Result B ℕ → Result B ℕ
next_result (Ok u) r = r
next_result (Err n) r = Err n

-- the value of an expression, or its fault
unfoldable pub value_at : Surroundings → ExprTree → Result ℤ ℕ
value_at around t = (value (names_at (memory_of around.store.now) around.scope.now around.consts.now) t (memory_of around.store.now).cells).result

-- the values of expressions, or the first fault in them
unfoldable pub values_at : Surroundings → List Expr → Result (List ℤ) ℕ
values_at around es = (values (names_at (memory_of around.store.now) around.scope.now around.consts.now) (pack_exprs (map expr_tree es)) (memory_of around.store.now).cells).result

-- the cell of a left side or of an item of a READ, or its fault
unfoldable pub target_at : Surroundings → ExprTree → Result Cell ℕ
target_at around t = (target (names_at (memory_of around.store.now) around.scope.now around.consts.now) t (memory_of around.store.now).cells).result

-- whether a condition is true, or its fault
unfoldable pub truth_at : Surroundings → CondTree → Result Bool ℕ
truth_at around t = (truth (names_at (memory_of around.store.now) around.scope.now around.consts.now) t (memory_of around.store.now).cells).result

-- the first fault in expressions with these values, or else this one
abbrev pub fault_or : ℕ → Result (List ℤ) ℕ → ℕ
fault_or fault (Ok us) = fault
fault_or fault (Err n) = n
