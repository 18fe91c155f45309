-- Left sides with one subscript.
use Rattle.std.proofs.Common.{◌≡◌, ℕ, ◌<◌, ℤ, List, [], ◌∷◌, length, map, get_or, ap, Ok, Err}
use Rattle.ped_tree.specs.declared.expressions.Expr.{Expr}
use Rattle.ped_tree.specs.Tree.{Element}
use Rattle.ped_tree.specs.Views.{expr_tree, pack_exprs}
use Rattle.ped_store.specs.Cells as cells
use Rattle.ped_store.specs.Keeping.{memory_of}
use Rattle.ped_eval.specs.ScopeViews.{names_at}
use Rattle.ped_eval.specs.Values.{target, is_rank}
use Rattle.ped_eval.specs.Results.{value_at, target_at}
use Rattle.ped_eval.specs.Targets.{bounded}
use Rattle.ped_eval.specs.declared.surroundings.Surroundings.{Surroundings}
use Rattle.ped_eval.proofs.Steps.{target_ranked, target_faulted, values_one_known, values_first_faulted}

-- the cell of an element whose subscript is known
pub one_bounded : (around : Surroundings) (x : List ℕ) (es : List Expr) (a : Expr) (u : ℤ) → length es ≡ 1 → a ≡ get_or es 0 a → value_at around (expr_tree a) ≡ Ok u
    → (target (names_at (memory_of around.store.now) around.scope.now around.consts.now) (Element x (pack_exprs (map expr_tree es))) (memory_of around.store.now).cells).result ≡ bounded (memory_of around.store.now) (cells.Element x (u ∷ []))
unfolding target_at
one_bounded around x es a u h e v = target_ranked around x es (u ∷ []) (values_one_known around es a u h e v) (ap is_rank h)

-- an element whose subscript faults has no cell
pub one_faulted : (around : Surroundings) (x : List ℕ) (es : List Expr) (a : Expr) (n : ℕ) → 0 < length es → a ≡ get_or es 0 a → value_at around (expr_tree a) ≡ Err n
    → (target (names_at (memory_of around.store.now) around.scope.now around.consts.now) (Element x (pack_exprs (map expr_tree es))) (memory_of around.store.now).cells).result ≡ Err n
unfolding target_at
one_faulted around x es a n h e v = target_faulted around x es n (values_first_faulted around es a n h e v)
