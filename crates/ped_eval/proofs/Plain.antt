-- Scalars that stand for their own cells.
use Rattle.std.proofs.Common.{◌≡◌, ℕ, List, Bool, false, Bor, Option, Some, None, IfSome, ap, ◌∙◌, sym}
use Rattle.ped_tree.specs.Tree.{Var}
use Rattle.ped_tree.specs.Views.{expr_tree}
use Rattle.ped_tree.specs.declared.expressions.Expr.{Expr}
use Rattle.ped_store.specs.Cells.{Scalar}
use Rattle.ped_eval.specs.Scopes.{Scope, cell_of}

-- the left side is a scalar that stands for its own cell
pub own_left : (left : Expr) (x : List ℕ) (scope : Scope) (kept : Bool) (r : Option (Bor (List ℕ))) → expr_tree left ≡ Var x → kept ≡ false → IfSome r (λ y. (y.now ≡ x) × (cell_of scope x ≡ Scalar x))
    → IfSome r (λ y. (expr_tree left ≡ Var y.now) × (cell_of scope y.now ≡ Scalar y.now) × (kept ≡ false))
own_left left x scope kept None e k h = tt
own_left left x scope kept (Some y) e k h = (e ∙ ap Var (sym h.0), ap (cell_of scope) h.0 ∙ h.1 ∙ ap Scalar (sym h.0), k)
