-- A marked block, as the code looks at its parts.
use Rattle.std.proofs.Common.{◌≡◌, List, [], ◌∷◌, length, Bool, false, None, refl, ap, if◌then◌else◌, arith}
use Rattle.ped_tree.specs.Tree.{CondTree, StmtTrees, no_stmts, more_stmts, If}
use Rattle.ped_tree.specs.Views.{stmt_trees}
use Rattle.ped_tree.specs.declared.statements.Stmt.{Stmt}
use Rattle.ped_inline.specs.Blocks.{is_always, behind_call, block_body}

-- with an ELSE
pub with_else : (c : CondTree) (a : StmtTrees) (es : List Stmt) → (length es ≡ 0 → ⊥) → block_body (If c a (stmt_trees es)) ≡ None
with_else c a [] h = absurd (h refl)
with_else c a (e ∷ es) h = refl

-- with another condition
pub not_always : (c : CondTree) (a b : StmtTrees) → is_always c ≡ false → block_body (If c a b) ≡ None
not_always c a no_stmts h = ap (λ (p : Bool). if p then behind_call a else None) h
not_always c a (more_stmts s rest) h = refl

-- without an ELSE
pub without_else : (c : CondTree) (a : StmtTrees) (es : List Stmt) → length es ≡ 0 → block_body (If c a (stmt_trees es)) ≡ (if is_always c then behind_call a else None)
without_else c a [] h = refl
without_else c a (e ∷ es) h = absurd (omega (arith, h))
