-- Lists of trees, packed for a tree, with the expression in place of the scalar in each.
use Rattle.std.proofs.Common.{◌≡◌, ℕ, List, [], ◌∷◌, map, refl, ap}
use Rattle.ped_tree.specs.Tree.{ExprTree, more_exprs, StmtTree, more_stmts}
use Rattle.ped_tree.specs.Views.{pack_exprs, pack_stmts}
use Rattle.ped_symbolic.specs.Substitution.{substituted, all_substituted, statement_substituted, statements_substituted}

-- expressions of a list
pub exprs_packed : (x : List ℕ) (by : ExprTree) (es : List ExprTree) → pack_exprs (map (substituted x by) es) ≡ all_substituted x by (pack_exprs es)
exprs_packed x by [] = refl
exprs_packed x by (e ∷ es) = ap (more_exprs (substituted x by e)) (exprs_packed x by es)

-- statements of a list
pub statements_packed : (x : List ℕ) (by : ExprTree) (ss : List StmtTree) → pack_stmts (map (statement_substituted x by) ss) ≡ statements_substituted x by (pack_stmts ss)
statements_packed x by [] = refl
statements_packed x by (s ∷ ss) = ap (more_stmts (statement_substituted x by s)) (statements_packed x by ss)
