-- Lists of trees, packed for a tree, with what stands for each CALL.
use Rattle.std.proofs.Common.{◌≡◌, List, [], ◌∷◌, map, refl, ap}
use Rattle.ped_tree.specs.Tree.{ExprTree, StmtTree, more_stmts}
use Rattle.ped_tree.specs.Accesses.{listed}
use Rattle.ped_tree.specs.Views.{pack_exprs, pack_stmts}
use Rattle.ped_units.specs.Forms.{Called}
use Rattle.ped_units.specs.Units.{with_calls, all_with_calls}

-- statements of a list
pub stmts_with_calls : (f : Called → StmtTree) (ss : List StmtTree) → pack_stmts (map (with_calls f) ss) ≡ all_with_calls f (pack_stmts ss)
stmts_with_calls f [] = refl
stmts_with_calls f (s ∷ ss) = ap (more_stmts (with_calls f s)) (stmts_with_calls f ss)

-- expressions that are packed and listed again
pub listed_packed : (es : List ExprTree) → listed (pack_exprs es) ≡ es
listed_packed [] = refl
listed_packed (e ∷ es) = ap (λ (ds : List ExprTree). e ∷ ds) (listed_packed es)
