-- No printed statement and no printed DO has a label.
use Rattle.std.proofs.Common.{◌≡◌, ℕ, suc, List, [], ◌∷◌, None, Some, Option, Bool, true, false, refl, ap}
use Rattle.std.specs.Prelude.{codes, IsTrue, not, ◌&&◌}
use Rattle.std.specs.List.{list_any}
use Rattle.ped_lines.specs.ped_tree.specs.Tree.{StmtTree, StmtTrees, Assign, If, Do, Print, Read, Stop, Comment, no_stmts, more_stmts}
use Rattle.ped_lines.specs.ped_tree.specs.Printing.{own_text, private_text}
use Rattle.ped_lines.specs.ped_tree.specs.Grammar.BlockForms.{BodyForm, nothing, has_label, is_free, private_keeps_labels, body_keeps_labels, rest_keeps_labels}
use Rattle.ped_printed.proofs.ProgramLaws.Pieces.{statement_pieces, statements_pieces, Spot, statement_here, behind_pieces}
use Rattle.ped_printed.proofs.ProgramLaws.Forms.{then_spot, rest_spot, else_spot, do_spot, private_spot, inner_spot, end_spot, private_form, with_stmt, with_stmts, rest_form}

both_true : (a b : Bool) → IsTrue a → IsTrue b → IsTrue (a && b)
both_true true b p q = q
both_true false b p q = absurd cc

none_has : (labels : List (Option ℕ)) → list_any (λ l. has_label l None) labels ≡ false
none_has [] = refl
none_has (None ∷ ls) = none_has ls
none_has (Some l ∷ ls) = none_has ls

free : (labels : List (Option ℕ)) (p : Spot) (depth : ℕ) (text : List ℕ) → IsTrue (is_free labels (statement_here p depth text))
free labels p depth text = ap not (none_has labels)

private_free : (labels : List (Option ℕ)) (p : Spot) (depth : ℕ) (names : List (List ℕ)) → IsTrue (private_keeps_labels labels (private_form p depth names))
private_free labels p depth [] = refl
private_free labels p depth (x ∷ xs) = free labels p depth (private_text (x ∷ xs))

mutual
  pub stmt_fit : (labels : List (Option ℕ)) (b : BodyForm) (depth : ℕ) (p : Spot) (s : StmtTree) → IsTrue (body_keeps_labels labels b) → IsTrue (body_keeps_labels labels (with_stmt b depth p s))
  stmt_fit labels b depth p (Assign l r) h = both_true _ _ h (free labels p depth (own_text (Assign l r)))
  stmt_fit labels b depth p (If c x y) h =
      let q = then_spot depth p (If c x y) in
      both_true _ _ h
      (both_true _ _ (both_true _ _ (free labels p depth (own_text (If c x y))) (stmts_fit labels nothing (suc depth) q x refl))
      (rest_fit labels depth (rest_spot depth p (If c x y) x) y))
  stmt_fit labels b depth p (Do h body) k =
      let inside = None ∷ labels in
      both_true _ _ k
      (both_true _ _ (ap not (none_has labels))
      (both_true _ _ (both_true _ _ (both_true _ _ (free labels (do_spot p h) depth (own_text (Do h body))) (private_free inside (private_spot depth p h body) (suc depth) h.private))
      (stmts_fit inside nothing (suc depth) (inner_spot depth p h body) body refl))
      (free inside (end_spot depth p h body) depth (codes "END DO"))))
  stmt_fit labels b depth p (Print items) h = both_true _ _ h (free labels p depth (own_text (Print items)))
  stmt_fit labels b depth p (Read items) h = both_true _ _ h (free labels p depth (own_text (Read items)))
  stmt_fit labels b depth p Stop h = both_true _ _ h (free labels p depth (own_text Stop))
  stmt_fit labels b depth p (Comment text) h = h

  pub stmts_fit : (labels : List (Option ℕ)) (b : BodyForm) (depth : ℕ) (p : Spot) (s : StmtTrees) → IsTrue (body_keeps_labels labels b) → IsTrue (body_keeps_labels labels (with_stmts b depth p s))
  stmts_fit labels b depth p no_stmts h = h
  stmts_fit labels b depth p (more_stmts s rest) h =
      stmts_fit labels (with_stmt b depth p s) depth (behind_pieces p (statement_pieces depth s)) rest (stmt_fit labels b depth p s h)

  rest_fit : (labels : List (Option ℕ)) (depth : ℕ) (p : Spot) (s : StmtTrees) → IsTrue (rest_keeps_labels labels (rest_form depth p s))
  rest_fit labels depth p no_stmts = free labels p depth (codes "END IF")
  rest_fit labels depth p (more_stmts s rest) =
      let q = else_spot depth p in
      let r = behind_pieces q (statement_pieces (suc depth) s) in
      both_true _ _ (both_true _ _ (free labels p depth (codes "ELSE"))
      (stmts_fit labels (with_stmt nothing (suc depth) q s) (suc depth) r rest (stmt_fit labels nothing (suc depth) q s refl)))
      (free labels (behind_pieces r (statements_pieces (suc depth) rest)) depth (codes "END IF"))
