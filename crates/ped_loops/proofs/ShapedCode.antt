-- Names in expressions, and the new bounds, as the code has them.
use Rattle.std.proofs.Common.{◌≡◌, ℕ, List, [], ◌∷◌, ◌++◌, map, Bool, true, false, ◌||◌, Option, Some, None, refl, sym, ap, ◌∙◌, if◌then◌else◌, eqb-true, ◌==◌, arith}
use Rattle.std.proofs.lemmas.List.Folds.{list_any-append}
use Rattle.ped_base.specs.Lists.{is_same_text, is_among}
use Rattle.ped_tree.specs.Numbering.{statements_count}
use Rattle.ped_tree.specs.Tree.{ExprTree, Call, more_exprs, Head, StmtTrees, Assign, If, Do, Print, Read, Stop, Comment, no_stmts, more_stmts}
use Rattle.ped_tree.specs.Views.{pack_exprs, pack_stmts, stmt_tree, stmt_trees}
use Rattle.ped_tree.specs.declared.statements.Stmt.{Stmt}
use Rattle.ped_rules.specs.OnlyLoops.{only_loop, change_only}
use Rattle.ped_tree.specs.declared.expressions.Intrinsic.{Intrinsic}
use Rattle.ped_rules.specs.ped_steps.specs.Replacing.{alone}
use Rattle.ped_loops.specs.CodeInterchanging.{one_around, each_around}
use Rattle.ped_loops.specs.Interchanging.{exchanged_loops, with_exchanged}
use Rattle.ped_loops.specs.Shapes.{arguments_of, extreme_of, new_inner, new_outer}

-- a name among two lists
pub among_both : (x : List ℕ) (xs ys : List (List ℕ)) → is_among x (xs ++ ys) ≡ (is_among x xs || is_among x ys)
among_both x xs ys = list_any-append (is_same_text x) xs ys

packed : (es : List ExprTree) → arguments_of es ≡ pack_exprs es
packed [] = refl
packed (e ∷ es) = ap (more_exprs e) (packed es)

-- the greatest or the least of a bound and others
pub extreme_call : (f : Intrinsic) (e : ExprTree) (es : List ExprTree) → (es ≡ [] → ⊥) → Call f (pack_exprs (e ∷ es)) ≡ extreme_of f e es
extreme_call f e [] some = absurd (some refl)
extreme_call f e (c ∷ cs) some = ap (Call f) (sym (packed (e ∷ c ∷ cs)))

-- the new inner DO in the place of each DO among these statements
pub around_all : (head : Head) (inside : StmtTrees) (ss : List Stmt) → pack_stmts (map (λ s. one_around head inside (stmt_tree s)) ss) ≡ each_around head inside (stmt_trees ss)
around_all head inside [] = refl
around_all head inside (s ∷ ss) = ap (more_stmts (one_around head inside (stmt_tree s))) (around_all head inside ss)

-- among comments and one DO that is in the place of that one
comments_stay : (head : Head) (inside ts : StmtTrees) → statements_count ts ≡ 0 → each_around head inside ts ≡ ts
comments_stay head inside no_stmts none = refl
comments_stay head inside (more_stmts (Comment text) rest) none = ap (more_stmts (Comment text)) (comments_stay head inside rest (omega (arith, none)))
comments_stay head inside (more_stmts (Assign a b) rest) none = absurd (omega (arith, none))
comments_stay head inside (more_stmts (If c a b) rest) none = absurd (omega (arith, none))
comments_stay head inside (more_stmts (Do d body) rest) none = absurd (omega (arith, none))
comments_stay head inside (more_stmts (Print items) rest) none = absurd (omega (arith, none))
comments_stay head inside (more_stmts (Read items) rest) none = absurd (omega (arith, none))
comments_stay head inside (more_stmts Stop rest) none = absurd (omega (arith, none))

module _ (g : Head) (inside : StmtTrees) where
  abbrev found : Head → StmtTrees → Head × StmtTrees
  found h body = (h, body)

  not_there : ◌≡◌ {A = Option (Head × StmtTrees)} None (Some (found g inside)) → ⊥
  not_there e = cc

  same_body : (h : Head) (body : StmtTrees) → Some (found h body) ≡ Some (found g inside) → body ≡ inside
  same_body h body e = let pairs : found h body ≡ found g inside = cc in ap (λ (p : Head × StmtTrees). p.1) pairs

  around_by : (head f : Head) (body rest : StmtTrees) (b : Bool) → (statements_count rest == 0) ≡ b → (if b then Some (found f body) else None) ≡ Some (found g inside) → more_stmts (Do head inside) (each_around head inside rest) ≡ more_stmts (Do head body) rest
  around_by head f body rest true none e = λ i. more_stmts (Do head (sym (same_body f body e) i)) (comments_stay head inside rest (eqb-true (statements_count rest) 0 none) i)
  around_by head f body rest false none e = absurd (not_there e)

  pub around_only : (head : Head) (ts : StmtTrees) → only_loop ts ≡ Some (found g inside) → each_around head inside ts ≡ change_only (λ k z. Do head z) ts
  around_only head no_stmts e = absurd (not_there e)
  around_only head (more_stmts (Comment text) rest) e = ap (more_stmts (Comment text)) (around_only head rest e)
  around_only head (more_stmts (Do f body) rest) e = around_by head f body rest (statements_count rest == 0) refl e
  around_only head (more_stmts (Assign a b) rest) e = absurd (not_there e)
  around_only head (more_stmts (If c a b) rest) e = absurd (not_there e)
  around_only head (more_stmts (Print items) rest) e = absurd (not_there e)
  around_only head (more_stmts (Read items) rest) e = absurd (not_there e)
  around_only head (more_stmts Stop rest) e = absurd (not_there e)

  -- the new loops of the code are those of the step
  pub exchanged_by : (outer : Head) (body : StmtTrees) → only_loop body ≡ Some (found g inside) → (made : StmtTrees) → made ≡ each_around (new_inner outer g) inside body
      → (first last : ExprTree) → first ≡ (new_outer outer g).first → last ≡ (new_outer outer g).last → alone (Do (record g { first = first; last = last }) made) ≡ with_exchanged outer body
  exchanged_by outer body only made is first last first_is last_is =
      (λ i. alone (Do (record g { first = first_is i; last = last_is i }) (is i)))
      ∙ ap (λ (z : StmtTrees). alone (Do (new_outer outer g) z)) (around_only (new_inner outer g) body only)
      ∙ sym (ap (exchanged_loops outer body) only)
