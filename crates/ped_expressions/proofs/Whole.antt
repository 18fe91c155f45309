-- Reading a whole text as an expression.
use Rattle.std.proofs.Common.{◌≡◌, ℕ, cond, List, [], ◌++◌, length, Some, None, refl, sym, ap, ◌∙◌, eqb}
use Rattle.std.proofs.lemmas.Bool.{eqb-true}
use Rattle.std.proofs.lemmas.List.{append-nil, nil_from_length}
use Rattle.ped_tree.specs.Tree.{ExprTree, ExprTrees, Int, Var, Element, Neg, Add, Sub, Mul, Div, Pow, Call, no_exprs, more_exprs}
use Rattle.ped_tree.specs.Grammar.ExpressionForms.{ExprForm, unsigned, first, single, plain, reference, expr_form_text, expr_form_tree, ReadsExpr, ReadsReference}
use Rattle.ped_expressions.specs.ExpressionReading.{with_literals, all_with_literals, enough, expr_of, whole_expr_of}
use Rattle.ped_expressions.proofs.Basics.{bind_some, some_is, guarded}
use Rattle.ped_expressions.proofs.Sound.{expr_found}
use Rattle.ped_expressions.proofs.Again.{expr_again, sums_stop}

-- what is read is an expression's tree
pub whole_found : (v : ℕ → ℕ) (text : List ℕ) (e : ExprTree) → whole_expr_of v text ≡ Some e → (f : ExprForm) × (expr_form_text f ≡ text) × (with_literals v (expr_form_tree f) ≡ e)
unfolding whole_expr_of expr_of
whole_found v text e h =
    let a = bind_some (expr_of v text) (λ x. cond (eqb (length x.1) 0) (Some x.0) None) e h in
    let g = guarded (eqb (length a.0.1) 0) (Some a.0.0) e a.2 in
    let f = expr_found v (enough text) text a.0 a.1 in
    let nothing : a.0.1 ≡ [] = nil_from_length a.0.1 (eqb-true _ _ g.0) in
    (f.0, sym (f.2 ∙ ap (λ (r : List ℕ). expr_form_text f.0 ++ r) nothing ∙ append-nil (expr_form_text f.0)), f.1 ∙ some_is a.0.0 e g.1)

-- an expression is read
pub whole_again : (v : ℕ → ℕ) (text : List ℕ) (e : ExprTree) → ReadsExpr text e → whole_expr_of v text ≡ Some (with_literals v e)
unfolding whole_expr_of
whole_again v text e r =
    let f = r.0 in
    let a = with_literals v (expr_form_tree f) in
    let p : expr_of v text ≡ Some (a, []) = ap (expr_of v) (sym (append-nil (expr_form_text f) ∙ r.1)) ∙ expr_again v f [] refl refl ∙ sums_stop v a [] refl in
    rw p (ap (λ (u : ExprTree). Some (with_literals v u)) r.2)

mutual
  pub with_same : (e : ExprTree) → with_literals (λ n. n) e ≡ e
  with_same (Int n) = refl
  with_same (Var x) = refl
  with_same (Element x es) = ap (Element x) (all_with_same es)
  with_same (Neg a) = ap Neg (with_same a)
  with_same (Add a b) = ap (λ (u : ExprTree). Add u (with_literals (λ n. n) b)) (with_same a) ∙ ap (Add a) (with_same b)
  with_same (Sub a b) = ap (λ (u : ExprTree). Sub u (with_literals (λ n. n) b)) (with_same a) ∙ ap (Sub a) (with_same b)
  with_same (Mul a b) = ap (λ (u : ExprTree). Mul u (with_literals (λ n. n) b)) (with_same a) ∙ ap (Mul a) (with_same b)
  with_same (Div a b) = ap (λ (u : ExprTree). Div u (with_literals (λ n. n) b)) (with_same a) ∙ ap (Div a) (with_same b)
  with_same (Pow a b) = ap (λ (u : ExprTree). Pow u (with_literals (λ n. n) b)) (with_same a) ∙ ap (Pow a) (with_same b)
  with_same (Call f es) = ap (Call f) (all_with_same es)

  all_with_same : (es : ExprTrees) → all_with_literals (λ n. n) es ≡ es
  all_with_same no_exprs = refl
  all_with_same (more_exprs e es) = ap (λ (u : ExprTree). more_exprs u (all_with_literals (λ n. n) es)) (with_same e) ∙ ap (more_exprs e) (all_with_same es)

-- a text reads as one expression
pub one_expr : (text : List ℕ) (a b : ExprTree) → ReadsExpr text a → ReadsExpr text b → a ≡ b
one_expr text a b p q = sym (with_same a) ∙ some_is _ _ (sym (whole_again (λ n. n) text a p) ∙ whole_again (λ n. n) text b q) ∙ with_same b

-- a reference is an expression
pub reference_is_expr : (text : List ℕ) (a : ExprTree) → ReadsReference text a → ReadsExpr text a
reference_is_expr text a r = (first unsigned (single (plain (reference r.0))), r.1, r.2)

-- a text reads as one scalar or element
pub one_reference : (text : List ℕ) (a b : ExprTree) → ReadsReference text a → ReadsReference text b → a ≡ b
one_reference text a b p q = one_expr text a b (reference_is_expr text a p) (reference_is_expr text b q)
