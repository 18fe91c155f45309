-- Reading without a number of steps.
use Rattle.std.proofs.Common.{◌≡◌, ℕ, suc, ◌+◌, ◌*◌, ◌<◌, ◌≤◌, cond, List, length, Option, Some, None, sym, ap, ◌∙◌, arith}
use Rattle.std.specs.Prelude.{codes}
use Rattle.ped_base.specs.Letters.{is_digit, is_alphanumeric}
use Rattle.ped_tree.specs.Tree.{ExprTree, ExprTrees, Var, Pow, no_exprs, more_exprs}
use Rattle.ped_tree.specs.Grammar.Words.{is_name}
use Rattle.ped_tree.specs.Grammar.ExpressionForms.{signed, added, scaled}
use Rattle.ped_expressions.specs.Scanning.{◌>>=◌, go_on, front, behind, first_is, after, sign_at, adding_at, scaling_at}
use Rattle.ped_expressions.specs.ExpressionReading.{applied, literal_at, expr_at, sums_at, term_at, products_at, factor_at, primary_at, named_at, exprs_at, enough, expr_of, sums_of, term_of, products_of, factor_of, primary_of, named_of, exprs_of}
use Rattle.ped_expressions.proofs.Basics.{bind_same, go_same, sign_len, behind_len, after_len, adding_len, scaling_len}
use Rattle.ped_expressions.proofs.Settled.{expr_shorter, term_shorter, factor_shorter, primary_shorter, expr_settled, sums_settled, term_settled, products_settled, factor_settled, primary_settled, named_settled, exprs_settled, raised, closed, called, listed}

expr_any : (v : ℕ → ℕ) (n : ℕ) (ts : List ℕ) → 8 * length ts + 5 ≤ n → expr_at v n ts ≡ expr_of v ts
unfolding expr_of
expr_any v n ts p = expr_settled v n (enough ts) ts p (omega arith)

sums_any : (v : ℕ → ℕ) (n : ℕ) (a : ExprTree) (ts : List ℕ) → 8 * length ts + 5 ≤ n → sums_at v n a ts ≡ sums_of v a ts
unfolding sums_of
sums_any v n a ts p = sums_settled v n (enough ts) a ts p (omega arith)

term_any : (v : ℕ → ℕ) (n : ℕ) (ts : List ℕ) → 8 * length ts + 4 ≤ n → term_at v n ts ≡ term_of v ts
unfolding term_of
term_any v n ts p = term_settled v n (enough ts) ts p (omega arith)

products_any : (v : ℕ → ℕ) (n : ℕ) (a : ExprTree) (ts : List ℕ) → 8 * length ts + 5 ≤ n → products_at v n a ts ≡ products_of v a ts
unfolding products_of
products_any v n a ts p = products_settled v n (enough ts) a ts p (omega arith)

factor_any : (v : ℕ → ℕ) (n : ℕ) (ts : List ℕ) → 8 * length ts + 3 ≤ n → factor_at v n ts ≡ factor_of v ts
unfolding factor_of
factor_any v n ts p = factor_settled v n (enough ts) ts p (omega arith)

primary_any : (v : ℕ → ℕ) (n : ℕ) (ts : List ℕ) → 8 * length ts + 2 ≤ n → primary_at v n ts ≡ primary_of v ts
unfolding primary_of
primary_any v n ts p = primary_settled v n (enough ts) ts p (omega arith)

named_any : (v : ℕ → ℕ) (n : ℕ) (x : List ℕ) (ts : List ℕ) → 8 * length ts + 1 ≤ n → named_at v n x ts ≡ named_of v x ts
unfolding named_of
named_any v n x ts p = named_settled v n (enough ts) x ts p (omega arith)

exprs_any : (v : ℕ → ℕ) (n : ℕ) (ts : List ℕ) → 8 * length ts + 6 ≤ n → exprs_at v n ts ≡ exprs_of v ts
unfolding exprs_of
exprs_any v n ts p = exprs_settled v n (enough ts) ts p (omega arith)

pub expr_shorter_of : (v : ℕ → ℕ) (ts : List ℕ) (x : ExprTree × List ℕ) → expr_of v ts ≡ Some x → length x.1 < length ts
unfolding expr_of
expr_shorter_of v ts x h = expr_shorter v (enough ts) ts x h

pub expr_step : (v : ℕ → ℕ) (ts : List ℕ) → expr_of v ts ≡ (term_of v (sign_at ts).1 >>= λ x. sums_of v (signed (sign_at ts).0 x.0) x.1)
expr_step v ts =
    let n = 8 * length ts + 6 in
    let s = sign_at ts in
    let l = sign_len ts in
    sym (expr_any v (suc n) ts (omega arith))
    ∙ bind_same (term_at v n s.1) (λ x. sums_at v n (signed s.0 x.0) x.1) (λ x. sums_of v (signed s.0 x.0) x.1) (λ x h. let k = term_shorter v n s.1 x h in sums_any v n (signed s.0 x.0) x.1 (omega arith))
    ∙ ap (λ (r : Option (ExprTree × List ℕ)). r >>= λ x. sums_of v (signed s.0 x.0) x.1) (term_any v n s.1 (omega arith))

pub sums_step : (v : ℕ → ℕ) (a : ExprTree) (ts : List ℕ) → sums_of v a ts ≡ go_on (adding_at ts) (Some (a, ts)) (λ op. term_of v op.1 >>= λ x. sums_of v (added op.0 a x.0) x.1)
sums_step v a ts =
    let n = 8 * length ts + 6 in
    sym (sums_any v (suc n) a ts (omega arith))
    ∙ go_same (adding_at ts) (Some (a, ts)) (λ op. term_at v n op.1 >>= λ x. sums_at v n (added op.0 a x.0) x.1) (λ op. term_of v op.1 >>= λ x. sums_of v (added op.0 a x.0) x.1) (λ op g.
    let l = adding_len ts op g in
    bind_same (term_at v n op.1) (λ x. sums_at v n (added op.0 a x.0) x.1) (λ x. sums_of v (added op.0 a x.0) x.1) (λ x h. let k = term_shorter v n op.1 x h in sums_any v n (added op.0 a x.0) x.1 (omega arith))
    ∙ ap (λ (r : Option (ExprTree × List ℕ)). r >>= λ x. sums_of v (added op.0 a x.0) x.1) (term_any v n op.1 (omega arith)))

pub term_step : (v : ℕ → ℕ) (ts : List ℕ) → term_of v ts ≡ (factor_of v ts >>= λ x. products_of v x.0 x.1)
term_step v ts =
    let n = 8 * length ts + 6 in
    sym (term_any v (suc n) ts (omega arith))
    ∙ bind_same (factor_at v n ts) (λ x. products_at v n x.0 x.1) (λ x. products_of v x.0 x.1) (λ x h. let k = factor_shorter v n ts x h in products_any v n x.0 x.1 (omega arith))
    ∙ ap (λ (r : Option (ExprTree × List ℕ)). r >>= λ x. products_of v x.0 x.1) (factor_any v n ts (omega arith))

pub products_step : (v : ℕ → ℕ) (a : ExprTree) (ts : List ℕ) → products_of v a ts ≡ go_on (scaling_at ts) (Some (a, ts)) (λ op. factor_of v op.1 >>= λ x. products_of v (scaled op.0 a x.0) x.1)
products_step v a ts =
    let n = 8 * length ts + 6 in
    sym (products_any v (suc n) a ts (omega arith))
    ∙ go_same (scaling_at ts) (Some (a, ts)) (λ op. factor_at v n op.1 >>= λ x. products_at v n (scaled op.0 a x.0) x.1) (λ op. factor_of v op.1 >>= λ x. products_of v (scaled op.0 a x.0) x.1) (λ op g.
    let l = scaling_len ts op g in
    bind_same (factor_at v n op.1) (λ x. products_at v n (scaled op.0 a x.0) x.1) (λ x. products_of v (scaled op.0 a x.0) x.1) (λ x h. let k = factor_shorter v n op.1 x h in products_any v n (scaled op.0 a x.0) x.1 (omega arith))
    ∙ ap (λ (r : Option (ExprTree × List ℕ)). r >>= λ x. products_of v (scaled op.0 a x.0) x.1) (factor_any v n op.1 (omega arith)))

pub factor_step : (v : ℕ → ℕ) (ts : List ℕ) → factor_of v ts ≡ (primary_of v ts >>= λ x. go_on (after (codes "**") x.1) (Some x) (λ r. factor_of v r >>= λ y. Some (Pow x.0 y.0, y.1)))
factor_step v ts =
    let n = 8 * length ts + 6 in
    let goes : ExprTree × List ℕ → Option (ExprTree × List ℕ) = λ x. go_on (after (codes "**") x.1) (Some x) (λ r. factor_of v r >>= λ y. Some (Pow x.0 y.0, y.1)) in
    sym (factor_any v (suc n) ts (omega arith))
    ∙ bind_same (primary_at v n ts) (raised v n) goes (λ x h.
    let k = primary_shorter v n ts x h in
    go_same (after (codes "**") x.1) (Some x) (λ r. factor_at v n r >>= λ y. Some (Pow x.0 y.0, y.1)) (λ r. factor_of v r >>= λ y. Some (Pow x.0 y.0, y.1)) (λ r g.
    let l = after_len (codes "**") x.1 r g in
    ap (λ (q : Option (ExprTree × List ℕ)). q >>= λ y. Some (Pow x.0 y.0, y.1)) (factor_any v n r (omega arith))))
    ∙ ap (λ (r : Option (ExprTree × List ℕ)). r >>= goes) (primary_any v n ts (omega arith))

pub primary_step : (v : ℕ → ℕ) (ts : List ℕ) → primary_of v ts ≡ go_on (after (codes "(") ts) (cond (first_is is_digit ts) (literal_at v ts) (named_of v (front is_alphanumeric ts) (behind is_alphanumeric ts))) (λ q. expr_of v q >>= λ x. after (codes ")") x.1 >>= λ r. Some (x.0, r))
primary_step v ts =
    let n = 8 * length ts + 6 in
    let w = front is_alphanumeric ts in
    let r = behind is_alphanumeric ts in
    let b = behind_len is_alphanumeric ts in
    sym (primary_any v (suc n) ts (omega arith))
    ∙ ap (λ (y : Option (ExprTree × List ℕ)). go_on (after (codes "(") ts) (cond (first_is is_digit ts) (literal_at v ts) y) (λ q. expr_at v n q >>= closed)) (named_any v n w r (omega arith))
    ∙ go_same (after (codes "(") ts) (cond (first_is is_digit ts) (literal_at v ts) (named_of v w r)) (λ q. expr_at v n q >>= closed) (λ q. expr_of v q >>= closed) (λ z g.
    let l = after_len (codes "(") ts z g in
    ap (λ (y : Option (ExprTree × List ℕ)). y >>= closed) (expr_any v n z (omega arith)))

pub named_step : (v : ℕ → ℕ) (x ts : List ℕ) → named_of v x ts ≡ cond (is_name x) (go_on (after (codes "(") ts) (Some (Var x, ts)) (λ q. exprs_of v q >>= λ y. after (codes ")") y.1 >>= λ r. applied x y.0 >>= λ e. Some (e, r))) None
named_step v x ts =
    let n = 8 * length ts + 6 in
    sym (named_any v (suc n) x ts (omega arith))
    ∙ ap (λ (y : Option (ExprTree × List ℕ)). cond (is_name x) y None)
    (go_same (after (codes "(") ts) (Some (Var x, ts)) (λ q. exprs_at v n q >>= called x) (λ q. exprs_of v q >>= called x) (λ z g.
    let l = after_len (codes "(") ts z g in
    ap (λ (y : Option (ExprTrees × List ℕ)). y >>= called x) (exprs_any v n z (omega arith))))

pub exprs_step : (v : ℕ → ℕ) (ts : List ℕ) → exprs_of v ts ≡ (expr_of v ts >>= λ x. go_on (after (codes ",") x.1) (Some (more_exprs x.0 no_exprs, x.1)) (λ r. exprs_of v r >>= λ y. Some (more_exprs x.0 y.0, y.1)))
exprs_step v ts =
    let n = 8 * length ts + 6 in
    let goes : ExprTree × List ℕ → Option (ExprTrees × List ℕ) = λ x. go_on (after (codes ",") x.1) (Some (more_exprs x.0 no_exprs, x.1)) (λ r. exprs_of v r >>= λ y. Some (more_exprs x.0 y.0, y.1)) in
    sym (exprs_any v (suc n) ts (omega arith))
    ∙ bind_same (expr_at v n ts) (listed v n) goes (λ x h.
    let k = expr_shorter v n ts x h in
    go_same (after (codes ",") x.1) (Some (more_exprs x.0 no_exprs, x.1)) (λ r. exprs_at v n r >>= λ y. Some (more_exprs x.0 y.0, y.1)) (λ r. exprs_of v r >>= λ y. Some (more_exprs x.0 y.0, y.1)) (λ r g.
    let l = after_len (codes ",") x.1 r g in
    ap (λ (q : Option (ExprTrees × List ℕ)). q >>= λ y. Some (more_exprs x.0 y.0, y.1)) (exprs_any v n r (omega arith))))
    ∙ ap (λ (r : Option (ExprTree × List ℕ)). r >>= goes) (expr_any v n ts (omega arith))
