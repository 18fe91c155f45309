-- More steps than enough change nothing.
use Rattle.std.proofs.Common.{◌≡◌, ℕ, zero, suc, ◌+◌, ◌*◌, ◌<◌, ◌≤◌, true, cond, List, [], ◌∷◌, ◌++◌, length, Option, Some, None, ap, ◌∙◌, arith, length-append}
use Rattle.std.specs.Prelude.{codes}
use Rattle.ped_base.specs.Letters.{is_digit, is_alphanumeric}
use Rattle.ped_tree.specs.Tree.{ExprTree, ExprTrees, Var, Pow, no_exprs, more_exprs}
use Rattle.ped_tree.specs.Grammar.Words.{is_name, is_numeral}
use Rattle.ped_tree.specs.Grammar.ExpressionForms.{ExprForm, TermForm, FactorForm, PrimaryForm, ReferenceForm, ExprsForm, first, sum, single, product, plain, power, literal, reference, remainder, absolute, greatest, least, parentheses, scalar, element, one, more, sign_text, adding_text, scaling_text, expr_form_text, term_form_text, factor_form_text, primary_form_text, reference_form_text, exprs_form_text, signed, added, scaled}
use Rattle.ped_expressions.specs.Scanning.{◌>>=◌, go_on, front, behind, first_is, after, sign_at, adding_at, scaling_at}
use Rattle.ped_expressions.specs.ExpressionReading.{applied, literal_at, expr_at, sums_at, term_at, products_at, factor_at, primary_at, named_at, exprs_at}
use Rattle.ped_expressions.proofs.Basics.{bind_same, go_same, sign_len, behind_len, after_len, adding_len, scaling_len}
use Rattle.ped_expressions.proofs.Sound.{expr_found, term_found, factor_found, primary_found}

-- no form is empty

numeral_long : (ds : List ℕ) → is_numeral ds ≡ true → 0 < length ds
numeral_long [] h = absurd cc
numeral_long (c ∷ cs) h = omega arith

name_long : (x : List ℕ) → is_name x ≡ true → 0 < length x
name_long [] h = absurd cc
name_long (c ∷ cs) h = omega arith

reference_long : (r : ReferenceForm) → 0 < length (reference_form_text r)
reference_long (scalar x is) = name_long x is
reference_long (element x is other a) = omega (arith, length-append (x ++ codes "(" ++ exprs_form_text a) (codes ")"))

primary_long : (p : PrimaryForm) → 0 < length (primary_form_text p)
primary_long (literal ds is) = numeral_long ds is
primary_long (reference r) = reference_long r
primary_long (remainder x is a b) = omega (arith, length-append (x ++ codes "(" ++ expr_form_text a ++ codes "," ++ expr_form_text b) (codes ")"))
primary_long (absolute x is a) = omega (arith, length-append (x ++ codes "(" ++ expr_form_text a) (codes ")"))
primary_long (greatest x is a rest) = omega (arith, length-append (x ++ codes "(" ++ expr_form_text a ++ codes "," ++ exprs_form_text rest) (codes ")"))
primary_long (least x is a rest) = omega (arith, length-append (x ++ codes "(" ++ expr_form_text a ++ codes "," ++ exprs_form_text rest) (codes ")"))
primary_long (parentheses e) = omega (arith, length-append (codes "(" ++ expr_form_text e) (codes ")"))

factor_long : (f : FactorForm) → 0 < length (factor_form_text f)
factor_long (plain p) = primary_long p
factor_long (power p f) = omega (arith, length-append (primary_form_text p ++ codes "**") (factor_form_text f), factor_long f)

term_long : (t : TermForm) → 0 < length (term_form_text t)
term_long (single f) = factor_long f
term_long (product t op f) = omega (arith, length-append (term_form_text t ++ scaling_text op) (factor_form_text f), factor_long f)

pub expr_long : (e : ExprForm) → 0 < length (expr_form_text e)
expr_long (first s t) = omega (arith, length-append (sign_text s) (term_form_text t), term_long t)
expr_long (sum e op t) = omega (arith, length-append (expr_form_text e ++ adding_text op) (term_form_text t), term_long t)

exprs_long : (f : ExprsForm) → 0 < length (exprs_form_text f)
exprs_long (one e) = expr_long e
exprs_long (more e rest) = omega (arith, length-append (expr_form_text e ++ codes ",") (exprs_form_text rest), exprs_long rest)

pub part : (a b ts : List ℕ) → 0 < length a → ts ≡ a ++ b → length b < length ts
part a b ts h e = omega (arith, ap length e, length-append a b)

pub expr_shorter : (v : ℕ → ℕ) (n : ℕ) (ts : List ℕ) (x : ExprTree × List ℕ) → expr_at v n ts ≡ Some x → length x.1 < length ts
expr_shorter v n ts x h = let f = expr_found v n ts x h in part (expr_form_text f.0) x.1 ts (expr_long f.0) f.2

pub term_shorter : (v : ℕ → ℕ) (n : ℕ) (ts : List ℕ) (x : ExprTree × List ℕ) → term_at v n ts ≡ Some x → length x.1 < length ts
term_shorter v n ts x h = let f = term_found v n ts x h in part (term_form_text f.0) x.1 ts (term_long f.0) f.2

pub factor_shorter : (v : ℕ → ℕ) (n : ℕ) (ts : List ℕ) (x : ExprTree × List ℕ) → factor_at v n ts ≡ Some x → length x.1 < length ts
factor_shorter v n ts x h = let f = factor_found v n ts x h in part (factor_form_text f.0) x.1 ts (factor_long f.0) f.2

pub primary_shorter : (v : ℕ → ℕ) (n : ℕ) (ts : List ℕ) (x : ExprTree × List ℕ) → primary_at v n ts ≡ Some x → length x.1 < length ts
primary_shorter v n ts x h = let f = primary_found v n ts x h in part (primary_form_text f.0) x.1 ts (primary_long f.0) f.2

-- what reading goes on with

abbrev pub raised : (ℕ → ℕ) → ℕ → ExprTree × List ℕ → Option (ExprTree × List ℕ)
raised v n x = go_on (after (codes "**") x.1) (Some x) (λ r. factor_at v n r >>= λ y. Some (Pow x.0 y.0, y.1))

abbrev pub closed : ExprTree × List ℕ → Option (ExprTree × List ℕ)
closed x = after (codes ")") x.1 >>= λ r. Some (x.0, r)

abbrev pub called : List ℕ → ExprTrees × List ℕ → Option (ExprTree × List ℕ)
called x y = after (codes ")") y.1 >>= λ r. applied x y.0 >>= λ e. Some (e, r)

abbrev pub listed : (ℕ → ℕ) → ℕ → ExprTree × List ℕ → Option (ExprTrees × List ℕ)
listed v n x = go_on (after (codes ",") x.1) (Some (more_exprs x.0 no_exprs, x.1)) (λ r. exprs_at v n r >>= λ y. Some (more_exprs x.0 y.0, y.1))

mutual
  pub expr_settled : (v : ℕ → ℕ) (n m : ℕ) (ts : List ℕ) → 8 * length ts + 5 ≤ n → 8 * length ts + 5 ≤ m → expr_at v n ts ≡ expr_at v m ts
  expr_settled v zero m ts p q = absurd (omega arith)
  expr_settled v (suc n) zero ts p q = absurd (omega arith)
  expr_settled v (suc n) (suc m) ts p q =
      let s = sign_at ts in
      let l = sign_len ts in
      ap (λ (r : Option (ExprTree × List ℕ)). r >>= λ x. sums_at v n (signed s.0 x.0) x.1) (term_settled v n m s.1 (omega arith) (omega arith))
      ∙ bind_same (term_at v m s.1) (λ x. sums_at v n (signed s.0 x.0) x.1) (λ x. sums_at v m (signed s.0 x.0) x.1) (λ x h. let k = term_shorter v m s.1 x h in sums_settled v n m (signed s.0 x.0) x.1 (omega arith) (omega arith))

  pub sums_settled : (v : ℕ → ℕ) (n m : ℕ) (a : ExprTree) (ts : List ℕ) → 8 * length ts + 5 ≤ n → 8 * length ts + 5 ≤ m → sums_at v n a ts ≡ sums_at v m a ts
  sums_settled v zero m a ts p q = absurd (omega arith)
  sums_settled v (suc n) zero a ts p q = absurd (omega arith)
  sums_settled v (suc n) (suc m) a ts p q =
      go_same (adding_at ts) (Some (a, ts)) (λ op. term_at v n op.1 >>= λ x. sums_at v n (added op.0 a x.0) x.1) (λ op. term_at v m op.1 >>= λ x. sums_at v m (added op.0 a x.0) x.1) (λ op g.
      let l = adding_len ts op g in
      ap (λ (r : Option (ExprTree × List ℕ)). r >>= λ x. sums_at v n (added op.0 a x.0) x.1) (term_settled v n m op.1 (omega arith) (omega arith))
      ∙ bind_same (term_at v m op.1) (λ x. sums_at v n (added op.0 a x.0) x.1) (λ x. sums_at v m (added op.0 a x.0) x.1) (λ x h. let k = term_shorter v m op.1 x h in sums_settled v n m (added op.0 a x.0) x.1 (omega arith) (omega arith)))

  pub term_settled : (v : ℕ → ℕ) (n m : ℕ) (ts : List ℕ) → 8 * length ts + 4 ≤ n → 8 * length ts + 4 ≤ m → term_at v n ts ≡ term_at v m ts
  term_settled v zero m ts p q = absurd (omega arith)
  term_settled v (suc n) zero ts p q = absurd (omega arith)
  term_settled v (suc n) (suc m) ts p q =
      ap (λ (r : Option (ExprTree × List ℕ)). r >>= λ x. products_at v n x.0 x.1) (factor_settled v n m ts (omega arith) (omega arith))
      ∙ bind_same (factor_at v m ts) (λ x. products_at v n x.0 x.1) (λ x. products_at v m x.0 x.1) (λ x h. let k = factor_shorter v m ts x h in products_settled v n m x.0 x.1 (omega arith) (omega arith))

  pub products_settled : (v : ℕ → ℕ) (n m : ℕ) (a : ExprTree) (ts : List ℕ) → 8 * length ts + 5 ≤ n → 8 * length ts + 5 ≤ m → products_at v n a ts ≡ products_at v m a ts
  products_settled v zero m a ts p q = absurd (omega arith)
  products_settled v (suc n) zero a ts p q = absurd (omega arith)
  products_settled v (suc n) (suc m) a ts p q =
      go_same (scaling_at ts) (Some (a, ts)) (λ op. factor_at v n op.1 >>= λ x. products_at v n (scaled op.0 a x.0) x.1) (λ op. factor_at v m op.1 >>= λ x. products_at v m (scaled op.0 a x.0) x.1) (λ op g.
      let l = scaling_len ts op g in
      ap (λ (r : Option (ExprTree × List ℕ)). r >>= λ x. products_at v n (scaled op.0 a x.0) x.1) (factor_settled v n m op.1 (omega arith) (omega arith))
      ∙ bind_same (factor_at v m op.1) (λ x. products_at v n (scaled op.0 a x.0) x.1) (λ x. products_at v m (scaled op.0 a x.0) x.1) (λ x h. let k = factor_shorter v m op.1 x h in products_settled v n m (scaled op.0 a x.0) x.1 (omega arith) (omega arith)))

  pub factor_settled : (v : ℕ → ℕ) (n m : ℕ) (ts : List ℕ) → 8 * length ts + 3 ≤ n → 8 * length ts + 3 ≤ m → factor_at v n ts ≡ factor_at v m ts
  factor_settled v zero m ts p q = absurd (omega arith)
  factor_settled v (suc n) zero ts p q = absurd (omega arith)
  factor_settled v (suc n) (suc m) ts p q =
      ap (λ (r : Option (ExprTree × List ℕ)). r >>= raised v n) (primary_settled v n m ts (omega arith) (omega arith))
      ∙ bind_same (primary_at v m ts) (raised v n) (raised v m) (λ x h.
      let k = primary_shorter v m ts x h in
      go_same (after (codes "**") x.1) (Some x) (λ r. factor_at v n r >>= λ y. Some (Pow x.0 y.0, y.1)) (λ r. factor_at v m r >>= λ y. Some (Pow x.0 y.0, y.1)) (λ r g.
      let l = after_len (codes "**") x.1 r g in
      ap (λ (q : Option (ExprTree × List ℕ)). q >>= λ y. Some (Pow x.0 y.0, y.1)) (factor_settled v n m r (omega arith) (omega arith))))

  pub primary_settled : (v : ℕ → ℕ) (n m : ℕ) (ts : List ℕ) → 8 * length ts + 2 ≤ n → 8 * length ts + 2 ≤ m → primary_at v n ts ≡ primary_at v m ts
  primary_settled v zero m ts p q = absurd (omega arith)
  primary_settled v (suc n) zero ts p q = absurd (omega arith)
  primary_settled v (suc n) (suc m) ts p q =
      let w = front is_alphanumeric ts in
      let r = behind is_alphanumeric ts in
      let b = behind_len is_alphanumeric ts in
      ap (λ (y : Option (ExprTree × List ℕ)). go_on (after (codes "(") ts) (cond (first_is is_digit ts) (literal_at v ts) y) (λ q. expr_at v n q >>= closed)) (named_settled v n m w r (omega arith) (omega arith))
      ∙ go_same (after (codes "(") ts) (cond (first_is is_digit ts) (literal_at v ts) (named_at v m w r)) (λ q. expr_at v n q >>= closed) (λ q. expr_at v m q >>= closed) (λ z g.
      let l = after_len (codes "(") ts z g in
      ap (λ (y : Option (ExprTree × List ℕ)). y >>= closed) (expr_settled v n m z (omega arith) (omega arith)))

  pub named_settled : (v : ℕ → ℕ) (n m : ℕ) (x ts : List ℕ) → 8 * length ts + 1 ≤ n → 8 * length ts + 1 ≤ m → named_at v n x ts ≡ named_at v m x ts
  named_settled v zero m x ts p q = absurd (omega arith)
  named_settled v (suc n) zero x ts p q = absurd (omega arith)
  named_settled v (suc n) (suc m) x ts p q =
      ap (λ (y : Option (ExprTree × List ℕ)). cond (is_name x) y None)
      (go_same (after (codes "(") ts) (Some (Var x, ts)) (λ q. exprs_at v n q >>= called x) (λ q. exprs_at v m q >>= called x) (λ z g.
      let l = after_len (codes "(") ts z g in
      ap (λ (y : Option (ExprTrees × List ℕ)). y >>= called x) (exprs_settled v n m z (omega arith) (omega arith))))

  pub exprs_settled : (v : ℕ → ℕ) (n m : ℕ) (ts : List ℕ) → 8 * length ts + 6 ≤ n → 8 * length ts + 6 ≤ m → exprs_at v n ts ≡ exprs_at v m ts
  exprs_settled v zero m ts p q = absurd (omega arith)
  exprs_settled v (suc n) zero ts p q = absurd (omega arith)
  exprs_settled v (suc n) (suc m) ts p q =
      ap (λ (r : Option (ExprTree × List ℕ)). r >>= listed v n) (expr_settled v n m ts (omega arith) (omega arith))
      ∙ bind_same (expr_at v m ts) (listed v n) (listed v m) (λ x h.
      let k = expr_shorter v m ts x h in
      go_same (after (codes ",") x.1) (Some (more_exprs x.0 no_exprs, x.1)) (λ r. exprs_at v n r >>= λ y. Some (more_exprs x.0 y.0, y.1)) (λ r. exprs_at v m r >>= λ y. Some (more_exprs x.0 y.0, y.1)) (λ r g.
      let l = after_len (codes ",") x.1 r g in
      ap (λ (q : Option (ExprTrees × List ℕ)). q >>= λ y. Some (more_exprs x.0 y.0, y.1)) (exprs_settled v n m r (omega arith) (omega arith))))
