-- What is read is written so.
use Rattle.std.proofs.Common.{◌≡◌, ℕ, zero, suc, ◌≤◌, true, cond, List, [], ◌∷◌, ◌++◌, Some, None, refl, sym, ap, subst, ◌∙◌, append_assoc, arith, inl, inr}
use Rattle.std.specs.Prelude.{codes}
use Rattle.std.proofs.lemmas.Bool.{eqb-true}
use Rattle.ped_base.specs.Letters.{is_digit, is_alphanumeric}
use Rattle.ped_tree.specs.declared.expressions.Intrinsic.{Intrinsic}
use Rattle.ped_tree.specs.declared.expressions.Intrinsic.TheVariants.{Mod, Abs, Max, Min}
use Rattle.ped_tree.specs.Tree.{ExprTree, ExprTrees, Var, Element, Pow, Call, no_exprs, more_exprs}
use Rattle.ped_tree.specs.Grammar.Words.{is_name, is_numeral, intrinsic_of}
use Rattle.ped_tree.specs.Grammar.ExpressionForms.{Sign, unsigned, positive, negative, Adding, add, subtract, Scaling, multiply, divide, ExprForm, TermForm, FactorForm, PrimaryForm, ExprsForm, first, sum, single, product, plain, power, literal, reference, remainder, absolute, greatest, least, parentheses, scalar, element, one, more, sign_text, adding_text, scaling_text, expr_form_text, term_form_text, factor_form_text, primary_form_text, exprs_form_text, signed, added, scaled, expr_form_tree, term_form_tree, factor_form_tree, primary_form_tree, exprs_form_trees}
use Rattle.ped_expressions.specs.Scanning.{◌>>=◌, go_on, front, behind, first_is, after, sign_at, adding_at, scaling_at}
use Rattle.ped_expressions.specs.ExpressionReading.{with_literals, all_with_literals, expr_count, takes, applied, literal_at, expr_at, sums_at, term_at, products_at, factor_at, primary_at, named_at, exprs_at}
use Rattle.ped_expressions.proofs.Basics.{some_is, bind_some, stops_or_goes, chosen, guarded, front_behind, front_all, after_is, sign_is, adding_is, scaling_is}

-- an expression's form, with what is read and what is left
abbrev pub FoundExpr : (ℕ → ℕ) → List ℕ → ExprTree × List ℕ → Type 0
FoundExpr v ts x = (f : ExprForm) × (with_literals v (expr_form_tree f) ≡ x.0) × (ts ≡ expr_form_text f ++ x.1)

abbrev pub FoundTerm : (ℕ → ℕ) → List ℕ → ExprTree × List ℕ → Type 0
FoundTerm v ts x = (f : TermForm) × (with_literals v (term_form_tree f) ≡ x.0) × (ts ≡ term_form_text f ++ x.1)

abbrev pub FoundFactor : (ℕ → ℕ) → List ℕ → ExprTree × List ℕ → Type 0
FoundFactor v ts x = (f : FactorForm) × (with_literals v (factor_form_tree f) ≡ x.0) × (ts ≡ factor_form_text f ++ x.1)

abbrev pub FoundPrimary : (ℕ → ℕ) → List ℕ → ExprTree × List ℕ → Type 0
FoundPrimary v ts x = (f : PrimaryForm) × (with_literals v (primary_form_tree f) ≡ x.0) × (ts ≡ primary_form_text f ++ x.1)

abbrev pub FoundExprs : (ℕ → ℕ) → List ℕ → ExprTrees × List ℕ → Type 0
FoundExprs v ts x = (f : ExprsForm) × (all_with_literals v (exprs_form_trees f) ≡ x.0) × (ts ≡ exprs_form_text f ++ x.1)

-- literals and operators

pub with_signed : (v : ℕ → ℕ) (s : Sign) (a : ExprTree) → with_literals v (signed s a) ≡ signed s (with_literals v a)
with_signed v unsigned a = refl
with_signed v positive a = refl
with_signed v negative a = refl

pub with_added : (v : ℕ → ℕ) (op : Adding) (a b : ExprTree) → with_literals v (added op a b) ≡ added op (with_literals v a) (with_literals v b)
with_added v add a b = refl
with_added v subtract a b = refl

pub with_scaled : (v : ℕ → ℕ) (op : Scaling) (a b : ExprTree) → with_literals v (scaled op a b) ≡ scaled op (with_literals v a) (with_literals v b)
with_scaled v multiply a b = refl
with_scaled v divide a b = refl

numeral_front : (ts : List ℕ) → first_is is_digit ts ≡ true → is_numeral (front is_digit ts) ≡ true
numeral_front [] d = absurd cc
numeral_front (c ∷ ts) d = rw d (rw (d, front_all is_digit ts) refl)

literal_found : (v : ℕ → ℕ) (ts : List ℕ) (x : ExprTree × List ℕ) → first_is is_digit ts ≡ true → literal_at v ts ≡ Some x → FoundPrimary v ts x
literal_found v ts x d e =
    subst (λ (y : ExprTree × List ℕ). FoundPrimary v ts y) (some_is _ x e) (literal (front is_digit ts) (numeral_front ts d), refl, sym (front_behind is_digit ts))

-- the arguments of an intrinsic function

some_exprs : (f : ExprsForm) → 1 ≤ expr_count (exprs_form_trees f)
some_exprs (one e) = omega arith
some_exprs (more e rest) = omega arith

counted : (v : ℕ → ℕ) (es : ExprTrees) → expr_count (all_with_literals v es) ≡ expr_count es
counted v no_exprs = refl
counted v (more_exprs e rest) = ap suc (counted v rest)

-- a primary that is the function f of these arguments, under the name x
abbrev pub IsCall : List ℕ → Intrinsic → ExprsForm → Type 0
IsCall x f a = (p : PrimaryForm) × (primary_form_tree p ≡ Call f (exprs_form_trees a)) × (primary_form_text p ≡ x ++ codes "(" ++ exprs_form_text a ++ codes ")")

arguments : (x : List ℕ) (a : ExprForm) (rest : ExprsForm) → x ++ codes "(" ++ expr_form_text a ++ codes "," ++ exprs_form_text rest ++ codes ")" ≡ x ++ codes "(" ++ exprs_form_text (more a rest) ++ codes ")"
arguments x a rest = simp append_assoc

pub is_call : (x : List ℕ) (f : Intrinsic) (a : ExprsForm) → intrinsic_of x ≡ Some f → takes f (expr_count (exprs_form_trees a)) ≡ true → IsCall x f a
is_call x Mod (one a) is h = absurd cc
is_call x Mod (more a (one b)) is h = (remainder x is a b, refl, arguments x a (one b))
is_call x Mod (more a (more b rest)) is h = absurd (omega (arith, eqb-true _ _ h, some_exprs rest))
is_call x Abs (one a) is h = (absolute x is a, refl, refl)
is_call x Abs (more a rest) is h = absurd (omega (arith, eqb-true _ _ h, some_exprs rest))
is_call x Max (one a) is h = absurd cc
is_call x Max (more a rest) is h = (greatest x is a rest, refl, arguments x a rest)
is_call x Min (one a) is h = absurd cc
is_call x Min (more a rest) is h = (least x is a rest, refl, arguments x a rest)

-- a name before expressions in parentheses
applied_found : (v : ℕ → ℕ) (x : List ℕ) (a : ExprsForm) (e : ExprTree) → is_name x ≡ true → applied x (all_with_literals v (exprs_form_trees a)) ≡ Some e
    → (p : PrimaryForm) × (with_literals v (primary_form_tree p) ≡ e) × (primary_form_text p ≡ x ++ codes "(" ++ exprs_form_text a ++ codes ")")
applied_found v x a e name h =
    let es = all_with_literals v (exprs_form_trees a) in
    elim (stops_or_goes (intrinsic_of x) (Some (Element x es)) (λ f. cond (takes f (expr_count es)) (Some (Call f es)) None) (Some e) h) [
      | inl g ↦ (reference (element x name g.0 a), some_is (Element x es) e g.1, refl)
      | inr g ↦
          let t = guarded (takes g.0 (expr_count es)) (Some (Call g.0 es)) e g.2 in
          let p = is_call x g.0 a g.1 (ap (takes g.0) (sym (counted v (exprs_form_trees a))) ∙ t.0) in
          (p.0, ap (with_literals v) p.1 ∙ some_is (Call g.0 es) e t.1, p.2)
    ]

-- one more part of the text
pub read_on : (a b ts r : List ℕ) → ts ≡ b ++ r → a ++ ts ≡ a ++ b ++ r
read_on a b ts r p = ap (λ (y : List ℕ). a ++ y) p ∙ sym (append_assoc a b r)

mutual
  pub expr_found : (v : ℕ → ℕ) (n : ℕ) (ts : List ℕ) (x : ExprTree × List ℕ) → expr_at v n ts ≡ Some x → FoundExpr v ts x
  expr_found v zero ts x h = absurd cc
  expr_found v (suc n) ts x h =
      let s = sign_at ts in
      let a = bind_some (term_at v n s.1) (λ x. sums_at v n (signed s.0 x.0) x.1) x h in
      let t = term_found v n s.1 a.0 a.1 in
      let r = sums_found v n (first s.0 t.0) (signed s.0 a.0.0) a.0.1 x (with_signed v s.0 (term_form_tree t.0) ∙ ap (signed s.0) t.1) a.2 in
      (r.0, r.1, sym (sign_is ts) ∙ read_on (sign_text s.0) (term_form_text t.0) s.1 a.0.1 t.2 ∙ r.2)

  pub sums_found : (v : ℕ → ℕ) (n : ℕ) (f : ExprForm) (a : ExprTree) (ts : List ℕ) (x : ExprTree × List ℕ) → with_literals v (expr_form_tree f) ≡ a → sums_at v n a ts ≡ Some x → FoundExpr v (expr_form_text f ++ ts) x
  sums_found v zero f a ts x p h = absurd cc
  sums_found v (suc n) f a ts x p h =
      elim (stops_or_goes (adding_at ts) (Some (a, ts)) (λ op. term_at v n op.1 >>= λ x. sums_at v n (added op.0 a x.0) x.1) (Some x) h) [
        | inl g ↦ subst (λ (y : ExprTree × List ℕ). FoundExpr v (expr_form_text f ++ ts) y) (some_is (a, ts) x g.1) (f, p, refl)
        | inr g ↦
            let op = g.0 in
            let b = bind_some (term_at v n op.1) (λ x. sums_at v n (added op.0 a x.0) x.1) x g.2 in
            let t = term_found v n op.1 b.0 b.1 in
            let tree : with_literals v (added op.0 (expr_form_tree f) (term_form_tree t.0)) ≡ added op.0 a b.0.0 = with_added v op.0 (expr_form_tree f) (term_form_tree t.0) ∙ ap (λ (u : ExprTree). added op.0 u (with_literals v (term_form_tree t.0))) p ∙ ap (added op.0 a) t.1 in
            let r = sums_found v n (sum f op.0 t.0) (added op.0 a b.0.0) b.0.1 x tree b.2 in
            (r.0, r.1, read_on (expr_form_text f) (adding_text op.0) ts op.1 (adding_is ts op g.1) ∙ read_on (expr_form_text f ++ adding_text op.0) (term_form_text t.0) op.1 b.0.1 t.2 ∙ r.2)
      ]

  pub term_found : (v : ℕ → ℕ) (n : ℕ) (ts : List ℕ) (x : ExprTree × List ℕ) → term_at v n ts ≡ Some x → FoundTerm v ts x
  term_found v zero ts x h = absurd cc
  term_found v (suc n) ts x h =
      let a = bind_some (factor_at v n ts) (λ x. products_at v n x.0 x.1) x h in
      let t = factor_found v n ts a.0 a.1 in
      let r = products_found v n (single t.0) a.0.0 a.0.1 x t.1 a.2 in
      (r.0, r.1, t.2 ∙ r.2)

  pub products_found : (v : ℕ → ℕ) (n : ℕ) (f : TermForm) (a : ExprTree) (ts : List ℕ) (x : ExprTree × List ℕ) → with_literals v (term_form_tree f) ≡ a → products_at v n a ts ≡ Some x → FoundTerm v (term_form_text f ++ ts) x
  products_found v zero f a ts x p h = absurd cc
  products_found v (suc n) f a ts x p h =
      elim (stops_or_goes (scaling_at ts) (Some (a, ts)) (λ op. factor_at v n op.1 >>= λ x. products_at v n (scaled op.0 a x.0) x.1) (Some x) h) [
        | inl g ↦ subst (λ (y : ExprTree × List ℕ). FoundTerm v (term_form_text f ++ ts) y) (some_is (a, ts) x g.1) (f, p, refl)
        | inr g ↦
            let op = g.0 in
            let b = bind_some (factor_at v n op.1) (λ x. products_at v n (scaled op.0 a x.0) x.1) x g.2 in
            let t = factor_found v n op.1 b.0 b.1 in
            let tree : with_literals v (scaled op.0 (term_form_tree f) (factor_form_tree t.0)) ≡ scaled op.0 a b.0.0 = with_scaled v op.0 (term_form_tree f) (factor_form_tree t.0) ∙ ap (λ (u : ExprTree). scaled op.0 u (with_literals v (factor_form_tree t.0))) p ∙ ap (scaled op.0 a) t.1 in
            let r = products_found v n (product f op.0 t.0) (scaled op.0 a b.0.0) b.0.1 x tree b.2 in
            (r.0, r.1, read_on (term_form_text f) (scaling_text op.0) ts op.1 (scaling_is ts op g.1) ∙ read_on (term_form_text f ++ scaling_text op.0) (factor_form_text t.0) op.1 b.0.1 t.2 ∙ r.2)
      ]

  pub factor_found : (v : ℕ → ℕ) (n : ℕ) (ts : List ℕ) (x : ExprTree × List ℕ) → factor_at v n ts ≡ Some x → FoundFactor v ts x
  factor_found v zero ts x h = absurd cc
  factor_found v (suc n) ts x h =
      let a = bind_some (primary_at v n ts) (λ x. go_on (after (codes "**") x.1) (Some x) (λ r. factor_at v n r >>= λ y. Some (Pow x.0 y.0, y.1))) x h in
      let p = primary_found v n ts a.0 a.1 in
      elim (stops_or_goes (after (codes "**") a.0.1) (Some a.0) (λ r. factor_at v n r >>= λ y. Some (Pow a.0.0 y.0, y.1)) (Some x) a.2) [
        | inl g ↦ subst (λ (y : ExprTree × List ℕ). FoundFactor v ts y) (some_is a.0 x g.1) (plain p.0, p.1, p.2)
        | inr g ↦
            let b = bind_some (factor_at v n g.0) (λ y. Some (Pow a.0.0 y.0, y.1)) x g.2 in
            let t = factor_found v n g.0 b.0 b.1 in
            subst (λ (y : ExprTree × List ℕ). FoundFactor v ts y) (some_is (Pow a.0.0 b.0.0, b.0.1) x b.2)
            (power p.0 t.0, ap (λ (u : ExprTree). Pow u (with_literals v (factor_form_tree t.0))) p.1 ∙ ap (Pow a.0.0) t.1, p.2 ∙ read_on (primary_form_text p.0) (codes "**") a.0.1 g.0 (after_is (codes "**") a.0.1 g.0 g.1) ∙ read_on (primary_form_text p.0 ++ codes "**") (factor_form_text t.0) g.0 b.0.1 t.2)
      ]

  pub primary_found : (v : ℕ → ℕ) (n : ℕ) (ts : List ℕ) (x : ExprTree × List ℕ) → primary_at v n ts ≡ Some x → FoundPrimary v ts x
  primary_found v zero ts x h = absurd cc
  primary_found v (suc n) ts x h =
      let w = front is_alphanumeric ts in
      let r = behind is_alphanumeric ts in
      elim (stops_or_goes (after (codes "(") ts) (cond (first_is is_digit ts) (literal_at v ts) (named_at v n w r)) (λ q. expr_at v n q >>= λ x. after (codes ")") x.1 >>= λ r. Some (x.0, r)) (Some x) h) [
        | inl p ↦ elim (chosen (first_is is_digit ts) (literal_at v ts) (named_at v n w r) (Some x) p.1) [
          | inl d ↦ literal_found v ts x d.0 d.1
          | inr d ↦ subst (λ (y : List ℕ). FoundPrimary v y x) (front_behind is_alphanumeric ts) (named_found v n w r x d.1)
        ]
        | inr p ↦
            let a = bind_some (expr_at v n p.0) (λ x. after (codes ")") x.1 >>= λ r. Some (x.0, r)) x p.2 in
            let b = bind_some (after (codes ")") a.0.1) (λ r. Some (a.0.0, r)) x a.2 in
            let e = expr_found v n p.0 a.0 a.1 in
            subst (λ (y : ExprTree × List ℕ). FoundPrimary v ts y) (some_is (a.0.0, b.0) x b.2)
            (parentheses e.0, e.1, after_is (codes "(") ts p.0 p.1 ∙ read_on (codes "(") (expr_form_text e.0) p.0 a.0.1 e.2 ∙ read_on (codes "(" ++ expr_form_text e.0) (codes ")") a.0.1 b.0 (after_is (codes ")") a.0.1 b.0 b.1))
      ]

  pub named_found : (v : ℕ → ℕ) (n : ℕ) (x ts : List ℕ) (y : ExprTree × List ℕ) → named_at v n x ts ≡ Some y → FoundPrimary v (x ++ ts) y
  named_found v zero x ts y h = absurd cc
  named_found v (suc n) x ts y h =
      let k = guarded (is_name x) (go_on (after (codes "(") ts) (Some (Var x, ts)) (λ q. exprs_at v n q >>= λ y. after (codes ")") y.1 >>= λ r. applied x y.0 >>= λ e. Some (e, r))) y h in
      elim (stops_or_goes (after (codes "(") ts) (Some (Var x, ts)) (λ q. exprs_at v n q >>= λ y. after (codes ")") y.1 >>= λ r. applied x y.0 >>= λ e. Some (e, r)) (Some y) k.1) [
        | inl g ↦ subst (λ (z : ExprTree × List ℕ). FoundPrimary v (x ++ ts) z) (some_is (Var x, ts) y g.1) (reference (scalar x k.0), refl, refl)
        | inr g ↦
            let a = bind_some (exprs_at v n g.0) (λ y. after (codes ")") y.1 >>= λ r. applied x y.0 >>= λ e. Some (e, r)) y g.2 in
            let b = bind_some (after (codes ")") a.0.1) (λ r. applied x a.0.0 >>= λ e. Some (e, r)) y a.2 in
            let c = bind_some (applied x a.0.0) (λ e. Some (e, b.0)) y b.2 in
            let l = exprs_found v n g.0 a.0 a.1 in
            let p = applied_found v x l.0 c.0 k.0 (ap (applied x) l.1 ∙ c.1) in
            let all : x ++ ts ≡ x ++ codes "(" ++ exprs_form_text l.0 ++ codes ")" ++ b.0 = read_on x (codes "(") ts g.0 (after_is (codes "(") ts g.0 g.1) ∙ read_on (x ++ codes "(") (exprs_form_text l.0) g.0 a.0.1 l.2 ∙ read_on (x ++ codes "(" ++ exprs_form_text l.0) (codes ")") a.0.1 b.0 (after_is (codes ")") a.0.1 b.0 b.1) in
            subst (λ (z : ExprTree × List ℕ). FoundPrimary v (x ++ ts) z) (some_is (c.0, b.0) y c.2)
            (p.0, p.1, all ∙ ap (λ (z : List ℕ). z ++ b.0) (sym p.2))
      ]

  pub exprs_found : (v : ℕ → ℕ) (n : ℕ) (ts : List ℕ) (x : ExprTrees × List ℕ) → exprs_at v n ts ≡ Some x → FoundExprs v ts x
  exprs_found v zero ts x h = absurd cc
  exprs_found v (suc n) ts x h =
      let a = bind_some (expr_at v n ts) (λ x. go_on (after (codes ",") x.1) (Some (more_exprs x.0 no_exprs, x.1)) (λ r. exprs_at v n r >>= λ y. Some (more_exprs x.0 y.0, y.1))) x h in
      let e = expr_found v n ts a.0 a.1 in
      elim (stops_or_goes (after (codes ",") a.0.1) (Some (more_exprs a.0.0 no_exprs, a.0.1)) (λ r. exprs_at v n r >>= λ y. Some (more_exprs a.0.0 y.0, y.1)) (Some x) a.2) [
        | inl g ↦
            subst (λ (y : ExprTrees × List ℕ). FoundExprs v ts y) (some_is (more_exprs a.0.0 no_exprs, a.0.1) x g.1)
            (one e.0, ap (λ (u : ExprTree). more_exprs u no_exprs) e.1, e.2)
        | inr g ↦
            let b = bind_some (exprs_at v n g.0) (λ y. Some (more_exprs a.0.0 y.0, y.1)) x g.2 in
            let t = exprs_found v n g.0 b.0 b.1 in
            subst (λ (y : ExprTrees × List ℕ). FoundExprs v ts y) (some_is (more_exprs a.0.0 b.0.0, b.0.1) x b.2)
            (more e.0 t.0, ap (λ (u : ExprTree). more_exprs u (all_with_literals v (exprs_form_trees t.0))) e.1 ∙ ap (more_exprs a.0.0) t.1, e.2 ∙ read_on (expr_form_text e.0) (codes ",") a.0.1 g.0 (after_is (codes ",") a.0.1 g.0 g.1) ∙ read_on (expr_form_text e.0 ++ codes ",") (exprs_form_text t.0) g.0 b.0.1 t.2)
      ]
