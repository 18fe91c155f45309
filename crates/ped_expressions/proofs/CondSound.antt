-- What is read as a condition is written so.
use Rattle.std.proofs.Common.{◌≡◌, ℕ, zero, suc, List, ◌++◌, Option, Some, None, refl, ap, subst, ◌∙◌, inl, inr}
use Rattle.std.specs.Prelude.{codes}
use Rattle.ped_tree.specs.declared.conditions.Relation.{Relation}
use Rattle.ped_tree.specs.declared.conditions.Relation.TheVariants.{Lt, Le, Eq, Ne, Gt, Ge}
use Rattle.ped_tree.specs.Tree.{ExprTree, CondTree, Rel, Not, And, Or}
use Rattle.ped_tree.specs.Printing.{relation_text}
use Rattle.ped_tree.specs.Grammar.ExpressionForms.{expr_form_text, expr_form_tree}
use Rattle.ped_tree.specs.Grammar.ConditionForms.{CondForm, LogicalTermForm, LogicalFactorForm, LogicalPrimaryForm, one_term, or, one_factor, and, affirmed, negated, relation, group, cond_form_text, logical_term_text, logical_factor_text, logical_primary_text, cond_form_tree, logical_term_tree, logical_factor_tree, logical_primary_tree}
use Rattle.ped_expressions.specs.Scanning.{◌>>=◌, after}
use Rattle.ped_expressions.specs.ExpressionReading.{with_literals, expr_of, enough}
use Rattle.ped_expressions.specs.ConditionReading.{cond_with_literals, relation_or, relation_at, relation_of, cond_at, ors_at, logical_term_at, ands_at, logical_factor_at, logical_primary_at}
use Rattle.ped_expressions.proofs.Basics.{some_is, bind_some, stops_or_goes, after_is}
use Rattle.ped_expressions.proofs.Sound.{FoundExpr, expr_found, read_on}

-- a condition's form, with what is read and what is left
abbrev pub FoundCond : (ℕ → ℕ) → List ℕ → CondTree × List ℕ → Type 0
FoundCond v ts x = (f : CondForm) × (cond_with_literals v (cond_form_tree f) ≡ x.0) × (ts ≡ cond_form_text f ++ x.1)

abbrev pub FoundTerm : (ℕ → ℕ) → List ℕ → CondTree × List ℕ → Type 0
FoundTerm v ts x = (f : LogicalTermForm) × (cond_with_literals v (logical_term_tree f) ≡ x.0) × (ts ≡ logical_term_text f ++ x.1)

abbrev pub FoundFactor : (ℕ → ℕ) → List ℕ → CondTree × List ℕ → Type 0
FoundFactor v ts x = (f : LogicalFactorForm) × (cond_with_literals v (logical_factor_tree f) ≡ x.0) × (ts ≡ logical_factor_text f ++ x.1)

abbrev pub FoundPrimary : (ℕ → ℕ) → List ℕ → CondTree × List ℕ → Type 0
FoundPrimary v ts x = (f : LogicalPrimaryForm) × (cond_with_literals v (logical_primary_tree f) ≡ x.0) × (ts ≡ logical_primary_text f ++ x.1)

-- the operator at the front
abbrev IsRelation : List ℕ → Option (Relation × List ℕ) → Type 0
IsRelation ts o = (x : Relation × List ℕ) → o ≡ Some x → ts ≡ relation_text x.0 ++ x.1

relation_or_is : (r : Relation) (ts : List ℕ) (other : Option (Relation × List ℕ)) → IsRelation ts other → IsRelation ts (relation_or r ts other)
relation_or_is r ts other h x e =
    elim (stops_or_goes (after (relation_text r) ts) other (λ rest. Some (r, rest)) (Some x) e) [
      | inl g ↦ h x g.1
      | inr g ↦ subst (λ (y : Relation × List ℕ). ts ≡ relation_text y.0 ++ y.1) (some_is (r, g.0) x g.2) (after_is (relation_text r) ts g.0 g.1)
    ]

pub relation_is : (ts : List ℕ) (x : Relation × List ℕ) → relation_at ts ≡ Some x → ts ≡ relation_text x.0 ++ x.1
relation_is ts = relation_or_is Lt ts _ (relation_or_is Le ts _ (relation_or_is Eq ts _ (relation_or_is Ne ts _ (relation_or_is Gt ts _ (relation_or_is Ge ts None (λ x e. absurd cc))))))

found_of : (v : ℕ → ℕ) (ts : List ℕ) (x : ExprTree × List ℕ) → expr_of v ts ≡ Some x → FoundExpr v ts x
unfolding expr_of
found_of v ts x h = expr_found v (enough ts) ts x h

relation_found : (v : ℕ → ℕ) (ts : List ℕ) (x : CondTree × List ℕ) → relation_of v ts ≡ Some x → FoundPrimary v ts x
unfolding relation_of
relation_found v ts x h =
    let a = bind_some (expr_of v ts) (λ a. relation_at a.1 >>= λ r. expr_of v r.1 >>= λ b. Some (Rel r.0 a.0 b.0, b.1)) x h in
    let r = bind_some (relation_at a.0.1) (λ r. expr_of v r.1 >>= λ b. Some (Rel r.0 a.0.0 b.0, b.1)) x a.2 in
    let b = bind_some (expr_of v r.0.1) (λ b. Some (Rel r.0.0 a.0.0 b.0, b.1)) x r.2 in
    let f = found_of v ts a.0 a.1 in
    let g = found_of v r.0.1 b.0 b.1 in
    subst (λ (y : CondTree × List ℕ). FoundPrimary v ts y) (some_is (Rel r.0.0 a.0.0 b.0.0, b.0.1) x b.2)
    (relation f.0 r.0.0 g.0, ap (λ (u : ExprTree). Rel r.0.0 u (with_literals v (expr_form_tree g.0))) f.1 ∙ ap (Rel r.0.0 a.0.0) g.1, f.2 ∙ read_on (expr_form_text f.0) (relation_text r.0.0) a.0.1 r.0.1 (relation_is a.0.1 r.0 r.1) ∙ read_on (expr_form_text f.0 ++ relation_text r.0.0) (expr_form_text g.0) r.0.1 b.0.1 g.2)

mutual
  pub cond_found : (v : ℕ → ℕ) (n : ℕ) (ts : List ℕ) (x : CondTree × List ℕ) → cond_at v n ts ≡ Some x → FoundCond v ts x
  cond_found v zero ts x h = absurd cc
  cond_found v (suc n) ts x h =
      let a = bind_some (logical_term_at v n ts) (λ x. ors_at v n x.0 x.1) x h in
      let t = term_found v n ts a.0 a.1 in
      let r = ors_found v n (one_term t.0) a.0.0 a.0.1 x t.1 a.2 in
      (r.0, r.1, t.2 ∙ r.2)

  ors_found : (v : ℕ → ℕ) (n : ℕ) (f : CondForm) (a : CondTree) (ts : List ℕ) (x : CondTree × List ℕ) → cond_with_literals v (cond_form_tree f) ≡ a → ors_at v n a ts ≡ Some x → FoundCond v (cond_form_text f ++ ts) x
  ors_found v zero f a ts x p h = absurd cc
  ors_found v (suc n) f a ts x p h =
      elim (stops_or_goes (after (codes ".OR.") ts) (Some (a, ts)) (λ r. logical_term_at v n r >>= λ x. ors_at v n (Or a x.0) x.1) (Some x) h) [
        | inl g ↦ subst (λ (y : CondTree × List ℕ). FoundCond v (cond_form_text f ++ ts) y) (some_is (a, ts) x g.1) (f, p, refl)
        | inr g ↦
            let b = bind_some (logical_term_at v n g.0) (λ x. ors_at v n (Or a x.0) x.1) x g.2 in
            let t = term_found v n g.0 b.0 b.1 in
            let r = ors_found v n (or f t.0) (Or a b.0.0) b.0.1 x (ap (λ (u : CondTree). Or u (cond_with_literals v (logical_term_tree t.0))) p ∙ ap (Or a) t.1) b.2 in
            (r.0, r.1, read_on (cond_form_text f) (codes ".OR.") ts g.0 (after_is (codes ".OR.") ts g.0 g.1) ∙ read_on (cond_form_text f ++ codes ".OR.") (logical_term_text t.0) g.0 b.0.1 t.2 ∙ r.2)
      ]

  pub term_found : (v : ℕ → ℕ) (n : ℕ) (ts : List ℕ) (x : CondTree × List ℕ) → logical_term_at v n ts ≡ Some x → FoundTerm v ts x
  term_found v zero ts x h = absurd cc
  term_found v (suc n) ts x h =
      let a = bind_some (logical_factor_at v n ts) (λ x. ands_at v n x.0 x.1) x h in
      let t = factor_found v n ts a.0 a.1 in
      let r = ands_found v n (one_factor t.0) a.0.0 a.0.1 x t.1 a.2 in
      (r.0, r.1, t.2 ∙ r.2)

  ands_found : (v : ℕ → ℕ) (n : ℕ) (f : LogicalTermForm) (a : CondTree) (ts : List ℕ) (x : CondTree × List ℕ) → cond_with_literals v (logical_term_tree f) ≡ a → ands_at v n a ts ≡ Some x → FoundTerm v (logical_term_text f ++ ts) x
  ands_found v zero f a ts x p h = absurd cc
  ands_found v (suc n) f a ts x p h =
      elim (stops_or_goes (after (codes ".AND.") ts) (Some (a, ts)) (λ r. logical_factor_at v n r >>= λ x. ands_at v n (And a x.0) x.1) (Some x) h) [
        | inl g ↦ subst (λ (y : CondTree × List ℕ). FoundTerm v (logical_term_text f ++ ts) y) (some_is (a, ts) x g.1) (f, p, refl)
        | inr g ↦
            let b = bind_some (logical_factor_at v n g.0) (λ x. ands_at v n (And a x.0) x.1) x g.2 in
            let t = factor_found v n g.0 b.0 b.1 in
            let r = ands_found v n (and f t.0) (And a b.0.0) b.0.1 x (ap (λ (u : CondTree). And u (cond_with_literals v (logical_factor_tree t.0))) p ∙ ap (And a) t.1) b.2 in
            (r.0, r.1, read_on (logical_term_text f) (codes ".AND.") ts g.0 (after_is (codes ".AND.") ts g.0 g.1) ∙ read_on (logical_term_text f ++ codes ".AND.") (logical_factor_text t.0) g.0 b.0.1 t.2 ∙ r.2)
      ]

  pub factor_found : (v : ℕ → ℕ) (n : ℕ) (ts : List ℕ) (x : CondTree × List ℕ) → logical_factor_at v n ts ≡ Some x → FoundFactor v ts x
  factor_found v zero ts x h = absurd cc
  factor_found v (suc n) ts x h =
      elim (stops_or_goes (after (codes ".NOT.") ts) (logical_primary_at v n ts) (λ r. logical_primary_at v n r >>= λ x. Some (Not x.0, x.1)) (Some x) h) [
        | inl g ↦ let p = primary_found v n ts x g.1 in (affirmed p.0, p.1, p.2)
        | inr g ↦
            let b = bind_some (logical_primary_at v n g.0) (λ x. Some (Not x.0, x.1)) x g.2 in
            let p = primary_found v n g.0 b.0 b.1 in
            subst (λ (y : CondTree × List ℕ). FoundFactor v ts y) (some_is (Not b.0.0, b.0.1) x b.2)
            (negated p.0, ap Not p.1, after_is (codes ".NOT.") ts g.0 g.1 ∙ read_on (codes ".NOT.") (logical_primary_text p.0) g.0 b.0.1 p.2)
      ]

  pub primary_found : (v : ℕ → ℕ) (n : ℕ) (ts : List ℕ) (x : CondTree × List ℕ) → logical_primary_at v n ts ≡ Some x → FoundPrimary v ts x
  primary_found v zero ts x h = absurd cc
  primary_found v (suc n) ts x h =
      elim (stops_or_goes (relation_of v ts) (after (codes "(") ts >>= λ q. cond_at v n q >>= λ x. after (codes ")") x.1 >>= λ r. Some (x.0, r)) (λ x. Some x) (Some x) h) [
        | inl g ↦
            let q = bind_some (after (codes "(") ts) (λ q. cond_at v n q >>= λ x. after (codes ")") x.1 >>= λ r. Some (x.0, r)) x g.1 in
            let a = bind_some (cond_at v n q.0) (λ x. after (codes ")") x.1 >>= λ r. Some (x.0, r)) x q.2 in
            let b = bind_some (after (codes ")") a.0.1) (λ r. Some (a.0.0, r)) x a.2 in
            let c = cond_found v n q.0 a.0 a.1 in
            subst (λ (y : CondTree × List ℕ). FoundPrimary v ts y) (some_is (a.0.0, b.0) x b.2)
            (group c.0, c.1, after_is (codes "(") ts q.0 q.1 ∙ read_on (codes "(") (cond_form_text c.0) q.0 a.0.1 c.2 ∙ read_on (codes "(" ++ cond_form_text c.0) (codes ")") a.0.1 b.0 (after_is (codes ")") a.0.1 b.0 b.1))
        | inr g ↦ relation_found v ts x (g.1 ∙ g.2)
      ]
