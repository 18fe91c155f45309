-- What is printed of a condition has a form in each place.
use Rattle.std.proofs.Common.{◌≡◌, false, List, ◌++◌, ap, subst, ◌∙◌, ℕ}
use Rattle.std.specs.Prelude.{codes}
use Rattle.ped_tree.specs.Tree.{ExprTree, CondTree, Rel, Not, And, Or}
use Rattle.ped_tree.specs.Grammar.Literals.{has_large_literal, cond_has_large_literal}
use Rattle.ped_tree.specs.Printing.{value_text, relation_text, whole, in_or, in_and, in_not, cond_text}
use Rattle.ped_tree.specs.Grammar.ExpressionForms.{expr_form_text, expr_form_tree}
use Rattle.ped_tree.specs.Grammar.ConditionForms.{CondForm, LogicalTermForm, LogicalFactorForm, LogicalPrimaryForm, one_term, or, one_factor, and, affirmed, negated, relation, group, cond_form_text, logical_term_text, logical_factor_text, logical_primary_text, cond_form_tree, logical_term_tree, logical_factor_tree, logical_primary_tree, ReadsCond}
use Rattle.ped_expressions.proofs.Large.{neither}
use Rattle.ped_expressions.proofs.Printed.{Stands, expr_stands, printed}

-- a tree of a form without a literal that is too large
abbrev pub CondStands : CondTree → Type 0
CondStands (Rel r a b) = Stands a × Stands b
CondStands (Not a) = CondStands a
CondStands (And a b) = CondStands a × CondStands b
CondStands (Or a b) = CondStands a × CondStands b

mutual
  pub cond_stands : (c : CondForm) → cond_has_large_literal (cond_form_tree c) ≡ false → CondStands (cond_form_tree c)
  cond_stands (one_term t) h = term_stands t h
  cond_stands (or c t) h = let k = neither (cond_has_large_literal (cond_form_tree c)) (cond_has_large_literal (logical_term_tree t)) h in (cond_stands c k.0, term_stands t k.1)

  term_stands : (t : LogicalTermForm) → cond_has_large_literal (logical_term_tree t) ≡ false → CondStands (logical_term_tree t)
  term_stands (one_factor f) h = factor_stands f h
  term_stands (and t f) h = let k = neither (cond_has_large_literal (logical_term_tree t)) (cond_has_large_literal (logical_factor_tree f)) h in (term_stands t k.0, factor_stands f k.1)

  factor_stands : (f : LogicalFactorForm) → cond_has_large_literal (logical_factor_tree f) ≡ false → CondStands (logical_factor_tree f)
  factor_stands (affirmed p) h = primary_stands p h
  factor_stands (negated p) h = primary_stands p h

  primary_stands : (p : LogicalPrimaryForm) → cond_has_large_literal (logical_primary_tree p) ≡ false → CondStands (logical_primary_tree p)
  primary_stands (relation a r b) h = let k = neither (has_large_literal (expr_form_tree a)) (has_large_literal (expr_form_tree b)) h in (expr_stands a k.0, expr_stands b k.1)
  primary_stands (group c) h = cond_stands c h

-- a form for each place where the tree may stand
pub record CondPrinted (c : CondTree) : Type 0 where
  pub cond_form : (f : CondForm) × (cond_form_text f ≡ cond_text whole c) × (cond_form_tree f ≡ c)
  pub term_form : (f : LogicalTermForm) × (logical_term_text f ≡ cond_text in_or c) × (logical_term_tree f ≡ c)
  pub factor_form : (f : LogicalFactorForm) × (logical_factor_text f ≡ cond_text in_and c) × (logical_factor_tree f ≡ c)
  pub primary_form : (f : LogicalPrimaryForm) × (logical_primary_text f ≡ cond_text in_not c) × (logical_primary_tree f ≡ c)

enclose : (ts : List ℕ) (f : CondForm) → cond_form_text f ≡ ts → logical_primary_text (group f) ≡ codes "(" ++ ts ++ codes ")"
enclose ts f t = ap (λ (x : List ℕ). codes "(" ++ x ++ codes ")") t

joined : (a b c d op : List ℕ) → a ≡ c → b ≡ d → a ++ op ++ b ≡ c ++ op ++ d
joined a b c d op p q = cc

pub cond_printed : (c : CondTree) → CondStands c → CondPrinted c
cond_printed (Rel r a b) h =
    let p = (printed a h.0).expr_form in
    let q = (printed b h.1).expr_form in
    let t : expr_form_text p.0 ++ relation_text r ++ expr_form_text q.0 ≡ value_text a ++ relation_text r ++ value_text b = joined _ _ _ _ (relation_text r) p.1 q.1 in
    let i : Rel r (expr_form_tree p.0) (expr_form_tree q.0) ≡ Rel r a b = ap (λ (u : ExprTree). Rel r u (expr_form_tree q.0)) p.2 ∙ ap (Rel r a) q.2 in
    let f = relation p.0 r q.0 in
    record {
      cond_form = (one_term (one_factor (affirmed f)), t, i);
      term_form = (one_factor (affirmed f), t, i);
      factor_form = (affirmed f, t, i);
      primary_form = (f, t, i);
    }
cond_printed (Not a) h =
    let p = (cond_printed a h).primary_form in
    let f = negated p.0 in
    let t : codes ".NOT." ++ logical_primary_text p.0 ≡ codes ".NOT." ++ cond_text in_not a = ap (λ (y : List ℕ). codes ".NOT." ++ y) p.1 in
    let i : Not (logical_primary_tree p.0) ≡ Not a = ap Not p.2 in
    record {
      cond_form = (one_term (one_factor f), t, i);
      term_form = (one_factor f, t, i);
      factor_form = (f, t, i);
      primary_form = (group (one_term (one_factor f)), enclose _ (one_term (one_factor f)) t, i);
    }
cond_printed (And a b) h =
    let p = (cond_printed a h.0).term_form in
    let q = (cond_printed b h.1).factor_form in
    let f = and p.0 q.0 in
    let t : logical_term_text p.0 ++ codes ".AND." ++ logical_factor_text q.0 ≡ cond_text in_or a ++ codes ".AND." ++ cond_text in_and b = joined _ _ _ _ (codes ".AND.") p.1 q.1 in
    let i : And (logical_term_tree p.0) (logical_factor_tree q.0) ≡ And a b = ap (λ (u : CondTree). And u (logical_factor_tree q.0)) p.2 ∙ ap (And a) q.2 in
    record {
      cond_form = (one_term f, t, i);
      term_form = (f, t, i);
      factor_form = (affirmed (group (one_term f)), enclose _ (one_term f) t, i);
      primary_form = (group (one_term f), enclose _ (one_term f) t, i);
    }
cond_printed (Or a b) h =
    let p = (cond_printed a h.0).cond_form in
    let q = (cond_printed b h.1).term_form in
    let f = or p.0 q.0 in
    let t : cond_form_text p.0 ++ codes ".OR." ++ logical_term_text q.0 ≡ cond_text whole a ++ codes ".OR." ++ cond_text in_or b = joined _ _ _ _ (codes ".OR.") p.1 q.1 in
    let i : Or (cond_form_tree p.0) (logical_term_tree q.0) ≡ Or a b = ap (λ (u : CondTree). Or u (logical_term_tree q.0)) p.2 ∙ ap (Or a) q.2 in
    record {
      cond_form = (f, t, i);
      term_form = (one_factor (affirmed (group f)), enclose _ f t, i);
      factor_form = (affirmed (group f), enclose _ f t, i);
      primary_form = (group f, enclose _ f t, i);
    }

-- the printed text of what some text reads as reads so
pub cond_prints : (text : List ℕ) (c : CondTree) → ReadsCond text c → cond_has_large_literal c ≡ false → ReadsCond (cond_text whole c) c
cond_prints text c r small =
    let p = (cond_printed c (subst CondStands r.2 (cond_stands r.0 (ap cond_has_large_literal r.2 ∙ small)))).cond_form in
    (p.0, p.1, p.2)
