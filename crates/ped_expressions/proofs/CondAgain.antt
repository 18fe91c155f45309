-- What is written as a condition is so read.
use Rattle.std.proofs.Common.{◌≡◌, ℕ, Bool, true, false, List, [], ◌∷◌, ◌++◌, Some, None, refl, ap, ◌∙◌, arith, eqb, inl, inr, ◌⊎◌}
use Rattle.std.specs.Prelude.{codes, ◌||◌}
use Rattle.std.proofs.lemmas.Bool.{eqb-true}
use Rattle.ped_tree.specs.declared.conditions.Relation.{Relation}
use Rattle.ped_tree.specs.declared.conditions.Relation.TheVariants.{Lt, Le, Eq, Ne, Gt, Ge}
use Rattle.ped_tree.specs.Tree.{ExprTree, CondTree, Rel}
use Rattle.ped_tree.specs.Printing.{relation_text}
use Rattle.ped_tree.specs.Grammar.ExpressionForms.{ExprForm, first, sum, unsigned, positive, negative, adding_text, term_form_text, expr_form_text, expr_form_tree}
use Rattle.ped_tree.specs.Grammar.ConditionForms.{CondForm, LogicalTermForm, LogicalFactorForm, LogicalPrimaryForm, one_term, or, one_factor, and, affirmed, negated, relation, group, cond_form_text, logical_term_text, logical_factor_text, logical_primary_text, cond_form_tree, logical_term_tree, logical_factor_tree, logical_primary_tree}
use Rattle.ped_expressions.specs.Scanning.{after, adding_at, scaling_at}
use Rattle.ped_expressions.specs.ExpressionReading.{with_literals, expr_of, primary_of}
use Rattle.ped_expressions.specs.ConditionReading.{cond_with_literals, relation_at, relation_of, cond_of, ors_of, logical_term_of, ands_of, logical_factor_of, logical_primary_of}
use Rattle.ped_expressions.proofs.Equations.{expr_step, term_step, factor_step, primary_step, named_step}
use Rattle.ped_expressions.proofs.Again.{ends_word, begins_primary, term_begins, assoc_3, expr_again, sums_stop}
use Rattle.ped_expressions.proofs.CondEquations.{cond_step, ors_step, logical_term_step, ands_step, logical_factor_step, logical_primary_step}

-- an expression ends here: at the end, at a closing parenthesis or at a period
abbrev pub ends_expr : List ℕ → Bool
ends_expr [] = true
ends_expr (c ∷ ts) = eqb c 41 || eqb c 46

ends_are_ends : (ts : List ℕ) → ends_expr ts ≡ true → ends_word ts ≡ true
ends_are_ends [] h = refl
ends_are_ends (c ∷ ts) h = grind (arith, eqb-true)

ends_no_scaling : (ts : List ℕ) → ends_expr ts ≡ true → scaling_at ts ≡ None
ends_no_scaling [] h = refl
ends_no_scaling (c ∷ ts) h = grind (arith, eqb-true)

ends_no_adding : (ts : List ℕ) → ends_expr ts ≡ true → adding_at ts ≡ None
ends_no_adding [] h = refl
ends_no_adding (c ∷ ts) h = grind (arith, eqb-true)

-- an expression before an end
pub expr_read : (v : ℕ → ℕ) (e : ExprForm) (rest : List ℕ) → ends_expr rest ≡ true → expr_of v (expr_form_text e ++ rest) ≡ Some (with_literals v (expr_form_tree e), rest)
expr_read v e rest h = expr_again v e rest (ends_are_ends rest h) (ends_no_scaling rest h) ∙ sums_stop v _ rest (ends_no_adding rest h)

-- relations

relation_ends : (r : Relation) (ts : List ℕ) → ends_expr (relation_text r ++ ts) ≡ true
relation_ends Lt ts = refl
relation_ends Le ts = refl
relation_ends Eq ts = refl
relation_ends Ne ts = refl
relation_ends Gt ts = refl
relation_ends Ge ts = refl

operator_again : (r : Relation) (ts : List ℕ) → relation_at (relation_text r ++ ts) ≡ Some (r, ts)
operator_again Lt ts = refl
operator_again Le ts = refl
operator_again Eq ts = refl
operator_again Ne ts = refl
operator_again Gt ts = refl
operator_again Ge ts = refl

relation_again : (v : ℕ → ℕ) (a b : ExprForm) (r : Relation) (rest : List ℕ) → ends_expr rest ≡ true
    → relation_of v (expr_form_text a ++ (relation_text r ++ (expr_form_text b ++ rest))) ≡ Some (Rel r (with_literals v (expr_form_tree a)) (with_literals v (expr_form_tree b)), rest)
unfolding relation_of
relation_again v a b r rest h = rw (expr_read v a _ (relation_ends r (expr_form_text b ++ rest)), operator_again r (expr_form_text b ++ rest), expr_read v b rest h) refl

-- what stands in a group's parentheses is no expression

abbrev pub Fails : (ℕ → ℕ) → List ℕ → Type 0
Fails v ts = (expr_of v ts ≡ None) ⊎ ((e : ExprTree) × (r : List ℕ) × (expr_of v ts ≡ Some (e, codes "." ++ r)))

along : (v : ℕ → ℕ) (a b : List ℕ) → a ≡ b → Fails v b → Fails v a
along v a b e (inl n) = inl (ap (expr_of v) e ∙ n)
along v a b e (inr y) = inr (y.0, y.1, ap (expr_of v) e ∙ y.2)

no_primary : (v : ℕ → ℕ) (ts : List ℕ) → primary_of v (codes "(" ++ ts) ≡ None → expr_of v (codes "(" ++ ts) ≡ None
no_primary v ts p = expr_step v (codes "(" ++ ts) ∙ rw (term_step v (codes "(" ++ ts), factor_step v (codes "(" ++ ts), p) refl

no_group : (v : ℕ → ℕ) (ts : List ℕ) → Fails v ts → expr_of v (codes "(" ++ ts) ≡ None
no_group v ts (inl n) = no_primary v ts (primary_step v (codes "(" ++ ts) ∙ rw n refl)
no_group v ts (inr y) = no_primary v ts (primary_step v (codes "(" ++ ts) ∙ rw y.2 refl)

no_period : (v : ℕ → ℕ) (ts : List ℕ) → expr_of v (codes "." ++ ts) ≡ None
no_period v ts = expr_step v (codes "." ++ ts) ∙ rw (term_step v (codes "." ++ ts), factor_step v (codes "." ++ ts), primary_step v (codes "." ++ ts), named_step v [] (codes "." ++ ts)) refl

relation_fails : (v : ℕ → ℕ) (a : ExprForm) (r : Relation) (rest : List ℕ) → Fails v (expr_form_text a ++ (relation_text r ++ rest))
relation_fails v a Lt rest = inr (_, _, expr_read v a (relation_text Lt ++ rest) refl)
relation_fails v a Le rest = inr (_, _, expr_read v a (relation_text Le ++ rest) refl)
relation_fails v a Eq rest = inr (_, _, expr_read v a (relation_text Eq ++ rest) refl)
relation_fails v a Ne rest = inr (_, _, expr_read v a (relation_text Ne ++ rest) refl)
relation_fails v a Gt rest = inr (_, _, expr_read v a (relation_text Gt ++ rest) refl)
relation_fails v a Ge rest = inr (_, _, expr_read v a (relation_text Ge ++ rest) refl)

mutual
  pub cond_fails : (v : ℕ → ℕ) (c : CondForm) (rest : List ℕ) → Fails v (cond_form_text c ++ rest)
  cond_fails v (one_term t) rest = term_fails v t rest
  cond_fails v (or c t) rest = along v _ _ (assoc_3 (cond_form_text c) (codes ".OR.") (logical_term_text t) rest) (cond_fails v c _)

  term_fails : (v : ℕ → ℕ) (t : LogicalTermForm) (rest : List ℕ) → Fails v (logical_term_text t ++ rest)
  term_fails v (one_factor f) rest = factor_fails v f rest
  term_fails v (and t f) rest = along v _ _ (assoc_3 (logical_term_text t) (codes ".AND.") (logical_factor_text f) rest) (term_fails v t _)

  factor_fails : (v : ℕ → ℕ) (f : LogicalFactorForm) (rest : List ℕ) → Fails v (logical_factor_text f ++ rest)
  factor_fails v (affirmed p) rest = primary_fails v p rest
  factor_fails v (negated p) rest = inl (no_period v (codes "NOT." ++ (logical_primary_text p ++ rest)))

  primary_fails : (v : ℕ → ℕ) (p : LogicalPrimaryForm) (rest : List ℕ) → Fails v (logical_primary_text p ++ rest)
  primary_fails v (relation a r b) rest = along v _ _ (assoc_3 (expr_form_text a) (relation_text r) (expr_form_text b) rest) (relation_fails v a r (expr_form_text b ++ rest))
  primary_fails v (group c) rest = inl (ap (expr_of v) (assoc_3 (codes "(") (cond_form_text c) (codes ")") rest) ∙ no_group v (cond_form_text c ++ (codes ")" ++ rest)) (cond_fails v c (codes ")" ++ rest)))

group_is_no_relation : (v : ℕ → ℕ) (c : CondForm) (rest : List ℕ) → relation_of v (codes "(" ++ (cond_form_text c ++ (codes ")" ++ rest))) ≡ None
unfolding relation_of
group_is_no_relation v c rest = rw (no_group v (cond_form_text c ++ (codes ")" ++ rest)) (cond_fails v c (codes ")" ++ rest))) refl

-- a logical primary doesn't begin with a period

no_not_before_primary : (ts : List ℕ) → begins_primary ts ≡ true → after (codes ".NOT.") ts ≡ None
no_not_before_primary [] h = absurd cc
no_not_before_primary (c ∷ ts) h = let k : eqb 46 c ≡ false = grind (arith, eqb-true) in rw k refl

no_not_before_expr : (e : ExprForm) (rest : List ℕ) → after (codes ".NOT.") (expr_form_text e ++ rest) ≡ None
no_not_before_expr (first unsigned t) rest = no_not_before_primary (term_form_text t ++ rest) (term_begins t rest)
no_not_before_expr (first positive t) rest = refl
no_not_before_expr (first negative t) rest = refl
no_not_before_expr (sum e op t) rest = ap (after (codes ".NOT.")) (assoc_3 (expr_form_text e) (adding_text op) (term_form_text t) rest) ∙ no_not_before_expr e _

no_not : (p : LogicalPrimaryForm) (rest : List ℕ) → after (codes ".NOT.") (logical_primary_text p ++ rest) ≡ None
no_not (relation a r b) rest = ap (after (codes ".NOT.")) (assoc_3 (expr_form_text a) (relation_text r) (expr_form_text b) rest) ∙ no_not_before_expr a _
no_not (group c) rest = refl

pub ors_stop : (v : ℕ → ℕ) (a : CondTree) (rest : List ℕ) → after (codes ".OR.") rest ≡ None → ors_of v a rest ≡ Some (a, rest)
ors_stop v a rest h = ors_step v a rest ∙ rw h refl

ands_stop : (v : ℕ → ℕ) (a : CondTree) (rest : List ℕ) → after (codes ".AND.") rest ≡ None → ands_of v a rest ≡ Some (a, rest)
ands_stop v a rest h = ands_step v a rest ∙ rw h refl

mutual
  primary_again : (v : ℕ → ℕ) (p : LogicalPrimaryForm) (rest : List ℕ) → ends_expr rest ≡ true → logical_primary_of v (logical_primary_text p ++ rest) ≡ Some (cond_with_literals v (logical_primary_tree p), rest)
  primary_again v (relation a r b) rest h =
      ap (logical_primary_of v) (assoc_3 (expr_form_text a) (relation_text r) (expr_form_text b) rest)
      ∙ logical_primary_step v (expr_form_text a ++ (relation_text r ++ (expr_form_text b ++ rest)))
      ∙ rw (relation_again v a b r rest h) refl
  primary_again v (group c) rest h =
      ap (logical_primary_of v) (assoc_3 (codes "(") (cond_form_text c) (codes ")") rest)
      ∙ logical_primary_step v (codes "(" ++ (cond_form_text c ++ (codes ")" ++ rest)))
      ∙ rw (group_is_no_relation v c rest, cond_again v c (codes ")" ++ rest) refl refl, ors_stop v (cond_with_literals v (cond_form_tree c)) (codes ")" ++ rest) refl) refl

  factor_again : (v : ℕ → ℕ) (f : LogicalFactorForm) (rest : List ℕ) → ends_expr rest ≡ true → logical_factor_of v (logical_factor_text f ++ rest) ≡ Some (cond_with_literals v (logical_factor_tree f), rest)
  factor_again v (affirmed p) rest h = logical_factor_step v (logical_primary_text p ++ rest) ∙ rw (no_not p rest, primary_again v p rest h) refl
  factor_again v (negated p) rest h = logical_factor_step v (codes ".NOT." ++ (logical_primary_text p ++ rest)) ∙ rw (primary_again v p rest h) refl

  term_again : (v : ℕ → ℕ) (t : LogicalTermForm) (rest : List ℕ) → ends_expr rest ≡ true → logical_term_of v (logical_term_text t ++ rest) ≡ ands_of v (cond_with_literals v (logical_term_tree t)) rest
  term_again v (one_factor f) rest h = logical_term_step v (logical_factor_text f ++ rest) ∙ rw (factor_again v f rest h) refl
  term_again v (and t f) rest h =
      let r = logical_factor_text f ++ rest in
      ap (logical_term_of v) (assoc_3 (logical_term_text t) (codes ".AND.") (logical_factor_text f) rest)
      ∙ term_again v t (codes ".AND." ++ r) refl
      ∙ ands_step v (cond_with_literals v (logical_term_tree t)) (codes ".AND." ++ r)
      ∙ rw (factor_again v f rest h) refl

  pub cond_again : (v : ℕ → ℕ) (c : CondForm) (rest : List ℕ) → ends_expr rest ≡ true → after (codes ".AND.") rest ≡ None → cond_of v (cond_form_text c ++ rest) ≡ ors_of v (cond_with_literals v (cond_form_tree c)) rest
  cond_again v (one_term t) rest h k = cond_step v (logical_term_text t ++ rest) ∙ rw (term_again v t rest h, ands_stop v (cond_with_literals v (logical_term_tree t)) rest k) refl
  cond_again v (or c t) rest h k =
      let r = logical_term_text t ++ rest in
      ap (cond_of v) (assoc_3 (cond_form_text c) (codes ".OR.") (logical_term_text t) rest)
      ∙ cond_again v c (codes ".OR." ++ r) refl refl
      ∙ ors_step v (cond_with_literals v (cond_form_tree c)) (codes ".OR." ++ r)
      ∙ rw (term_again v t rest h, ands_stop v (cond_with_literals v (logical_term_tree t)) rest k) refl
