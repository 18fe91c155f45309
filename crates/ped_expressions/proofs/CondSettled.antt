-- More steps than enough change nothing for conditions.
use Rattle.std.proofs.Common.{◌≡◌, ℕ, zero, suc, ◌+◌, ◌*◌, ◌<◌, ◌≤◌, List, ◌++◌, length, Option, Some, ap, ◌∙◌, arith, length-append}
use Rattle.std.specs.Prelude.{codes}
use Rattle.ped_tree.specs.Tree.{CondTree, Not, And, Or}
use Rattle.ped_tree.specs.Printing.{relation_text}
use Rattle.ped_tree.specs.Grammar.ExpressionForms.{expr_form_text}
use Rattle.ped_tree.specs.Grammar.ConditionForms.{CondForm, LogicalTermForm, LogicalFactorForm, LogicalPrimaryForm, one_term, or, one_factor, and, affirmed, negated, relation, group, cond_form_text, logical_term_text, logical_factor_text, logical_primary_text}
use Rattle.ped_expressions.specs.Scanning.{◌>>=◌, go_on, after}
use Rattle.ped_expressions.specs.ConditionReading.{relation_of, cond_at, ors_at, logical_term_at, ands_at, logical_factor_at, logical_primary_at}
use Rattle.ped_expressions.proofs.Basics.{bind_same, go_same, after_len}
use Rattle.ped_expressions.proofs.Settled.{expr_long, part}
use Rattle.ped_expressions.proofs.CondSound.{cond_found, term_found, factor_found}

-- no form is empty

primary_long : (p : LogicalPrimaryForm) → 0 < length (logical_primary_text p)
primary_long (relation a r b) = omega (arith, length-append (expr_form_text a ++ relation_text r) (expr_form_text b), expr_long b)
primary_long (group c) = omega (arith, length-append (codes "(" ++ cond_form_text c) (codes ")"))

factor_long : (f : LogicalFactorForm) → 0 < length (logical_factor_text f)
factor_long (affirmed p) = primary_long p
factor_long (negated p) = omega (arith, length-append (codes ".NOT.") (logical_primary_text p), primary_long p)

term_long : (t : LogicalTermForm) → 0 < length (logical_term_text t)
term_long (one_factor f) = factor_long f
term_long (and t f) = omega (arith, length-append (logical_term_text t ++ codes ".AND.") (logical_factor_text f), factor_long f)

cond_long : (c : CondForm) → 0 < length (cond_form_text c)
cond_long (one_term t) = term_long t
cond_long (or c t) = omega (arith, length-append (cond_form_text c ++ codes ".OR.") (logical_term_text t), term_long t)

pub cond_shorter : (v : ℕ → ℕ) (n : ℕ) (ts : List ℕ) (x : CondTree × List ℕ) → cond_at v n ts ≡ Some x → length x.1 < length ts
cond_shorter v n ts x h = let f = cond_found v n ts x h in part (cond_form_text f.0) x.1 ts (cond_long f.0) f.2

pub logical_term_shorter : (v : ℕ → ℕ) (n : ℕ) (ts : List ℕ) (x : CondTree × List ℕ) → logical_term_at v n ts ≡ Some x → length x.1 < length ts
logical_term_shorter v n ts x h = let f = term_found v n ts x h in part (logical_term_text f.0) x.1 ts (term_long f.0) f.2

pub logical_factor_shorter : (v : ℕ → ℕ) (n : ℕ) (ts : List ℕ) (x : CondTree × List ℕ) → logical_factor_at v n ts ≡ Some x → length x.1 < length ts
logical_factor_shorter v n ts x h = let f = factor_found v n ts x h in part (logical_factor_text f.0) x.1 ts (factor_long f.0) f.2

-- what reading goes on with

abbrev pub grouped : (List ℕ → Option (CondTree × List ℕ)) → List ℕ → Option (CondTree × List ℕ)
grouped read ts = after (codes "(") ts >>= λ q. read q >>= λ x. after (codes ")") x.1 >>= λ r. Some (x.0, r)

abbrev pub denied : Option (CondTree × List ℕ) → Option (CondTree × List ℕ)
denied read = read >>= λ x. Some (Not x.0, x.1)

mutual
  pub cond_settled : (v : ℕ → ℕ) (n m : ℕ) (ts : List ℕ) → 8 * length ts + 4 ≤ n → 8 * length ts + 4 ≤ m → cond_at v n ts ≡ cond_at v m ts
  cond_settled v zero m ts p q = absurd (omega arith)
  cond_settled v (suc n) zero ts p q = absurd (omega arith)
  cond_settled v (suc n) (suc m) ts p q =
      ap (λ (r : Option (CondTree × List ℕ)). r >>= λ x. ors_at v n x.0 x.1) (logical_term_settled v n m ts (omega arith) (omega arith))
      ∙ bind_same (logical_term_at v m ts) (λ x. ors_at v n x.0 x.1) (λ x. ors_at v m x.0 x.1) (λ x h. let k = logical_term_shorter v m ts x h in ors_settled v n m x.0 x.1 (omega arith) (omega arith))

  pub ors_settled : (v : ℕ → ℕ) (n m : ℕ) (a : CondTree) (ts : List ℕ) → 8 * length ts + 4 ≤ n → 8 * length ts + 4 ≤ m → ors_at v n a ts ≡ ors_at v m a ts
  ors_settled v zero m a ts p q = absurd (omega arith)
  ors_settled v (suc n) zero a ts p q = absurd (omega arith)
  ors_settled v (suc n) (suc m) a ts p q =
      go_same (after (codes ".OR.") ts) (Some (a, ts)) (λ r. logical_term_at v n r >>= λ x. ors_at v n (Or a x.0) x.1) (λ r. logical_term_at v m r >>= λ x. ors_at v m (Or a x.0) x.1) (λ r g.
      let l = after_len (codes ".OR.") ts r g in
      ap (λ (o : Option (CondTree × List ℕ)). o >>= λ x. ors_at v n (Or a x.0) x.1) (logical_term_settled v n m r (omega arith) (omega arith))
      ∙ bind_same (logical_term_at v m r) (λ x. ors_at v n (Or a x.0) x.1) (λ x. ors_at v m (Or a x.0) x.1) (λ x h. let k = logical_term_shorter v m r x h in ors_settled v n m (Or a x.0) x.1 (omega arith) (omega arith)))

  pub logical_term_settled : (v : ℕ → ℕ) (n m : ℕ) (ts : List ℕ) → 8 * length ts + 3 ≤ n → 8 * length ts + 3 ≤ m → logical_term_at v n ts ≡ logical_term_at v m ts
  logical_term_settled v zero m ts p q = absurd (omega arith)
  logical_term_settled v (suc n) zero ts p q = absurd (omega arith)
  logical_term_settled v (suc n) (suc m) ts p q =
      ap (λ (r : Option (CondTree × List ℕ)). r >>= λ x. ands_at v n x.0 x.1) (logical_factor_settled v n m ts (omega arith) (omega arith))
      ∙ bind_same (logical_factor_at v m ts) (λ x. ands_at v n x.0 x.1) (λ x. ands_at v m x.0 x.1) (λ x h. let k = logical_factor_shorter v m ts x h in ands_settled v n m x.0 x.1 (omega arith) (omega arith))

  pub ands_settled : (v : ℕ → ℕ) (n m : ℕ) (a : CondTree) (ts : List ℕ) → 8 * length ts + 4 ≤ n → 8 * length ts + 4 ≤ m → ands_at v n a ts ≡ ands_at v m a ts
  ands_settled v zero m a ts p q = absurd (omega arith)
  ands_settled v (suc n) zero a ts p q = absurd (omega arith)
  ands_settled v (suc n) (suc m) a ts p q =
      go_same (after (codes ".AND.") ts) (Some (a, ts)) (λ r. logical_factor_at v n r >>= λ x. ands_at v n (And a x.0) x.1) (λ r. logical_factor_at v m r >>= λ x. ands_at v m (And a x.0) x.1) (λ r g.
      let l = after_len (codes ".AND.") ts r g in
      ap (λ (o : Option (CondTree × List ℕ)). o >>= λ x. ands_at v n (And a x.0) x.1) (logical_factor_settled v n m r (omega arith) (omega arith))
      ∙ bind_same (logical_factor_at v m r) (λ x. ands_at v n (And a x.0) x.1) (λ x. ands_at v m (And a x.0) x.1) (λ x h. let k = logical_factor_shorter v m r x h in ands_settled v n m (And a x.0) x.1 (omega arith) (omega arith)))

  pub logical_factor_settled : (v : ℕ → ℕ) (n m : ℕ) (ts : List ℕ) → 8 * length ts + 2 ≤ n → 8 * length ts + 2 ≤ m → logical_factor_at v n ts ≡ logical_factor_at v m ts
  logical_factor_settled v zero m ts p q = absurd (omega arith)
  logical_factor_settled v (suc n) zero ts p q = absurd (omega arith)
  logical_factor_settled v (suc n) (suc m) ts p q =
      ap (λ (o : Option (CondTree × List ℕ)). go_on (after (codes ".NOT.") ts) o (λ r. denied (logical_primary_at v n r))) (logical_primary_settled v n m ts (omega arith) (omega arith))
      ∙ go_same (after (codes ".NOT.") ts) (logical_primary_at v m ts) (λ r. denied (logical_primary_at v n r)) (λ r. denied (logical_primary_at v m r)) (λ r g.
      let l = after_len (codes ".NOT.") ts r g in
      ap denied (logical_primary_settled v n m r (omega arith) (omega arith)))

  pub logical_primary_settled : (v : ℕ → ℕ) (n m : ℕ) (ts : List ℕ) → 8 * length ts + 1 ≤ n → 8 * length ts + 1 ≤ m → logical_primary_at v n ts ≡ logical_primary_at v m ts
  logical_primary_settled v zero m ts p q = absurd (omega arith)
  logical_primary_settled v (suc n) zero ts p q = absurd (omega arith)
  logical_primary_settled v (suc n) (suc m) ts p q =
      ap (λ (o : Option (CondTree × List ℕ)). go_on (relation_of v ts) o (λ x. Some x))
      (bind_same (after (codes "(") ts) (λ q. cond_at v n q >>= λ x. after (codes ")") x.1 >>= λ r. Some (x.0, r)) (λ q. cond_at v m q >>= λ x. after (codes ")") x.1 >>= λ r. Some (x.0, r)) (λ z g.
      let l = after_len (codes "(") ts z g in
      ap (λ (o : Option (CondTree × List ℕ)). o >>= λ x. after (codes ")") x.1 >>= λ r. Some (x.0, r)) (cond_settled v n m z (omega arith) (omega arith))))
