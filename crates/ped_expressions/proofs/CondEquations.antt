-- Reading a condition without a number of steps.
use Rattle.std.proofs.Common.{◌≡◌, ℕ, suc, ◌+◌, ◌*◌, ◌≤◌, List, length, Option, Some, sym, ap, ◌∙◌, arith}
use Rattle.std.specs.Prelude.{codes}
use Rattle.ped_tree.specs.Tree.{CondTree, Not, And, Or}
use Rattle.ped_expressions.specs.Scanning.{◌>>=◌, go_on, after}
use Rattle.ped_expressions.specs.ExpressionReading.{enough}
use Rattle.ped_expressions.specs.ConditionReading.{relation_of, cond_at, ors_at, logical_term_at, ands_at, logical_factor_at, logical_primary_at, cond_of, ors_of, logical_term_of, ands_of, logical_factor_of, logical_primary_of}
use Rattle.ped_expressions.proofs.Basics.{bind_same, go_same, after_len}
use Rattle.ped_expressions.proofs.CondSettled.{logical_term_shorter, logical_factor_shorter, cond_settled, ors_settled, logical_term_settled, ands_settled, logical_factor_settled, logical_primary_settled, denied}

cond_any : (v : ℕ → ℕ) (n : ℕ) (ts : List ℕ) → 8 * length ts + 4 ≤ n → cond_at v n ts ≡ cond_of v ts
unfolding cond_of
cond_any v n ts p = cond_settled v n (enough ts) ts p (omega arith)

ors_any : (v : ℕ → ℕ) (n : ℕ) (a : CondTree) (ts : List ℕ) → 8 * length ts + 4 ≤ n → ors_at v n a ts ≡ ors_of v a ts
unfolding ors_of
ors_any v n a ts p = ors_settled v n (enough ts) a ts p (omega arith)

logical_term_any : (v : ℕ → ℕ) (n : ℕ) (ts : List ℕ) → 8 * length ts + 3 ≤ n → logical_term_at v n ts ≡ logical_term_of v ts
unfolding logical_term_of
logical_term_any v n ts p = logical_term_settled v n (enough ts) ts p (omega arith)

ands_any : (v : ℕ → ℕ) (n : ℕ) (a : CondTree) (ts : List ℕ) → 8 * length ts + 4 ≤ n → ands_at v n a ts ≡ ands_of v a ts
unfolding ands_of
ands_any v n a ts p = ands_settled v n (enough ts) a ts p (omega arith)

logical_factor_any : (v : ℕ → ℕ) (n : ℕ) (ts : List ℕ) → 8 * length ts + 2 ≤ n → logical_factor_at v n ts ≡ logical_factor_of v ts
unfolding logical_factor_of
logical_factor_any v n ts p = logical_factor_settled v n (enough ts) ts p (omega arith)

logical_primary_any : (v : ℕ → ℕ) (n : ℕ) (ts : List ℕ) → 8 * length ts + 1 ≤ n → logical_primary_at v n ts ≡ logical_primary_of v ts
unfolding logical_primary_of
logical_primary_any v n ts p = logical_primary_settled v n (enough ts) ts p (omega arith)

pub cond_step : (v : ℕ → ℕ) (ts : List ℕ) → cond_of v ts ≡ (logical_term_of v ts >>= λ x. ors_of v x.0 x.1)
cond_step v ts =
    let n = 8 * length ts + 6 in
    sym (cond_any v (suc n) ts (omega arith))
    ∙ bind_same (logical_term_at v n ts) (λ x. ors_at v n x.0 x.1) (λ x. ors_of v x.0 x.1) (λ x h. let k = logical_term_shorter v n ts x h in ors_any v n x.0 x.1 (omega arith))
    ∙ ap (λ (r : Option (CondTree × List ℕ)). r >>= λ x. ors_of v x.0 x.1) (logical_term_any v n ts (omega arith))

pub ors_step : (v : ℕ → ℕ) (a : CondTree) (ts : List ℕ) → ors_of v a ts ≡ go_on (after (codes ".OR.") ts) (Some (a, ts)) (λ r. logical_term_of v r >>= λ x. ors_of v (Or a x.0) x.1)
ors_step v a ts =
    let n = 8 * length ts + 6 in
    sym (ors_any v (suc n) a ts (omega arith))
    ∙ go_same (after (codes ".OR.") ts) (Some (a, ts)) (λ r. logical_term_at v n r >>= λ x. ors_at v n (Or a x.0) x.1) (λ r. logical_term_of v r >>= λ x. ors_of v (Or a x.0) x.1) (λ r g.
    let l = after_len (codes ".OR.") ts r g in
    bind_same (logical_term_at v n r) (λ x. ors_at v n (Or a x.0) x.1) (λ x. ors_of v (Or a x.0) x.1) (λ x h. let k = logical_term_shorter v n r x h in ors_any v n (Or a x.0) x.1 (omega arith))
    ∙ ap (λ (o : Option (CondTree × List ℕ)). o >>= λ x. ors_of v (Or a x.0) x.1) (logical_term_any v n r (omega arith)))

pub logical_term_step : (v : ℕ → ℕ) (ts : List ℕ) → logical_term_of v ts ≡ (logical_factor_of v ts >>= λ x. ands_of v x.0 x.1)
logical_term_step v ts =
    let n = 8 * length ts + 6 in
    sym (logical_term_any v (suc n) ts (omega arith))
    ∙ bind_same (logical_factor_at v n ts) (λ x. ands_at v n x.0 x.1) (λ x. ands_of v x.0 x.1) (λ x h. let k = logical_factor_shorter v n ts x h in ands_any v n x.0 x.1 (omega arith))
    ∙ ap (λ (r : Option (CondTree × List ℕ)). r >>= λ x. ands_of v x.0 x.1) (logical_factor_any v n ts (omega arith))

pub ands_step : (v : ℕ → ℕ) (a : CondTree) (ts : List ℕ) → ands_of v a ts ≡ go_on (after (codes ".AND.") ts) (Some (a, ts)) (λ r. logical_factor_of v r >>= λ x. ands_of v (And a x.0) x.1)
ands_step v a ts =
    let n = 8 * length ts + 6 in
    sym (ands_any v (suc n) a ts (omega arith))
    ∙ go_same (after (codes ".AND.") ts) (Some (a, ts)) (λ r. logical_factor_at v n r >>= λ x. ands_at v n (And a x.0) x.1) (λ r. logical_factor_of v r >>= λ x. ands_of v (And a x.0) x.1) (λ r g.
    let l = after_len (codes ".AND.") ts r g in
    bind_same (logical_factor_at v n r) (λ x. ands_at v n (And a x.0) x.1) (λ x. ands_of v (And a x.0) x.1) (λ x h. let k = logical_factor_shorter v n r x h in ands_any v n (And a x.0) x.1 (omega arith))
    ∙ ap (λ (o : Option (CondTree × List ℕ)). o >>= λ x. ands_of v (And a x.0) x.1) (logical_factor_any v n r (omega arith)))

pub logical_factor_step : (v : ℕ → ℕ) (ts : List ℕ) → logical_factor_of v ts ≡ go_on (after (codes ".NOT.") ts) (logical_primary_of v ts) (λ r. logical_primary_of v r >>= λ x. Some (Not x.0, x.1))
logical_factor_step v ts =
    let n = 8 * length ts + 6 in
    sym (logical_factor_any v (suc n) ts (omega arith))
    ∙ ap (λ (o : Option (CondTree × List ℕ)). go_on (after (codes ".NOT.") ts) o (λ r. denied (logical_primary_at v n r))) (logical_primary_any v n ts (omega arith))
    ∙ go_same (after (codes ".NOT.") ts) (logical_primary_of v ts) (λ r. denied (logical_primary_at v n r)) (λ r. denied (logical_primary_of v r)) (λ r g.
    let l = after_len (codes ".NOT.") ts r g in
    ap denied (logical_primary_any v n r (omega arith)))

pub logical_primary_step : (v : ℕ → ℕ) (ts : List ℕ) → logical_primary_of v ts ≡ go_on (relation_of v ts) (after (codes "(") ts >>= λ q. cond_of v q >>= λ x. after (codes ")") x.1 >>= λ r. Some (x.0, r)) (λ x. Some x)
logical_primary_step v ts =
    let n = 8 * length ts + 6 in
    sym (logical_primary_any v (suc n) ts (omega arith))
    ∙ ap (λ (o : Option (CondTree × List ℕ)). go_on (relation_of v ts) o (λ x. Some x))
    (bind_same (after (codes "(") ts) (λ q. cond_at v n q >>= λ x. after (codes ")") x.1 >>= λ r. Some (x.0, r)) (λ q. cond_of v q >>= λ x. after (codes ")") x.1 >>= λ r. Some (x.0, r)) (λ z g.
    let l = after_len (codes "(") ts z g in
    ap (λ (o : Option (CondTree × List ℕ)). o >>= λ x. after (codes ")") x.1 >>= λ r. Some (x.0, r)) (cond_any v n z (omega arith))))
