-- The iterations of a DO with constant bounds, and of the DO that is left when the first or the last of them is peeled off.
use Rattle.ped_rules.specs.Spans.{Values, has_iteration, last_value, span_by}
use Rattle.ped_rules.specs.ped_steps.proofs.RunLaws.ConstantBounds.{Counts, constant_step}
use Rattle.ped_rules.specs.ped_eval.specs.Loops.{increment, iteration_count}
use Rattle.ped_rules.specs.ped_store.specs.Storage.{natural}
use Rattle.ped_rules.specs.ped_views.proofs.Products.{abs_some, linear, mul-sub, small_multiple}
use Rattle.ped_reindex.specs.Peeling.{Peeled, peeled_by, peeled_of, taken_out}
use Rattle.ped_tree.specs.Constants.ConstantExpressions.{constant_value}
use Rattle.ped_tree.specs.Tree.{Head}
use Rattle.std.proofs.Common.{Bool, None, Option, Some, ap, arith, false, if◌then◌else◌, int_div, int_rem, pos, refl, subst, suc, sym, true, unsigned_abs, zero, ℕ, ℤ, ◌*ℤ◌, ◌+ℤ◌, ◌+◌, ◌-ℤ◌, ◌-◌, ◌<◌, ◌∙◌, ◌≡◌, ◌≤◌}
use Rattle.std.proofs.Math.IntN.{*ℤ_comm}
use Rattle.std.proofs.lemmas.Int.{ints, quot-rem, rem_below}

-- quotients without a remainder, and by their remainder
same_by_products : (d a b : ℤ) → (d ≡ pos 0 → ⊥) → a *ℤ d ≡ b *ℤ d → a ≡ b
same_by_products d a b some e =
    let m = mul-sub d a b in
    let one = *ℤ_comm d a in
    let two = *ℤ_comm d b in
    let none : d *ℤ (a -ℤ b) ≡ pos 0 = omega (arith, linear) in
    let none_left : a -ℤ b ≡ pos 0 = small_multiple d (a -ℤ b) (subst (λ (z : ℤ). unsigned_abs z < unsigned_abs d) (sym none) (abs_some d some)) in
    omega (arith, ints, none_left)

quotient_by_rest : (w d k : ℤ) → (d ≡ pos 0 → ⊥) → k *ℤ d +ℤ int_rem w d ≡ w → int_div w d ≡ k
quotient_by_rest w d k some e =
    let parts = quot-rem w d in
    same_by_products d (int_div w d) k some (omega (arith, linear))

quotient_exact : (k d : ℤ) → (d ≡ pos 0 → ⊥) → int_div (k *ℤ d) d ≡ k
quotient_exact k d some =
    let parts = quot-rem (k *ℤ d) d in
    let near = rem_below (k *ℤ d) d (abs_some d some) in
    let m = mul-sub d k (int_div (k *ℤ d) d) in
    let one = *ℤ_comm d k in
    let two = *ℤ_comm d (int_div (k *ℤ d) d) in
    let rest : d *ℤ (k -ℤ int_div (k *ℤ d) d) ≡ int_rem (k *ℤ d) d = omega (arith, linear) in
    let none_left : k -ℤ int_div (k *ℤ d) d ≡ pos 0 = small_multiple d (k -ℤ int_div (k *ℤ d) d) (subst (λ (z : ℤ). unsigned_abs z < unsigned_abs d) (sym rest) near) in
    omega (arith, ints, none_left)

module _ (m1 m2 m3 : ℤ) (some : m3 ≡ pos 0 → ⊥) (c : Counts m1 m2 m3) where
  -- without the first iteration
  pub first_count : iteration_count (m1 +ℤ m3) m2 m3 ≡ c.others
  first_count =
      ap (λ (z : ℤ). natural (int_div z m3)) (let same : m2 -ℤ (m1 +ℤ m3) +ℤ m3 ≡ m2 -ℤ m1 = omega (arith, ints) in same)
      ∙ ap natural (quotient_by_rest (m2 -ℤ m1) m3 (pos c.others) some (let is = c.last in omega (arith, linear)))

  -- without the last one
  pub last_count : iteration_count m1 (last_value m1 m2 m3 -ℤ m3) m3 ≡ c.others
  last_count =
      ap (λ (z : ℤ). natural (int_div z m3)) (let is = c.last in let same : last_value m1 m2 m3 -ℤ m3 -ℤ m1 +ℤ m3 ≡ pos c.others *ℤ m3 = omega (arith, linear) in same)
      ∙ ap natural (quotient_exact (pos c.others) m3 some)

-- the value in iteration k of the DO without its first one is that in the next one of the old DO
pub next_value : (m1 m3 : ℤ) (k : ℕ) → 1 ≤ k → m1 +ℤ m3 +ℤ pos (k - 1) *ℤ m3 ≡ m1 +ℤ pos (k + 1 - 1) *ℤ m3
next_value m1 m3 (suc k) from =
    let one : suc k - 1 ≡ k = omega arith in
    let two : suc k + 1 - 1 ≡ k + 1 = omega arith in
    let m = mul-add-one k m3 in
    (λ i. m1 +ℤ m3 +ℤ pos (one i) *ℤ m3) ∙ (let is : m1 +ℤ m3 +ℤ pos k *ℤ m3 ≡ m1 +ℤ pos (k + 1) *ℤ m3 = omega (arith, linear) in is) ∙ (λ i. m1 +ℤ pos (sym two i) *ℤ m3)
  where
    mul-add-one : (k : ℕ) (d : ℤ) → pos (k + 1) *ℤ d ≡ pos k *ℤ d +ℤ d
    mul-add-one k d = omega (arith, ints)
next_value m1 m3 zero from = absurd (omega (arith, from))

-- what is known of an iteration that is taken out
pub record HasSpan (constants : Values) (h : Head) (last : Bool) (p : Peeled) : Type 0 where
  pub m1 : ℤ
  pub m2 : ℤ
  pub m3 : ℤ
  pub first_is : constant_value constants h.first ≡ Some m1
  pub last_is : constant_value constants h.last ≡ Some m2
  pub step_is : constant_value constants h.step ≡ Some m3
  pub some : has_iteration m1 m2 m3 ≡ true
  pub is : p ≡ taken_out last m3 (record { first = m1; last = last_value m1 m2 m3 })

pub has_span : (constants : Values) (h : Head) (last : Bool) (p : Peeled) → peeled_of last constants h ≡ Some p → HasSpan constants h last p
has_span constants h last p found = by (constant_value constants h.first) (constant_value constants h.last) (constant_value constants h.step) refl refl refl found
  where
    one : (a b : Peeled) → Some a ≡ Some b → a ≡ b
    one a b e = cc

    tested : (m1 m2 m3 : ℤ) → constant_value constants h.first ≡ Some m1 → constant_value constants h.last ≡ Some m2 → constant_value constants h.step ≡ Some m3 → (b : Bool) → has_iteration m1 m2 m3 ≡ b
        → peeled_by last (increment constants h) (if b then Some (record { first = m1; last = last_value m1 m2 m3 }) else None) ≡ Some p → HasSpan constants h last p
    tested m1 m2 m3 e f g true s q = record {
      m1 = m1;
      m2 = m2;
      m3 = m3;
      first_is = e;
      last_is = f;
      step_is = g;
      some = s;
      is = sym (one (taken_out last (increment constants h) (record { first = m1; last = last_value m1 m2 m3 })) p q) ∙ ap (λ (m : ℤ). taken_out last m (record { first = m1; last = last_value m1 m2 m3 })) (constant_step constants h m3 g);
    }
    tested m1 m2 m3 e f g false s q = absurd cc

    by : (a b c : Option ℤ) → constant_value constants h.first ≡ a → constant_value constants h.last ≡ b → constant_value constants h.step ≡ c → peeled_by last (increment constants h) (span_by a b c) ≡ Some p → HasSpan constants h last p
    by (Some m1) (Some m2) (Some m3) e f g q = tested m1 m2 m3 e f g (has_iteration m1 m2 m3) refl q
    by (Some m1) (Some m2) None e f g q = absurd cc
    by (Some m1) None c e f g q = absurd cc
    by None b c e f g q = absurd cc
