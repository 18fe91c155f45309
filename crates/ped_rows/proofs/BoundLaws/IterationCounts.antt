-- How often a DO may go round.
use Rattle.std.proofs.Common.{◌≡◌, ℕ, suc, zero, ◌+◌, ◌-◌, ◌/◌, ◌≤◌, ◌<◌, ◌^◌, ℤ, pos, negsuc, neg_ℤ, ◌+ℤ◌, ◌-ℤ◌, unsigned_abs, int_div, true, Option, Some, None, Ok, refl, subst, arith, ◌⊎◌, inl, inr}
use Rattle.std.proofs.Math.Nat.{div-le_self, div-eq-sub-div, div-eq_of_lt}
use Rattle.std.specs.Prelude.{int_le}
use Rattle.std.proofs.lemmas.Bool.{and_parts, cases_order}
use Rattle.std.proofs.lemmas.Int.{ints}
use Rattle.ped_laws.specs.ped_flow.specs.ped_tree.specs.Tree.{Head}
use Rattle.ped_laws.specs.ped_flow.specs.ped_tree.specs.Constants.ConstantExpressions.{constant_value}
use Rattle.ped_laws.specs.ped_eval.specs.ped_store.specs.Stores.{Store}
use Rattle.ped_laws.specs.ped_eval.specs.ped_store.specs.Storage.{natural}
use Rattle.ped_laws.specs.ped_eval.specs.Scopes.{Names}
use Rattle.ped_laws.specs.ped_eval.specs.Loops.{is_bound, Limits, limits, increment, iteration_count}
use Rattle.ped_rows.specs.Bounded.{most_iterations, iterations_by, iterations_at_most}
use Rattle.ped_rows.proofs.ComingLaws.Going.{limits_come, constant_limits}

bound_is_small : (m : ℤ) → is_bound m ≡ true → unsigned_abs m ≤ 2 ^ 62
bound_is_small m h =
    let p = and_parts (int_le (neg_ℤ (pos (2 ^ 62))) m) (int_le m (pos (2 ^ 62))) h in
    let least = p.0 in
    let greatest = p.1 in
    omega (arith, ints)

-- a quotient is at most one more than what the dividend is more than the divisor
quotient_near : (a b : ℕ) → a / suc b ≤ a - suc b + 1
quotient_near a b = go (cases_order a (suc b))
  where
    large : suc b ≤ a → a / suc b ≤ a - suc b + 1
    large le = let e = div-eq-sub-div {m = suc b} {n = a} (omega arith) le in let s = div-le_self (a - suc b) (suc b) in omega (arith, e, s)

    go : (a ≡ suc b) ⊎ ((a < suc b) ⊎ (suc b < a)) → a / suc b ≤ a - suc b + 1
    go (inl e) = large (omega (arith, e))
    go (inr (inl lt)) = let e = div-eq_of_lt lt in omega (arith, e)
    go (inr (inr gt)) = large (omega (arith, gt))

negated : (n : ℕ) → natural (neg_ℤ (pos n)) ≡ 0
negated zero = refl
negated (suc n) = refl

near : (a m : ℤ) → natural (int_div a m) ≤ unsigned_abs (a -ℤ m) + 1
near (pos a) (pos zero) = omega arith
near (pos a) (pos (suc b)) = let q = quotient_near a b in omega (arith, ints, q)
near (pos a) (negsuc b) = let e = negated (a / suc b) in omega (arith, e)
near (negsuc a) (pos b) = let e = negated (suc a / b) in omega (arith, e)
near (negsuc a) (negsuc b) = let q = quotient_near (suc a) b in omega (arith, ints, q)

count_near : (m1 m2 m3 : ℤ) → unsigned_abs m1 ≤ 2 ^ 62 → unsigned_abs m2 ≤ 2 ^ 62 → iteration_count m1 m2 m3 ≤ 2 ^ 63 + 1
count_near m1 m2 m3 h k =
    let q = near (m2 -ℤ m1 +ℤ m3) m3 in
    let d : unsigned_abs (m2 -ℤ m1 +ℤ m3 -ℤ m3) ≤ 2 ^ 63 = omega (arith, ints) in
    omega (arith, q, d)

count_small : (m1 m2 m3 : ℤ) → is_bound m1 ≡ true → is_bound m2 ≡ true → iteration_count m1 m2 m3 ≤ most_iterations
unfolding most_iterations
count_small m1 m2 m3 h k = count_near m1 m2 m3 (bound_is_small m1 h) (bound_is_small m2 k)

-- no DO goes round more often
pub count_at_most : (g : Names) (h : Head) (s : Store) (l : Limits) → (limits g h s).result ≡ Ok l → iteration_count l.first l.last (increment g.constants h) ≤ iterations_at_most g.constants h
count_at_most g h s l e = go (constant_value g.constants h.first) (constant_value g.constants h.last) refl refl
  where
    small : iteration_count l.first l.last (increment g.constants h) ≤ most_iterations
    small = let come = limits_come g h s l e in count_small l.first l.last (increment g.constants h) come.0.1 come.1.1

    go : (a b : Option ℤ) → constant_value g.constants h.first ≡ a → constant_value g.constants h.last ≡ b → iteration_count l.first l.last (increment g.constants h) ≤ iterations_by a b (increment g.constants h)
    go (Some m1) (Some m2) i j =
        let are = constant_limits g h s l m1 m2 e i j in
        let same : iteration_count l.first l.last (increment g.constants h) ≡ iteration_count m1 m2 (increment g.constants h) = λ k. iteration_count (are.0 k) (are.1 k) (increment g.constants h) in
        subst (λ (n : ℕ). iteration_count l.first l.last (increment g.constants h) ≤ n) same (omega arith)
    go (Some m1) None i j = small
    go None b i j = small
