-- Iteration counts: the values of a DO variable lie between its limits.
use Rattle.std.proofs.Common.{◌≡◌, ℕ, ◌*◌, ◌≤◌, ◌<◌, ◌-◌, refl, ◌∙◌, arith, ℤ, pos, negsuc, neg_ℤ, ◌+ℤ◌, ◌-ℤ◌, ◌*ℤ◌, ◌≤ℤ◌, ◌<ℤ◌, unsigned_abs, int_div, int_rem}
use Rattle.std.proofs.Math.IntN.{*ℤ_comm}
use Rattle.std.proofs.lemmas.Int.{ints, quot-rem, rem_below}
use Rattle.ped_eval.specs.ped_store.specs.Storage.{natural}
use Rattle.ped_eval.specs.Loops.{iteration_count}
use Rattle.ped_graph.specs.ped_views.proofs.Products.{linear, mul-sub, neg-mul, mul-le}

natural_reaches : (q : ℤ) (k : ℕ) → 1 ≤ k → k ≤ natural q → pos k ≤ℤ q
natural_reaches (pos n) k one h = omega (arith, ints)
natural_reaches (negsuc n) k one h = absurd (omega arith)

rem_positive : (a d : ℤ) → pos 0 ≤ℤ a → pos 0 ≤ℤ int_rem a d
rem_positive (pos a) (pos d) h = omega (arith, ints)
rem_positive (pos a) (negsuc d) h = omega (arith, ints)
rem_positive (negsuc a) d h = absurd (omega (arith, ints))

rem_negative : (a d : ℤ) → a <ℤ pos 0 → int_rem a d ≤ℤ pos 0
rem_negative (pos a) d h = absurd (omega (arith, ints))
rem_negative (negsuc a) (pos d) h = omega (arith, ints)
rem_negative (negsuc a) (negsuc d) h = omega (arith, ints)

mul_one : (a : ℤ) → a *ℤ pos 1 ≡ a
mul_one a = omega (arith, ints)

mul_zero : (a : ℤ) → a *ℤ pos 0 ≡ pos 0
mul_zero a = omega (arith, ints)

one_less : (k : ℕ) (q : ℤ) → 1 ≤ k → pos k ≤ℤ q → pos (k - 1) ≤ℤ (q -ℤ pos 1)
one_less k q one h = omega (arith, ints)

not_below_zero : (k : ℕ) → pos 0 ≤ℤ pos k
not_below_zero k = omega (arith, ints)

pub upwards : (m1 m2 m3 : ℤ) (k : ℕ) → pos 0 <ℤ m3 → 1 ≤ k → k ≤ iteration_count m1 m2 m3 → (m1 ≤ℤ (m1 +ℤ pos (k - 1) *ℤ m3)) × ((m1 +ℤ pos (k - 1) *ℤ m3) ≤ℤ m2)
upwards m1 m2 m3 k up one h =
    let n : ℤ = m2 -ℤ m1 +ℤ m3 in
    let q : ℤ = int_div n m3 in
    let r : ℤ = int_rem n m3 in
    go n q r refl (*ℤ_comm m3 q ∙ refl) (natural_reaches q k one h) (quot-rem n m3) (rem_below n m3 (omega (arith, ints))) (rem_positive n m3)
  where
    go : (n q r : ℤ) → n ≡ m2 -ℤ m1 +ℤ m3 → m3 *ℤ q ≡ q *ℤ m3 → pos k ≤ℤ q → q *ℤ m3 +ℤ r ≡ n → unsigned_abs r < unsigned_abs m3 → (pos 0 ≤ℤ n → pos 0 ≤ℤ r) → (m1 ≤ℤ (m1 +ℤ pos (k - 1) *ℤ m3)) × ((m1 +ℤ pos (k - 1) *ℤ m3) ≤ℤ m2)
    go n q r is turned reaches parts small sign =
        let zero = mul-le m3 (pos 0) (pos (k - 1)) (omega (arith, linear)) (not_below_zero (k - 1)) in
        let z = mul_zero m3 in
        let whole = mul-le m3 (pos 1) q (omega (arith, linear)) (omega (arith, linear)) in
        let i = mul_one m3 in
        let less = mul-le m3 (pos (k - 1)) (q -ℤ pos 1) (omega (arith, linear)) (one_less k q one reaches) in
        let d = mul-sub m3 q (pos 1) in
        let c = *ℤ_comm m3 (pos (k - 1)) in
        let positive : pos 0 ≤ℤ n = omega (arith, linear) in
        let s = sign positive in
        (omega (arith, linear), omega (arith, linear))

pub downwards : (m1 m2 m3 : ℤ) (k : ℕ) → m3 <ℤ pos 0 → 1 ≤ k → k ≤ iteration_count m1 m2 m3 → (m2 ≤ℤ (m1 +ℤ pos (k - 1) *ℤ m3)) × ((m1 +ℤ pos (k - 1) *ℤ m3) ≤ℤ m1)
downwards m1 m2 m3 k down one h =
    let n : ℤ = m2 -ℤ m1 +ℤ m3 in
    let q : ℤ = int_div n m3 in
    let r : ℤ = int_rem n m3 in
    go n q r refl (*ℤ_comm m3 q) (natural_reaches q k one h) (quot-rem n m3) (rem_below n m3 (omega (arith, ints))) (rem_negative n m3)
  where
    go : (n q r : ℤ) → n ≡ m2 -ℤ m1 +ℤ m3 → m3 *ℤ q ≡ q *ℤ m3 → pos k ≤ℤ q → q *ℤ m3 +ℤ r ≡ n → unsigned_abs r < unsigned_abs m3 → (n <ℤ pos 0 → r ≤ℤ pos 0) → (m2 ≤ℤ (m1 +ℤ pos (k - 1) *ℤ m3)) × ((m1 +ℤ pos (k - 1) *ℤ m3) ≤ℤ m1)
    go n q r is turned reaches parts small sign =
        let w : ℤ = neg_ℤ m3 in
        let zero = mul-le (neg_ℤ m3) (pos 0) (pos (k - 1)) (omega (arith, linear)) (not_below_zero (k - 1)) in
        let z = mul_zero (neg_ℤ m3) in
        let whole = mul-le (neg_ℤ m3) (pos 1) q (omega (arith, linear)) (omega (arith, linear)) in
        let i = mul_one (neg_ℤ m3) in
        let less = mul-le (neg_ℤ m3) (pos (k - 1)) (q -ℤ pos 1) (omega (arith, linear)) (one_less k q one reaches) in
        let d = mul-sub (neg_ℤ m3) q (pos 1) in
        let e = neg-mul m3 q in
        let f = neg-mul m3 (pos (k - 1)) in
        let c = *ℤ_comm m3 (pos (k - 1)) in
        let negative : n <ℤ pos 0 = omega (arith, linear) in
        let s = sign negative in
        (omega (arith, linear), omega (arith, linear))
