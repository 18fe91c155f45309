-- How often a DO may go round.
use Rattle.std.proofs.Common.{◌≡◌, ℕ, suc, ◌+◌, ◌-◌, ◌/◌, ◌≤◌, ◌<◌, ◌^◌, ℤ, pos, negsuc, neg_ℤ, ◌+ℤ◌, ◌-ℤ◌, unsigned_abs, int_div, List, Bool, true, false, Result, Ok, Err, refl, sym, ap, ◌∙◌, arith, if◌then◌else◌, ◌⊎◌, inl, inr, [], zero}
use Rattle.std.proofs.Math.Nat.{div-le_self, div-eq-sub-div, div-eq_of_lt}
use Rattle.std.specs.Prelude.{int_le}
use Rattle.std.proofs.lemmas.Bool.{and_parts, cases_order}
use Rattle.std.proofs.lemmas.Int.{ints}
use Rattle.ped_tree.specs.Tree.{Head}
use Rattle.ped_eval.specs.ped_store.specs.Stores.{Store, out_of_range}
use Rattle.ped_eval.specs.ped_store.specs.Storage.{natural}
use Rattle.ped_eval.specs.Scopes.{Names}
use Rattle.ped_eval.specs.Evaluation.{Seen, Evaluated, onward, ◌>>>◌, given}
use Rattle.ped_eval.specs.Values.{value}
use Rattle.ped_eval.specs.Loops.{is_bound, in_bounds, Limits, limits, iteration_count}
use Rattle.ped_interleavings.specs.Weights.{most_turns}

-- an evaluation that goes on has gone on from a value
went_on : {A B : Type 0} (seen : List Seen) (r : Result A ℕ) (next : A → Evaluated B) (y : B) → (onward seen r next).result ≡ Ok y → (x : A) × (r ≡ Ok x) × ((next x).result ≡ Ok y)
went_on seen (Ok x) next y h = (x, refl, h)
went_on seen (Err fault) next y h = absurd cc

ok_is : {A : Type 0} (x y : A) → ◌≡◌ {A = Result A ℕ} (Ok x) (Ok y) → x ≡ y
ok_is x y h = cc

bound_is : (m n : ℤ) → in_bounds m ≡ Ok n → is_bound n ≡ true
bound_is m n h = go (is_bound m) refl h
  where
    go : (b : Bool) → is_bound m ≡ b → (if b then Ok m else Err out_of_range) ≡ Ok n → is_bound n ≡ true
    go true i e = ap is_bound (sym (ok_is m n e)) ∙ i
    go false i e = absurd cc

bound_is_small : (m : ℤ) → is_bound m ≡ true → unsigned_abs m ≤ 2 ^ 62
bound_is_small m h =
    let p = and_parts (int_le (neg_ℤ (pos (2 ^ 62))) m) (int_le m (pos (2 ^ 62))) h in
    let least = p.0 in
    let greatest = p.1 in
    omega (arith, ints)

limits_are_bounds : (g : Names) (h : Head) (s : Store) (l : Limits) → (limits g h s).result ≡ Ok l → (is_bound l.first ≡ true) × (is_bound l.last ≡ true)
limits_are_bounds g h s l e =
    let one = went_on (value g h.first s).seen (value g h.first s).result (λ a. given (in_bounds a) >>> λ m. value g h.last s >>> λ b. given (in_bounds b) >>> λ n. given (Ok (record { first = m; last = n }))) l e in
    let two = went_on [] (in_bounds one.0) (λ m. value g h.last s >>> λ b. given (in_bounds b) >>> λ n. given (Ok (record { first = m; last = n }))) l one.2 in
    let three = went_on (value g h.last s).seen (value g h.last s).result (λ b. given (in_bounds b) >>> λ n. given (Ok (record { first = two.0; last = n }))) l two.2 in
    let four = went_on [] (in_bounds three.0) (λ n. given (Ok (record { first = two.0; last = n }))) l three.2 in
    let is = ok_is (record { first = two.0; last = four.0 }) l four.2 in
    (ap (λ (x : Limits). is_bound x.first) (sym is) ∙ bound_is one.0 two.0 two.1, ap (λ (x : Limits). is_bound x.last) (sym is) ∙ bound_is three.0 four.0 four.1)

-- a quotient is at most one more than what the dividend is more than the divisor
quotient_near : (a b : ℕ) → a / suc b ≤ a - suc b + 1
quotient_near a b = go (cases_order a (suc b))
  where
    large : suc b ≤ a → a / suc b ≤ a - suc b + 1
    large le = let e = div-eq-sub-div {m = suc b} {n = a} (omega arith) le in let s = div-le_self (a - suc b) (suc b) in omega (arith, e, s)

    go : (a ≡ suc b) ⊎ ((a < suc b) ⊎ (suc b < a)) → a / suc b ≤ a - suc b + 1
    go (inl e) = large (omega (arith, e))
    go (inr (inl lt)) = let e = div-eq_of_lt lt in omega (arith, e)
    go (inr (inr gt)) = large (omega (arith, gt))

negated : (n : ℕ) → natural (neg_ℤ (pos n)) ≡ 0
negated zero = refl
negated (suc n) = refl

near : (a m : ℤ) → natural (int_div a m) ≤ unsigned_abs (a -ℤ m) + 1
near (pos a) (pos zero) = omega arith
near (pos a) (pos (suc b)) = let q = quotient_near a b in omega (arith, ints, q)
near (pos a) (negsuc b) = let e = negated (a / suc b) in omega (arith, e)
near (negsuc a) (pos b) = let e = negated (suc a / b) in omega (arith, e)
near (negsuc a) (negsuc b) = let q = quotient_near (suc a) b in omega (arith, ints, q)

count_near : (m1 m2 m3 : ℤ) → unsigned_abs m1 ≤ 2 ^ 62 → unsigned_abs m2 ≤ 2 ^ 62 → iteration_count m1 m2 m3 ≤ 2 ^ 63 + 1
count_near m1 m2 m3 h k =
    let q = near (m2 -ℤ m1 +ℤ m3) m3 in
    let d : unsigned_abs (m2 -ℤ m1 +ℤ m3 -ℤ m3) ≤ 2 ^ 63 = omega (arith, ints) in
    omega (arith, q, d)

-- no DO goes round more often
pub count_small : (g : Names) (h : Head) (s : Store) (l : Limits) (step : ℤ) → (limits g h s).result ≡ Ok l → iteration_count l.first l.last step ≤ most_turns
unfolding most_turns
count_small g h s l step e =
    let b = limits_are_bounds g h s l e in
    count_near l.first l.last step (bound_is_small l.first b.0) (bound_is_small l.last b.1)
