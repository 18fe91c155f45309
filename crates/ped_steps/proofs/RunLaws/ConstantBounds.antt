-- The limits of a DO with constant bounds, its iteration count, and the values of its variable.
use Rattle.std.proofs.Common.{◌≡◌, ◌⊎◌, inl, inr, ℕ, zero, suc, ◌-◌, ◌≤◌, ◌<◌, ℤ, pos, negsuc, neg_ℤ, ◌+ℤ◌, ◌-ℤ◌, ◌*ℤ◌, ◌<ℤ◌, ◌≤ℤ◌, int_le, int_lt, int_div, int_rem, unsigned_abs, List, [], Bool, true, false, Option, Some, Ok, Err, refl, sym, ap, subst, ◌∙◌, arith, if◌then◌else◌, unwrap_or}
use Rattle.std.specs.Int.{int_min, int_max}
use Rattle.std.proofs.Math.IntN.{*ℤ_comm}
use Rattle.std.proofs.lemmas.Int.{ints, quot-rem, rem_below, by_lt_z}
use Rattle.ped_weaves.specs.ped_graph.specs.ped_views.proofs.Products.{linear, mul-sub, mul-le, neg-mul, small_multiple}
use Rattle.ped_tree.specs.Tree.{ExprTree, Head, StmtTrees}
use Rattle.ped_tree.specs.Constants.ConstantExpressions.{constant_value}
use Rattle.ped_weaves.specs.ped_store.specs.Stores.{Store, out_of_range}
use Rattle.ped_weaves.specs.ped_store.specs.Storage.{natural}
use Rattle.ped_weaves.specs.ped_eval.specs.Scopes.{Setting, Scope, Names, names_in}
use Rattle.ped_weaves.specs.ped_eval.specs.Evaluation.{Evaluated, ◌>>>◌, given}
use Rattle.ped_weaves.specs.ped_eval.specs.Values.{value}
use Rattle.ped_weaves.specs.ped_eval.specs.Loops.{is_bound, in_bounds, Limits, limits, increment, iteration_count, Entered, entered_with, value_in}
use Rattle.ped_weaves.specs.ped_laws.proofs.CoveringLaws.Comings.{came, ok_one, constant_comes}
use Rattle.ped_steps.specs.Runs.Expanding.{has_iteration, last_value}

-- a bound within its range is itself
bound_is : (m n : ℤ) → in_bounds m ≡ Ok n → m ≡ n
bound_is m n h = go (is_bound m) h
  where
    go : (b : Bool) → (if b then Ok m else Err out_of_range) ≡ Ok n → m ≡ n
    go true e = ok_one m n e
    go false e = absurd cc

-- a constant bound comes to its value
comes_to : (g : Names) (s : Store) (e : ExprTree) (m n u : ℤ) → constant_value g.constants e ≡ Some m → (value g e s).result ≡ Ok u → in_bounds u ≡ Ok n → n ≡ m
comes_to g s e m n u h k b = sym (bound_is u n b) ∙ ok_one u m (sym k ∙ constant_comes g s e m h)

limits_are : (m1 m2 a b : ℤ) (m : Limits) → a ≡ m1 → b ≡ m2 → (given (Ok (record { first = a; last = b }))).result ≡ Ok m → (m.first ≡ m1) × (m.last ≡ m2)
limits_are m1 m2 a b m e f is =
    let same = ok_one (record { first = a; last = b }) m is in
    (ap (λ (l : Limits). l.first) (sym same) ∙ e, ap (λ (l : Limits). l.last) (sym same) ∙ f)

pub constant_limits : (g : Names) (s : Store) (h : Head) (m1 m2 : ℤ) → constant_value g.constants h.first ≡ Some m1 → constant_value g.constants h.last ≡ Some m2 → (m : Limits) → (limits g h s).result ≡ Ok m → (m.first ≡ m1) × (m.last ≡ m2)
constant_limits g s h m1 m2 first last m e =
    let one = came (value g h.first s).seen (value g h.first s).result (λ a. given (in_bounds a) >>> λ m. value g h.last s >>> λ b. given (in_bounds b) >>> λ n. given (Ok (record { first = m; last = n }))) m e in
    let two = came [] (in_bounds one.0) (λ m. value g h.last s >>> λ b. given (in_bounds b) >>> λ n. given (Ok (record { first = m; last = n }))) m one.2 in
    let three = came (value g h.last s).seen (value g h.last s).result (λ b. given (in_bounds b) >>> λ n. given (Ok (record { first = two.0; last = n }))) m two.2 in
    let four = came [] (in_bounds three.0) (λ n. given (Ok (record { first = two.0; last = n }))) m three.2 in
    limits_are m1 m2 two.0 four.0 m (comes_to g s h.first m1 two.0 one.0 first one.1 two.1) (comes_to g s h.last m2 four.0 three.0 last three.1 four.1) four.2

pub constant_step : (constants : List (List ℕ × ℤ)) (h : Head) (m3 : ℤ) → constant_value constants h.step ≡ Some m3 → increment constants h ≡ m3
constant_step constants h m3 e = ap (λ (o : Option ℤ). unwrap_or o (pos 1)) e

rem_positive : (a d : ℤ) → pos 0 ≤ℤ a → pos 0 ≤ℤ int_rem a d
rem_positive (pos a) (pos d) h = omega (arith, ints)
rem_positive (pos a) (negsuc d) h = omega (arith, ints)
rem_positive (negsuc a) d h = absurd (omega (arith, ints))

rem_negative : (a d : ℤ) → a ≤ℤ pos 0 → int_rem a d ≤ℤ pos 0
rem_negative (pos zero) (pos d) h = omega (arith, ints)
rem_negative (pos zero) (negsuc d) h = omega (arith, ints)
rem_negative (pos (suc a)) d h = absurd (omega (arith, ints))
rem_negative (negsuc a) (pos d) h = omega (arith, ints)
rem_negative (negsuc a) (negsuc d) h = omega (arith, ints)

mul_zero : (a : ℤ) → a *ℤ pos 0 ≡ pos 0
mul_zero a = omega (arith, ints)

mul_one : (a : ℤ) → a *ℤ pos 1 ≡ a
mul_one a = omega (arith, ints)

holds : (b : Bool) → (b ≡ false → ⊥) → b ≡ true
holds true n = refl
holds false n = absurd (n refl)

-- what is no less than one of two is no less than their least
above_least : (a b v : ℤ) (c : Bool) → int_lt b a ≡ c → (a ≤ℤ v) ⊎ (b ≤ℤ v) → int_le (if c then b else a) v ≡ true
above_least a b v true e (inl h) = holds (int_le b v) (λ k. omega (arith, ints, e, h, k))
above_least a b v true e (inr h) = holds (int_le b v) (λ k. omega (arith, ints, e, h, k))
above_least a b v false e (inl h) = holds (int_le a v) (λ k. omega (arith, ints, e, h, k))
above_least a b v false e (inr h) = holds (int_le a v) (λ k. omega (arith, ints, e, h, k))

-- and what is no greater than one is no greater than their greatest
below_greatest : (a b v : ℤ) (c : Bool) → int_lt b a ≡ c → (v ≤ℤ a) ⊎ (v ≤ℤ b) → int_le v (if c then a else b) ≡ true
below_greatest a b v true e (inl h) = holds (int_le v a) (λ k. omega (arith, ints, e, h, k))
below_greatest a b v true e (inr h) = holds (int_le v a) (λ k. omega (arith, ints, e, h, k))
below_greatest a b v false e (inl h) = holds (int_le v b) (λ k. omega (arith, ints, e, h, k))
below_greatest a b v false e (inr h) = holds (int_le v b) (λ k. omega (arith, ints, e, h, k))

one_back : (n : ℕ) → suc n - 1 ≡ n
one_back n = omega arith

-- what is 1 or more is a successor
counted : (q : ℤ) → pos 1 ≤ℤ q → (others : ℕ) × (natural q ≡ suc others) × (pos others ≡ q -ℤ pos 1)
counted (pos n) h = (n - 1, omega (arith, ints), omega (arith, ints))
counted (negsuc n) h = absurd (omega (arith, ints))

-- quotients of one number whose remainders are less than a step apart are equal
quotients_same : (d a b r s : ℤ) → d *ℤ a +ℤ r ≡ d *ℤ b +ℤ s → unsigned_abs (s -ℤ r) < unsigned_abs d → a ≡ b
quotients_same d a b r s e small =
    let m = mul-sub d a b in
    let is : d *ℤ (a -ℤ b) ≡ s -ℤ r = omega (arith, linear) in
    let none = small_multiple d (a -ℤ b) (rw is small) in
    omega (arith, linear)

pub record Counts (m1 m2 m3 : ℤ) : Type 0 where
  pub others : ℕ
  pub some : iteration_count m1 m2 m3 ≡ suc others
  pub last : m1 +ℤ pos others *ℤ m3 ≡ last_value m1 m2 m3

module _ (m1 m2 m3 : ℤ) where
  abbrev n : ℤ
  n = m2 -ℤ m1 +ℤ m3

  abbrev w : ℤ
  w = m2 -ℤ m1

  -- by the quotients and remainders
  counts_by : (q r q' r' : ℤ) → int_div n m3 ≡ q → int_rem w m3 ≡ r' → q *ℤ m3 +ℤ r ≡ n → q' *ℤ m3 +ℤ r' ≡ w → pos 1 ≤ℤ q → unsigned_abs (r' -ℤ r) < unsigned_abs m3 → Counts m1 m2 m3
  counts_by q r q' r' is left parts parts' one near =
      let turned = *ℤ_comm m3 (q -ℤ pos 1) in
      let back = *ℤ_comm m3 q in
      let back' = *ℤ_comm m3 q' in
      let whole = mul-sub m3 q (pos 1) in
      let i = mul_one m3 in
      let same : q -ℤ pos 1 ≡ q' = quotients_same m3 (q -ℤ pos 1) q' r r' (omega (arith, linear)) near in
      let c = counted q one in
      let product : pos c.0 *ℤ m3 ≡ q' *ℤ m3 = ap (λ (z : ℤ). z *ℤ m3) (c.2 ∙ same) in
      record { others = c.0; some = ap natural is ∙ c.1; last = omega (arith, linear) }

  counts_up : pos 0 <ℤ m3 → m1 ≤ℤ m2 → Counts m1 m2 m3
  counts_up up some = go (int_div n m3) (int_rem n m3) (int_div w m3) (int_rem w m3) refl refl (quot-rem n m3) (quot-rem w m3) (rem_below n m3 (omega (arith, ints))) (rem_below w m3 (omega (arith, ints))) (rem_positive n m3 (omega (arith, linear))) (rem_positive w m3 (omega (arith, linear)))
    where
      go : (q r q' r' : ℤ) → int_div n m3 ≡ q → int_rem w m3 ≡ r' → q *ℤ m3 +ℤ r ≡ n → q' *ℤ m3 +ℤ r' ≡ w → unsigned_abs r < unsigned_abs m3 → unsigned_abs r' < unsigned_abs m3 → pos 0 ≤ℤ r → pos 0 ≤ℤ r' → Counts m1 m2 m3
      go q r q' r' is left parts parts' small small' sign sign' = counts_by q r q' r' is left parts parts'
          (by_lt_z (pos 0) q (λ k. omega (arith, linear, k)) (λ k. absurd (let less = mul-le m3 q (pos 0) (omega (arith, linear)) (omega (arith, linear, k)) in let z = mul_zero m3 in let c = *ℤ_comm m3 q in omega (arith, linear))))
          (omega (arith, linear))

  counts_down : m3 <ℤ pos 0 → m2 ≤ℤ m1 → Counts m1 m2 m3
  counts_down down some = go (int_div n m3) (int_rem n m3) (int_div w m3) (int_rem w m3) refl refl (quot-rem n m3) (quot-rem w m3) (rem_below n m3 (omega (arith, ints))) (rem_below w m3 (omega (arith, ints))) (rem_negative n m3 (omega (arith, linear))) (rem_negative w m3 (omega (arith, linear)))
    where
      go : (q r q' r' : ℤ) → int_div n m3 ≡ q → int_rem w m3 ≡ r' → q *ℤ m3 +ℤ r ≡ n → q' *ℤ m3 +ℤ r' ≡ w → unsigned_abs r < unsigned_abs m3 → unsigned_abs r' < unsigned_abs m3 → r ≤ℤ pos 0 → r' ≤ℤ pos 0 → Counts m1 m2 m3
      go q r q' r' is left parts parts' small small' sign sign' = counts_by q r q' r' is left parts parts'
          (by_lt_z (pos 0) q (λ k. omega (arith, linear, k)) (λ k. absurd (let less = mul-le (neg_ℤ m3) q (pos 0) (omega (arith, linear)) (omega (arith, linear, k)) in let z = mul_zero (neg_ℤ m3) in let e = neg-mul m3 q in let c = *ℤ_comm m3 q in omega (arith, linear))))
          (omega (arith, linear))

  pub constant_counts : (m3 ≡ pos 0 → ⊥) → has_iteration m1 m2 m3 ≡ true → Counts m1 m2 m3
  constant_counts some h = go (int_lt (pos 0) m3) refl h
    where
      go : (b : Bool) → int_lt (pos 0) m3 ≡ b → (if b then int_le m1 m2 else int_le m2 m1) ≡ true → Counts m1 m2 m3
      go true e k = counts_up (omega (arith, ints)) (omega (arith, ints))
      go false e k = counts_down (by_lt_z m3 (pos 0) (λ a. a) (λ a. absurd (some (omega (arith, ints))))) (omega (arith, ints))

  -- each value lies between the first and the last one
  values_between : (others k : ℕ) → 1 ≤ k → k ≤ suc others → let v = m1 +ℤ pos (k - 1) *ℤ m3 in let last = m1 +ℤ pos others *ℤ m3 in (int_le (int_min m1 last) v ≡ true) × (int_le v (int_max m1 last) ≡ true)
  values_between others k one few =
      by_lt_z m3 (pos 0)
      (λ d. let a = mul-le (neg_ℤ m3) (pos (k - 1)) (pos others) (omega (arith, linear)) (omega (arith, ints)) in
      let b = mul-le (neg_ℤ m3) (pos 0) (pos (k - 1)) (omega (arith, linear)) (omega (arith, ints)) in
      let z = mul_zero (neg_ℤ m3) in
      let e = neg-mul m3 (pos others) in
      let f = neg-mul m3 (pos (k - 1)) in
      let g = *ℤ_comm m3 (pos others) in
      let h = *ℤ_comm m3 (pos (k - 1)) in
      between m1 (m1 +ℤ pos (k - 1) *ℤ m3) (m1 +ℤ pos others *ℤ m3) (inr (omega (arith, linear), omega (arith, linear))))
      (λ d. let a = mul-le m3 (pos (k - 1)) (pos others) (omega (arith, linear)) (omega (arith, ints)) in
      let b = mul-le m3 (pos 0) (pos (k - 1)) (omega (arith, linear)) (omega (arith, ints)) in
      let z = mul_zero m3 in
      let g = *ℤ_comm m3 (pos others) in
      let h = *ℤ_comm m3 (pos (k - 1)) in
      between m1 (m1 +ℤ pos (k - 1) *ℤ m3) (m1 +ℤ pos others *ℤ m3) (inl (omega (arith, linear), omega (arith, linear))))
    where
      between : (a v b : ℤ) → ((a ≤ℤ v) × (v ≤ℤ b)) ⊎ ((b ≤ℤ v) × (v ≤ℤ a)) → (int_le (int_min a b) v ≡ true) × (int_le v (int_max a b) ≡ true)
      between a v b (inl p) = (above_least a b v (int_lt b a) refl (inl p.0), below_greatest a b v (int_lt b a) refl (inr p.1))
      between a v b (inr p) = (above_least a b v (int_lt b a) refl (inr p.0), below_greatest a b v (int_lt b a) refl (inl p.1))

-- a DO that is entered with constant bounds, and has an iteration
module _ (q : Setting) (h : Head) (body : StmtTrees) (l : ℕ) (m1 m2 m3 : ℤ) (first : constant_value q.constants h.first ≡ Some m1) (last : constant_value q.constants h.last ≡ Some m2) (step : constant_value q.constants h.step ≡ Some m3) (moves : m3 ≡ pos 0 → ⊥) (some : has_iteration m1 m2 m3 ≡ true)
    (S : Scope) (s : Store) (m : Limits) (comes : limits (names_in q S) h s ≡ record { seen = (limits (names_in q S) h s).seen; result = Ok m }) where
  abbrev e : Entered
  e = entered_with q l h body (limits (names_in q S) h s).seen m

  at_limits : (m.first ≡ m1) × (m.last ≡ m2)
  at_limits = constant_limits (names_in q S) s h m1 m2 first last m (ap (λ (z : Evaluated Limits). z.result) comes)

  by_step : increment q.constants h ≡ m3
  by_step = constant_step q.constants h m3 step

  pub counts : Counts m1 m2 m3
  counts = constant_counts m1 m2 m3 moves some

  -- the number of iterations but one
  abbrev pub others : ℕ
  others = counts.others

  pub count_is : e.count ≡ suc others
  count_is = (λ i. iteration_count (at_limits.0 i) (at_limits.1 i) (by_step i)) ∙ counts.some

  value_is : (k : ℕ) → value_in e k ≡ m1 +ℤ pos (k - 1) *ℤ m3
  value_is k = λ i. at_limits.0 i +ℤ pos (k - 1) *ℤ by_step i

  pub last_is : value_in e e.count ≡ last_value m1 m2 m3
  last_is = ap (value_in e) count_is ∙ value_is (suc others) ∙ ap (λ (n : ℕ). m1 +ℤ pos n *ℤ m3) (one_back others) ∙ counts.last

  pub value_lies : (k : ℕ) → 1 ≤ k → k ≤ e.count → (int_le (int_min m1 (last_value m1 m2 m3)) (value_in e k) ≡ true) × (int_le (value_in e k) (int_max m1 (last_value m1 m2 m3)) ≡ true)
  value_lies k one few =
      subst (λ (v : ℤ). (int_le (int_min m1 (last_value m1 m2 m3)) v ≡ true) × (int_le v (int_max m1 (last_value m1 m2 m3)) ≡ true)) (sym (value_is k))
      (subst (λ (b : ℤ). (int_le (int_min m1 b) (m1 +ℤ pos (k - 1) *ℤ m3) ≡ true) × (int_le (m1 +ℤ pos (k - 1) *ℤ m3) (int_max m1 b) ≡ true)) counts.last
      (values_between m1 m2 m3 others k one (subst (λ (n : ℕ). k ≤ n) count_is few)))
