-- Intervals of operations, part by part.
use Rattle.std.proofs.Common.{◌≡◌, ℕ, ◌^◌, List, [], ◌∷◌, fold, Bool, true, false, refl, sym, ap, ◌∙◌, subst, arith, ℤ, pos, neg_ℤ, ◌+ℤ◌, ◌-ℤ◌, ◌*ℤ◌, ◌≤ℤ◌, int_le, Option, Some, None, Result, Ok, Err, if◌then◌else◌}
use Rattle.std.specs.Int.{int_min, int_max}
use Rattle.std.proofs.lemmas.Bool.{and_parts}
use Rattle.std.proofs.lemmas.Int.{clamps}
use Rattle.ped_flow.specs.ped_base.specs.declared.arithmetic.faults.Fault.TheVariants.{OutOfRange}
use Rattle.ped_flow.specs.ped_base.specs.Arithmetic.Faults.{◌>>=◌}
use Rattle.ped_flow.specs.ped_base.specs.Arithmetic.Arithmetic.{is_in_range, in_range, negation_of, from_left}
use Rattle.ped_graph.specs.ped_views.specs.declared.intervals.Interval.{Interval}
use Rattle.ped_graph.specs.ped_views.specs.Intervals.{Lies}
use Rattle.ped_graph.specs.ped_views.proofs.Products.{linear}
use Rattle.ped_graph.specs.ped_views.proofs.Images.{mul_image}
use Rattle.ped_flow.specs.ped_tree.specs.declared.expressions.Intrinsic.{Intrinsic}
use Rattle.ped_flow.specs.ped_tree.specs.declared.expressions.Intrinsic.TheVariants.{Mod, Abs, Max, Min}
use Rattle.ped_flow.specs.ped_tree.specs.Constants.ConstantExpressions.{intrinsic_result}
use Rattle.ped_eval.specs.ped_store.specs.Stores.{Content, Undefined, Number, Lines, number_read, is_storable}
use Rattle.ped_eval.specs.Evaluation.{Evaluated, ◌>>>◌, given, by_number}
use Rattle.ped_eval.specs.Values.{unary, binary, of_intrinsic}
use Rattle.ped_flow.specs.ped_affine.specs.IntervalArithmetic.{interval_sum, interval_difference, interval_negation, interval_product, interval_max, interval_min}
use Rattle.ped_flow.specs.ped_affine.specs.Ranges.{constant_or, of_one, of_two, any_value, onto, call_interval}
use Rattle.ped_laws.specs.Covering.Within.{AllLie}
use Rattle.ped_laws.proofs.CoveringLaws.Comings.{came, ok_one, some_one, within_range, kept, point_lies, Comes}

-- what comes of an evaluation lies in the interval, where there is one
abbrev pub Keeps : Option Interval → Result ℤ ℕ → Type 0
Keeps o a = (n : ℤ) (r : Interval) → a ≡ Ok n → o ≡ Some r → Lies n r

pub by_constant : (c : Option ℤ) (o : Option Interval) (a : Result ℤ ℕ) → Comes c a → Keeps o a → Keeps (constant_or c o) a
by_constant None o a k more n r e h = more n r e h
by_constant (Some m) o a k more n r e h = subst (λ (x : ℤ). Lies x r) (ok_one m n (sym (k m refl) ∙ e)) (point_lies m r h)

pub of_two_keeps : (f : Interval → Interval → Interval) (op : ℤ → ℤ → ℤ) (p q : Option Interval) (a b : Evaluated ℤ)
    → ((u v : ℤ) (i j : Interval) → Lies u i → Lies v j → Lies (op u v) (f i j))
    → Keeps p a.result → Keeps q b.result → Keeps (of_two f p q) (binary (λ u. λ v. in_range (op u v)) a b).result
of_two_keeps f op None q a b law k l n r e h = absurd cc
of_two_keeps f op (Some i) None a b law k l n r e h = absurd cc
of_two_keeps f op (Some i) (Some j) a b law k l n r e h =
    let first = came a.seen a.result (λ u. b >>> λ v. given (by_number (in_range (op u v)))) n e in
    let second = came b.seen b.result (λ v. given (by_number (in_range (op first.0 v)))) n first.2 in
    let is = within_range (op first.0 second.0) n second.2 in
    subst (λ (w : Interval). Lies n w) (kept (f i j) r h) (subst (λ (x : ℤ). Lies x (f i j)) is (law first.0 second.0 i j (k first.0 i first.1 refl) (l second.0 j second.1 refl)))

pub of_one_keeps : (p : Option Interval) (a : Evaluated ℤ) → Keeps p a.result → Keeps (of_one interval_negation p) (unary negation_of a).result
of_one_keeps None a k n r e h = absurd cc
of_one_keeps (Some i) a k n r e h =
    let first = came a.seen a.result (λ u. given (by_number (negation_of u))) n e in
    let is = within_range (neg_ℤ first.0) n first.2 in
    let l = k first.0 i first.1 refl in
    subst (λ (w : Interval). Lies n w) (kept (interval_negation i) r h) (subst (λ (x : ℤ). Lies x (interval_negation i)) is (record { from = omega (arith, linear, l.to); to = omega (arith, linear, l.from) }))

pub sum_lies : (u v : ℤ) (i j : Interval) → Lies u i → Lies v j → Lies (u +ℤ v) (interval_sum i j)
sum_lies u v i j a b = record { from = omega (arith, linear, a.from, b.from); to = omega (arith, linear, a.to, b.to) }

pub difference_lies : (u v : ℤ) (i j : Interval) → Lies u i → Lies v j → Lies (u -ℤ v) (interval_difference i j)
difference_lies u v i j a b = record { from = omega (arith, linear, a.from, b.to); to = omega (arith, linear, a.to, b.from) }

ordered : (u : ℤ) (i : Interval) → Lies u i → i.lo ≤ℤ i.hi
ordered u i a = omega (arith, linear, a.from, a.to)

pub product_lies : (u v : ℤ) (i j : Interval) → Lies u i → Lies v j → Lies (u *ℤ v) (interval_product i j)
product_lies u v i j a b = (mul_image i j (interval_product i j) (i.lo *ℤ j.lo) (i.lo *ℤ j.hi) (i.hi *ℤ j.lo) (i.hi *ℤ j.hi) (ordered u i a) (ordered v j b) refl refl refl refl refl refl).holds u v a b

max_lies : (u v : ℤ) (i j : Interval) → Lies u i → Lies v j → Lies (int_max u v) (interval_max i j)
max_lies u v i j a b = record { from = omega (arith, linear, clamps, a.from, b.from); to = omega (arith, linear, clamps, a.to, b.to) }

min_lies : (u v : ℤ) (i j : Interval) → Lies u i → Lies v j → Lies (int_min u v) (interval_min i j)
min_lies u v i j a b = record { from = omega (arith, linear, clamps, a.from, b.from); to = omega (arith, linear, clamps, a.to, b.to) }

-- an operation on arguments from left to right
left_lies : (op : ℤ → ℤ → ℤ) (f : Interval → Interval → Interval) → ((u v : ℤ) (i j : Interval) → Lies u i → Lies v j → Lies (op u v) (f i j))
    → (us : List ℤ) (u n : ℤ) (is : List Interval) (i : Interval) → Lies u i → AllLie us is → by_number (from_left (λ a. λ b. in_range (op a b)) u us) ≡ Ok n → Lies n (fold f i is)
left_lies op f law [] u n [] i a all e = subst (λ (x : ℤ). Lies x i) (ok_one u n e) a
left_lies op f law [] u n (j ∷ is) i a all e = absurd all
left_lies op f law (v ∷ us) u n [] i a all e = absurd all
left_lies op f law (v ∷ us) u n (j ∷ is) i a all e = go (is_in_range (op u v)) (left_lies op f law us (op u v) n is (f i j) (law u v i j a all.0) all.1) e
  where
    go : (b : Bool) → (by_number (from_left (λ x. λ y. in_range (op x y)) (op u v) us) ≡ Ok n → Lies n (fold f (f i j) is))
        → by_number ((if b then Ok (op u v) else Err OutOfRange) >>= λ c. from_left (λ x. λ y. in_range (op x y)) c us) ≡ Ok n → Lies n (fold f (f i j) is)
    go true k h = k h
    go false k h = absurd cc

call_keeps : (f : Intrinsic) (us : List ℤ) (rs : List Interval) (n : ℤ) (r : Interval) → AllLie us rs → of_intrinsic (intrinsic_result f us) ≡ Ok n → call_interval f (Some rs) ≡ Some r → Lies n r
call_keeps Mod us rs n r all e h = absurd cc
call_keeps Abs us rs n r all e h = absurd cc
call_keeps Max us [] n r all e h = absurd cc
call_keeps Max [] (i ∷ is) n r all e h = absurd all
call_keeps Max (u ∷ []) (i ∷ is) n r all e h = absurd cc
call_keeps Max (u ∷ (v ∷ us)) (i ∷ is) n r all e h = subst (λ (w : Interval). Lies n w) (some_one _ r h) (left_lies int_max interval_max max_lies (v ∷ us) u n is i all.0 all.1 e)
call_keeps Min us [] n r all e h = absurd cc
call_keeps Min [] (i ∷ is) n r all e h = absurd all
call_keeps Min (u ∷ []) (i ∷ is) n r all e h = absurd cc
call_keeps Min (u ∷ (v ∷ us)) (i ∷ is) n r all e h = subst (λ (w : Interval). Lies n w) (some_one _ r h) (left_lies int_min interval_min min_lies (v ∷ us) u n is i all.0 all.1 e)

-- calls without arguments that have intervals have none
no_call : (f : Intrinsic) (r : Interval) → call_interval f None ≡ Some r → ⊥
no_call Mod r h = absurd cc
no_call Abs r h = absurd cc
no_call Max r h = absurd cc
no_call Min r h = absurd cc

-- the same of lists
abbrev pub KeepAll : Option (List Interval) → Result (List ℤ) ℕ → Type 0
KeepAll o a = (ns : List ℤ) (rs : List Interval) → a ≡ Ok ns → o ≡ Some rs → AllLie ns rs

pub call_of_keeps : (f : Intrinsic) (o : Option (List Interval)) (a : Evaluated (List ℤ)) → KeepAll o a.result → Keeps (call_interval f o) (a >>> λ us. given (of_intrinsic (intrinsic_result f us))).result
call_of_keeps f None a k n r e h = absurd (no_call f r h)
call_of_keeps f (Some rs) a k n r e h =
    let first = came a.seen a.result (λ us. given (of_intrinsic (intrinsic_result f us))) n e in
    call_keeps f first.0 rs n r (k first.0 rs first.1 refl) first.2 h

pub more_keep : (p : Option Interval) (q : Option (List Interval)) (a : Evaluated ℤ) (b : Evaluated (List ℤ)) → Keeps p a.result → KeepAll q b.result → KeepAll (onto p q) (a >>> λ u. b >>> λ us. given (Ok (u ∷ us))).result
more_keep None q a b k l ns rs e h = absurd cc
more_keep (Some i) None a b k l ns rs e h = absurd cc
more_keep (Some i) (Some is) a b k l ns rs e h =
    let first = came a.seen a.result (λ u. b >>> λ us. given (Ok (u ∷ us))) ns e in
    let second = came b.seen b.result (λ us. given (Ok (first.0 ∷ us))) ns first.2 in
    subst (λ (w : List Interval). AllLie ns w) (some_one (i ∷ is) rs h) (subst (λ (w : List ℤ). AllLie w (i ∷ is)) (ok_one (first.0 ∷ second.0) ns second.2) (k first.0 i first.1 refl, l second.0 is second.1 refl))

pub number_held : (content : Content) (n : ℤ) → number_read content ≡ Ok n → content ≡ Number n
number_held (Number m) n h = ap Number (ok_one m n h)
number_held Undefined n h = absurd cc
number_held (Lines lines) n h = absurd cc

pub storable_lies : (n : ℤ) → is_storable n ≡ true → Lies n any_value
storable_lies n h =
    let p = and_parts (int_le (neg_ℤ (pos (2 ^ 31))) n) (int_le n (pos (2 ^ 31) -ℤ pos 1)) h in
    let a = p.0 in
    let b = p.1 in
    record { from = omega (arith, linear); to = omega (arith, linear) }
