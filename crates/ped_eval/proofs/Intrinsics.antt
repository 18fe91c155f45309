-- Intrinsic functions: another number of arguments than they take, and MAX and MIN argument by argument.
use Rattle.std.proofs.Common.{◌≡◌, ℕ, ◌+◌, ◌<◌, ◌≤◌, ◌-◌, ℤ, List, [], ◌∷◌, length, map, take, drop, get_or, refl, sym, ap, ◌∙◌, arith, Ok, Err, None}
use Rattle.std.specs.Prelude.{Result}
use Rattle.std.proofs.Math.Seq.{take-length}
use Rattle.std.proofs.lemmas.List.{length-drop}
use Rattle.ped_base.specs.declared.arithmetic.faults.Fault.{Fault}
use Rattle.ped_base.specs.Arithmetic.Arithmetic.{remainder_of, absolute_value_of, greatest_of, least_of, from_left}
use Rattle.ped_tree.specs.Constants.ConstantExpressions.{intrinsic_result}
use Rattle.ped_tree.specs.declared.expressions.Expr.{Expr}
use Rattle.ped_tree.specs.declared.expressions.Intrinsic.{Intrinsic}
use Rattle.ped_tree.specs.declared.expressions.Intrinsic.TheVariants.{Mod, Abs, Max, Min}
use Rattle.ped_tree.specs.Tree.{Call}
use Rattle.ped_tree.specs.Views.{pack_exprs, expr_tree}
use Rattle.ped_store.specs.Stores.{out_of_range}
use Rattle.ped_eval.specs.Evaluation.{by_number}
use Rattle.ped_eval.specs.Values.{of_intrinsic}
use Rattle.ped_eval.specs.declared.surroundings.Surroundings.{Surroundings}
use Rattle.ped_eval.specs.Results.{value_at, values_at, of_one, of_two, fault_or}
use Rattle.ped_eval.proofs.Steps.{as_many, call_at, values_more, values_none, first_of, none_behind}

mod_of_two : (vs : List ℤ) → ¬ (length vs ≡ 2) → intrinsic_result Mod vs ≡ None
mod_of_two [] h = refl
mod_of_two (a ∷ []) h = refl
mod_of_two (a ∷ b ∷ []) h = absurd (h refl)
mod_of_two (a ∷ b ∷ c ∷ rest) h = refl

abs_of_one : (vs : List ℤ) → ¬ (length vs ≡ 1) → intrinsic_result Abs vs ≡ None
abs_of_one [] h = refl
abs_of_one (a ∷ []) h = absurd (h refl)
abs_of_one (a ∷ b ∷ rest) h = refl

max_of_two_or_more : (vs : List ℤ) → length vs < 2 → intrinsic_result Max vs ≡ None
max_of_two_or_more [] h = refl
max_of_two_or_more (a ∷ []) h = refl
max_of_two_or_more (a ∷ b ∷ rest) h = absurd (omega arith)

min_of_two_or_more : (vs : List ℤ) → length vs < 2 → intrinsic_result Min vs ≡ None
min_of_two_or_more [] h = refl
min_of_two_or_more (a ∷ []) h = refl
min_of_two_or_more (a ∷ b ∷ rest) h = absurd (omega arith)

-- an operation from left to right that has come to a value, with the values that are left
abbrev pub go_on : (ℤ → ℤ → Result ℤ Fault) → ℤ → Result (List ℤ) ℕ → Result ℤ ℕ
go_on f a r = of_one (λ us. by_number (from_left f a us)) r

max_of_more : (u v : ℤ) (vs : List ℤ) → of_intrinsic (intrinsic_result Max (u ∷ v ∷ vs)) ≡ by_number (from_left greatest_of u (v ∷ vs))
max_of_more u v vs = refl

min_of_more : (u v : ℤ) (vs : List ℤ) → of_intrinsic (intrinsic_result Min (u ∷ v ∷ vs)) ≡ by_number (from_left least_of u (v ∷ vs))
min_of_more u v vs = refl

module _ (around : Surroundings) where
  -- an intrinsic function that has no result of so many values
  wrong_number : (f : Intrinsic) (es : List Expr) → ((vs : List ℤ) → length vs ≡ length es → intrinsic_result f vs ≡ None) → Err (fault_or out_of_range (values_at around es)) ≡ value_at around (Call f (pack_exprs (map expr_tree es)))
  wrong_number f es none = sym (call_at around f es ∙ go (values_at around es) (as_many around es))
    where
      go : (q : Result (List ℤ) ℕ) → ((us : List ℤ) → q ≡ Ok us → length us ≡ length es) → of_one (λ us. of_intrinsic (intrinsic_result f us)) q ≡ Err (fault_or out_of_range q)
      go (Ok us) many = ap of_intrinsic (none us (many us refl))
      go (Err n) many = refl

  -- MOD of more or fewer than two arguments
  pub mod_of_others : (es : List Expr) (n : ℕ) → n ≡ fault_or out_of_range (values_at around es) → ¬ (length es ≡ 2) → Err n ≡ value_at around (Call Mod (pack_exprs (map expr_tree es)))
  mod_of_others es n e h = ap Err e ∙ wrong_number Mod es (λ vs e. mod_of_two vs (λ two. h (sym e ∙ two)))

  -- ABS of more arguments than one, or of none
  pub abs_of_others : (es : List Expr) (n : ℕ) → n ≡ fault_or out_of_range (values_at around es) → ¬ (length es ≡ 1) → Err n ≡ value_at around (Call Abs (pack_exprs (map expr_tree es)))
  abs_of_others es n e h = ap Err e ∙ wrong_number Abs es (λ vs e. abs_of_one vs (λ one. h (sym e ∙ one)))

  -- MAX of fewer than two arguments
  pub max_of_few : (es : List Expr) (n : ℕ) → n ≡ fault_or out_of_range (values_at around es) → length es < 2 → Err n ≡ value_at around (Call Max (pack_exprs (map expr_tree es)))
  max_of_few es n e h = ap Err e ∙ wrong_number Max es (λ vs e. max_of_two_or_more vs (omega (arith, e)))

  -- MIN of fewer than two arguments
  pub min_of_few : (es : List Expr) (n : ℕ) → n ≡ fault_or out_of_range (values_at around es) → length es < 2 → Err n ≡ value_at around (Call Min (pack_exprs (map expr_tree es)))
  min_of_few es n e h = ap Err e ∙ wrong_number Min es (λ vs e. min_of_two_or_more vs (omega (arith, e)))

  values_one : (a : Expr) → values_at around (a ∷ []) ≡ of_one (λ u. Ok (u ∷ [])) (value_at around (expr_tree a))
  values_one a = values_more around a [] ∙ ap (of_two (λ u us. Ok (u ∷ us)) (value_at around (expr_tree a))) (values_none around) ∙ go (value_at around (expr_tree a))
    where
      go : (r : Result ℤ ℕ) → of_two (λ u us. Ok (u ∷ us)) r (Ok []) ≡ of_one (λ u. Ok (u ∷ [])) r
      go (Ok u) = refl
      go (Err n) = refl

  -- ABS of its argument
  pub abs_at : (es : List Expr) (a : Expr) → length es ≡ 1 → a ≡ get_or es 0 a → of_one (λ u. by_number (absolute_value_of u)) (value_at around (expr_tree a)) ≡ value_at around (Call Abs (pack_exprs (map expr_tree es)))
  abs_at es a h e =
      let all : es ≡ a ∷ [] = first_of es 0 a (omega (arith, h)) e ∙ ap (λ (l : List Expr). a ∷ l) (none_behind es 1 (omega (arith, h))) in
      sym (call_at around Abs es ∙ ap (λ (l : List Expr). of_one (λ us. of_intrinsic (intrinsic_result Abs us)) (values_at around l)) all ∙ ap (of_one (λ us. of_intrinsic (intrinsic_result Abs us))) (values_one a) ∙ go (value_at around (expr_tree a)))
    where
      go : (r : Result ℤ ℕ) → of_one (λ us. of_intrinsic (intrinsic_result Abs us)) (of_one (λ u. Ok (u ∷ [])) r) ≡ of_one (λ u. by_number (absolute_value_of u)) r
      go (Ok u) = refl
      go (Err n) = refl

  -- MOD of its arguments
  pub mod_at : (es : List Expr) (a b : Expr) → length es ≡ 2 → a ≡ get_or es 0 a → b ≡ get_or es 1 b → of_two (λ u v. by_number (remainder_of u v)) (value_at around (expr_tree a)) (value_at around (expr_tree b)) ≡ value_at around (Call Mod (pack_exprs (map expr_tree es)))
  mod_at es a b h e f =
      let all : es ≡ a ∷ b ∷ [] =
      first_of es 0 a (omega (arith, h)) e ∙ ap (λ (l : List Expr). a ∷ l) (first_of es 1 b (omega (arith, h)) f ∙ ap (λ (l : List Expr). b ∷ l) (none_behind es 2 (omega (arith, h)))) in
      sym (call_at around Mod es ∙ ap (λ (l : List Expr). of_one (λ us. of_intrinsic (intrinsic_result Mod us)) (values_at around l)) all
      ∙ ap (of_one (λ us. of_intrinsic (intrinsic_result Mod us))) (values_more around a (b ∷ []) ∙ ap (of_two (λ u us. Ok (u ∷ us)) (value_at around (expr_tree a))) (values_one b))
      ∙ go (value_at around (expr_tree a)) (value_at around (expr_tree b)))
    where
      go : (r q : Result ℤ ℕ) → of_one (λ us. of_intrinsic (intrinsic_result Mod us)) (of_two (λ u us. Ok (u ∷ us)) r (of_one (λ v. Ok (v ∷ [])) q)) ≡ of_two (λ u v. by_number (remainder_of u v)) r q
      go (Ok u) (Ok v) = refl
      go (Ok u) (Err n) = refl
      go (Err n) q = refl

  -- an operation goes on with one argument more
  pub go_on-next : (f : ℤ → ℤ → Result ℤ Fault) (a u c : ℤ) (es : List Expr) (i : ℕ) (e : Expr) → i < length es → e ≡ get_or es i e → Ok u ≡ value_at around (expr_tree e) → f a u ≡ Ok c
      → go_on f a (values_at around (drop i es)) ≡ go_on f c (values_at around (drop (i + 1) es))
  go_on-next f a u c es i e h g v r =
      ap (λ (l : List Expr). go_on f a (values_at around l)) (first_of es i e h g)
      ∙ ap (go_on f a) (values_more around e (drop (i + 1) es) ∙ ap (λ (r : Result ℤ ℕ). of_two (λ u us. Ok (u ∷ us)) r (values_at around (drop (i + 1) es))) (sym v))
      ∙ go (values_at around (drop (i + 1) es))
    where
      one : (us : List ℤ) → by_number (from_left f a (u ∷ us)) ≡ by_number (from_left f c us)
      one us = let e : from_left f a (u ∷ us) ≡ from_left f c us = rw r refl in ap by_number e

      go : (q : Result (List ℤ) ℕ) → go_on f a (of_two (λ u us. Ok (u ∷ us)) (Ok u) q) ≡ go_on f c q
      go (Ok us) = one us
      go (Err n) = refl

  -- an argument faults
  pub go_on-fault : (f : ℤ → ℤ → Result ℤ Fault) (a : ℤ) (es : List Expr) (i : ℕ) (e : Expr) (n : ℕ) → i < length es → e ≡ get_or es i e → Err n ≡ value_at around (expr_tree e) → go_on f a (values_at around (drop i es)) ≡ Err n
  go_on-fault f a es i e n h g v =
      ap (λ (l : List Expr). go_on f a (values_at around l)) (first_of es i e h g)
      ∙ ap (go_on f a) (values_more around e (drop (i + 1) es) ∙ ap (λ (r : Result ℤ ℕ). of_two (λ u us. Ok (u ∷ us)) r (values_at around (drop (i + 1) es))) (sym v))

  -- no argument is left
  pub go_on-done : (f : ℤ → ℤ → Result ℤ Fault) (a : ℤ) (es : List Expr) (i : ℕ) → length es ≤ i → go_on f a (values_at around (drop i es)) ≡ Ok a
  go_on-done f a es i h = ap (λ (l : List Expr). go_on f a (values_at around l)) (none_behind es i h) ∙ ap (go_on f a) (values_none around)

  -- the first argument of MAX or MIN faults
  pub call-fault : (f : Intrinsic) (es : List Expr) (a : Expr) (n : ℕ) → 2 ≤ length es → a ≡ get_or es 0 a → Err n ≡ value_at around (expr_tree a) → value_at around (Call f (pack_exprs (map expr_tree es))) ≡ Err n
  call-fault f es a n h e v =
      call_at around f es
      ∙ ap (λ (l : List Expr). of_one (λ us. of_intrinsic (intrinsic_result f us)) (values_at around l)) (first_of es 0 a (omega arith) e)
      ∙ ap (of_one (λ us. of_intrinsic (intrinsic_result f us))) (values_more around a (drop 1 es) ∙ ap (λ (r : Result ℤ ℕ). of_two (λ u us. Ok (u ∷ us)) r (values_at around (drop 1 es))) (sym v))

  call_begins : (f : Intrinsic) (op : ℤ → ℤ → Result ℤ Fault) → ((u v : ℤ) (vs : List ℤ) → of_intrinsic (intrinsic_result f (u ∷ v ∷ vs)) ≡ by_number (from_left op u (v ∷ vs)))
      → (es : List Expr) (a : Expr) (u : ℤ) → 2 ≤ length es → a ≡ get_or es 0 a → Ok u ≡ value_at around (expr_tree a) → value_at around (Call f (pack_exprs (map expr_tree es))) ≡ go_on op u (values_at around (drop 1 es))
  call_begins f op more es a u h e v =
      call_at around f es
      ∙ ap (λ (l : List Expr). of_one (λ us. of_intrinsic (intrinsic_result f us)) (values_at around l)) (first_of es 0 a (omega arith) e)
      ∙ ap (of_one (λ us. of_intrinsic (intrinsic_result f us))) (values_more around a (drop 1 es) ∙ ap (λ (r : Result ℤ ℕ). of_two (λ u us. Ok (u ∷ us)) r (values_at around (drop 1 es))) (sym v))
      ∙ go (values_at around (drop 1 es)) (λ us q. as_many around (drop 1 es) us q ∙ length-drop 1 es)
    where
      go : (q : Result (List ℤ) ℕ) → ((us : List ℤ) → q ≡ Ok us → length us ≡ length es - 1) → of_one (λ us. of_intrinsic (intrinsic_result f us)) (of_two (λ u us. Ok (u ∷ us)) (Ok u) q) ≡ go_on op u q
      go (Ok []) many = let z : 0 ≡ length es - 1 = many [] refl in absurd (omega (arith, z, h))
      go (Ok (v ∷ vs)) many = more u v vs
      go (Err n) many = refl

  -- MAX and MIN begin with their first argument
  pub max_begins : (es : List Expr) (a : Expr) (u : ℤ) → 2 ≤ length es → a ≡ get_or es 0 a → Ok u ≡ value_at around (expr_tree a) → value_at around (Call Max (pack_exprs (map expr_tree es))) ≡ go_on greatest_of u (values_at around (drop 1 es))
  max_begins = call_begins Max greatest_of max_of_more

  pub min_begins : (es : List Expr) (a : Expr) (u : ℤ) → 2 ≤ length es → a ≡ get_or es 0 a → Ok u ≡ value_at around (expr_tree a) → value_at around (Call Min (pack_exprs (map expr_tree es))) ≡ go_on least_of u (values_at around (drop 1 es))
  min_begins = call_begins Min least_of min_of_more

-- all arguments behind the first
pub others_of : {X : Type 0} (xs : List X) → drop 1 xs ≡ take (length xs - 1) (drop 1 xs)
others_of xs = sym (ap (λ (n : ℕ). take n (drop 1 xs)) (sym (length-drop 1 xs)) ∙ take-length (drop 1 xs))
