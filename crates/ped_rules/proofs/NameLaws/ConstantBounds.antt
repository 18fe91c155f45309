-- Bounds that are constant: they read nothing, and the limits that they give come from every store.
use Rattle.ped_base.specs.Arithmetic.Arithmetic.{difference_of, is_in_range, negation_of, power_of, product_of, quotient_of, sum_of}
use Rattle.ped_base.specs.declared.arithmetic.faults.Fault.{Fault}
use Rattle.ped_base.specs.declared.arithmetic.faults.Fault.TheVariants.{OutOfRange}
use Rattle.ped_rules.specs.Spans.{Values, is_far}
use Rattle.ped_loop_runs.specs.ped_laws.proofs.CoveringLaws.Comings.{constant_comes, constants_come}
use Rattle.ped_loop_runs.specs.ped_eval.specs.Evaluation.{given, ◌>>>◌}
use Rattle.ped_loop_runs.specs.ped_eval.specs.Loops.{in_bounds, is_bound, limits}
use Rattle.ped_loop_runs.specs.ped_eval.specs.Scopes.{Names}
use Rattle.ped_loop_runs.specs.ped_eval.specs.Values.{binary, name_value, of_intrinsic, unary, value, values}
use Rattle.ped_loop_runs.specs.ped_store.specs.Stores.{Store, out_of_range}
use Rattle.ped_loop_runs.specs.ped_symbolic.specs.Arithmetic.{literal}
use Rattle.ped_tree.specs.Constants.ConstantExpressions.{binary_value, constant_value, constant_values, intrinsic_result, onto, unary_value}
use Rattle.ped_tree.specs.Constants.NamedConstants.{value_named}
use Rattle.ped_tree.specs.Tree.{Add, Call, Div, Element, ExprTree, ExprTrees, Head, Int, Mul, Neg, Pow, Sub, Var, more_exprs, no_exprs}
use Rattle.ped_tree.specs.declared.expressions.Intrinsic.{Intrinsic}
use Rattle.std.proofs.Common.{Bool, Err, List, None, Ok, Option, Result, Some, [], ap, arith, false, if◌then◌else◌, int_le, int_lt, neg_ℤ, negsuc, option_and_then, pos, refl, true, ℕ, ℤ, ◌&&◌, ◌^◌, ◌∙◌, ◌∷◌, ◌≡◌, ◌≤ℤ◌}
use Rattle.std.proofs.lemmas.Bool.{or_parts}
use Rattle.std.proofs.lemmas.Int.{ints}
use Rattle.std.specs.Int.{is_negative}
use Rattle.std.specs.Result.{result_ok}

-- parts of what has a value have values
pub of_unary : (g : ℤ → Result ℤ Fault) (o : Option ℤ) (m : ℤ) → unary_value g o ≡ Some m → (a : ℤ) × (o ≡ Some a)
of_unary g (Some a) m h = (a, refl)
of_unary g None m h = absurd cc

pub of_binary : (g : ℤ → ℤ → Result ℤ Fault) (o p : Option ℤ) (m : ℤ) → binary_value g o p ≡ Some m → (a : ℤ) × (b : ℤ) × (o ≡ Some a) × (p ≡ Some b)
of_binary g (Some a) (Some b) m h = (a, b, refl, refl)
of_binary g (Some a) None m h = absurd cc
of_binary g None p m h = absurd cc

pub of_call : (g : Intrinsic) (o : Option (List ℤ)) (m : ℤ) → option_and_then result_ok (option_and_then (intrinsic_result g) o) ≡ Some m → (vs : List ℤ) × (o ≡ Some vs)
of_call g (Some vs) m h = (vs, refl)
of_call g None m h = absurd cc

pub of_onto : (o : Option ℤ) (p : Option (List ℤ)) (vs : List ℤ) → onto o p ≡ Some vs → (a : ℤ) × (more : List ℤ) × (o ≡ Some a) × (p ≡ Some more)
of_onto (Some a) (Some more) vs h = (a, more, refl, refl)
of_onto (Some a) None vs h = absurd cc
of_onto None p vs h = absurd cc

module _ (g : Names) (s : Store) where
  name_unseen : (x : List ℕ) (o : Option ℤ) (m : ℤ) → o ≡ Some m → (name_value o g x s).seen ≡ []
  name_unseen x (Some n) m h = refl
  name_unseen x None m h = absurd cc

  mutual
    unseen : (e : ExprTree) (m : ℤ) → constant_value g.constants e ≡ Some m → (value g e s).seen ≡ []
    unseen (Int n) m h = refl
    unseen (Var x) m h = name_unseen x (value_named g.constants x) m h
    unseen (Element x subscripts) m h = absurd cc
    unseen (Neg a) m h = let r = of_unary negation_of (constant_value g.constants a) m h in λ i. (unary negation_of (record { seen = unseen a r.0 r.1 i; result = constant_comes g s a r.0 r.1 i })).seen
    unseen (Add a b) m h = let r = of_binary sum_of (constant_value g.constants a) (constant_value g.constants b) m h in λ i. (binary sum_of (record { seen = unseen a r.0 r.2 i; result = constant_comes g s a r.0 r.2 i }) (record { seen = unseen b r.1 r.3 i; result = constant_comes g s b r.1 r.3 i })).seen
    unseen (Sub a b) m h = let r = of_binary difference_of (constant_value g.constants a) (constant_value g.constants b) m h in λ i. (binary difference_of (record { seen = unseen a r.0 r.2 i; result = constant_comes g s a r.0 r.2 i }) (record { seen = unseen b r.1 r.3 i; result = constant_comes g s b r.1 r.3 i })).seen
    unseen (Mul a b) m h = let r = of_binary product_of (constant_value g.constants a) (constant_value g.constants b) m h in λ i. (binary product_of (record { seen = unseen a r.0 r.2 i; result = constant_comes g s a r.0 r.2 i }) (record { seen = unseen b r.1 r.3 i; result = constant_comes g s b r.1 r.3 i })).seen
    unseen (Div a b) m h = let r = of_binary quotient_of (constant_value g.constants a) (constant_value g.constants b) m h in λ i. (binary quotient_of (record { seen = unseen a r.0 r.2 i; result = constant_comes g s a r.0 r.2 i }) (record { seen = unseen b r.1 r.3 i; result = constant_comes g s b r.1 r.3 i })).seen
    unseen (Pow a b) m h = let r = of_binary power_of (constant_value g.constants a) (constant_value g.constants b) m h in λ i. (binary power_of (record { seen = unseen a r.0 r.2 i; result = constant_comes g s a r.0 r.2 i }) (record { seen = unseen b r.1 r.3 i; result = constant_comes g s b r.1 r.3 i })).seen
    unseen (Call f arguments) m h =
        let r = of_call f (constant_values g.constants arguments) m h in
        λ i. (record { seen = all_unseen arguments r.0 r.1 i; result = constants_come g s arguments r.0 r.1 i } >>> λ us. given (of_intrinsic (intrinsic_result f us))).seen

    all_unseen : (es : ExprTrees) (vs : List ℤ) → constant_values g.constants es ≡ Some vs → (values g es s).seen ≡ []
    all_unseen no_exprs vs h = refl
    all_unseen (more_exprs e rest) vs h =
        let r = of_onto (constant_value g.constants e) (constant_values g.constants rest) vs h in
        λ i. (record { seen = unseen e r.0 r.2 i; result = constant_comes g s e r.0 r.2 i } >>> λ u. record { seen = all_unseen rest r.1 r.3 i; result = constants_come g s rest r.1 r.3 i } >>> λ us. given (Ok (u ∷ us))).seen

  whole : (e : ExprTree) (m : ℤ) → constant_value g.constants e ≡ Some m → value g e s ≡ record { seen = []; result = Ok m }
  whole e m h = λ i. record { seen = unseen e m h i; result = constant_comes g s e m h i }

  passes : (m : ℤ) → is_bound m ≡ true → in_bounds m ≡ Ok m
  passes m h = λ i. if h i then Ok m else Err out_of_range

  -- the limits
  pub constant_limits_come : (h : Head) (m n : ℤ) → constant_value g.constants h.first ≡ Some m → constant_value g.constants h.last ≡ Some n → is_bound m ≡ true → is_bound n ≡ true → limits g h s ≡ record { seen = []; result = Ok (record { first = m; last = n }) }
  constant_limits_come h m n first last from to =
      (λ i. whole h.first m first i >>> λ u. given (in_bounds u) >>> λ k. whole h.last n last i >>> λ v. given (in_bounds v) >>> λ l. given (Ok (record { first = k; last = l })))
      ∙ (λ i. given (passes m from i) >>> λ k. given (in_bounds n) >>> λ l. given (Ok (record { first = k; last = l })))
      ∙ (λ i. given (passes n to i) >>> λ l. given (Ok (record { first = m; last = l })))

-- literals are constant
literal_signed : (values : Values) (n : ℤ) → is_in_range n ≡ true → constant_value values (literal n) ≡ Some n
literal_signed values (pos n) fits = go (is_negative (pos n)) refl
  where
    go : (b : Bool) → is_negative (pos n) ≡ b → constant_value values (if b then Neg (Int n) else Int n) ≡ Some (pos n)
    go true h = let k : int_lt (pos n) (pos 0) ≡ true = h in absurd (omega (arith, ints, k))
    go false h = refl
literal_signed values (negsuc n) fits = ap (λ (b : Bool). result_ok (if b then Ok (negsuc n) else Err OutOfRange)) fits

far_not : (n : ℤ) → is_far n ≡ false → (n ≤ℤ pos 2147483647) × (neg_ℤ (pos 2147483647) ≤ℤ n)
far_not n h = let parts = or_parts (int_lt (pos 2147483647) n) (int_lt n (neg_ℤ (pos 2147483647))) h in let one = parts.0 in let two = parts.1 in (omega (arith, ints, one), omega (arith, ints, two))

both_true : (a b : Bool) → a ≡ true → b ≡ true → a && b ≡ true
both_true a b e f = λ i. e i && f i

is_so : (b : Bool) → (b ≡ false → ⊥) → b ≡ true
is_so true h = refl
is_so false h = absurd (h refl)

pub near_in_range : (n : ℤ) → is_far n ≡ false → is_in_range n ≡ true
near_in_range n h =
    let parts = far_not n h in
    let above = parts.0 in
    let below = parts.1 in
    both_true (int_le (neg_ℤ (pos (2 ^ 127))) n) (int_lt n (pos (2 ^ 127))) (is_so (int_le (neg_ℤ (pos (2 ^ 127))) n) (λ e. omega (arith, ints, e, below))) (is_so (int_lt n (pos (2 ^ 127))) (λ e. omega (arith, ints, e, above)))

pub near_bound : (n : ℤ) → is_far n ≡ false → is_bound n ≡ true
near_bound n h =
    let parts = far_not n h in
    let above = parts.0 in
    let below = parts.1 in
    both_true (int_le (neg_ℤ (pos (2 ^ 62))) n) (int_le n (pos (2 ^ 62))) (is_so (int_le (neg_ℤ (pos (2 ^ 62))) n) (λ e. omega (arith, ints, e, below))) (is_so (int_le n (pos (2 ^ 62))) (λ e. omega (arith, ints, e, above)))

pub literal_constant : (values : Values) (n : ℤ) → is_far n ≡ false → constant_value values (literal n) ≡ Some n
literal_constant values n h = literal_signed values n (near_in_range n h)
