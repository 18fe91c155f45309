-- Values of expressions in their intervals.
use Rattle.std.proofs.Common.{◌≡◌, ℕ, ◌^◌, List, [], length, Bool, true, false, ◌&&◌, refl, sym, ap, ◌∙◌, subst, arith, ℤ, pos, neg_ℤ, ◌+ℤ◌, ◌-ℤ◌, ◌*ℤ◌, int_le, Option, Some, None, Ok, Err, if◌then◌else◌}
use Rattle.std.proofs.lemmas.Bool.{and_parts}
use Rattle.ped_graph.specs.ped_views.specs.declared.intervals.Interval.{Interval}
use Rattle.ped_graph.specs.ped_views.specs.Intervals.{Lies}
use Rattle.ped_graph.specs.ped_views.proofs.Products.{linear}
use Rattle.ped_flow.specs.ped_tree.specs.Tree.{ExprTree, ExprTrees, Int, Var, Element, Neg, Add, Sub, Mul, Div, Pow, Call, no_exprs, more_exprs, Head}
use Rattle.ped_flow.specs.ped_tree.specs.Constants.NamedConstants.{value_named}
use Rattle.ped_flow.specs.ped_tree.specs.Constants.ConstantExpressions.{constant_value}
use Rattle.ped_eval.specs.ped_store.specs.Cells as cells
use Rattle.ped_eval.specs.ped_store.specs.Cells.{Cell}
use Rattle.ped_eval.specs.ped_store.specs.Stores.{Store, outside_bounds, out_of_range}
use Rattle.ped_eval.specs.ped_store.specs.Storage.{is_within}
use Rattle.ped_eval.specs.Scopes.{Names}
use Rattle.ped_eval.specs.Evaluation.{◌>>>◌, given, read_cell}
use Rattle.ped_eval.specs.Values.{variable_value, name_value, is_rank, element_cell, value, values}
use Rattle.ped_eval.specs.Loops.{is_bound, in_bounds, Limits, limits}
use Rattle.ped_flow.specs.ped_affine.specs.IntervalArithmetic.{point, interval_sum, interval_difference, interval_negation, interval_product}
use Rattle.ped_flow.specs.ped_affine.specs.Ranges.{Setting, Around, kept_near, constant_or, of_one, of_two, any_value, variable_interval, call_interval, interval_of, intervals_of, near_or_all, bound_interval}
use Rattle.ped_laws.specs.Covering.Within.{AreWithin, AllLie}
use Rattle.ped_laws.proofs.CoveringLaws.Comings.{came, ok_one, some_one, point_lies, Comes, constant_comes}
use Rattle.ped_laws.proofs.CoveringLaws.Parts.{Keeps, KeepAll, by_constant, of_two_keeps, of_one_keeps, sum_lies, difference_lies, product_lies, call_of_keeps, more_keep, number_held, storable_lies}

module _ (s : Setting) (around : Around) (g : Names) (u : Store) (w : AreWithin s around g u) where
  same_comes : (e : ExprTree) → Comes (constant_value s.constants e) (value g e u).result
  same_comes e = subst (λ (c : List (List ℕ × ℤ)). Comes (constant_value c e) (value g e u).result) w.constants (constant_comes g u e)

  variable_keeps : (x : List ℕ) (o : Option ℤ) → g.index x ≡ o → Keeps (variable_interval s around x) (variable_value o u (g.cell x)).result
  variable_keeps x (Some m) i n r e h = w.indices x n r (i ∙ ap Some (ok_one m n e)) h
  variable_keeps x None i n r e h = w.scalars x n r i (number_held (u (g.cell x)) n e) h

  name_keeps : (x : List ℕ) (o : Option ℤ) → o ≡ value_named s.constants x → Keeps (constant_or (value_named s.constants x) (variable_interval s around x)) (name_value o g x u).result
  name_keeps x (Some m) k n r e h = point_lies_of m n r (ok_one m n e) (ap (λ (c : Option ℤ). constant_or c (variable_interval s around x)) k ∙ h)
    where
      point_lies_of : (m n : ℤ) (r : Interval) → m ≡ n → kept_near (point m) ≡ Some r → Lies n r
      point_lies_of m n r q t = subst (λ (z : ℤ). Lies z r) q (point_lies m r t)
  name_keeps x None k n r e h = variable_keeps x (g.index x) refl n r e (ap (λ (c : Option ℤ). constant_or c (variable_interval s around x)) k ∙ h)

  element_keeps : (x : List ℕ) (subscripts : ExprTrees) → Keeps (Some any_value) (value g (Element x subscripts) u).result
  element_keeps x subscripts n r e h =
      let first = came (values g subscripts u).seen (values g subscripts u).result (λ js. given (element_cell g x js) >>> read_cell u) n e in
      let second = came [] (element_cell g x first.0) (read_cell u) n first.2 in
      let is = element_is first.0 second.0 second.1 in
      subst (λ (z : Interval). Lies n z) (some_one any_value r h) (storable_lies n (w.elements x first.0 n (ap u (sym is) ∙ number_held (u second.0) n second.2)))
    where
      element_is : (js : List ℤ) (c : Cell) → element_cell g x js ≡ Ok c → c ≡ cells.Element x js
      element_is js c q = go (is_rank (length js) && is_within (g.bounds x) js) q
        where
          go : (b : Bool) → (if b then Ok (cells.Element x js) else Err outside_bounds) ≡ Ok c → c ≡ cells.Element x js
          go true t = sym (ok_one (cells.Element x js) c t)
          go false t = absurd cc

  mutual
    pub value_lies : (e : ExprTree) → Keeps (interval_of s around e) (value g e u).result
    value_lies (Int n) = λ m r e h. subst (λ (z : ℤ). Lies z r) (ok_one (pos n) m e) (point_lies (pos n) r h)
    value_lies (Var x) = name_keeps x (value_named g.constants x) (ap (λ (c : List (List ℕ × ℤ)). value_named c x) w.constants)
    value_lies (Element x subscripts) = element_keeps x subscripts
    value_lies (Neg a) = by_constant (constant_value s.constants (Neg a)) (of_one interval_negation (interval_of s around a)) (value g (Neg a) u).result (same_comes (Neg a))
        (of_one_keeps (interval_of s around a) (value g a u) (value_lies a))
    value_lies (Add a b) = by_constant (constant_value s.constants (Add a b)) (of_two interval_sum (interval_of s around a) (interval_of s around b)) (value g (Add a b) u).result (same_comes (Add a b))
        (of_two_keeps interval_sum (λ x. λ y. x +ℤ y) (interval_of s around a) (interval_of s around b) (value g a u) (value g b u) sum_lies (value_lies a) (value_lies b))
    value_lies (Sub a b) = by_constant (constant_value s.constants (Sub a b)) (of_two interval_difference (interval_of s around a) (interval_of s around b)) (value g (Sub a b) u).result (same_comes (Sub a b))
        (of_two_keeps interval_difference (λ x. λ y. x -ℤ y) (interval_of s around a) (interval_of s around b) (value g a u) (value g b u) difference_lies (value_lies a) (value_lies b))
    value_lies (Mul a b) = by_constant (constant_value s.constants (Mul a b)) (of_two interval_product (interval_of s around a) (interval_of s around b)) (value g (Mul a b) u).result (same_comes (Mul a b))
        (of_two_keeps interval_product (λ x. λ y. x *ℤ y) (interval_of s around a) (interval_of s around b) (value g a u) (value g b u) product_lies (value_lies a) (value_lies b))
    value_lies (Div a b) = by_constant (constant_value s.constants (Div a b)) None (value g (Div a b) u).result (same_comes (Div a b)) (λ n r e h. absurd cc)
    value_lies (Pow a b) = by_constant (constant_value s.constants (Pow a b)) None (value g (Pow a b) u).result (same_comes (Pow a b)) (λ n r e h. absurd cc)
    value_lies (Call f arguments) = by_constant (constant_value s.constants (Call f arguments)) (call_interval f (intervals_of s around arguments)) (value g (Call f arguments) u).result (same_comes (Call f arguments))
        (call_of_keeps f (intervals_of s around arguments) (values g arguments u) (values_lie arguments))

    pub values_lie : (es : ExprTrees) → KeepAll (intervals_of s around es) (values g es u).result
    values_lie no_exprs = λ ns rs e h. subst (λ (z : List ℤ). AllLie z rs) (ok_one [] ns e) (subst (λ (z : List Interval). AllLie [] z) (some_one [] rs h) tt)
    values_lie (more_exprs e rest) = more_keep (interval_of s around e) (intervals_of s around rest) (value g e u) (values g rest u) (value_lies e) (values_lie rest)

bound_is : (m n : ℤ) → in_bounds m ≡ Ok n → (m ≡ n) × (is_bound n ≡ true)
bound_is m n h = go (is_bound m) refl h
  where
    go : (b : Bool) → is_bound m ≡ b → (if b then Ok m else Err out_of_range) ≡ Ok n → (m ≡ n) × (is_bound n ≡ true)
    go true i e = (ok_one m n e, ap is_bound (sym (ok_one m n e)) ∙ i)
    go false i e = absurd cc

bound_lies : (o : Option Interval) (n : ℤ) → is_bound n ≡ true → ((r : Interval) → o ≡ Some r → Lies n r) → Lies n (near_or_all o)
bound_lies (Some r) n h k = k r refl
bound_lies None n h k =
    let p = and_parts (int_le (neg_ℤ (pos (2 ^ 62))) n) (int_le n (pos (2 ^ 62))) h in
    let a = p.0 in
    let b = p.1 in
    record { from = omega (arith, linear); to = omega (arith, linear) }

pub limits_lie : (s : Setting) (around : Around) (g : Names) (u : Store) (h : Head) (l : Limits) → AreWithin s around g u → (limits g h u).result ≡ Ok l → Lies l.first (bound_interval s around h.first) × Lies l.last (bound_interval s around h.last)
limits_lie s around g u h l w e =
    let one = came (value g h.first u).seen (value g h.first u).result (λ a. given (in_bounds a) >>> λ m. value g h.last u >>> λ b. given (in_bounds b) >>> λ n. given (Ok (record { first = m; last = n }))) l e in
    let two = came [] (in_bounds one.0) (λ m. value g h.last u >>> λ b. given (in_bounds b) >>> λ n. given (Ok (record { first = m; last = n }))) l one.2 in
    let three = came (value g h.last u).seen (value g h.last u).result (λ b. given (in_bounds b) >>> λ n. given (Ok (record { first = two.0; last = n }))) l two.2 in
    let four = came [] (in_bounds three.0) (λ n. given (Ok (record { first = two.0; last = n }))) l three.2 in
    let first = bound_is one.0 two.0 two.1 in
    let last = bound_is three.0 four.0 four.1 in
    let is = ok_one (record { first = two.0; last = four.0 }) l four.2 in
    subst (λ (x : Limits). Lies x.first (bound_interval s around h.first) × Lies x.last (bound_interval s around h.last)) is (
      bound_lies (interval_of s around h.first) two.0 first.1 (λ r k. value_lies s around g u w h.first two.0 r (one.1 ∙ ap Ok first.0) k),
      bound_lies (interval_of s around h.last) four.0 last.1 (λ r k. value_lies s around g u w h.last four.0 r (three.1 ∙ ap Ok last.0) k),
    )
