-- Intervals of bounds depend on the named constants and on which names are variables of DO loops, and not on what a DO assigns.
use Rattle.std.proofs.Common.{◌≡◌, ℤ, List, [], ◌∷◌, ◌++◌, Bool, true, false, None, refl, ap, ◌∙◌, if◌then◌else◌}
use Rattle.std.specs.Prelude.{ℕ, pos, int_lt}
use Rattle.std.specs.Map.{lookup}
use Rattle.ped_base.specs.Lists.{is_same_text, is_among}
use Rattle.ped_views.specs.declared.intervals.Interval.{Interval}
use Rattle.ped_views.specs.Views.{range}
use Rattle.ped_tree.specs.Tree.{ExprTree, ExprTrees, Int, Var, Element, Neg, Add, Sub, Mul, Div, Pow, Call, no_exprs, more_exprs, Head}
use Rattle.ped_tree.specs.Constants.ConstantExpressions.{constant_value}
use Rattle.ped_affine.specs.IntervalArithmetic.{interval_sum, interval_difference, interval_negation, interval_product}
use Rattle.ped_affine.specs.Ranges.{Setting, Around, constant_or, of_one, of_two, variable_by, onto, call_interval, interval_of, intervals_of, near_or_all, bound_interval, step_by, is_steady, range_between, loop_range, between_ends, inside, around_with}

-- intervals are the same with these names
pub record TellTheSame (s u : Setting) : Type 0 where
  pub constants : s.constants ≡ u.constants
  pub variables : (x : List ℕ) → is_among x s.loop_variables ≡ is_among x u.loop_variables

module _ (s u : Setting) (same : TellTheSame s u) where
  value : (e : ExprTree) → constant_value s.constants e ≡ constant_value u.constants e
  value e = ap (λ (cs : List (List ℕ × ℤ)). constant_value cs e) same.constants

  mutual
    pub same_interval : (around : Around) (e : ExprTree) → interval_of s around e ≡ interval_of u around e
    same_interval around (Int n) = refl
    same_interval around (Var x) = λ i. constant_or (value (Var x) i) (variable_by (lookup (is_same_text x) around) (same.variables x i))
    same_interval around (Element x subscripts) = refl
    same_interval around (Neg a) = λ i. constant_or (value (Neg a) i) (of_one interval_negation (same_interval around a i))
    same_interval around (Add a b) = λ i. constant_or (value (Add a b) i) (of_two interval_sum (same_interval around a i) (same_interval around b i))
    same_interval around (Sub a b) = λ i. constant_or (value (Sub a b) i) (of_two interval_difference (same_interval around a i) (same_interval around b i))
    same_interval around (Mul a b) = λ i. constant_or (value (Mul a b) i) (of_two interval_product (same_interval around a i) (same_interval around b i))
    same_interval around (Div a b) = λ i. constant_or (value (Div a b) i) None
    same_interval around (Pow a b) = λ i. constant_or (value (Pow a b) i) None
    same_interval around (Call f arguments) = λ i. constant_or (value (Call f arguments) i) (call_interval f (same_intervals around arguments i))

    same_intervals : (around : Around) (es : ExprTrees) → intervals_of s around es ≡ intervals_of u around es
    same_intervals around no_exprs = refl
    same_intervals around (more_exprs e rest) = λ i. onto (same_interval around e i) (same_intervals around rest i)

  steady_apart : (first last : Interval) (step : ℤ) (b c : Bool) → between_ends (range_between first last step b) ≡ between_ends (range_between first last step c)
  steady_apart first last step b c = by (int_lt step (pos 0))
    where
      by : (d : Bool) → between_ends (if d then range last.lo first.hi step b else range first.lo last.hi step b) ≡ between_ends (if d then range last.lo first.hi step c else range first.lo last.hi step c)
      by true = refl
      by false = refl

  same_ends : (around : Around) (h : Head) → between_ends (loop_range s around h) ≡ between_ends (loop_range u around h)
  same_ends around h =
      (λ i. between_ends (range_between (near_or_all (same_interval around h.first i)) (near_or_all (same_interval around h.last i)) (step_by (value h.step i)) (is_steady s h.first)))
      ∙ steady_apart (bound_interval u around h.first) (bound_interval u around h.last) (step_by (constant_value u.constants h.step)) (is_steady s h.first) (is_steady u h.first)

  pub same_around : (around : Around) (hs : List Head) → around_with s around hs ≡ around_with u around hs
  same_around around [] = refl
  same_around around (h ∷ hs) =
      ap (λ (r : Interval). around_with s (around ++ (h.variable, r) ∷ []) hs) (same_ends around h) ∙ same_around (inside around h (loop_range u around h)) hs

  -- a bound in the same loops
  pub same_in_loops : (hs : List Head) (e : ExprTree) → interval_of s (around_with s [] hs) e ≡ interval_of u (around_with u [] hs) e
  same_in_loops hs e = ap (λ (around : Around). interval_of s around e) (same_around [] hs) ∙ same_interval (around_with u [] hs) e
