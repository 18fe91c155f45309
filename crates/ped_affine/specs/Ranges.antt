-- The ranges of DO loops, by interval arithmetic on their bounds (ANSI X3.9-1978, section 11.10.3; this project).
use Rattle.std.specs.Prelude.{ℕ, ℤ, pos, neg_ℤ, ◌-ℤ◌, ◌^◌, List, [], ◌∷◌, ◌++◌, fold, unsigned_abs, nat_le, int_lt, Bool, true, false, not, ◌&&◌, Option, Some, None, if◌then◌else◌}
use Rattle.std.specs.Int.{int_min, int_max}
use Rattle.std.specs.Map.{lookup}
use Rattle.std.specs.Ordering.{int_eq}
use Rattle.ped_base.specs.Lists.{is_same_text, is_among}
use Rattle.ped_views.specs.declared.intervals.Interval.{Interval}
use Rattle.ped_views.specs.Views.{Range, range}
use Rattle.ped_tree.specs.declared.expressions.Intrinsic.{Intrinsic}
use Rattle.ped_tree.specs.declared.expressions.Intrinsic.TheVariants.{Max, Min}
use Rattle.ped_tree.specs.Tree.{ExprTree, ExprTrees, Int, Var, Element, Neg, Add, Sub, Mul, Div, Pow, Call, no_exprs, more_exprs, Head}
use Rattle.ped_tree.specs.Constants.ConstantExpressions.{constant_value}
use Rattle.ped_affine.specs.IntervalArithmetic.{interval, point, interval_sum, interval_difference, interval_negation, interval_product, interval_max, interval_min}

-- what ranges and subscripts depend on in addition to the loops around a statement: the named constants with their values, the variables of all DO loops of the program, and what the outermost DO around the statement assigns
pub record Setting : Type 0 where
  pub constants : List (List ℕ × ℤ)
  pub loop_variables : List (List ℕ)
  pub assigned : List (List ℕ)

-- the loops around a bound by their variables, each with the values from the lesser to the greater end of its range, the outermost first
abbrev pub Around : Type 0
Around = List (List ℕ × Interval)

-- within 2^62 of zero (this project)
abbrev pub is_near : ℤ → Bool
is_near n = nat_le (unsigned_abs n) (2 ^ 62)

-- an interval of a bound or of a part of it; none where it leaves 2^62 (this project)
abbrev pub kept_near : Interval → Option Interval
kept_near r = if is_near r.lo && is_near r.hi then Some r else None

-- the value of a constant expression, and else this
abbrev pub constant_or : Option ℤ → Option Interval → Option Interval
constant_or (Some n) other = kept_near (point n)
constant_or None other = other

-- an operation on an interval, where no part leaves 2^62
abbrev pub of_one : (Interval → Interval) → Option Interval → Option Interval
of_one f (Some a) = kept_near (f a)
of_one f None = None

-- an operation on two intervals, where no part leaves 2^62
abbrev pub of_two : (Interval → Interval → Interval) → Option Interval → Option Interval → Option Interval
of_two f (Some a) (Some b) = kept_near (f a b)
of_two f (Some a) None = None
of_two f None b = None

-- the values that a variable or an element may hold (ANSI X3.9-1978, section 4.3; this project)
abbrev pub any_value : Interval
any_value = interval (neg_ℤ (pos (2 ^ 31))) (pos (2 ^ 31) -ℤ pos 1)

-- a variable by its loop around the bound; another one holds any value, but the variable of a DO of the program may lie beyond (this project)
abbrev pub variable_by : Option Interval → Bool → Option Interval
variable_by (Some r) of_some_loop = Some r
variable_by None true = None
variable_by None false = Some any_value

-- the interval of a variable (this project)
abbrev pub variable_interval : Setting → Around → List ℕ → Option Interval
variable_interval s around x = variable_by (lookup (is_same_text x) around) (is_among x s.loop_variables)

-- an interval before others, where all are there (plain words)
abbrev pub onto : Option Interval → Option (List Interval) → Option (List Interval)
onto (Some r) (Some rest) = Some (r ∷ rest)
onto (Some r) None = None
onto None rest = None

-- the greatest, or the least, of arguments; no other intrinsic function has an interval (ANSI X3.9-1978, table 5; this project)
abbrev pub call_interval : Intrinsic → Option (List Interval) → Option Interval
call_interval Max (Some (r ∷ rest)) = Some (fold interval_max r rest)
call_interval Min (Some (r ∷ rest)) = Some (fold interval_min r rest)
call_interval f arguments = None

-- the interval of a bound or of a part of it: a constant expression by its value; sums, differences, signs, products, MAX and MIN by their parts; none where a part leaves 2^62 or is anything else (this project)
abbrev mutual
  pub interval_of : Setting → Around → ExprTree → Option Interval
  interval_of s around (Int n) = kept_near (point (pos n))
  interval_of s around (Var x) = constant_or (constant_value s.constants (Var x)) (variable_interval s around x)
  interval_of s around (Element x subscripts) = Some any_value
  interval_of s around (Neg a) = constant_or (constant_value s.constants (Neg a)) (of_one interval_negation (interval_of s around a))
  interval_of s around (Add a b) = constant_or (constant_value s.constants (Add a b)) (of_two interval_sum (interval_of s around a) (interval_of s around b))
  interval_of s around (Sub a b) = constant_or (constant_value s.constants (Sub a b)) (of_two interval_difference (interval_of s around a) (interval_of s around b))
  interval_of s around (Mul a b) = constant_or (constant_value s.constants (Mul a b)) (of_two interval_product (interval_of s around a) (interval_of s around b))
  interval_of s around (Div a b) = constant_or (constant_value s.constants (Div a b)) None
  interval_of s around (Pow a b) = constant_or (constant_value s.constants (Pow a b)) None
  interval_of s around (Call f arguments) = constant_or (constant_value s.constants (Call f arguments)) (call_interval f (intervals_of s around arguments))

  -- the intervals of arguments, where all have one
  pub intervals_of : Setting → Around → ExprTrees → Option (List Interval)
  intervals_of s around no_exprs = Some []
  intervals_of s around (more_exprs e rest) = onto (interval_of s around e) (intervals_of s around rest)

-- all that a bound may be where a part of it leaves 2^62 (this project)
abbrev pub near_or_all : Option Interval → Interval
near_or_all (Some r) = r
near_or_all None = interval (neg_ℤ (pos (2 ^ 62))) (pos (2 ^ 62))

-- the values that a bound may have (this project)
abbrev pub bound_interval : Setting → Around → ExprTree → Interval
bound_interval s around e = near_or_all (interval_of s around e)

-- an increment by its value; the value of a valid program's increment isn't 0 and lies within 2147483647, and any other counts as 1 (ANSI X3.9-1978, section 11.10.3; this project)
abbrev pub step_by : Option ℤ → ℤ
step_by (Some n) = if not (int_eq n (pos 0)) && nat_le (unsigned_abs n) 2147483647 then n else pos 1
step_by None = pos 1

-- the initial value of a loop has one value for all entries: it has no element, and only constants and variables that the outermost DO doesn't assign (this project)
abbrev mutual
  pub is_steady : Setting → ExprTree → Bool
  is_steady s (Int n) = true
  is_steady s (Var x) = not (is_among x s.assigned)
  is_steady s (Element x subscripts) = false
  is_steady s (Neg a) = is_steady s a
  is_steady s (Add a b) = is_steady s a && is_steady s b
  is_steady s (Sub a b) = is_steady s a && is_steady s b
  is_steady s (Mul a b) = is_steady s a && is_steady s b
  is_steady s (Div a b) = is_steady s a && is_steady s b
  is_steady s (Pow a b) = is_steady s a && is_steady s b
  is_steady s (Call f arguments) = are_steady s arguments

  -- all arguments have one value for all entries (this project)
  pub are_steady : Setting → ExprTrees → Bool
  are_steady s no_exprs = true
  are_steady s (more_exprs e rest) = is_steady s e && are_steady s rest

-- from the least initial value to the greatest limit; with a negative increment from the least limit to the greatest initial value (ANSI X3.9-1978, section 11.10.3)
abbrev pub range_between : Interval → Interval → ℤ → Bool → Range
range_between first last step steady = if int_lt step (pos 0) then range last.lo first.hi step steady else range first.lo last.hi step steady

-- the range of a loop inside those around it (ANSI X3.9-1978, section 11.10.3; this project)
abbrev pub loop_range : Setting → Around → Head → Range
loop_range s around h = range_between (bound_interval s around h.first) (bound_interval s around h.last) (step_by (constant_value s.constants h.step)) (is_steady s h.first)

-- the values from the lesser to the greater end of a range, which may be empty (this project)
abbrev pub between_ends : Range → Interval
between_ends r = interval (int_min r.lo r.hi) (int_max r.lo r.hi)

-- the loops around with one more inside them
abbrev pub inside : Around → Head → Range → Around
inside around h r = around ++ (h.variable, between_ends r) ∷ []

-- the loops around with those of a nest inside them (ANSI X3.9-1978, section 11.10.3)
abbrev pub around_with : Setting → Around → List Head → Around
around_with s around [] = around
around_with s around (h ∷ hs) = around_with s (inside around h (loop_range s around h)) hs

-- the ranges of loops, each inside those before it (ANSI X3.9-1978, section 11.10.3)
abbrev pub ranges_inside : Setting → Around → List Head → List Range
ranges_inside s around [] = []
ranges_inside s around (h ∷ hs) = loop_range s around h ∷ ranges_inside s (inside around h (loop_range s around h)) hs

-- the ranges of the loops of a nest, the outermost first (ANSI X3.9-1978, section 11.10.3)
abbrev pub nest_ranges : Setting → List Head → List Range
nest_ranges s heads = ranges_inside s [] heads
