-- The ends of intervals lie within 2^62 of zero, and the loops round a bound have theirs.
use Rattle.std.proofs.Common.{◌≡◌, ℕ, ◌^◌, List, [], ◌∷◌, ◌++◌, fold, Bool, true, false, ◌&&◌, ◌||◌, refl, sym, ap, ◌∙◌, subst, arith, ℤ, pos, neg_ℤ, ◌≤ℤ◌, int_lt, unsigned_abs, Option, Some, None, if◌then◌else◌}
use Rattle.std.specs.Map.{lookup}
use Rattle.std.proofs.lemmas.Bool.{and_parts, leb-true}
use Rattle.std.proofs.lemmas.Int.{clamps}
use Rattle.ped_flow.specs.ped_base.specs.Lists.{is_same_text, is_among}
use Rattle.ped_graph.specs.ped_views.specs.declared.intervals.Interval.{Interval}
use Rattle.ped_graph.specs.ped_views.specs.Intervals.{Lies}
use Rattle.ped_graph.specs.ped_views.specs.Views.{range}
use Rattle.ped_graph.specs.ped_views.proofs.Products.{linear}
use Rattle.ped_flow.specs.ped_tree.specs.declared.expressions.Intrinsic.{Intrinsic}
use Rattle.ped_flow.specs.ped_tree.specs.declared.expressions.Intrinsic.TheVariants.{Mod, Abs, Max, Min}
use Rattle.ped_flow.specs.ped_tree.specs.Tree.{ExprTree, ExprTrees, Int, Var, Element, Neg, Add, Sub, Mul, Div, Pow, Call, no_exprs, more_exprs}
use Rattle.ped_flow.specs.ped_tree.specs.Nests.{Loop, indices_of}
use Rattle.ped_flow.specs.ped_tree.specs.Constants.ConstantExpressions.{constant_value}
use Rattle.ped_flow.specs.ped_affine.specs.IntervalArithmetic.{point, interval_sum, interval_difference, interval_negation, interval_product, interval_max, interval_min}
use Rattle.ped_flow.specs.ped_affine.specs.Ranges.{Setting, Around, is_near, kept_near, constant_or, of_one, of_two, any_value, variable_by, onto, call_interval, interval_of, intervals_of, near_or_all, bound_interval, step_by, is_steady, range_between, loop_range, between_ends, inside}
use Rattle.ped_flow.specs.PlainBounds.{around_with}
use Rattle.ped_flow.proofs.Truths.{or_none}
use Rattle.ped_laws.proofs.CoveringLaws.Comings.{some_one}

-- within 2^62 of zero
pub record IsNear (n : ℤ) : Type 0 where
  pub from : neg_ℤ (pos (2 ^ 62)) ≤ℤ n
  pub to : n ≤ℤ pos (2 ^ 62)

-- both ends are
pub record AreNear (r : Interval) : Type 0 where
  pub lo : IsNear r.lo
  pub hi : IsNear r.hi

near_is : (n : ℤ) → is_near n ≡ true → IsNear n
near_is n h = let small = leb-true (unsigned_abs n) (2 ^ 62) h in record { from = omega (arith, linear, small); to = omega (arith, linear, small) }

pub lies_near : (n : ℤ) (r : Interval) → Lies n r → AreNear r → IsNear n
lies_near n r l a = let lo = a.lo in let hi = a.hi in record { from = omega (arith, linear, l.from, lo.from); to = omega (arith, linear, l.to, hi.to) }

pub kept_ends : (a r : Interval) → kept_near a ≡ Some r → AreNear r
kept_ends a r h = go (is_near a.lo && is_near a.hi) refl h
  where
    go : (b : Bool) → (is_near a.lo && is_near a.hi) ≡ b → (if b then Some a else None) ≡ Some r → AreNear r
    go true e k = let p = and_parts (is_near a.lo) (is_near a.hi) e in subst AreNear (some_one a r k) (record { lo = near_is a.lo p.0; hi = near_is a.hi p.1 })
    go false e k = absurd cc

-- an interval, where there is one, has its ends near zero
abbrev pub Ends : Option Interval → Type 0
Ends o = (r : Interval) → o ≡ Some r → AreNear r

abbrev pub AllNear : List Interval → Type 0
AllNear [] = Unit {0}
AllNear (r ∷ rs) = AreNear r × AllNear rs

abbrev pub AllEnds : Option (List Interval) → Type 0
AllEnds o = (rs : List Interval) → o ≡ Some rs → AllNear rs

constant_ends : (c : Option ℤ) (o : Option Interval) → Ends o → Ends (constant_or c o)
constant_ends None o k r h = k r h
constant_ends (Some m) o k r h = kept_ends (point m) r h

one_ends : (f : Interval → Interval) (o : Option Interval) → Ends (of_one f o)
one_ends f None r h = absurd cc
one_ends f (Some a) r h = kept_ends (f a) r h

two_ends : (f : Interval → Interval → Interval) (o p : Option Interval) → Ends (of_two f o p)
two_ends f None p r h = absurd cc
two_ends f (Some a) None r h = absurd cc
two_ends f (Some a) (Some b) r h = kept_ends (f a b) r h

any_near : AreNear any_value
any_near = record { lo = record { from = omega (arith, linear); to = omega (arith, linear) }; hi = record { from = omega (arith, linear); to = omega (arith, linear) } }

any_ends : Ends (Some any_value)
any_ends r h = subst AreNear (some_one any_value r h) any_near

variable_ends : (o : Option Interval) (b : Bool) → Ends o → Ends (variable_by o b)
variable_ends (Some q) b k r h = k r h
variable_ends None true k r h = absurd cc
variable_ends None false k r h = any_ends r h

onto_ends : (o : Option Interval) (p : Option (List Interval)) → Ends o → AllEnds p → AllEnds (onto o p)
onto_ends None p k l rs h = absurd cc
onto_ends (Some i) None k l rs h = absurd cc
onto_ends (Some i) (Some is) k l rs h = subst AllNear (some_one (i ∷ is) rs h) (k i refl, l is refl)

max_near : (i j : Interval) → AreNear i → AreNear j → AreNear (interval_max i j)
max_near i j a b =
    let a1 = a.lo in
    let a2 = a.hi in
    let b1 = b.lo in
    let b2 = b.hi in
    record { lo = record { from = omega (arith, linear, clamps, a1.from, b1.from); to = omega (arith, linear, clamps, a1.to, b1.to) }; hi = record { from = omega (arith, linear, clamps, a2.from, b2.from); to = omega (arith, linear, clamps, a2.to, b2.to) } }

min_near : (i j : Interval) → AreNear i → AreNear j → AreNear (interval_min i j)
min_near i j a b =
    let a1 = a.lo in
    let a2 = a.hi in
    let b1 = b.lo in
    let b2 = b.hi in
    record { lo = record { from = omega (arith, linear, clamps, a1.from, b1.from); to = omega (arith, linear, clamps, a1.to, b1.to) }; hi = record { from = omega (arith, linear, clamps, a2.from, b2.from); to = omega (arith, linear, clamps, a2.to, b2.to) } }

fold_near : (f : Interval → Interval → Interval) → ((i j : Interval) → AreNear i → AreNear j → AreNear (f i j)) → (is : List Interval) (i : Interval) → AreNear i → AllNear is → AreNear (fold f i is)
fold_near f law [] i a all = a
fold_near f law (j ∷ is) i a all = fold_near f law is (f i j) (law i j a all.0) all.1

call_ends : (f : Intrinsic) (o : Option (List Interval)) → AllEnds o → Ends (call_interval f o)
call_ends Mod o k r h = absurd cc
call_ends Abs o k r h = absurd cc
call_ends Max None k r h = absurd cc
call_ends Max (Some []) k r h = absurd cc
call_ends Max (Some (i ∷ is)) k r h = let all = k (i ∷ is) refl in subst AreNear (some_one (fold interval_max i is) r h) (fold_near interval_max max_near is i all.0 all.1)
call_ends Min None k r h = absurd cc
call_ends Min (Some []) k r h = absurd cc
call_ends Min (Some (i ∷ is)) k r h = let all = k (i ∷ is) refl in subst AreNear (some_one (fold interval_min i is) r h) (fold_near interval_min min_near is i all.0 all.1)

-- the loops around have intervals whose ends are near zero
abbrev pub NearAround : Around → Type 0
NearAround around = (x : List ℕ) → Ends (lookup (is_same_text x) around)

module _ (s : Setting) (around : Around) (near : NearAround around) where
  mutual
    pub interval_ends : (e : ExprTree) → Ends (interval_of s around e)
    interval_ends (Int n) = λ r h. kept_ends (point (pos n)) r h
    interval_ends (Var x) = constant_ends (constant_value s.constants (Var x)) (variable_by (lookup (is_same_text x) around) (is_among x s.loop_variables)) (variable_ends (lookup (is_same_text x) around) (is_among x s.loop_variables) (near x))
    interval_ends (Element x subscripts) = any_ends
    interval_ends (Neg a) = constant_ends (constant_value s.constants (Neg a)) (of_one interval_negation (interval_of s around a)) (one_ends interval_negation (interval_of s around a))
    interval_ends (Add a b) = constant_ends (constant_value s.constants (Add a b)) (of_two interval_sum (interval_of s around a) (interval_of s around b)) (two_ends interval_sum (interval_of s around a) (interval_of s around b))
    interval_ends (Sub a b) = constant_ends (constant_value s.constants (Sub a b)) (of_two interval_difference (interval_of s around a) (interval_of s around b)) (two_ends interval_difference (interval_of s around a) (interval_of s around b))
    interval_ends (Mul a b) = constant_ends (constant_value s.constants (Mul a b)) (of_two interval_product (interval_of s around a) (interval_of s around b)) (two_ends interval_product (interval_of s around a) (interval_of s around b))
    interval_ends (Div a b) = constant_ends (constant_value s.constants (Div a b)) None (λ r h. absurd cc)
    interval_ends (Pow a b) = constant_ends (constant_value s.constants (Pow a b)) None (λ r h. absurd cc)
    interval_ends (Call f arguments) = constant_ends (constant_value s.constants (Call f arguments)) (call_interval f (intervals_of s around arguments)) (call_ends f (intervals_of s around arguments) (intervals_ends arguments))

    pub intervals_ends : (es : ExprTrees) → AllEnds (intervals_of s around es)
    intervals_ends no_exprs = λ rs h. subst AllNear (some_one [] rs h) tt
    intervals_ends (more_exprs e rest) = onto_ends (interval_of s around e) (intervals_of s around rest) (interval_ends e) (intervals_ends rest)

  near_by : (o : Option Interval) → Ends o → AreNear (near_or_all o)
  near_by (Some r) k = k r refl
  near_by None k = record { lo = record { from = omega (arith, linear); to = omega (arith, linear) }; hi = record { from = omega (arith, linear); to = omega (arith, linear) } }

  pub bound_near : (e : ExprTree) → AreNear (bound_interval s around e)
  bound_near e = near_by (interval_of s around e) (interval_ends e)

ends_of : (lo hi step : ℤ) (steady : Bool) → IsNear lo → IsNear hi → AreNear (between_ends (range lo hi step steady))
ends_of lo hi step steady a b = record { lo = record { from = omega (arith, linear, clamps, a.from, b.from); to = omega (arith, linear, clamps, a.to, b.to) }; hi = record { from = omega (arith, linear, clamps, a.from, b.from); to = omega (arith, linear, clamps, a.to, b.to) } }

range_near : (a b : Interval) (step : ℤ) (steady : Bool) → AreNear a → AreNear b → AreNear (between_ends (range_between a b step steady))
range_near a b step steady p q = go (int_lt step (pos 0))
  where
    go : (t : Bool) → AreNear (between_ends (if t then range b.lo a.hi step steady else range a.lo b.hi step steady))
    go true = ends_of b.lo a.hi step steady q.lo p.hi
    go false = ends_of a.lo b.hi step steady p.lo q.hi

-- what is looked up, or else this
abbrev or_else : Option Interval → Option Interval → Option Interval
or_else (Some r) o = Some r
or_else None o = o

-- an interval where this is so
abbrev only_if : Bool → Interval → Option Interval
only_if b i = if b then Some i else None

lookup_append : (around : Around) (x : List ℕ) (i : Interval) (y : List ℕ) → lookup (is_same_text y) (around ++ (x, i) ∷ []) ≡ or_else (lookup (is_same_text y) around) (only_if (is_same_text y x) i)
lookup_append [] x i y = refl
lookup_append (p ∷ around) x i y = go (is_same_text y p.0) (lookup_append around x i y)
  where
    go : (b : Bool) → lookup (is_same_text y) (around ++ (x, i) ∷ []) ≡ or_else (lookup (is_same_text y) around) (only_if (is_same_text y x) i)
        → (if b then Some p.1 else lookup (is_same_text y) (around ++ (x, i) ∷ [])) ≡ or_else (if b then Some p.1 else lookup (is_same_text y) around) (only_if (is_same_text y x) i)
    go true k = refl
    go false k = k

or_else_ends : (o : Option Interval) (b : Bool) (i : Interval) → Ends o → AreNear i → Ends (or_else o (only_if b i))
or_else_ends (Some q) b i k a r h = k r h
or_else_ends None true i k a r h = subst AreNear (some_one i r h) a
or_else_ends None false i k a r h = absurd cc

more_near : (around : Around) (x : List ℕ) (i : Interval) → NearAround around → AreNear i → NearAround (around ++ (x, i) ∷ [])
more_near around x i near a y r h = or_else_ends (lookup (is_same_text y) around) (is_same_text y x) i (near y) a r (sym (lookup_append around x i y) ∙ h)

pub around_near : (s : Setting) (nest : List Loop) (around : Around) → NearAround around → NearAround (around_with s around nest)
around_near s [] around near = near
around_near s (l ∷ ls) around near =
    around_near s ls (inside around l.head (loop_range s around l.head))
    (more_near around l.head.variable (between_ends (loop_range s around l.head)) near (range_near (bound_interval s around l.head.first) (bound_interval s around l.head.last) (step_by (constant_value s.constants l.head.step)) (is_steady s l.head.first) (bound_near s around near l.head.first) (bound_near s around near l.head.last)))

none_either : (o : Option Interval) (b : Bool) (i : Interval) → or_else o (only_if b i) ≡ None → (o ≡ None) × (b ≡ false)
none_either (Some q) b i h = absurd cc
none_either None true i h = absurd cc
none_either None false i h = (refl, refl)

-- a variable that has no interval is none of a loop around
pub unfound : (s : Setting) (x : List ℕ) (nest : List Loop) (around : Around) → lookup (is_same_text x) (around_with s around nest) ≡ None → (lookup (is_same_text x) around ≡ None) × (is_among x (indices_of nest) ≡ false)
unfound s x [] around h = (h, refl)
unfound s x (l ∷ ls) around h =
    let i : Interval = between_ends (loop_range s around l.head) in
    let r = unfound s x ls (inside around l.head (loop_range s around l.head)) h in
    let p = none_either (lookup (is_same_text x) around) (is_same_text x l.head.variable) i (sym (lookup_append around l.head.variable i x) ∙ r.0) in
    (p.0, ap (λ (b : Bool). b || is_among x (indices_of ls)) p.1 ∙ r.1)

-- a name that is no variable of a loop around has no interval
pub not_around : (s : Setting) (x : List ℕ) (nest : List Loop) (around : Around) → is_among x (indices_of nest) ≡ false → lookup (is_same_text x) around ≡ None → lookup (is_same_text x) (around_with s around nest) ≡ None
not_around s x [] around h k = k
not_around s x (l ∷ ls) around h k =
    let i : Interval = between_ends (loop_range s around l.head) in
    let p = or_none (is_same_text x l.head.variable) (is_among x (indices_of ls)) h in
    not_around s x ls (inside around l.head (loop_range s around l.head)) p.1
    (lookup_append around l.head.variable i x ∙ ap (λ (o : Option Interval). or_else o (only_if (is_same_text x l.head.variable) i)) k ∙ ap (λ (b : Bool). only_if b i) p.0)
