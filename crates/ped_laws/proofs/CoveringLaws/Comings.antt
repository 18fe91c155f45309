-- Evaluations that have come to a value, and the values of constant expressions.
use Rattle.std.proofs.Common.{◌≡◌, ℕ, List, [], ◌∷◌, Bool, true, false, ◌&&◌, refl, ap, ◌∙◌, subst, arith, ℤ, pos, Option, Some, None, Result, Ok, Err, if◌then◌else◌}
use Rattle.std.specs.Prelude.{option_and_then}
use Rattle.std.specs.Result.{result_ok}
use Rattle.ped_flow.specs.ped_base.specs.declared.arithmetic.faults.Fault.{Fault}
use Rattle.ped_flow.specs.ped_base.specs.declared.arithmetic.faults.Fault.TheVariants.{OutOfRange}
use Rattle.ped_flow.specs.ped_base.specs.Arithmetic.Arithmetic.{is_in_range, in_range, sum_of, difference_of, negation_of, product_of, quotient_of, power_of}
use Rattle.ped_graph.specs.ped_views.specs.declared.intervals.Interval.{Interval}
use Rattle.ped_graph.specs.ped_views.specs.Intervals.{Lies}
use Rattle.ped_graph.specs.ped_views.proofs.Products.{linear}
use Rattle.ped_flow.specs.ped_tree.specs.declared.expressions.Intrinsic.{Intrinsic}
use Rattle.ped_flow.specs.ped_tree.specs.Tree.{ExprTree, ExprTrees, Int, Var, Element, Neg, Add, Sub, Mul, Div, Pow, Call, no_exprs, more_exprs}
use Rattle.ped_flow.specs.ped_tree.specs.Constants.NamedConstants.{value_named}
use Rattle.ped_flow.specs.ped_tree.specs.Constants.ConstantExpressions as constant
use Rattle.ped_flow.specs.ped_tree.specs.Constants.ConstantExpressions.{unary_value, binary_value, intrinsic_result, constant_value, constant_values}
use Rattle.ped_eval.specs.ped_store.specs.Stores.{Store}
use Rattle.ped_eval.specs.Scopes.{Names}
use Rattle.ped_eval.specs.Evaluation.{Seen, Evaluated, onward, ◌>>>◌, given, by_number}
use Rattle.ped_eval.specs.Values.{unary, binary, of_intrinsic, name_value, value, values}
use Rattle.ped_flow.specs.ped_affine.specs.IntervalArithmetic.{point}
use Rattle.ped_flow.specs.ped_affine.specs.Ranges.{is_near, kept_near}

-- a value came of a first one
pub came : {A B : Type 0} (seen : List Seen) (a : Result A ℕ) (next : A → Evaluated B) (y : B) → (onward seen a next).result ≡ Ok y → (x : A) × (a ≡ Ok x) × ((next x).result ≡ Ok y)
came seen (Ok x) next y h = (x, refl, h)
came seen (Err fault) next y h = absurd cc

abbrev good : {A : Type 0} → A → Result A ℕ
good x = Ok x

pub ok_one : {A : Type 0} (x y : A) → good x ≡ good y → x ≡ y
ok_one x y h = cc

pub some_one : {A : Type 0} (x y : A) → Some x ≡ Some y → x ≡ y
some_one x y h = cc

-- a number in its range is itself
pub within_range : (m n : ℤ) → by_number (in_range m) ≡ Ok n → m ≡ n
within_range m n h = go (is_in_range m) h
  where
    go : (b : Bool) → by_number (if b then Ok m else Err OutOfRange) ≡ Ok n → m ≡ n
    go true e = ok_one m n e
    go false e = absurd cc

-- the interval that is kept is itself
pub kept : (a r : Interval) → kept_near a ≡ Some r → a ≡ r
kept a r h = go (is_near a.lo && is_near a.hi) h
  where
    go : (b : Bool) → (if b then Some a else None) ≡ Some r → a ≡ r
    go true e = some_one a r e
    go false e = absurd cc

pub point_lies : (n : ℤ) (r : Interval) → kept_near (point n) ≡ Some r → Lies n r
point_lies n r h = subst (λ (w : Interval). Lies n w) (kept (point n) r h) (record { from = omega (arith, linear); to = omega (arith, linear) })

-- constant expressions come to their values
abbrev pub Comes : {A : Type 0} → Option A → Result A ℕ → Type 0
Comes {A} o r = (m : A) → o ≡ Some m → r ≡ Ok m

by_ok : (a : Result ℤ Fault) → Comes (result_ok a) (by_number a)
by_ok (Ok n) m h = ap Ok (some_one n m h)
by_ok (Err f) m h = absurd cc

unary_comes : (f : ℤ → Result ℤ Fault) (c : Option ℤ) (a : Evaluated ℤ) → Comes c a.result → Comes (unary_value f c) (unary f a).result
unary_comes f None a k m h = absurd cc
unary_comes f (Some u) a k m h = ap (λ (r : Result ℤ ℕ). (onward a.seen r (λ x. given (by_number (f x)))).result) (k u refl) ∙ by_ok (f u) m h

binary_comes : (f : ℤ → ℤ → Result ℤ Fault) (c d : Option ℤ) (a b : Evaluated ℤ) → Comes c a.result → Comes d b.result → Comes (binary_value f c d) (binary f a b).result
binary_comes f None d a b k l m h = absurd cc
binary_comes f (Some u) None a b k l m h = absurd cc
binary_comes f (Some u) (Some v) a b k l m h =
    ap (λ (r : Result ℤ ℕ). (onward a.seen r (λ x. b >>> λ y. given (by_number (f x y)))).result) (k u refl)
    ∙ ap (λ (r : Result ℤ ℕ). (onward b.seen r (λ y. given (by_number (f u y)))).result) (l v refl)
    ∙ by_ok (f u v) m h

call_comes : (f : Intrinsic) (c : Option (List ℤ)) (a : Evaluated (List ℤ)) → Comes c a.result → Comes (option_and_then result_ok (option_and_then (intrinsic_result f) c)) (a >>> λ us. given (of_intrinsic (intrinsic_result f us))).result
call_comes f None a k m h = absurd cc
call_comes f (Some us) a k m h = ap (λ (r : Result (List ℤ) ℕ). (onward a.seen r (λ us. given (of_intrinsic (intrinsic_result f us)))).result) (k us refl) ∙ go (intrinsic_result f us) h
  where
    go : (o : Option (Result ℤ Fault)) → option_and_then result_ok o ≡ Some m → of_intrinsic o ≡ Ok m
    go None e = absurd cc
    go (Some r) e = by_ok r m e

more_comes : (c : Option ℤ) (d : Option (List ℤ)) (a : Evaluated ℤ) (b : Evaluated (List ℤ)) → Comes c a.result → Comes d b.result → Comes (constant.onto c d) (a >>> λ u. b >>> λ us. given (Ok (u ∷ us))).result
more_comes None d a b k l m h = absurd cc
more_comes (Some u) None a b k l m h = absurd cc
more_comes (Some u) (Some us) a b k l m h =
    ap (λ (r : Result ℤ ℕ). (onward a.seen r (λ u. b >>> λ us. given (Ok (u ∷ us)))).result) (k u refl)
    ∙ ap (λ (r : Result (List ℤ) ℕ). (onward b.seen r (λ us. given (Ok (u ∷ us)))).result) (l us refl)
    ∙ ap Ok (some_one (u ∷ us) m h)

name_comes : (c : Option ℤ) (g : Names) (x : List ℕ) (s : Store) → Comes c (name_value c g x s).result
name_comes (Some n) g x s m h = ap Ok (some_one n m h)
name_comes None g x s m h = absurd cc

mutual
  pub constant_comes : (g : Names) (s : Store) (e : ExprTree) → Comes (constant_value g.constants e) (value g e s).result
  constant_comes g s (Int n) = λ m h. ap Ok (some_one (pos n) m h)
  constant_comes g s (Var x) = name_comes (value_named g.constants x) g x s
  constant_comes g s (Element x subscripts) = λ m h. absurd cc
  constant_comes g s (Neg a) = unary_comes negation_of (constant_value g.constants a) (value g a s) (constant_comes g s a)
  constant_comes g s (Add a b) = binary_comes sum_of (constant_value g.constants a) (constant_value g.constants b) (value g a s) (value g b s) (constant_comes g s a) (constant_comes g s b)
  constant_comes g s (Sub a b) = binary_comes difference_of (constant_value g.constants a) (constant_value g.constants b) (value g a s) (value g b s) (constant_comes g s a) (constant_comes g s b)
  constant_comes g s (Mul a b) = binary_comes product_of (constant_value g.constants a) (constant_value g.constants b) (value g a s) (value g b s) (constant_comes g s a) (constant_comes g s b)
  constant_comes g s (Div a b) = binary_comes quotient_of (constant_value g.constants a) (constant_value g.constants b) (value g a s) (value g b s) (constant_comes g s a) (constant_comes g s b)
  constant_comes g s (Pow a b) = binary_comes power_of (constant_value g.constants a) (constant_value g.constants b) (value g a s) (value g b s) (constant_comes g s a) (constant_comes g s b)
  constant_comes g s (Call f arguments) = call_comes f (constant_values g.constants arguments) (values g arguments s) (constants_come g s arguments)

  pub constants_come : (g : Names) (s : Store) (es : ExprTrees) → Comes (constant_values g.constants es) (values g es s).result
  constants_come g s no_exprs = λ m h. ap Ok (some_one [] m h)
  constants_come g s (more_exprs e rest) = more_comes (constant_value g.constants e) (constant_values g.constants rest) (value g e s) (values g rest s) (constant_comes g s e) (constants_come g s rest)
