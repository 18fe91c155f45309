-- Sums and differences that are made anew have the value of the operations.
use Rattle.std.proofs.Common.{◌≡◌, ℕ, zero, suc, ℤ, pos, negsuc, neg_ℤ, ◌+ℤ◌, ◌-ℤ◌, List, [], ◌++◌, Bool, true, false, Option, Some, None, Result, Ok, Err, refl, sym, ap, ◌∙◌, arith, append-nil, eqb-true, if◌then◌else◌}
use Rattle.std.specs.Prelude.{unsigned_abs, int_lt, nat_le, ◌==◌}
use Rattle.std.specs.Int.{is_negative}
use Rattle.std.proofs.lemmas.Int.{ints}
use Rattle.ped_base.specs.declared.arithmetic.faults.Fault.{Fault}
use Rattle.ped_base.specs.declared.arithmetic.faults.Fault.TheVariants.{OutOfRange}
use Rattle.ped_base.specs.Arithmetic.Arithmetic.{is_in_range, in_range, sum_of, difference_of}
use Rattle.ped_tree.specs.Tree.{ExprTree, Int, Var, Element, Neg, Add, Sub, Mul, Div, Pow, Call}
use Rattle.ped_symbolic.specs.Arithmetic.{literal_value, literal, of_both, small, computed, literal_or, is_zero, added, subtracted, plus_of, minus_of}
use Rattle.ped_weaves.specs.ped_store.specs.Stores.{Store}
use Rattle.ped_weaves.specs.ped_eval.specs.Scopes.{Names}
use Rattle.ped_weaves.specs.ped_eval.specs.Evaluation.{Seen, Evaluated, given, by_number}
use Rattle.ped_weaves.specs.ped_eval.specs.Values.{binary, value}

-- an evaluation by its parts
abbrev pub evaluated : {A : Type 0} → List Seen → Result A ℕ → Evaluated A
evaluated seen result = record { seen = seen; result = result }

-- a result of arithmetic lies in the range
ranged : (n w : ℤ) → by_number (in_range n) ≡ Ok w → (w ≡ n) × (is_in_range n ≡ true)
ranged n w = go (is_in_range n) refl
  where
    go : (b : Bool) → is_in_range n ≡ b → by_number (if b then Ok n else Err OutOfRange) ≡ Ok w → (w ≡ n) × (b ≡ true)
    go true r e = let same : n ≡ w = cc in (sym same, refl)
    go false r e = absurd cc

-- operations on two values: of what they come from, and what comes of them
pub record IsOfTwo (f : ℤ → ℤ → Result ℤ Fault) (a b : Evaluated ℤ) (w : ℤ) : Type 0 where
  pub left : ℤ
  pub right : ℤ
  pub of_left : a.result ≡ Ok left
  pub of_right : b.result ≡ Ok right
  pub result : by_number (f left right) ≡ Ok w

pub two_parts : (f : ℤ → ℤ → Result ℤ Fault) (a b : Evaluated ℤ) (w : ℤ) → (binary f a b).result ≡ Ok w → IsOfTwo f a b w
two_parts f a b w = go a.result b.result refl refl
  where
    go : (r t : Result ℤ ℕ) → a.result ≡ r → b.result ≡ t → (binary f (evaluated a.seen r) (evaluated b.seen t)).result ≡ Ok w → IsOfTwo f a b w
    go (Ok u) (Ok v) h k e = record { left = u; right = v; of_left = h; of_right = k; result = e }
    go (Ok u) (Err n) h k e = absurd cc
    go (Err n) t h k e = absurd cc

two_come : (f : ℤ → ℤ → Result ℤ Fault) (a b : Evaluated ℤ) (u v w : ℤ) → a.result ≡ Ok u → b.result ≡ Ok v → by_number (f u v) ≡ Ok w → binary f a b ≡ evaluated (a.seen ++ b.seen) (Ok w)
two_come f a b u v w h k e =
    (λ i. binary f (evaluated a.seen (h i)) (evaluated b.seen (k i)))
    ∙ (λ i. evaluated (a.seen ++ append-nil b.seen i) (e i))

-- an expression is a literal, one with a sign, or neither
pub by_shape : (P : ExprTree → Type 0) → ((n : ℕ) → P (Int n)) → ((n : ℕ) → P (Neg (Int n)))
    → ((e : ExprTree) → literal_value e ≡ None → is_zero e ≡ false → ((a : ExprTree) → added a e ≡ Add a e) → ((a : ExprTree) → subtracted a e ≡ Sub a e) → P e) → (e : ExprTree) → P e
by_shape P int neg none (Int n) = int n
by_shape P int neg none (Neg (Int n)) = neg n
by_shape P int neg none (Neg (Var x)) = none (Neg (Var x)) refl refl (λ a. refl) (λ a. refl)
by_shape P int neg none (Neg (Element x es)) = none (Neg (Element x es)) refl refl (λ a. refl) (λ a. refl)
by_shape P int neg none (Neg (Neg e)) = none (Neg (Neg e)) refl refl (λ a. refl) (λ a. refl)
by_shape P int neg none (Neg (Add d e)) = none (Neg (Add d e)) refl refl (λ a. refl) (λ a. refl)
by_shape P int neg none (Neg (Sub d e)) = none (Neg (Sub d e)) refl refl (λ a. refl) (λ a. refl)
by_shape P int neg none (Neg (Mul d e)) = none (Neg (Mul d e)) refl refl (λ a. refl) (λ a. refl)
by_shape P int neg none (Neg (Div d e)) = none (Neg (Div d e)) refl refl (λ a. refl) (λ a. refl)
by_shape P int neg none (Neg (Pow d e)) = none (Neg (Pow d e)) refl refl (λ a. refl) (λ a. refl)
by_shape P int neg none (Neg (Call f es)) = none (Neg (Call f es)) refl refl (λ a. refl) (λ a. refl)
by_shape P int neg none (Var x) = none (Var x) refl refl (λ a. refl) (λ a. refl)
by_shape P int neg none (Element x es) = none (Element x es) refl refl (λ a. refl) (λ a. refl)
by_shape P int neg none (Add d e) = none (Add d e) refl refl (λ a. refl) (λ a. refl)
by_shape P int neg none (Sub d e) = none (Sub d e) refl refl (λ a. refl) (λ a. refl)
by_shape P int neg none (Mul d e) = none (Mul d e) refl refl (λ a. refl) (λ a. refl)
by_shape P int neg none (Div d e) = none (Div d e) refl refl (λ a. refl) (λ a. refl)
by_shape P int neg none (Pow d e) = none (Pow d e) refl refl (λ a. refl) (λ a. refl)
by_shape P int neg none (Call f es) = none (Call f es) refl refl (λ a. refl) (λ a. refl)

plus_zero : (n : ℤ) → n +ℤ pos 0 ≡ n
plus_zero n = omega (arith, ints)

zero_plus : (n : ℤ) → pos 0 +ℤ n ≡ n
zero_plus n = omega (arith, ints)

twice_negated : (n : ℕ) → neg_ℤ (neg_ℤ (pos n)) ≡ pos n
twice_negated zero = refl
twice_negated (suc n) = refl

zero_test : (n : ℕ) → (n == 0) ≡ true → n ≡ 0
zero_test n e = eqb-true n 0 e

module _ (g : Names) (s : Store) where
  -- a literal has its value and sees nothing
  literal_is : (m u : ℤ) (e : ExprTree) → literal_value e ≡ Some m → (value g e s).result ≡ Ok u → (u ≡ m) × ((value g e s).seen ≡ [])
  literal_is m u =
      by_shape (λ (e : ExprTree). literal_value e ≡ Some m → (value g e s).result ≡ Ok u → (u ≡ m) × ((value g e s).seen ≡ []))
      (λ n l r. let same : pos n ≡ m = cc in let is : pos n ≡ u = cc in (sym is ∙ same, refl))
      (λ n l r. let same : neg_ℤ (pos n) ≡ m = cc in ((ranged (neg_ℤ (pos n)) u r).0 ∙ same, refl))
      (λ e h z p q l r. absurd cc)

  -- a literal 0 has the value 0
  zero_is : (u : ℤ) (e : ExprTree) → is_zero e ≡ true → (value g e s).result ≡ Ok u → (u ≡ pos 0) × ((value g e s).seen ≡ [])
  zero_is u =
      by_shape (λ (e : ExprTree). is_zero e ≡ true → (value g e s).result ≡ Ok u → (u ≡ pos 0) × ((value g e s).seen ≡ []))
      (λ n z r. let is : pos n ≡ u = cc in (sym is ∙ ap pos (zero_test n z), refl))
      (λ n z r. ((ranged (neg_ℤ (pos n)) u r).0 ∙ ap (λ (k : ℕ). neg_ℤ (pos k)) (zero_test n z), refl))
      (λ e h z p q k r. absurd cc)

  literal_comes : (w : ℤ) → is_in_range w ≡ true → value g (literal w) s ≡ given (Ok w)
  literal_comes (pos n) r = go (is_negative (pos n)) refl
    where
      go : (b : Bool) → is_negative (pos n) ≡ b → value g (if b then Neg (Int n) else Int n) s ≡ given (Ok (pos n))
      go true h = let k : int_lt (pos n) (pos 0) ≡ true = h in absurd (omega (arith, ints, k))
      go false h = refl
  literal_comes (negsuc n) r = ap (λ (b : Bool). given (by_number (if b then Ok (negsuc n) else Err OutOfRange))) r

  small_is : (n : ℤ) (z : ℤ) → small (Some n) ≡ Some z → z ≡ n
  small_is n z e = go (nat_le (unsigned_abs n) 2147483647) e
    where
      go : (b : Bool) → (if b then Some n else None) ≡ Some z → z ≡ n
      go true h = let same : n ≡ z = cc in sym same
      go false h = absurd cc

  -- a sum or a difference of two literals, where it is computed
  module _ (f : ℤ → ℤ → ℤ) (a b : ExprTree) (u v w : ℤ) (h : (value g a s).result ≡ Ok u) (k : (value g b s).result ≡ Ok v) (r : by_number (in_range (f u v)) ≡ Ok w) where
    computed_comes : (z : ℤ) → computed f a b ≡ Some z → value g (literal z) s ≡ evaluated ((value g a s).seen ++ (value g b s).seen) (Ok w)
    computed_comes z = go (literal_value a) (literal_value b) refl refl
      where
        go : (l m : Option ℤ) → literal_value a ≡ l → literal_value b ≡ m → small (of_both f l m) ≡ Some z → value g (literal z) s ≡ evaluated ((value g a s).seen ++ (value g b s).seen) (Ok w)
        go (Some l) (Some m) p q e =
            let left = literal_is l u a p h in
            let right = literal_is m v b q k in
            let is = ranged (f u v) w r in
            let same : z ≡ w = small_is (f l m) z e ∙ (λ i. f (sym left.0 i) (sym right.0 i)) ∙ sym is.0 in
            let fits : is_in_range w ≡ true = ap is_in_range is.0 ∙ is.1 in
            ap (λ (n : ℤ). value g (literal n) s) same ∙ literal_comes w fits ∙ (λ i. evaluated (sym left.1 i ++ sym right.1 i) (Ok w))
        go (Some l) None p q e = absurd cc
        go None m p q e = absurd cc

    or_comes : (e : ExprTree) → value g e s ≡ evaluated ((value g a s).seen ++ (value g b s).seen) (Ok w) → value g (literal_or (computed f a b) e) s ≡ evaluated ((value g a s).seen ++ (value g b s).seen) (Ok w)
    or_comes e rest = go (computed f a b) (λ z q. computed_comes z q)
      where
        go : (l : Option ℤ) → ((z : ℤ) → l ≡ Some z → value g (literal z) s ≡ evaluated ((value g a s).seen ++ (value g b s).seen) (Ok w)) → value g (literal_or l e) s ≡ evaluated ((value g a s).seen ++ (value g b s).seen) (Ok w)
        go (Some z) c = c z refl
        go None c = rest

    comes_by : (e : ExprTree) (seen : List Seen) (n : ℤ) → (value g e s).result ≡ Ok n → w ≡ n → (value g e s).seen ≡ seen → value g e s ≡ evaluated seen (Ok w)
    comes_by e seen n p q t = λ i. evaluated (t i) ((p ∙ ap Ok (sym q)) i)

    by_zero : is_zero b ≡ true → f u (pos 0) ≡ u → value g a s ≡ evaluated ((value g a s).seen ++ (value g b s).seen) (Ok w)
    by_zero z laws =
        let zero = zero_is v b z k in
        comes_by a ((value g a s).seen ++ (value g b s).seen) u h ((ranged (f u v) w r).0 ∙ ap (f u) zero.0 ∙ laws) (sym (append-nil (value g a s).seen) ∙ ap (λ (l : List Seen). (value g a s).seen ++ l) (sym zero.1))

    from_zero : is_zero a ≡ true → f (pos 0) v ≡ v → value g b s ≡ evaluated ((value g a s).seen ++ (value g b s).seen) (Ok w)
    from_zero z laws =
        let zero = zero_is u a z h in
        comes_by b ((value g a s).seen ++ (value g b s).seen) v k ((ranged (f u v) w r).0 ∙ ap (λ (n : ℤ). f n v) zero.0 ∙ laws) (ap (λ (l : List Seen). l ++ (value g b s).seen) (sym zero.1))

  added_comes : (a : ExprTree) (u v w : ℤ) → (value g a s).result ≡ Ok u → by_number (sum_of u v) ≡ Ok w → (b : ExprTree) → (value g b s).result ≡ Ok v → value g (added a b) s ≡ evaluated ((value g a s).seen ++ (value g b s).seen) (Ok w)
  added_comes a u v w h r =
      by_shape (λ (b : ExprTree). (value g b s).result ≡ Ok v → value g (added a b) s ≡ evaluated ((value g a s).seen ++ (value g b s).seen) (Ok w))
      (λ n k. two_come sum_of (value g a s) (value g (Int n) s) u v w h k r)
      (λ n k. two_come difference_of (value g a s) (value g (Int n) s) u (pos n) w h refl (ap (λ (m : ℤ). by_number (in_range (u +ℤ m))) (sym (ranged (neg_ℤ (pos n)) v k).0) ∙ r))
      (λ b l z p q k. ap (λ (e : ExprTree). value g e s) (p a) ∙ two_come sum_of (value g a s) (value g b s) u v w h k r)

  subtracted_comes : (a : ExprTree) (u v w : ℤ) → (value g a s).result ≡ Ok u → by_number (difference_of u v) ≡ Ok w → (b : ExprTree) → (value g b s).result ≡ Ok v → value g (subtracted a b) s ≡ evaluated ((value g a s).seen ++ (value g b s).seen) (Ok w)
  subtracted_comes a u v w h r =
      by_shape (λ (b : ExprTree). (value g b s).result ≡ Ok v → value g (subtracted a b) s ≡ evaluated ((value g a s).seen ++ (value g b s).seen) (Ok w))
      (λ n k. two_come difference_of (value g a s) (value g (Int n) s) u v w h k r)
      (λ n k. two_come sum_of (value g a s) (value g (Int n) s) u (pos n) w h refl (ap (λ (m : ℤ). by_number (in_range (u +ℤ m))) (sym (twice_negated n) ∙ ap neg_ℤ (sym (ranged (neg_ℤ (pos n)) v k).0)) ∙ r))
      (λ b l z p q k. ap (λ (e : ExprTree). value g e s) (q a) ∙ two_come difference_of (value g a s) (value g b s) u v w h k r)

  -- where the sum of two expressions has a value, the sum that is made anew comes to it and sees the same
  pub plus_comes : (a b : ExprTree) (w : ℤ) → (binary sum_of (value g a s) (value g b s)).result ≡ Ok w → value g (plus_of a b) s ≡ binary sum_of (value g a s) (value g b s)
  plus_comes a b w e = or_comes ◌+ℤ◌ a b u v w h k r (if is_zero b then a else (if is_zero a then b else added a b)) (go (is_zero b) (is_zero a) refl refl) ∙ sym (two_come sum_of (value g a s) (value g b s) u v w h k r)
    where
      parts : IsOfTwo sum_of (value g a s) (value g b s) w
      parts = two_parts sum_of (value g a s) (value g b s) w e

      u : ℤ
      u = parts.left

      v : ℤ
      v = parts.right

      h : (value g a s).result ≡ Ok u
      h = parts.of_left

      k : (value g b s).result ≡ Ok v
      k = parts.of_right

      r : by_number (sum_of u v) ≡ Ok w
      r = parts.result

      go : (y z : Bool) → is_zero b ≡ y → is_zero a ≡ z → value g (if y then a else (if z then b else added a b)) s ≡ evaluated ((value g a s).seen ++ (value g b s).seen) (Ok w)
      go true z p q = by_zero ◌+ℤ◌ a b u v w h k r p (plus_zero u)
      go false true p q = from_zero ◌+ℤ◌ a b u v w h k r q (zero_plus v)
      go false false p q = added_comes a u v w h r b k

  -- the same of a difference
  pub minus_comes : (a b : ExprTree) (w : ℤ) → (binary difference_of (value g a s) (value g b s)).result ≡ Ok w → value g (minus_of a b) s ≡ binary difference_of (value g a s) (value g b s)
  minus_comes a b w e = or_comes ◌-ℤ◌ a b u v w h k r (if is_zero b then a else subtracted a b) (go (is_zero b) refl) ∙ sym (two_come difference_of (value g a s) (value g b s) u v w h k r)
    where
      parts : IsOfTwo difference_of (value g a s) (value g b s) w
      parts = two_parts difference_of (value g a s) (value g b s) w e

      u : ℤ
      u = parts.left

      v : ℤ
      v = parts.right

      h : (value g a s).result ≡ Ok u
      h = parts.of_left

      k : (value g b s).result ≡ Ok v
      k = parts.of_right

      r : by_number (difference_of u v) ≡ Ok w
      r = parts.result

      go : (y : Bool) → is_zero b ≡ y → value g (if y then a else subtracted a b) s ≡ evaluated ((value g a s).seen ++ (value g b s).seen) (Ok w)
      go true p = by_zero ◌-ℤ◌ a b u v w h k r p (plus_zero u)
      go false p = subtracted_comes a u v w h r b k
