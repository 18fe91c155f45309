-- Values of skewed bounds, and of what stands for the inner variable: sums and differences with a multiple of another variable, which don't overflow.
use Rattle.std.proofs.Common.{◌≡◌, ℕ, zero, suc, ◌*◌, ◌^◌, ◌≤◌, ℤ, pos, neg_ℤ, ◌+ℤ◌, ◌-ℤ◌, ◌*ℤ◌, ◌≤ℤ◌, List, [], ◌++◌, Bool, true, false, Some, None, Result, Ok, Err, refl, ap, ◌∙◌, subst, arith, append-nil, int_div, if◌then◌else◌}
use Rattle.std.specs.Prelude.{unsigned_abs, nat_lt, int_le}
use Rattle.std.specs.Int.{is_negative}
use Rattle.std.proofs.lemmas.Int.{ints}
use Rattle.std.proofs.lemmas.Bool.{and_parts, or_parts}
use Rattle.ped_base.specs.Arithmetic.Arithmetic.{is_in_range, in_range, sum_of, difference_of}
use Rattle.ped_base.specs.Lists.{is_among}
use Rattle.ped_base.specs.declared.arithmetic.faults.Fault.{Fault}
use Rattle.ped_base.specs.declared.arithmetic.faults.Fault.TheVariants.{OutOfRange}
use Rattle.ped_tree.specs.Constants.NamedConstants.{value_named}
use Rattle.ped_tree.specs.Tree.{ExprTree, Var, Add, Sub}
use Rattle.ped_rules.specs.ped_views.proofs.Products.{linear}
use Rattle.ped_rules.specs.ped_store.specs.Stores.{Store}
use Rattle.ped_rules.specs.ped_store.specs.Storage.{natural}
use Rattle.ped_rules.specs.ped_laws.proofs.PlainLaws.NearIntervals.{IsNear}
use Rattle.ped_rules.specs.ped_eval.specs.Evaluation.{Evaluated, by_number}
use Rattle.ped_rules.specs.ped_eval.specs.Loops.{is_bound, iteration_count}
use Rattle.ped_rules.specs.ped_eval.specs.Scopes.{Setting, Scope, Names, index_value, names_in}
use Rattle.ped_rules.specs.ped_eval.specs.Values.{binary, value}
use Rattle.ped_symbolic.specs.Arithmetic.{plus_of, minus_of}
use Rattle.ped_rules.specs.ped_steps.proofs.RunLaws.SubstitutedSums.{evaluated, plus_comes, minus_comes}
use Rattle.ped_rules.specs.ped_bodies.specs.Moving.{ToldInside}
use Rattle.ped_rules.specs.ped_bodies.proofs.BodyLaws.StandingPlaces.{times_told, variable_told, itself_told, sum_told, difference_told}
use Rattle.ped_reindex.specs.Skewing.{is_bad_factor, offset, skewed_bound, unskewed}

-- numbers of this size have 128 bits
in_range_is : (w : ℤ) → is_in_range w ≡ true → by_number (in_range w) ≡ Ok w
in_range_is w h = λ i. by_number (if h i then Ok w else Err OutOfRange)

small_in_range : (n : ℤ) → neg_ℤ (pos (1024 * 2 ^ 62)) ≤ℤ n → n ≤ℤ pos (1024 * 2 ^ 62) → is_in_range n ≡ true
small_in_range n a b = grind (arith, linear, a, b)

-- what lies within 2^62 may be a bound, and has 128 bits
pub near_bound : (n : ℤ) → IsNear n → is_bound n ≡ true
near_bound n near = let a = near.from in let b = near.to in grind (arith, linear, a, b)

pub bound_near : (n : ℤ) → is_bound n ≡ true → IsNear n
bound_near n h =
    let both = and_parts (int_le (neg_ℤ (pos (2 ^ 62))) n) (int_le n (pos (2 ^ 62))) h in
    let low : int_le (neg_ℤ (pos (2 ^ 62))) n ≡ true = both.0 in
    let high : int_le n (pos (2 ^ 62)) ≡ true = both.1 in
    record { from = omega (arith, linear); to = omega (arith, linear) }

near_in_range : (n : ℤ) → IsNear n → is_in_range n ≡ true
near_in_range n near = let a = near.from in let b = near.to in small_in_range n (omega (arith, linear, a)) (omega (arith, linear, b))

-- so do multiples
one_more : (k : ℕ) (v : ℤ) → pos (suc k) *ℤ v ≡ v +ℤ pos k *ℤ v
one_more k v = omega (arith, ints)

record IsWithin (b : ℕ) (n : ℤ) : Type 0 where
  from : neg_ℤ (pos b) ≤ℤ n
  to : n ≤ℤ pos b

times_near : (k : ℕ) (v : ℤ) → IsNear v → IsWithin (k * 2 ^ 62) (pos k *ℤ v)
times_near zero v near = record { from = omega (arith, ints); to = omega (arith, ints) }
times_near (suc k) v near = more (pos k *ℤ v) (pos (suc k) *ℤ v) (one_more k v) (times_near k v near)
  where
    more : (m n : ℤ) → n ≡ v +ℤ m → IsWithin (k * 2 ^ 62) m → IsWithin (suc k * 2 ^ 62) n
    more m n e r = let a = near.from in let b = near.to in let c = r.from in let d = r.to in record { from = omega (arith, linear, e, a, c); to = omega (arith, linear, e, b, d) }

small_factor : (f : ℤ) → is_bad_factor f ≡ false → unsigned_abs f ≤ 1000
small_factor f good = let parts = or_parts _ (nat_lt 1000 (unsigned_abs f)) good in let few = parts.1 in grind (arith, few)

module _ (f : ℤ) (good : is_bad_factor f ≡ false) (v : ℤ) (near : IsNear v) where
  -- the offset of the variable with this value
  abbrev pub shift : ℤ
  shift = pos (unsigned_abs f) *ℤ v

  abbrev pub signed : Bool → ℤ
  signed b = if b then neg_ℤ (pos (unsigned_abs f) *ℤ v) else pos (unsigned_abs f) *ℤ v

  shift_small : (neg_ℤ (pos (1000 * 2 ^ 62)) ≤ℤ shift) × (shift ≤ℤ pos (1000 * 2 ^ 62))
  shift_small = let few = small_factor f good in let r = times_near (unsigned_abs f) v near in let a = r.from in let b = r.to in (omega (arith, linear, few, a), omega (arith, linear, few, b))

  shift_in_range : is_in_range shift ≡ true
  shift_in_range = small_in_range shift (let a = shift_small.0 in omega (arith, linear, a)) (let b = shift_small.1 in omega (arith, linear, b))

  plus_in_range : (m : ℤ) → IsNear m → is_in_range (m +ℤ shift) ≡ true
  plus_in_range m at = let c = at.from in let d = at.to in let a = shift_small.0 in let b = shift_small.1 in small_in_range (m +ℤ shift) (omega (arith, linear, a, c)) (omega (arith, linear, b, d))

  minus_in_range : (m : ℤ) → IsNear m → is_in_range (m -ℤ shift) ≡ true
  minus_in_range m at = let c = at.from in let d = at.to in let a = shift_small.0 in let b = shift_small.1 in small_in_range (m -ℤ shift) (omega (arith, linear, b, c)) (omega (arith, linear, a, d))

  -- at a place that tells the variable's value
  module _ (p : Setting) (i : List ℕ) (none : value_named p.constants i ≡ None) where
    pub offset_told : (loops : List (List ℕ)) (x : List ℕ) (scope : Scope) → index_value scope i ≡ Some v → is_among i loops ≡ false → ToldInside p loops x scope (offset f i) shift
    offset_told loops x scope is outside = times_told p loops x scope (unsigned_abs f) i v shift_in_range (variable_told p loops x scope i v none is outside)

    module _ (scope : Scope) (is : index_value scope i ≡ Some v) (u : Store) where
      abbrev g : Names
      g = names_in p scope

      both_come : (op : ℤ → ℤ → Result ℤ Fault) (e : ExprTree) (m w : ℤ) → (value g e u).result ≡ Ok m → by_number (op m shift) ≡ Ok w → binary op (value g e u) (value g (offset f i) u) ≡ evaluated ((value g e u).seen ++ (value g (offset f i) u).seen) (Ok w)
      both_come op e m w h k =
          (λ z. binary op (evaluated (value g e u).seen (h z)) (evaluated (value g (offset f i) u).seen ((offset_told [] [] scope is refl [] tt refl).comes u z)))
          ∙ (λ z. evaluated ((value g e u).seen ++ append-nil (value g (offset f i) u).seen z) (k z))

      bound_by : (b : Bool) (e : ExprTree) (m : ℤ) → (value g e u).result ≡ Ok m → IsNear m → value g (if b then minus_of e (offset f i) else plus_of e (offset f i)) u ≡ evaluated ((value g e u).seen ++ (value g (offset f i) u).seen) (Ok (m +ℤ signed b))
      bound_by true e m h at =
          let made = both_come difference_of e m (m -ℤ shift) h (in_range_is (m -ℤ shift) (minus_in_range m at)) in
          minus_comes g u e (offset f i) (m -ℤ shift) (ap (λ (z : Evaluated ℤ). z.result) made) ∙ made
          ∙ ap (λ (n : ℤ). evaluated ((value g e u).seen ++ (value g (offset f i) u).seen) (Ok n)) (turned m shift)
        where
          turned : (m n : ℤ) → m -ℤ n ≡ m +ℤ neg_ℤ n
          turned m n = omega (arith, ints)
      bound_by false e m h at =
          let made = both_come sum_of e m (m +ℤ shift) h (in_range_is (m +ℤ shift) (plus_in_range m at)) in
          plus_comes g u e (offset f i) (m +ℤ shift) (ap (λ (z : Evaluated ℤ). z.result) made) ∙ made

      -- a skewed bound is evaluated to the old value and as much more
      pub bound_comes : (e : ExprTree) (m : ℤ) → (value g e u).result ≡ Ok m → IsNear m → value g (skewed_bound f i e) u ≡ evaluated ((value g e u).seen ++ (value g (offset f i) u).seen) (Ok (m +ℤ signed (is_negative f)))
      bound_comes = bound_by (is_negative f)

    -- what stands for the inner variable has its old value
    module _ (loops : List (List ℕ)) (j : List ℕ) (unvalued : value_named p.constants j ≡ None) (scope : Scope) (m n : ℤ) (new : index_value scope j ≡ Some n) (is : index_value scope i ≡ Some v) (outside : is_among i loops ≡ false) (at : IsNear m) where
      told_by : (b : Bool) → n ≡ m +ℤ signed b → ToldInside p loops j scope (if b then Add (Var j) (offset f i) else Sub (Var j) (offset f i)) m
      told_by true e =
          let back : n +ℤ shift ≡ m = ap (λ (z : ℤ). z +ℤ shift) e ∙ there m shift in
          subst (ToldInside p loops j scope (Add (Var j) (offset f i))) back
          (sum_told p loops j scope (Var j) (offset f i) n shift (ap is_in_range back ∙ near_in_range m at) (itself_told p loops j scope n unvalued new) (offset_told loops j scope is outside))
        where
          there : (m o : ℤ) → (m +ℤ neg_ℤ o) +ℤ o ≡ m
          there m o = omega (arith, ints)
      told_by false e =
          let back : n -ℤ shift ≡ m = ap (λ (z : ℤ). z -ℤ shift) e ∙ there m shift in
          subst (ToldInside p loops j scope (Sub (Var j) (offset f i))) back
          (difference_told p loops j scope (Var j) (offset f i) n shift (ap is_in_range back ∙ near_in_range m at) (itself_told p loops j scope n unvalued new) (offset_told loops j scope is outside))
        where
          there : (m o : ℤ) → (m +ℤ o) -ℤ o ≡ m
          there m o = omega (arith, ints)

      pub unskewed_told : n ≡ m +ℤ signed (is_negative f) → ToldInside p loops j scope (unskewed f i j) m
      unskewed_told = told_by (is_negative f)

-- both limits further by as much: as many iterations
pub same_count : (m1 m2 m3 o : ℤ) → iteration_count (m1 +ℤ o) (m2 +ℤ o) m3 ≡ iteration_count m1 m2 m3
same_count m1 m2 m3 o = ap (λ (n : ℤ). natural (int_div (n +ℤ m3) m3)) (less m1 m2 o)
  where
    less : (m1 m2 o : ℤ) → (m2 +ℤ o) -ℤ (m1 +ℤ o) ≡ m2 -ℤ m1
    less m1 m2 o = omega (arith, ints)

-- and the value of each further by as much
pub same_shift : (m o q : ℤ) → (m +ℤ o) +ℤ q ≡ (m +ℤ q) +ℤ o
same_shift m o q = omega (arith, ints)
