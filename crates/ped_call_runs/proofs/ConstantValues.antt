-- Values of constant expressions in which other constants stand for names.
use Rattle.std.proofs.Common.{◌≡◌, ℕ, ℤ, List, [], Option, Some, None, Result, refl, ap, ◌∙◌, option_and_then}
use Rattle.std.specs.Result.{result_ok}
use Rattle.ped_base.specs.declared.arithmetic.faults.Fault.{Fault}
use Rattle.ped_base.specs.Arithmetic.Arithmetic.{sum_of, difference_of, negation_of, product_of, quotient_of, power_of}
use Rattle.ped_tree.specs.declared.expressions.Intrinsic.{Intrinsic}
use Rattle.ped_tree.specs.Constants.ConstantExpressions.{unary_value, binary_value, onto, intrinsic_result, constant_value, constant_values}
use Rattle.ped_tree.specs.NamesIn.{expr_names, exprs_names}
use Rattle.ped_tree.specs.Tree.{ExprTree, ExprTrees, Int, Var, Element, Neg, Add, Sub, Mul, Div, Pow, Call, no_exprs, more_exprs}
use Rattle.ped_steps.specs.ped_symbols.specs.Values.{Values}
use Rattle.ped_calls.specs.ped_units.specs.Expanding.{Meanings, meaning, replaced, all_replaced}
use Rattle.ped_call_runs.proofs.EachNames.{Each, each_front, each_behind, each_joined}

-- where the first has a value, the second has it, too
abbrev pub Keeps : {A : Type 0} → Option A → Option A → Type 0
Keeps {A} a b = (v : A) → a ≡ Some v → b ≡ Some v

unary_kept : (f : ℤ → Result ℤ Fault) (a b : Option ℤ) → Keeps a b → Keeps (unary_value f a) (unary_value f b)
unary_kept f (Some u) b h v e = ap (unary_value f) (h u refl) ∙ e
unary_kept f None b h v e = absurd cc

binary_kept : (f : ℤ → ℤ → Result ℤ Fault) (a b c d : Option ℤ) → Keeps a b → Keeps c d → Keeps (binary_value f a c) (binary_value f b d)
binary_kept f (Some u) b (Some w) d h k v e = (λ i. binary_value f (h u refl i) (k w refl i)) ∙ e
binary_kept f (Some u) b None d h k v e = absurd cc
binary_kept f None b c d h k v e = absurd cc

onto_kept : (a b : Option ℤ) (c d : Option (List ℤ)) → Keeps a b → Keeps c d → Keeps (onto a c) (onto b d)
onto_kept (Some u) b (Some w) d h k v e = (λ i. onto (h u refl i) (k w refl i)) ∙ e
onto_kept (Some u) b None d h k v e = absurd cc
onto_kept None b c d h k v e = absurd cc

call_kept : (f : Intrinsic) (c d : Option (List ℤ)) → Keeps c d → Keeps (option_and_then result_ok (option_and_then (intrinsic_result f) c)) (option_and_then result_ok (option_and_then (intrinsic_result f) d))
call_kept f (Some us) d h v e = ap (λ (o : Option (List ℤ)). option_and_then result_ok (option_and_then (intrinsic_result f) o)) (h us refl) ∙ e
call_kept f None d h v e = absurd cc

-- expressions with what stands for their names, under named constants on both sides
module _ (cs ds : Values) (m k : Meanings) where
  abbrev KeepsName : List ℕ → Type 0
  KeepsName x = Keeps (constant_value cs (meaning m x)) (constant_value ds (meaning k x))

  two_kept : (f : ℤ → ℤ → Result ℤ Fault) (a b : ExprTree) → Keeps (constant_value cs (replaced m a)) (constant_value ds (replaced k a)) → Keeps (constant_value cs (replaced m b)) (constant_value ds (replaced k b))
      → Keeps (binary_value f (constant_value cs (replaced m a)) (constant_value cs (replaced m b))) (binary_value f (constant_value ds (replaced k a)) (constant_value ds (replaced k b)))
  two_kept f a b h l = binary_kept f (constant_value cs (replaced m a)) (constant_value ds (replaced k a)) (constant_value cs (replaced m b)) (constant_value ds (replaced k b)) h l

  mutual
    pub constant_kept : (e : ExprTree) → Each KeepsName (expr_names e) → Keeps (constant_value cs (replaced m e)) (constant_value ds (replaced k e))
    constant_kept (Int n) h v e = e
    constant_kept (Var x) h v e = h.0 v e
    constant_kept (Element x es) h v e = absurd cc
    constant_kept (Neg a) h v e = unary_kept negation_of (constant_value cs (replaced m a)) (constant_value ds (replaced k a)) (constant_kept a h) v e
    constant_kept (Add a b) h v e = two_kept sum_of a b (constant_kept a (each_front KeepsName (expr_names a) (expr_names b) h)) (constant_kept b (each_behind KeepsName (expr_names a) (expr_names b) h)) v e
    constant_kept (Sub a b) h v e = two_kept difference_of a b (constant_kept a (each_front KeepsName (expr_names a) (expr_names b) h)) (constant_kept b (each_behind KeepsName (expr_names a) (expr_names b) h)) v e
    constant_kept (Mul a b) h v e = two_kept product_of a b (constant_kept a (each_front KeepsName (expr_names a) (expr_names b) h)) (constant_kept b (each_behind KeepsName (expr_names a) (expr_names b) h)) v e
    constant_kept (Div a b) h v e = two_kept quotient_of a b (constant_kept a (each_front KeepsName (expr_names a) (expr_names b) h)) (constant_kept b (each_behind KeepsName (expr_names a) (expr_names b) h)) v e
    constant_kept (Pow a b) h v e = two_kept power_of a b (constant_kept a (each_front KeepsName (expr_names a) (expr_names b) h)) (constant_kept b (each_behind KeepsName (expr_names a) (expr_names b) h)) v e
    constant_kept (Call f es) h v e = call_kept f (constant_values cs (all_replaced m es)) (constant_values ds (all_replaced k es)) (constants_kept es h) v e

    constants_kept : (es : ExprTrees) → Each KeepsName (exprs_names es) → Keeps (constant_values cs (all_replaced m es)) (constant_values ds (all_replaced k es))
    constants_kept no_exprs h v e = e
    constants_kept (more_exprs a rest) h v e =
        onto_kept (constant_value cs (replaced m a)) (constant_value ds (replaced k a)) (constant_values cs (all_replaced m rest)) (constant_values ds (all_replaced k rest))
        (constant_kept a (each_front KeepsName (expr_names a) (exprs_names rest) h)) (constants_kept rest (each_behind KeepsName (expr_names a) (exprs_names rest) h)) v e

-- there is a value
abbrev pub HasSome : {A : Type 0} → Option A → Type 0
HasSome {A} o = (v : A) × (o ≡ Some v)

unary_has : (f : ℤ → Result ℤ Fault) (a : Option ℤ) (v : ℤ) → unary_value f a ≡ Some v → HasSome a
unary_has f (Some u) v e = (u, refl)
unary_has f None v e = absurd cc

binary_has : (f : ℤ → ℤ → Result ℤ Fault) (a c : Option ℤ) (v : ℤ) → binary_value f a c ≡ Some v → HasSome a × HasSome c
binary_has f (Some u) (Some w) v e = ((u, refl), (w, refl))
binary_has f (Some u) None v e = absurd cc
binary_has f None c v e = absurd cc

onto_has : (a : Option ℤ) (c : Option (List ℤ)) (v : List ℤ) → onto a c ≡ Some v → HasSome a × HasSome c
onto_has (Some u) (Some w) v e = ((u, refl), (w, refl))
onto_has (Some u) None v e = absurd cc
onto_has None c v e = absurd cc

call_has : (f : Intrinsic) (c : Option (List ℤ)) (v : ℤ) → option_and_then result_ok (option_and_then (intrinsic_result f) c) ≡ Some v → HasSome c
call_has f (Some us) v e = (us, refl)
call_has f None v e = absurd cc

-- each name in a constant expression stands for a constant
module _ (cs : Values) (k : Meanings) where
  abbrev IsValued : List ℕ → Type 0
  IsValued x = HasSome (constant_value cs (meaning k x))

  mutual
    pub each_valued : (e : ExprTree) (v : ℤ) → constant_value cs (replaced k e) ≡ Some v → Each IsValued (expr_names e)
    each_valued (Int n) v e = tt
    each_valued (Var x) v e = ((v, e), tt)
    each_valued (Element x es) v e = absurd cc
    each_valued (Neg a) v e = let p = unary_has negation_of (constant_value cs (replaced k a)) v e in each_valued a p.0 p.1
    each_valued (Add a b) v e = let p = binary_has sum_of (constant_value cs (replaced k a)) (constant_value cs (replaced k b)) v e in each_joined IsValued (expr_names a) (expr_names b) (each_valued a p.0.0 p.0.1) (each_valued b p.1.0 p.1.1)
    each_valued (Sub a b) v e = let p = binary_has difference_of (constant_value cs (replaced k a)) (constant_value cs (replaced k b)) v e in each_joined IsValued (expr_names a) (expr_names b) (each_valued a p.0.0 p.0.1) (each_valued b p.1.0 p.1.1)
    each_valued (Mul a b) v e = let p = binary_has product_of (constant_value cs (replaced k a)) (constant_value cs (replaced k b)) v e in each_joined IsValued (expr_names a) (expr_names b) (each_valued a p.0.0 p.0.1) (each_valued b p.1.0 p.1.1)
    each_valued (Div a b) v e = let p = binary_has quotient_of (constant_value cs (replaced k a)) (constant_value cs (replaced k b)) v e in each_joined IsValued (expr_names a) (expr_names b) (each_valued a p.0.0 p.0.1) (each_valued b p.1.0 p.1.1)
    each_valued (Pow a b) v e = let p = binary_has power_of (constant_value cs (replaced k a)) (constant_value cs (replaced k b)) v e in each_joined IsValued (expr_names a) (expr_names b) (each_valued a p.0.0 p.0.1) (each_valued b p.1.0 p.1.1)
    each_valued (Call f es) v e = let p = call_has f (constant_values cs (all_replaced k es)) v e in all_valued es p.0 p.1

    all_valued : (es : ExprTrees) (vs : List ℤ) → constant_values cs (all_replaced k es) ≡ Some vs → Each IsValued (exprs_names es)
    all_valued no_exprs vs e = tt
    all_valued (more_exprs a rest) vs e =
        let p = onto_has (constant_value cs (replaced k a)) (constant_values cs (all_replaced k rest)) vs e in
        each_joined IsValued (expr_names a) (exprs_names rest) (each_valued a p.0.0 p.0.1) (all_valued rest p.1.0 p.1.1)

-- where nothing stands for names, expressions are as they are
mutual
  pub unreplaced : (e : ExprTree) → replaced [] e ≡ e
  unreplaced (Int n) = refl
  unreplaced (Var x) = refl
  unreplaced (Element x es) = λ i. Element x (all_unreplaced es i)
  unreplaced (Neg a) = λ i. Neg (unreplaced a i)
  unreplaced (Add a b) = λ i. Add (unreplaced a i) (unreplaced b i)
  unreplaced (Sub a b) = λ i. Sub (unreplaced a i) (unreplaced b i)
  unreplaced (Mul a b) = λ i. Mul (unreplaced a i) (unreplaced b i)
  unreplaced (Div a b) = λ i. Div (unreplaced a i) (unreplaced b i)
  unreplaced (Pow a b) = λ i. Pow (unreplaced a i) (unreplaced b i)
  unreplaced (Call f es) = λ i. Call f (all_unreplaced es i)

  pub all_unreplaced : (es : ExprTrees) → all_replaced [] es ≡ es
  all_unreplaced no_exprs = refl
  all_unreplaced (more_exprs e rest) = λ i. more_exprs (unreplaced e i) (all_unreplaced rest i)
