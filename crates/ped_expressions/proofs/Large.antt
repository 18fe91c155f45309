-- Literals that are too large stay so where they are saturated, and no others change.
use Rattle.std.proofs.Common.{◌≡◌, ℕ, Bool, true, false, refl, ap, ◌∙◌, arith, ltb}
use Rattle.std.specs.Prelude.{◌||◌}
use Rattle.std.proofs.lemmas.Bool.{ltb-true, ltb-false, lt-ltb, le-ltb}
use Rattle.ped_tree.specs.Tree.{ExprTree, ExprTrees, Int, Var, Element, Neg, Add, Sub, Mul, Div, Pow, Call, no_exprs, more_exprs, CondTree, Rel, Not, And, Or}
use Rattle.ped_tree.specs.Grammar.Literals.{has_large_literal, have_large_literal, cond_has_large_literal}
use Rattle.ped_expressions.specs.ExpressionReading.{saturated, with_literals, all_with_literals}
use Rattle.ped_expressions.specs.ConditionReading.{cond_with_literals}

large_same : (n : ℕ) → ltb 2147483647 (saturated n) ≡ ltb 2147483647 n
large_same n =
    let go : (b : Bool) → ltb 2147483647 n ≡ b → ltb 2147483647 (saturated n) ≡ b = λ b. elim b as (λ b. ltb 2147483647 n ≡ b → ltb 2147483647 (saturated n) ≡ b) [
      | true ↦ λ h. let k = ltb-true 2147483647 n h in lt-ltb 2147483647 (saturated n) (omega arith)
      | false ↦ λ h. let k = ltb-false 2147483647 n h in le-ltb 2147483647 (saturated n) (omega arith)
    ] in
    go (ltb 2147483647 n) refl

small_same : (n : ℕ) → ltb 2147483647 n ≡ false → saturated n ≡ n
small_same n h = let k = ltb-false 2147483647 n h in omega arith

either : (a b c d : Bool) → a ≡ c → b ≡ d → (a || b) ≡ (c || d)
either a b c d p q = rw (p, q) refl

pub neither : (a b : Bool) → (a || b) ≡ false → (a ≡ false) × (b ≡ false)
neither true b h = absurd cc
neither false b h = (refl, h)

mutual
  pub large_saturated : (e : ExprTree) → has_large_literal (with_literals saturated e) ≡ has_large_literal e
  large_saturated (Int n) = large_same n
  large_saturated (Var x) = refl
  large_saturated (Element x es) = all_large_saturated es
  large_saturated (Neg a) = large_saturated a
  large_saturated (Add a b) = either _ _ _ _ (large_saturated a) (large_saturated b)
  large_saturated (Sub a b) = either _ _ _ _ (large_saturated a) (large_saturated b)
  large_saturated (Mul a b) = either _ _ _ _ (large_saturated a) (large_saturated b)
  large_saturated (Div a b) = either _ _ _ _ (large_saturated a) (large_saturated b)
  large_saturated (Pow a b) = either _ _ _ _ (large_saturated a) (large_saturated b)
  large_saturated (Call f es) = all_large_saturated es

  all_large_saturated : (es : ExprTrees) → have_large_literal (all_with_literals saturated es) ≡ have_large_literal es
  all_large_saturated no_exprs = refl
  all_large_saturated (more_exprs e es) = either _ _ _ _ (large_saturated e) (all_large_saturated es)

pub cond_large_saturated : (c : CondTree) → cond_has_large_literal (cond_with_literals saturated c) ≡ cond_has_large_literal c
cond_large_saturated (Rel r a b) = either _ _ _ _ (large_saturated a) (large_saturated b)
cond_large_saturated (Not a) = cond_large_saturated a
cond_large_saturated (And a b) = either _ _ _ _ (cond_large_saturated a) (cond_large_saturated b)
cond_large_saturated (Or a b) = either _ _ _ _ (cond_large_saturated a) (cond_large_saturated b)

mutual
  pub small_saturated : (e : ExprTree) → has_large_literal e ≡ false → with_literals saturated e ≡ e
  small_saturated (Int n) h = ap Int (small_same n h)
  small_saturated (Var x) h = refl
  small_saturated (Element x es) h = ap (Element x) (all_small_saturated es h)
  small_saturated (Neg a) h = ap Neg (small_saturated a h)
  small_saturated (Add a b) h = let k = neither (has_large_literal a) (has_large_literal b) h in ap (λ (u : ExprTree). Add u (with_literals saturated b)) (small_saturated a k.0) ∙ ap (Add a) (small_saturated b k.1)
  small_saturated (Sub a b) h = let k = neither (has_large_literal a) (has_large_literal b) h in ap (λ (u : ExprTree). Sub u (with_literals saturated b)) (small_saturated a k.0) ∙ ap (Sub a) (small_saturated b k.1)
  small_saturated (Mul a b) h = let k = neither (has_large_literal a) (has_large_literal b) h in ap (λ (u : ExprTree). Mul u (with_literals saturated b)) (small_saturated a k.0) ∙ ap (Mul a) (small_saturated b k.1)
  small_saturated (Div a b) h = let k = neither (has_large_literal a) (has_large_literal b) h in ap (λ (u : ExprTree). Div u (with_literals saturated b)) (small_saturated a k.0) ∙ ap (Div a) (small_saturated b k.1)
  small_saturated (Pow a b) h = let k = neither (has_large_literal a) (has_large_literal b) h in ap (λ (u : ExprTree). Pow u (with_literals saturated b)) (small_saturated a k.0) ∙ ap (Pow a) (small_saturated b k.1)
  small_saturated (Call f es) h = ap (Call f) (all_small_saturated es h)

  all_small_saturated : (es : ExprTrees) → have_large_literal es ≡ false → all_with_literals saturated es ≡ es
  all_small_saturated no_exprs h = refl
  all_small_saturated (more_exprs e es) h = let k = neither (has_large_literal e) (have_large_literal es) h in ap (λ (u : ExprTree). more_exprs u (all_with_literals saturated es)) (small_saturated e k.0) ∙ ap (more_exprs e) (all_small_saturated es k.1)

pub cond_small_saturated : (c : CondTree) → cond_has_large_literal c ≡ false → cond_with_literals saturated c ≡ c
cond_small_saturated (Rel r a b) h = let k = neither (has_large_literal a) (has_large_literal b) h in ap (λ (u : ExprTree). Rel r u (with_literals saturated b)) (small_saturated a k.0) ∙ ap (Rel r a) (small_saturated b k.1)
cond_small_saturated (Not a) h = ap Not (cond_small_saturated a h)
cond_small_saturated (And a b) h = let k = neither (cond_has_large_literal a) (cond_has_large_literal b) h in ap (λ (u : CondTree). And u (cond_with_literals saturated b)) (cond_small_saturated a k.0) ∙ ap (And a) (cond_small_saturated b k.1)
cond_small_saturated (Or a b) h = let k = neither (cond_has_large_literal a) (cond_has_large_literal b) h in ap (λ (u : CondTree). Or u (cond_with_literals saturated b)) (cond_small_saturated a k.0) ∙ ap (Or a) (cond_small_saturated b k.1)
