-- Substitutions are rewritings, and so is doing nothing.
use Rattle.std.proofs.Common.{◌≡◌, ℕ, ℤ, List, [], ◌∷◌, map, Bool, true, false, Option, Some, None, Result, refl, sym, ap, ◌∙◌, ◌⊎◌, inl, inr, if◌then◌else◌}
use Rattle.std.specs.Prelude.{not, ◌&&◌, ◌||◌, option_and_then}
use Rattle.std.specs.Result.{result_ok}
use Rattle.std.proofs.lemmas.Bool.{both_ways, or_parts}
use Rattle.ped_steps.specs.ped_flow.specs.ped_base.specs.Lists.{is_same_text, is_among}
use Rattle.ped_steps.specs.ped_flow.specs.ped_base.specs.declared.arithmetic.faults.Fault.{Fault}
use Rattle.ped_steps.specs.ped_flow.specs.ped_base.specs.Arithmetic.Arithmetic.{sum_of, difference_of, negation_of, product_of, quotient_of, power_of}
use Rattle.ped_steps.specs.ped_affine.specs.Assigned.{assigned_in_all}
use Rattle.ped_steps.specs.ped_flow.specs.ped_base.proofs.NameEquality.{same_is}
use Rattle.ped_steps.specs.ped_flow.specs.ped_tree.specs.Constants.NamedConstants.{value_named}
use Rattle.ped_steps.specs.ped_flow.specs.ped_tree.specs.Constants.ConstantExpressions.{unary_value, binary_value, onto, intrinsic_result, constant_value, constant_values}
use Rattle.ped_steps.specs.ped_flow.specs.ped_tree.specs.Tree.{ExprTree, ExprTrees, Int, Var, Element, Neg, Add, Sub, Mul, Div, Pow, Call, no_exprs, more_exprs, CondTree, Rel, Not, And, Or, ItemTree, Value, Text, StmtTree, StmtTrees, Assign, If, Do, Print, Read, Stop, Comment, no_stmts, more_stmts}
use Rattle.ped_steps.specs.ped_symbolic.specs.Arithmetic.{plus_of, minus_of}
use Rattle.ped_steps.specs.ped_symbolic.specs.Substitution.{has_scalar, have_scalar, is_scalar, changes, substituted, all_substituted, condition_substituted, item_substituted, head_substituted, statement_substituted, statements_substituted}
use Rattle.ped_steps.proofs.RunLaws.SubstitutedShapes.{stays}
use Rattle.ped_bodies.specs.Rewriting.{IsRewriting, unchanged, all_unchanged, condition_rewritten, item_rewritten, statement_rewritten, statements_rewritten, OfHeads, OfAllHeads, KeepsIncrement, HaveIncrements, MayBeRewritten}

pub unchanged_is : IsRewriting unchanged all_unchanged
unchanged_is = record {
  int = λ n. refl;
  element = λ x es. refl;
  neg = λ a. refl;
  add = λ a b. inl refl;
  sub = λ a b. inl refl;
  mul = λ a b. refl;
  div = λ a b. refl;
  pow = λ a b. refl;
  call = λ f es. refl;
  none = refl;
  more = λ e rest. refl;
}

conditions_unchanged : (c : CondTree) → condition_rewritten unchanged c ≡ c
conditions_unchanged (Rel r a b) = refl
conditions_unchanged (Not a) = ap Not (conditions_unchanged a)
conditions_unchanged (And a b) = λ i. And (conditions_unchanged a i) (conditions_unchanged b i)
conditions_unchanged (Or a b) = λ i. Or (conditions_unchanged a i) (conditions_unchanged b i)

item_unchanged : (item : ItemTree) → item_rewritten unchanged item ≡ item
item_unchanged (Value e) = refl
item_unchanged (Text t) = refl

items_unchanged : (items : List ItemTree) → map (item_rewritten unchanged) items ≡ items
items_unchanged [] = refl
items_unchanged (item ∷ rest) = λ i. item_unchanged item i ∷ items_unchanged rest i

expressions_unchanged : (es : List ExprTree) → map unchanged es ≡ es
expressions_unchanged [] = refl
expressions_unchanged (e ∷ rest) = λ i. e ∷ expressions_unchanged rest i

mutual
  statement_unchanged : (t : StmtTree) → statement_rewritten unchanged t ≡ t
  statement_unchanged (Assign left right) = refl
  statement_unchanged (If c a b) = λ i. If (conditions_unchanged c i) (statements_unchanged a i) (statements_unchanged b i)
  statement_unchanged (Do d body) = λ i. Do d (statements_unchanged body i)
  statement_unchanged (Print items) = ap Print (items_unchanged items)
  statement_unchanged (Read items) = ap Read (expressions_unchanged items)
  statement_unchanged Stop = refl
  statement_unchanged (Comment text) = refl

  pub statements_unchanged : (ts : StmtTrees) → statements_rewritten unchanged ts ≡ ts
  statements_unchanged no_stmts = refl
  statements_unchanged (more_stmts t rest) = λ i. more_stmts (statement_unchanged t i) (statements_unchanged rest i)

mutual
  heads_unchanged : (constants : List (List ℕ × ℤ)) (t : StmtTree) → OfHeads (KeepsIncrement unchanged constants) t
  heads_unchanged constants (Assign left right) = tt
  heads_unchanged constants (If c a b) = (all_heads_unchanged constants a, all_heads_unchanged constants b)
  heads_unchanged constants (Do d body) = (refl, all_heads_unchanged constants body)
  heads_unchanged constants (Print items) = tt
  heads_unchanged constants (Read items) = tt
  heads_unchanged constants Stop = tt
  heads_unchanged constants (Comment text) = tt

  all_heads_unchanged : (constants : List (List ℕ × ℤ)) (ts : StmtTrees) → OfAllHeads (KeepsIncrement unchanged constants) ts
  all_heads_unchanged constants no_stmts = tt
  all_heads_unchanged constants (more_stmts t rest) = (heads_unchanged constants t, all_heads_unchanged constants rest)

pub may_stay : (constants : List (List ℕ × ℤ)) (ts : StmtTrees) → MayBeRewritten unchanged constants ts
may_stay constants ts = record { kept = λ x h. refl; increments = all_heads_unchanged constants ts }

-- a name that isn't among others is none of them
pub not_among : (names : List (List ℕ)) (x y : List ℕ) → is_among x names ≡ false → is_among y names ≡ true → is_same_text x y ≡ false
not_among names x y absent h = go (is_same_text x y) refl
  where
    go : (b : Bool) → is_same_text x y ≡ b → b ≡ false
    go true e = absurd (both_ways (is_among x names) absent (ap (λ (v : List ℕ). is_among v names) (same_is x y e) ∙ h))
    go false e = refl

-- an expression in place of a scalar
module _ (x : List ℕ) (by : ExprTree) where
  -- where the scalar gives way to itself nothing changes
  abbrev IsItself : Type 0
  IsItself = is_scalar x by ≡ true

  itself_is : IsItself → (y : List ℕ) → (if is_same_text x y then by else Var y) ≡ Var y
  itself_is same y = go (is_same_text x y) refl
    where
      by_is : (e : ExprTree) → is_scalar x e ≡ true → e ≡ Var x
      by_is (Var z) h = ap Var (sym (same_is x z h))
      by_is (Int n) h = absurd cc
      by_is (Element z es) h = absurd cc
      by_is (Neg a) h = absurd cc
      by_is (Add a b) h = absurd cc
      by_is (Sub a b) h = absurd cc
      by_is (Mul a b) h = absurd cc
      by_is (Div a b) h = absurd cc
      by_is (Pow a b) h = absurd cc
      by_is (Call f es) h = absurd cc

      go : (b : Bool) → is_same_text x y ≡ b → (if b then by else Var y) ≡ Var y
      go true is = by_is by same ∙ ap Var (same_is x y is)
      go false is = refl

  off : (b : Bool) → IsItself → b && not (is_scalar x by) ≡ false
  off true same = λ i. not (same i)
  off false same = refl

  mutual
    itself_stays : IsItself → (e : ExprTree) → substituted x by e ≡ e
    itself_stays same (Int n) = refl
    itself_stays same (Var y) = itself_is same y
    itself_stays same (Element y es) = ap (Element y) (itself_all_stay same es)
    itself_stays same (Neg a) = ap Neg (itself_stays same a)
    itself_stays same (Add a b) = ap (λ (c : Bool). if c then plus_of (substituted x by a) (substituted x by b) else Add a b) (off (has_scalar x a || has_scalar x b) same)
    itself_stays same (Sub a b) = ap (λ (c : Bool). if c then minus_of (substituted x by a) (substituted x by b) else Sub a b) (off (has_scalar x a || has_scalar x b) same)
    itself_stays same (Mul a b) = λ i. Mul (itself_stays same a i) (itself_stays same b i)
    itself_stays same (Div a b) = λ i. Div (itself_stays same a i) (itself_stays same b i)
    itself_stays same (Pow a b) = λ i. Pow (itself_stays same a i) (itself_stays same b i)
    itself_stays same (Call f es) = ap (Call f) (itself_all_stay same es)

    itself_all_stay : IsItself → (es : ExprTrees) → all_substituted x by es ≡ es
    itself_all_stay same no_exprs = refl
    itself_all_stay same (more_exprs e rest) = λ i. more_exprs (itself_stays same e i) (itself_all_stay same rest i)

  -- what isn't made anew has its operands unchanged
  operands_stay : (a b : ExprTree) → changes x by a b ≡ false → (a ≡ substituted x by a) × (b ≡ substituted x by b)
  operands_stay a b h = go (has_scalar x a || has_scalar x b) refl h
    where
      go : (c : Bool) → (has_scalar x a || has_scalar x b) ≡ c → c && not (is_scalar x by) ≡ false → (a ≡ substituted x by a) × (b ≡ substituted x by b)
      go true is k = let same = double (is_scalar x by) k in (sym (itself_stays same a), sym (itself_stays same b))
        where
          double : (c : Bool) → not c ≡ false → c ≡ true
          double true r = refl
          double false r = absurd cc
      go false is k = let none = or_parts (has_scalar x a) (has_scalar x b) is in (sym (stays x by a none.0), sym (stays x by b none.1))

  sum_is : (a b : ExprTree) → (substituted x by (Add a b) ≡ Add (substituted x by a) (substituted x by b)) ⊎ (substituted x by (Add a b) ≡ plus_of (substituted x by a) (substituted x by b))
  sum_is a b = go (changes x by a b) refl
    where
      go : (c : Bool) → changes x by a b ≡ c
          → ((if c then plus_of (substituted x by a) (substituted x by b) else Add a b) ≡ Add (substituted x by a) (substituted x by b)) ⊎ ((if c then plus_of (substituted x by a) (substituted x by b) else Add a b) ≡ plus_of (substituted x by a) (substituted x by b))
      go true h = inr refl
      go false h = let stay = operands_stay a b h in inl (λ i. Add (stay.0 i) (stay.1 i))

  difference_is : (a b : ExprTree) → (substituted x by (Sub a b) ≡ Sub (substituted x by a) (substituted x by b)) ⊎ (substituted x by (Sub a b) ≡ minus_of (substituted x by a) (substituted x by b))
  difference_is a b = go (changes x by a b) refl
    where
      go : (c : Bool) → changes x by a b ≡ c
          → ((if c then minus_of (substituted x by a) (substituted x by b) else Sub a b) ≡ Sub (substituted x by a) (substituted x by b)) ⊎ ((if c then minus_of (substituted x by a) (substituted x by b) else Sub a b) ≡ minus_of (substituted x by a) (substituted x by b))
      go true h = inr refl
      go false h = let stay = operands_stay a b h in inl (λ i. Sub (stay.0 i) (stay.1 i))

  pub substitution_is : IsRewriting (substituted x by) (all_substituted x by)
  substitution_is = record {
    int = λ n. refl;
    element = λ y es. refl;
    neg = λ a. refl;
    add = sum_is;
    sub = difference_is;
    mul = λ a b. refl;
    div = λ a b. refl;
    pow = λ a b. refl;
    call = λ f es. refl;
    none = refl;
    more = λ e rest. refl;
  }

  condition_same : (c : CondTree) → condition_substituted x by c ≡ condition_rewritten (substituted x by) c
  condition_same (Rel r a b) = refl
  condition_same (Not a) = ap Not (condition_same a)
  condition_same (And a b) = λ i. And (condition_same a i) (condition_same b i)
  condition_same (Or a b) = λ i. Or (condition_same a i) (condition_same b i)

  item_same : (item : ItemTree) → item_substituted x by item ≡ item_rewritten (substituted x by) item
  item_same (Value e) = refl
  item_same (Text t) = refl

  items_same : (items : List ItemTree) → map (item_substituted x by) items ≡ map (item_rewritten (substituted x by)) items
  items_same [] = refl
  items_same (item ∷ rest) = λ i. item_same item i ∷ items_same rest i

  mutual
    statement_same : (t : StmtTree) → statement_substituted x by t ≡ statement_rewritten (substituted x by) t
    statement_same (Assign left right) = refl
    statement_same (If c a b) = λ i. If (condition_same c i) (statements_same a i) (statements_same b i)
    statement_same (Do d body) = λ i. Do (head_substituted x by d) (statements_same body i)
    statement_same (Print items) = ap Print (items_same items)
    statement_same (Read items) = refl
    statement_same Stop = refl
    statement_same (Comment text) = refl

    pub statements_same : (ts : StmtTrees) → statements_substituted x by ts ≡ statements_rewritten (substituted x by) ts
    statements_same no_stmts = refl
    statements_same (more_stmts t rest) = λ i. more_stmts (statement_same t i) (statements_same rest i)

  -- other names stay
  pub other_stays : (y : List ℕ) → is_same_text x y ≡ false → substituted x by (Var y) ≡ Var y
  other_stays y h = ap (λ (b : Bool). if b then by else Var y) h

-- a scalar that is no constant stands in no constant expression with a value
module _ (constants : List (List ℕ × ℤ)) (x : List ℕ) (none : value_named constants x ≡ None) where
  of_both_none : (f : ℤ → ℤ → Result ℤ Fault) (m n : Option ℤ) → (m ≡ None) ⊎ (n ≡ None) → binary_value f m n ≡ None
  of_both_none f m n (inl e) = ap (λ (z : Option ℤ). binary_value f z n) e
  of_both_none f (Some m) n (inr e) = ap (binary_value f (Some m)) e
  of_both_none f None n (inr e) = refl

  onto_none : (m : Option ℤ) (ms : Option (List ℤ)) → (m ≡ None) ⊎ (ms ≡ None) → onto m ms ≡ None
  onto_none m ms (inl e) = ap (λ (z : Option ℤ). onto z ms) e
  onto_none (Some m) ms (inr e) = ap (onto (Some m)) e
  onto_none None ms (inr e) = refl

  one_of : {P Q : Type 0} (a b : Bool) → (a ≡ true → P) → (b ≡ true → Q) → a || b ≡ true → P ⊎ Q
  one_of true b p q e = inl (p refl)
  one_of false b p q e = inr (q e)

  mutual
    no_value : (e : ExprTree) → has_scalar x e ≡ true → constant_value constants e ≡ None
    no_value (Int n) h = absurd cc
    no_value (Var y) h = ap (value_named constants) (sym (same_is x y h)) ∙ none
    no_value (Element y es) h = refl
    no_value (Neg a) h = ap (unary_value negation_of) (no_value a h)
    no_value (Add a b) h = of_both_none sum_of (constant_value constants a) (constant_value constants b) (one_of (has_scalar x a) (has_scalar x b) (no_value a) (no_value b) h)
    no_value (Sub a b) h = of_both_none difference_of (constant_value constants a) (constant_value constants b) (one_of (has_scalar x a) (has_scalar x b) (no_value a) (no_value b) h)
    no_value (Mul a b) h = of_both_none product_of (constant_value constants a) (constant_value constants b) (one_of (has_scalar x a) (has_scalar x b) (no_value a) (no_value b) h)
    no_value (Div a b) h = of_both_none quotient_of (constant_value constants a) (constant_value constants b) (one_of (has_scalar x a) (has_scalar x b) (no_value a) (no_value b) h)
    no_value (Pow a b) h = of_both_none power_of (constant_value constants a) (constant_value constants b) (one_of (has_scalar x a) (has_scalar x b) (no_value a) (no_value b) h)
    no_value (Call f es) h = ap (λ (z : Option (List ℤ)). option_and_then result_ok (option_and_then (intrinsic_result f) z)) (no_values es h)

    no_values : (es : ExprTrees) → have_scalar x es ≡ true → constant_values constants es ≡ None
    no_values no_exprs h = absurd cc
    no_values (more_exprs e rest) h = onto_none (constant_value constants e) (constant_values constants rest) (one_of (has_scalar x e) (have_scalar x rest) (no_value e) (no_values rest) h)

  module _ (by : ExprTree) where
    value_kept : (e : ExprTree) (k : ℤ) → constant_value constants e ≡ Some k → constant_value constants (substituted x by e) ≡ constant_value constants e
    value_kept e k is = go (has_scalar x e) refl
      where
        go : (b : Bool) → has_scalar x e ≡ b → constant_value constants (substituted x by e) ≡ constant_value constants e
        go true h = let no : Some k ≡ None = sym is ∙ no_value e h in absurd cc
        go false h = ap (constant_value constants) (stays x by e h)

    mutual
      heads_kept : (t : StmtTree) → OfHeads (λ d. (k : ℤ) × (constant_value constants d.step ≡ Some k)) t → OfHeads (KeepsIncrement (substituted x by) constants) t
      heads_kept (Assign left right) h = tt
      heads_kept (If c a b) h = (all_heads_kept a h.0, all_heads_kept b h.1)
      heads_kept (Do d body) h = (value_kept d.step h.0.0 h.0.1, all_heads_kept body h.1)
      heads_kept (Print items) h = tt
      heads_kept (Read items) h = tt
      heads_kept Stop h = tt
      heads_kept (Comment text) h = tt

      all_heads_kept : (ts : StmtTrees) → HaveIncrements constants ts → OfAllHeads (KeepsIncrement (substituted x by) constants) ts
      all_heads_kept no_stmts h = tt
      all_heads_kept (more_stmts t rest) h = (heads_kept t h.0, all_heads_kept rest h.1)

    pub may_give_way : (ts : StmtTrees) → is_among x (assigned_in_all ts) ≡ false → HaveIncrements constants ts → MayBeRewritten (substituted x by) constants ts
    may_give_way ts absent increments = record { kept = λ y among. other_stays x by y (not_among (assigned_in_all ts) x y absent among); increments = all_heads_kept ts increments }
