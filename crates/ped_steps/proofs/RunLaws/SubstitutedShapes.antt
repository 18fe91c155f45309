-- Statements with an expression in the place of a scalar count the same, have the same DO loops, and the same increments in them.
use Rattle.std.proofs.Common.{◌≡◌, ℕ, ◌+◌, ℤ, ◌+ℤ◌, ◌-ℤ◌, List, ◌∷◌, ◌++◌, Bool, true, false, Option, Some, None, Result, refl, sym, ap, subst, ◌∙◌, ◌⊎◌, inl, inr, if◌then◌else◌}
use Rattle.std.specs.Prelude.{option_and_then, ◌||◌, ◌&&◌, not}
use Rattle.std.specs.Result.{result_ok}
use Rattle.std.proofs.lemmas.Bool.{both_ways, or_parts}
use Rattle.ped_base.specs.declared.arithmetic.faults.Fault.{Fault}
use Rattle.ped_base.specs.Arithmetic.Arithmetic.{sum_of, difference_of, negation_of, product_of, quotient_of, power_of}
use Rattle.ped_tree.specs.Constants.NamedConstants.{value_named}
use Rattle.ped_tree.specs.Constants.ConstantExpressions.{unary_value, binary_value, onto, intrinsic_result, constant_value, constant_values}
use Rattle.ped_base.proofs.NameEquality.{same_is}
use Rattle.ped_tree.specs.Tree.{ExprTree, ExprTrees, Int, Var, Element, Neg, Add, Sub, Mul, Div, Pow, Call, no_exprs, more_exprs, StmtTree, StmtTrees, Assign, If, Do, Print, Read, Stop, Comment, no_stmts, more_stmts}
use Rattle.ped_tree.specs.Numbering.{statement_count, statements_count}
use Rattle.ped_symbolic.specs.Arithmetic.{literal_value, of_both, small, computed, literal_or, is_zero, added, subtracted, plus_of, minus_of}
use Rattle.ped_symbolic.specs.Substitution.{has_scalar, have_scalar, is_scalar, changes, substituted, all_substituted, statement_substituted, statements_substituted}
use Rattle.ped_tree.specs.NamesIn.{loop_variables, all_loop_variables}

module _ (x : List ℕ) (by : ExprTree) where
  mutual
    pub count_kept : (t : StmtTree) → statement_count (statement_substituted x by t) ≡ statement_count t
    count_kept (Assign left right) = refl
    count_kept (If c a b) = λ i. counts_kept a i + counts_kept b i + 1
    count_kept (Do h body) = λ i. counts_kept body i + 1
    count_kept (Print items) = refl
    count_kept (Read items) = refl
    count_kept Stop = refl
    count_kept (Comment text) = refl

    pub counts_kept : (ts : StmtTrees) → statements_count (statements_substituted x by ts) ≡ statements_count ts
    counts_kept no_stmts = refl
    counts_kept (more_stmts t rest) = λ i. count_kept t i + counts_kept rest i

  mutual
    index_kept : (t : StmtTree) → loop_variables (statement_substituted x by t) ≡ loop_variables t
    index_kept (Assign left right) = refl
    index_kept (If c a b) = λ i. indices_kept a i ++ indices_kept b i
    index_kept (Do h body) = λ i. h.variable ∷ indices_kept body i
    index_kept (Print items) = refl
    index_kept (Read items) = refl
    index_kept Stop = refl
    index_kept (Comment text) = refl

    pub indices_kept : (ts : StmtTrees) → all_loop_variables (statements_substituted x by ts) ≡ all_loop_variables ts
    indices_kept no_stmts = refl
    indices_kept (more_stmts t rest) = λ i. index_kept t i ++ indices_kept rest i

  -- an expression without the scalar stays
  mutual
    pub stays : (e : ExprTree) → has_scalar x e ≡ false → substituted x by e ≡ e
    stays (Int n) h = refl
    stays (Var y) h = ap (λ (b : Bool). if b then by else Var y) h
    stays (Element y es) h = ap (Element y) (all_stay es h)
    stays (Neg a) h = ap Neg (stays a h)
    stays (Add a b) h = ap (λ (c : Bool). if c && not (is_scalar x by) then plus_of (substituted x by a) (substituted x by b) else Add a b) h
    stays (Sub a b) h = ap (λ (c : Bool). if c && not (is_scalar x by) then minus_of (substituted x by a) (substituted x by b) else Sub a b) h
    stays (Mul a b) h = λ i. Mul (stays a (or_parts (has_scalar x a) (has_scalar x b) h).0 i) (stays b (or_parts (has_scalar x a) (has_scalar x b) h).1 i)
    stays (Div a b) h = λ i. Div (stays a (or_parts (has_scalar x a) (has_scalar x b) h).0 i) (stays b (or_parts (has_scalar x a) (has_scalar x b) h).1 i)
    stays (Pow a b) h = λ i. Pow (stays a (or_parts (has_scalar x a) (has_scalar x b) h).0 i) (stays b (or_parts (has_scalar x a) (has_scalar x b) h).1 i)
    stays (Call f es) h = ap (Call f) (all_stay es h)

    all_stay : (es : ExprTrees) → have_scalar x es ≡ false → all_substituted x by es ≡ es
    all_stay no_exprs h = refl
    all_stay (more_exprs e rest) h = λ i. more_exprs (stays e (or_parts (has_scalar x e) (have_scalar x rest) h).0 i) (all_stay rest (or_parts (has_scalar x e) (have_scalar x rest) h).1 i)

module _ (consts : List (List ℕ × ℤ)) where
  -- an expression that has no constant value and is no literal
  pub record IsOpen (e : ExprTree) : Type 0 where
    pub value : constant_value consts e ≡ None
    pub literal : literal_value e ≡ None
    pub zero : is_zero e ≡ false

  binary_first : (f : ℤ → ℤ → Result ℤ Fault) (m n : Option ℤ) → (m ≡ None) ⊎ (n ≡ None) → binary_value f m n ≡ None
  binary_first f m n (inl e) = ap (λ (z : Option ℤ). binary_value f z n) e
  binary_first f (Some m) n (inr e) = ap (binary_value f (Some m)) e
  binary_first f None n (inr e) = refl

  both_first : (f : ℤ → ℤ → ℤ) (m n : Option ℤ) → (m ≡ None) ⊎ (n ≡ None) → of_both f m n ≡ None
  both_first f m n (inl e) = ap (λ (z : Option ℤ). of_both f z n) e
  both_first f (Some m) n (inr e) = ap (of_both f (Some m)) e
  both_first f None n (inr e) = refl

  values_of : (a b : ExprTree) → IsOpen a ⊎ IsOpen b → (constant_value consts a ≡ None) ⊎ (constant_value consts b ≡ None)
  values_of a b (inl o) = inl o.value
  values_of a b (inr o) = inr o.value

  literals_of : (a b : ExprTree) → IsOpen a ⊎ IsOpen b → (literal_value a ≡ None) ⊎ (literal_value b ≡ None)
  literals_of a b (inl o) = inl o.literal
  literals_of a b (inr o) = inr o.literal

  nothing_computed : (f : ℤ → ℤ → ℤ) (a b : ExprTree) → IsOpen a ⊎ IsOpen b → computed f a b ≡ None
  nothing_computed f a b o = ap small (both_first f (literal_value a) (literal_value b) (literals_of a b o))

  add_open : (a b : ExprTree) → IsOpen a ⊎ IsOpen b → IsOpen (Add a b)
  add_open a b o = record { value = binary_first sum_of (constant_value consts a) (constant_value consts b) (values_of a b o); literal = refl; zero = refl }

  sub_open : (a b : ExprTree) → IsOpen a ⊎ IsOpen b → IsOpen (Sub a b)
  sub_open a b o = record { value = binary_first difference_of (constant_value consts a) (constant_value consts b) (values_of a b o); literal = refl; zero = refl }

  -- of an open expression and a literal the first is open
  left_open : (a : ExprTree) (k : ℕ) → IsOpen a ⊎ IsOpen (Neg (Int k)) → IsOpen a
  left_open a k (inl o) = o
  left_open a k (inr o) = let e = o.literal in absurd cc

  added_open : (a b : ExprTree) → IsOpen a ⊎ IsOpen b → IsOpen (added a b)
  added_open a (Neg (Int k)) o = sub_open a (Int k) (inl (left_open a k o))
  added_open a (Neg (Var y)) o = add_open a (Neg (Var y)) o
  added_open a (Neg (Element y es)) o = add_open a (Neg (Element y es)) o
  added_open a (Neg (Neg d)) o = add_open a (Neg (Neg d)) o
  added_open a (Neg (Add d e)) o = add_open a (Neg (Add d e)) o
  added_open a (Neg (Sub d e)) o = add_open a (Neg (Sub d e)) o
  added_open a (Neg (Mul d e)) o = add_open a (Neg (Mul d e)) o
  added_open a (Neg (Div d e)) o = add_open a (Neg (Div d e)) o
  added_open a (Neg (Pow d e)) o = add_open a (Neg (Pow d e)) o
  added_open a (Neg (Call f es)) o = add_open a (Neg (Call f es)) o
  added_open a (Int n) o = add_open a (Int n) o
  added_open a (Var y) o = add_open a (Var y) o
  added_open a (Element y es) o = add_open a (Element y es) o
  added_open a (Add d e) o = add_open a (Add d e) o
  added_open a (Sub d e) o = add_open a (Sub d e) o
  added_open a (Mul d e) o = add_open a (Mul d e) o
  added_open a (Div d e) o = add_open a (Div d e) o
  added_open a (Pow d e) o = add_open a (Pow d e) o
  added_open a (Call f es) o = add_open a (Call f es) o

  subtracted_open : (a b : ExprTree) → IsOpen a ⊎ IsOpen b → IsOpen (subtracted a b)
  subtracted_open a (Neg (Int k)) o = add_open a (Int k) (inl (left_open a k o))
  subtracted_open a (Neg (Var y)) o = sub_open a (Neg (Var y)) o
  subtracted_open a (Neg (Element y es)) o = sub_open a (Neg (Element y es)) o
  subtracted_open a (Neg (Neg d)) o = sub_open a (Neg (Neg d)) o
  subtracted_open a (Neg (Add d e)) o = sub_open a (Neg (Add d e)) o
  subtracted_open a (Neg (Sub d e)) o = sub_open a (Neg (Sub d e)) o
  subtracted_open a (Neg (Mul d e)) o = sub_open a (Neg (Mul d e)) o
  subtracted_open a (Neg (Div d e)) o = sub_open a (Neg (Div d e)) o
  subtracted_open a (Neg (Pow d e)) o = sub_open a (Neg (Pow d e)) o
  subtracted_open a (Neg (Call f es)) o = sub_open a (Neg (Call f es)) o
  subtracted_open a (Int n) o = sub_open a (Int n) o
  subtracted_open a (Var y) o = sub_open a (Var y) o
  subtracted_open a (Element y es) o = sub_open a (Element y es) o
  subtracted_open a (Add d e) o = sub_open a (Add d e) o
  subtracted_open a (Sub d e) o = sub_open a (Sub d e) o
  subtracted_open a (Mul d e) o = sub_open a (Mul d e) o
  subtracted_open a (Div d e) o = sub_open a (Div d e) o
  subtracted_open a (Pow d e) o = sub_open a (Pow d e) o
  subtracted_open a (Call f es) o = sub_open a (Call f es) o

  neg_open : (a : ExprTree) → IsOpen a → IsOpen (Neg a)
  neg_open a o = record { value = ap (unary_value negation_of) o.value; literal = go a o.literal; zero = zeros a o.literal }
    where
      go : (e : ExprTree) → literal_value e ≡ None → literal_value (Neg e) ≡ None
      go (Int n) h = absurd cc
      go (Neg e) h = refl
      go (Var y) h = refl
      go (Element y es) h = refl
      go (Add d e) h = refl
      go (Sub d e) h = refl
      go (Mul d e) h = refl
      go (Div d e) h = refl
      go (Pow d e) h = refl
      go (Call f es) h = refl

      zeros : (e : ExprTree) → literal_value e ≡ None → is_zero (Neg e) ≡ false
      zeros (Int n) h = absurd cc
      zeros (Neg e) h = refl
      zeros (Var y) h = refl
      zeros (Element y es) h = refl
      zeros (Add d e) h = refl
      zeros (Sub d e) h = refl
      zeros (Mul d e) h = refl
      zeros (Div d e) h = refl
      zeros (Pow d e) h = refl
      zeros (Call f es) h = refl

  -- a sum that is made anew from an open expression is open
  plus_open : (a b : ExprTree) → IsOpen a ⊎ IsOpen b → IsOpen (plus_of a b)
  plus_open a b o = subst (λ (z : Option ℤ). IsOpen (literal_or z (if is_zero b then a else (if is_zero a then b else added a b)))) (sym (nothing_computed ◌+ℤ◌ a b o)) (go (is_zero b) (is_zero a) refl refl)
    where
      go : (y z : Bool) → is_zero b ≡ y → is_zero a ≡ z → IsOpen (if y then a else (if z then b else added a b))
      go true z p q = left o
        where
          left : IsOpen a ⊎ IsOpen b → IsOpen a
          left (inl h) = h
          left (inr h) = absurd (both_ways (is_zero b) h.zero p)
      go false true p q = right o
        where
          right : IsOpen a ⊎ IsOpen b → IsOpen b
          right (inr h) = h
          right (inl h) = absurd (both_ways (is_zero a) h.zero q)
      go false false p q = added_open a b o

  minus_open : (a b : ExprTree) → IsOpen a ⊎ IsOpen b → IsOpen (minus_of a b)
  minus_open a b o = subst (λ (z : Option ℤ). IsOpen (literal_or z (if is_zero b then a else subtracted a b))) (sym (nothing_computed ◌-ℤ◌ a b o)) (go (is_zero b) refl)
    where
      go : (y : Bool) → is_zero b ≡ y → IsOpen (if y then a else subtracted a b)
      go true p = left o
        where
          left : IsOpen a ⊎ IsOpen b → IsOpen a
          left (inl h) = h
          left (inr h) = absurd (both_ways (is_zero b) h.zero p)
      go false p = subtracted_open a b o

  onto_first : (m : Option ℤ) (ms : Option (List ℤ)) → (m ≡ None) ⊎ (ms ≡ None) → onto m ms ≡ None
  onto_first m ms (inl e) = ap (λ (z : Option ℤ). onto z ms) e
  onto_first (Some m) ms (inr e) = ap (onto (Some m)) e
  onto_first None ms (inr e) = refl

  module _ (x : List ℕ) (by : ExprTree) (variable : value_named consts x ≡ None) (unsettled : IsOpen by) (apart : is_scalar x by ≡ false) where
    -- one of two operands has the scalar
    one_of : (a b : Bool) → a || b ≡ true → (a ≡ true) ⊎ (b ≡ true)
    one_of true b e = inl refl
    one_of false b e = inr e

    either : (a b : ExprTree) (P Q : Type 0) → (has_scalar x a ≡ true → P) → (has_scalar x b ≡ true → Q) → has_scalar x a || has_scalar x b ≡ true → P ⊎ Q
    either a b P Q p q h = go (one_of (has_scalar x a) (has_scalar x b) h)
      where
        go : (has_scalar x a ≡ true) ⊎ (has_scalar x b ≡ true) → P ⊎ Q
        go (inl e) = inl (p e)
        go (inr e) = inr (q e)

    -- an expression with the scalar has no constant value
    mutual
      unknown : (e : ExprTree) → has_scalar x e ≡ true → constant_value consts e ≡ None
      unknown (Int n) h = absurd cc
      unknown (Var y) h = ap (value_named consts) (sym (same_is x y h)) ∙ variable
      unknown (Element y es) h = refl
      unknown (Neg a) h = ap (unary_value negation_of) (unknown a h)
      unknown (Add a b) h = binary_first sum_of (constant_value consts a) (constant_value consts b) (either a b (constant_value consts a ≡ None) (constant_value consts b ≡ None) (unknown a) (unknown b) h)
      unknown (Sub a b) h = binary_first difference_of (constant_value consts a) (constant_value consts b) (either a b (constant_value consts a ≡ None) (constant_value consts b ≡ None) (unknown a) (unknown b) h)
      unknown (Mul a b) h = binary_first product_of (constant_value consts a) (constant_value consts b) (either a b (constant_value consts a ≡ None) (constant_value consts b ≡ None) (unknown a) (unknown b) h)
      unknown (Div a b) h = binary_first quotient_of (constant_value consts a) (constant_value consts b) (either a b (constant_value consts a ≡ None) (constant_value consts b ≡ None) (unknown a) (unknown b) h)
      unknown (Pow a b) h = binary_first power_of (constant_value consts a) (constant_value consts b) (either a b (constant_value consts a ≡ None) (constant_value consts b ≡ None) (unknown a) (unknown b) h)
      unknown (Call f es) h = ap (λ (z : Option (List ℤ)). option_and_then result_ok (option_and_then (intrinsic_result f) z)) (all_unknown es h)

      all_unknown : (es : ExprTrees) → have_scalar x es ≡ true → constant_values consts es ≡ None
      all_unknown no_exprs h = absurd cc
      all_unknown (more_exprs e rest) h = onto_first (constant_value consts e) (constant_values consts rest) (go (one_of (has_scalar x e) (have_scalar x rest) h) (unknown e) (all_unknown rest))
        where
          go : (has_scalar x e ≡ true) ⊎ (have_scalar x rest ≡ true) → (has_scalar x e ≡ true → constant_value consts e ≡ None) → (have_scalar x rest ≡ true → constant_values consts rest ≡ None) → (constant_value consts e ≡ None) ⊎ (constant_values consts rest ≡ None)
          go (inl p) m n = inl (m p)
          go (inr p) m n = inr (n p)

    pub is_changed : (a b : ExprTree) → has_scalar x a || has_scalar x b ≡ true → changes x by a b ≡ true
    is_changed a b h = λ i. h i && not (apart i)

    -- and no literal stands in its place
    mutual
      opened : (e : ExprTree) → has_scalar x e ≡ true → IsOpen (substituted x by e)
      opened (Int n) h = absurd cc
      opened (Var y) h = subst (λ (b : Bool). IsOpen (if b then by else Var y)) (sym h) unsettled
      opened (Element y es) h = record { value = refl; literal = refl; zero = refl }
      opened (Neg a) h = neg_open (substituted x by a) (opened a h)
      opened (Add a b) h =
          subst (λ (c : Bool). IsOpen (if c then plus_of (substituted x by a) (substituted x by b) else Add a b)) (sym (is_changed a b h))
          (plus_open (substituted x by a) (substituted x by b) (either a b (IsOpen (substituted x by a)) (IsOpen (substituted x by b)) (opened a) (opened b) h))
      opened (Sub a b) h =
          subst (λ (c : Bool). IsOpen (if c then minus_of (substituted x by a) (substituted x by b) else Sub a b)) (sym (is_changed a b h))
          (minus_open (substituted x by a) (substituted x by b) (either a b (IsOpen (substituted x by a)) (IsOpen (substituted x by b)) (opened a) (opened b) h))
      opened (Mul a b) h = let o = either a b (IsOpen (substituted x by a)) (IsOpen (substituted x by b)) (opened a) (opened b) h in
          record { value = binary_first product_of (constant_value consts (substituted x by a)) (constant_value consts (substituted x by b)) (values_of (substituted x by a) (substituted x by b) o); literal = refl; zero = refl }
      opened (Div a b) h = let o = either a b (IsOpen (substituted x by a)) (IsOpen (substituted x by b)) (opened a) (opened b) h in
          record { value = binary_first quotient_of (constant_value consts (substituted x by a)) (constant_value consts (substituted x by b)) (values_of (substituted x by a) (substituted x by b) o); literal = refl; zero = refl }
      opened (Pow a b) h = let o = either a b (IsOpen (substituted x by a)) (IsOpen (substituted x by b)) (opened a) (opened b) h in
          record { value = binary_first power_of (constant_value consts (substituted x by a)) (constant_value consts (substituted x by b)) (values_of (substituted x by a) (substituted x by b) o); literal = refl; zero = refl }
      opened (Call f es) h = record {
        value = ap (λ (z : Option (List ℤ)). option_and_then result_ok (option_and_then (intrinsic_result f) z)) (all_opened es h);
        literal = refl;
        zero = refl;
      }

      all_opened : (es : ExprTrees) → have_scalar x es ≡ true → constant_values consts (all_substituted x by es) ≡ None
      all_opened no_exprs h = absurd cc
      all_opened (more_exprs e rest) h =
          onto_first (constant_value consts (substituted x by e)) (constant_values consts (all_substituted x by rest)) (go (one_of (has_scalar x e) (have_scalar x rest) h) (opened e) (all_opened rest))
        where
          go : (has_scalar x e ≡ true) ⊎ (have_scalar x rest ≡ true) → (has_scalar x e ≡ true → IsOpen (substituted x by e)) → (have_scalar x rest ≡ true → constant_values consts (all_substituted x by rest) ≡ None)
              → (constant_value consts (substituted x by e) ≡ None) ⊎ (constant_values consts (all_substituted x by rest) ≡ None)
          go (inl p) m n = inl (m p).value
          go (inr p) m n = inr (n p)

    -- so an expression has the same constant value, or none, before and behind
    pub constant_kept : (e : ExprTree) → constant_value consts (substituted x by e) ≡ constant_value consts e
    constant_kept e = go (has_scalar x e) refl
      where
        go : (b : Bool) → has_scalar x e ≡ b → constant_value consts (substituted x by e) ≡ constant_value consts e
        go true h = (opened e h).value ∙ sym (unknown e h)
        go false h = ap (constant_value consts) (stays x by e h)
