-- The names in the head of a reversed DO: those of the old one, but for the named constants in its increment.
use Rattle.std.proofs.Common.{◌≡◌, ℕ, ℤ, List, [], ◌∷◌, ◌++◌, map, Bool, true, false, ◌||◌, Option, Some, None, Result, refl, sym, ap, ◌∙◌, append-nil, unsigned_abs, if◌then◌else◌}
use Rattle.std.specs.Prelude.{option_and_then}
use Rattle.std.specs.Int.{is_negative}
use Rattle.std.specs.Result.{result_ok}
use Rattle.std.proofs.lemmas.List.{map-append}
use Rattle.ped_base.specs.Lists.{is_same_text, is_among}
use Rattle.ped_base.specs.declared.arithmetic.faults.Fault.{Fault}
use Rattle.ped_base.specs.Arithmetic.Arithmetic.{sum_of, difference_of, negation_of, product_of, quotient_of, power_of}
use Rattle.ped_base.proofs.NameEquality.{same_is}
use Rattle.ped_loop_runs.specs.ped_symbolic.specs.Arithmetic.{literal}
use Rattle.ped_tree.specs.declared.expressions.Intrinsic.{Intrinsic}
use Rattle.ped_tree.specs.Constants.NamedConstants.{value_named}
use Rattle.ped_tree.specs.Constants.ConstantExpressions.{unary_value, binary_value, onto, intrinsic_result, constant_value, constant_values}
use Rattle.ped_tree.specs.Tree.{ExprTree, ExprTrees, Int, Var, Element, Neg, Add, Sub, Mul, Div, Pow, Call, no_exprs, more_exprs, Head, StmtTrees, Do}
use Rattle.ped_tree.proofs.NameLaws.Collected.{among_append}
use Rattle.ped_loop_runs.specs.ped_symbols.specs.declared.uses.Use.{Use}
use Rattle.ped_loop_runs.specs.ped_symbols.specs.declared.uses.Role.TheVariants.{Rejected, Index}
use Rattle.ped_loop_runs.specs.ped_symbols.specs.Sites.{statement}
use Rattle.ped_loop_runs.specs.ped_symbols.specs.Uses.{used_as, expr_uses, exprs_uses, own_uses}
use Rattle.ped_loop_runs.specs.ped_steps.proofs.RunLaws.NamesKept.{occurs}
use Rattle.ped_rules.specs.Spans.{Values}

abbrev pub names_in : List Use → List (List ℕ)
names_in us = map (λ (u : Use). u.name) us

pub among_both : (y : List ℕ) (a b : List Use) → is_among y (names_in (a ++ b)) ≡ is_among y (names_in a) || is_among y (names_in b)
among_both y a b = ap (is_among y) (map-append (λ (u : Use). u.name) a b) ∙ among_append y (names_in a) (names_in b)

none_in_both : (y : List ℕ) (a b : List Use) → is_among y (names_in a) ≡ false → is_among y (names_in b) ≡ false → is_among y (names_in (a ++ b)) ≡ false
none_in_both y a b p q = among_both y a b ∙ (λ i. p i || q i)

-- parts of what has a value have values
of_unary : (f : ℤ → Result ℤ Fault) (o : Option ℤ) (m : ℤ) → unary_value f o ≡ Some m → (a : ℤ) × (o ≡ Some a)
of_unary f (Some a) m h = (a, refl)
of_unary f None m h = absurd cc

of_binary : (f : ℤ → ℤ → Result ℤ Fault) (o p : Option ℤ) (m : ℤ) → binary_value f o p ≡ Some m → (a : ℤ) × (b : ℤ) × (o ≡ Some a) × (p ≡ Some b)
of_binary f (Some a) (Some b) m h = (a, b, refl, refl)
of_binary f (Some a) None m h = absurd cc
of_binary f None p m h = absurd cc

of_call : (f : Intrinsic) (o : Option (List ℤ)) (m : ℤ) → option_and_then result_ok (option_and_then (intrinsic_result f) o) ≡ Some m → (vs : List ℤ) × (o ≡ Some vs)
of_call f (Some vs) m h = (vs, refl)
of_call f None m h = absurd cc

of_onto : (o : Option ℤ) (p : Option (List ℤ)) (vs : List ℤ) → onto o p ≡ Some vs → (a : ℤ) × (more : List ℤ) × (o ≡ Some a) × (p ≡ Some more)
of_onto (Some a) (Some more) vs h = (a, more, refl, refl)
of_onto (Some a) None vs h = absurd cc
of_onto None p vs h = absurd cc

-- a name without a value occurs in no expression that has one
module _ (constants : Values) (y : List ℕ) (none : value_named constants y ≡ None) where
  not_it : (x : List ℕ) (m : ℤ) → value_named constants x ≡ Some m → (b : Bool) → is_same_text y x ≡ b → is_same_text y x || false ≡ false
  not_it x m h true e = let other = sym none ∙ ap (value_named constants) (same_is y x e) ∙ h in absurd cc
  not_it x m h false e = ap (λ (b : Bool). b || false) e

  mutual
    pub unnamed : (e : ExprTree) (m : ℤ) → constant_value constants e ≡ Some m → is_among y (names_in (expr_uses e)) ≡ false
    unnamed (Int n) m h = refl
    unnamed (Var x) m h = not_it x m h (is_same_text y x) refl
    unnamed (Element x subscripts) m h = absurd cc
    unnamed (Neg a) m h = let r = of_unary negation_of (constant_value constants a) m h in unnamed a r.0 r.1
    unnamed (Add a b) m h =
        let r = of_binary sum_of (constant_value constants a) (constant_value constants b) m h in
        none_in_both y (expr_uses a) (expr_uses b) (unnamed a r.0 r.2) (unnamed b r.1 r.3)
    unnamed (Sub a b) m h =
        let r = of_binary difference_of (constant_value constants a) (constant_value constants b) m h in
        none_in_both y (expr_uses a) (expr_uses b) (unnamed a r.0 r.2) (unnamed b r.1 r.3)
    unnamed (Mul a b) m h =
        let r = of_binary product_of (constant_value constants a) (constant_value constants b) m h in
        none_in_both y (expr_uses a) (expr_uses b) (unnamed a r.0 r.2) (unnamed b r.1 r.3)
    unnamed (Div a b) m h =
        let r = of_binary quotient_of (constant_value constants a) (constant_value constants b) m h in
        none_in_both y (expr_uses a) (expr_uses b) (unnamed a r.0 r.2) (unnamed b r.1 r.3)
    unnamed (Pow a b) m h =
        let r = of_binary power_of (constant_value constants a) (constant_value constants b) m h in
        none_in_both y (expr_uses a) (expr_uses b) (unnamed a r.0 r.2) (unnamed b r.1 r.3)
    unnamed (Call f arguments) m h = let r = of_call f (constant_values constants arguments) m h in all_unnamed arguments r.0 r.1

    all_unnamed : (es : ExprTrees) (vs : List ℤ) → constant_values constants es ≡ Some vs → is_among y (names_in (exprs_uses es)) ≡ false
    all_unnamed no_exprs vs h = refl
    all_unnamed (more_exprs e rest) vs h =
        let r = of_onto (constant_value constants e) (constant_values constants rest) vs h in
        none_in_both y (expr_uses e) (exprs_uses rest) (unnamed e r.0 r.2) (all_unnamed rest r.1 r.3)

-- the uses in a head
pub head_uses : (y : List ℕ) (h : Head) (body : StmtTrees)
    → occurs y (statement (Do h body) ∷ []) ≡ is_among y (names_in (map (used_as Rejected) h.rejected)) || (is_same_text y h.variable || ((is_among y (names_in (expr_uses h.first)) || is_among y (names_in (expr_uses h.last))) || is_among y (names_in (expr_uses h.step))))
head_uses y h body =
    ap (λ (us : List Use). is_among y (names_in us)) (append-nil (own_uses (Do h body)))
    ∙ among_both y (map (used_as Rejected) h.rejected) (used_as Index h.variable ∷ (expr_uses h.first ++ expr_uses h.last ++ expr_uses h.step))
    ∙ ap (λ (b : Bool). is_among y (names_in (map (used_as Rejected) h.rejected)) || (is_same_text y h.variable || b))
    (among_both y (expr_uses h.first ++ expr_uses h.last) (expr_uses h.step) ∙ ap (λ (b : Bool). b || is_among y (names_in (expr_uses h.step))) (among_both y (expr_uses h.first) (expr_uses h.last)))

exchanged : (a b s r : Bool) → s ≡ false → r ≡ false → (b || a) || s ≡ (a || b) || r
exchanged true true s r p q = refl
exchanged true false s r p q = refl
exchanged false true s r p q = refl
exchanged false false s r p q = p ∙ sym q

signed_unnamed : (y : List ℕ) (k : ℕ) (b : Bool) → is_among y (names_in (expr_uses (if b then Neg (Int k) else Int k))) ≡ false
signed_unnamed y k true = refl
signed_unnamed y k false = refl

pub literal_unnamed : (y : List ℕ) (n : ℤ) → is_among y (names_in (expr_uses (literal n))) ≡ false
literal_unnamed y n = signed_unnamed y (unsigned_abs n) (is_negative n)

-- a head whose bounds are exchanged and whose increment is a literal, where the old increment has a value
pub turned_names : (constants : Values) (h : Head) (n m : ℤ) (body : StmtTrees) → constant_value constants h.step ≡ Some m → (y : List ℕ) → value_named constants y ≡ None
    → occurs y (statement (Do (record h { first = h.last; last = h.first; step = literal n }) body) ∷ []) ≡ occurs y (statement (Do h body) ∷ [])
turned_names constants h n m body value y none =
    head_uses y (record h { first = h.last; last = h.first; step = literal n }) body
    ∙ ap (λ (b : Bool). is_among y (names_in (map (used_as Rejected) h.rejected)) || (is_same_text y h.variable || b))
    (exchanged (is_among y (names_in (expr_uses h.first))) (is_among y (names_in (expr_uses h.last))) (is_among y (names_in (expr_uses (literal n)))) (is_among y (names_in (expr_uses h.step))) (literal_unnamed y n) (unnamed constants y none h.step m value))
    ∙ sym (head_uses y h body)
