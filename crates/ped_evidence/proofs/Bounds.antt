-- The value of a MAX is at least that of each operand, of a MIN at most; and what bounds a DO that is entered.
use Rattle.std.proofs.Common.{◌≡◌, List, [], ◌∷◌, ◌++◌, Bool, true, false, sym, ap, ◌∙◌, subst, arith, ℤ, ◌≤ℤ◌, Ok, Err, if◌then◌else◌}
use Rattle.std.specs.Int.{int_min, int_max}
use Rattle.std.specs.List.{AllByRecursion}
use Rattle.std.proofs.lemmas.Int.{clamps}
use Rattle.ped_base.specs.declared.arithmetic.faults.Fault.TheVariants.{OutOfRange}
use Rattle.ped_base.specs.Arithmetic.Faults.{◌>>=◌}
use Rattle.ped_base.specs.Arithmetic.Arithmetic.{is_in_range, greatest_of, least_of, from_left}
use Rattle.ped_views.proofs.Products.{linear}
use Rattle.ped_tree.specs.declared.expressions.Intrinsic.TheVariants.{Mod, Abs, Max, Min}
use Rattle.ped_tree.specs.Tree.{ExprTree, ExprTrees, Int, Var, Element, Neg, Add, Sub, Mul, Div, Pow, Call, no_exprs, more_exprs, Head}
use Rattle.ped_tree.specs.Constants.ConstantExpressions.{intrinsic_result}
use Rattle.ped_laws.specs.ped_store.specs.Stores.{Store, out_of_range}
use Rattle.ped_laws.specs.ped_eval.specs.Scopes.{Names}
use Rattle.ped_laws.specs.ped_eval.specs.Evaluation.{◌>>>◌, given, by_number}
use Rattle.ped_laws.specs.ped_eval.specs.Values.{of_intrinsic, value, values}
use Rattle.ped_laws.specs.ped_eval.specs.Loops.{Limits, limits, in_bounds, is_bound}
use Rattle.ped_laws.proofs.CoveringLaws.Comings.{came, ok_one}
use Rattle.ped_evidence.specs.Levels.{is_max, is_min, operands, operands_of_all}

module _ (g : Names) (u : Store) where
  -- an expression comes to a number of this kind
  abbrev pub ComesTo : (ℤ → Type 0) → ExprTree → Type 0
  ComesTo P e = (m : ℤ) × ((value g e u).result ≡ Ok m) × P m

  -- each of arguments comes to a number of this kind
  abbrev AllAre : (ℤ → Type 0) → List ℤ → Type 0
  AllAre P us = AllByRecursion P us

  pub weaker : (P Q : ℤ → Type 0) → ((m : ℤ) → P m → Q m) → (es : List ExprTree) → AllByRecursion (ComesTo P) es → AllByRecursion (ComesTo Q) es
  weaker P Q law [] h = tt
  weaker P Q law (e ∷ es) h = ((h.0.0, h.0.1, law h.0.0 h.0.2), weaker P Q law es h.1)

  all_both : (P : ExprTree → Type 0) (es gs : List ExprTree) → AllByRecursion P es → AllByRecursion P gs → AllByRecursion P (es ++ gs)
  all_both P [] gs h k = k
  all_both P (e ∷ es) gs h k = (h.0, all_both P es gs h.1 k)

  alone : (P : ℤ → Type 0) (e : ExprTree) (n : ℤ) → (value g e u).result ≡ Ok n → P n → AllByRecursion (ComesTo P) (e ∷ [])
  alone P e n h k = ((n, h, k), tt)

-- the greatest of numbers is at least each
greatest : (u : ℤ) (us : List ℤ) (n : ℤ) → by_number (from_left greatest_of u us) ≡ Ok n → (u ≤ℤ n) × AllByRecursion (λ m. m ≤ℤ n) us
greatest u [] n h = (let e = ok_one u n h in omega (arith, linear), tt)
greatest u (v ∷ us) n h = go (is_in_range (int_max u v)) (greatest (int_max u v) us n) h
  where
    go : (b : Bool) → (by_number (from_left greatest_of (int_max u v) us) ≡ Ok n → (int_max u v ≤ℤ n) × AllByRecursion (λ m. m ≤ℤ n) us)
        → by_number ((if b then Ok (int_max u v) else Err OutOfRange) >>= λ c. from_left greatest_of c us) ≡ Ok n → (u ≤ℤ n) × AllByRecursion (λ m. m ≤ℤ n) (v ∷ us)
    go true k e = let r = k e in let top = r.0 in (omega (arith, linear, clamps), (omega (arith, linear, clamps), r.1))
    go false k e = absurd cc

least : (u : ℤ) (us : List ℤ) (n : ℤ) → by_number (from_left least_of u us) ≡ Ok n → (n ≤ℤ u) × AllByRecursion (λ m. n ≤ℤ m) us
least u [] n h = (let e = ok_one u n h in omega (arith, linear), tt)
least u (v ∷ us) n h = go (is_in_range (int_min u v)) (least (int_min u v) us n) h
  where
    go : (b : Bool) → (by_number (from_left least_of (int_min u v) us) ≡ Ok n → (n ≤ℤ int_min u v) × AllByRecursion (λ m. n ≤ℤ m) us)
        → by_number ((if b then Ok (int_min u v) else Err OutOfRange) >>= λ c. from_left least_of c us) ≡ Ok n → (n ≤ℤ u) × AllByRecursion (λ m. n ≤ℤ m) (v ∷ us)
    go true k e = let r = k e in let top = r.0 in (omega (arith, linear, clamps), (omega (arith, linear, clamps), r.1))
    go false k e = absurd cc

module _ (g : Names) (u : Store) where
  greatest_call : (us : List ℤ) (n : ℤ) → of_intrinsic (intrinsic_result Max us) ≡ Ok n → AllByRecursion (λ m. m ≤ℤ n) us
  greatest_call [] n h = tt
  greatest_call (a ∷ []) n h = absurd cc
  greatest_call (a ∷ (b ∷ us)) n h = greatest a (b ∷ us) n h

  least_call : (us : List ℤ) (n : ℤ) → of_intrinsic (intrinsic_result Min us) ≡ Ok n → AllByRecursion (λ m. n ≤ℤ m) us
  least_call [] n h = tt
  least_call (a ∷ []) n h = absurd cc
  least_call (a ∷ (b ∷ us)) n h = least a (b ∷ us) n h

  mutual
    -- the value of an expression is at least that of each operand of MAX
    pub max_operands : (e : ExprTree) (n : ℤ) → (value g e u).result ≡ Ok n → AllByRecursion (ComesTo g u (λ m. m ≤ℤ n)) (operands is_max e)
    max_operands (Int k) n h = alone g u (λ m. m ≤ℤ n) (Int k) n h (omega (arith, linear))
    max_operands (Var x) n h = alone g u (λ m. m ≤ℤ n) (Var x) n h (omega (arith, linear))
    max_operands (Element x subscripts) n h = alone g u (λ m. m ≤ℤ n) (Element x subscripts) n h (omega (arith, linear))
    max_operands (Neg a) n h = alone g u (λ m. m ≤ℤ n) (Neg a) n h (omega (arith, linear))
    max_operands (Add a b) n h = alone g u (λ m. m ≤ℤ n) (Add a b) n h (omega (arith, linear))
    max_operands (Sub a b) n h = alone g u (λ m. m ≤ℤ n) (Sub a b) n h (omega (arith, linear))
    max_operands (Mul a b) n h = alone g u (λ m. m ≤ℤ n) (Mul a b) n h (omega (arith, linear))
    max_operands (Div a b) n h = alone g u (λ m. m ≤ℤ n) (Div a b) n h (omega (arith, linear))
    max_operands (Pow a b) n h = alone g u (λ m. m ≤ℤ n) (Pow a b) n h (omega (arith, linear))
    max_operands (Call Mod arguments) n h = alone g u (λ m. m ≤ℤ n) (Call Mod arguments) n h (omega (arith, linear))
    max_operands (Call Abs arguments) n h = alone g u (λ m. m ≤ℤ n) (Call Abs arguments) n h (omega (arith, linear))
    max_operands (Call Min arguments) n h = alone g u (λ m. m ≤ℤ n) (Call Min arguments) n h (omega (arith, linear))
    max_operands (Call Max arguments) n h =
        let first = came (values g arguments u).seen (values g arguments u).result (λ us. given (of_intrinsic (intrinsic_result Max us))) n h in
        max_arguments arguments first.0 n first.1 (greatest_call first.0 n first.2)

    max_arguments : (es : ExprTrees) (us : List ℤ) (n : ℤ) → (values g es u).result ≡ Ok us → AllByRecursion (λ m. m ≤ℤ n) us → AllByRecursion (ComesTo g u (λ m. m ≤ℤ n)) (operands_of_all is_max es)
    max_arguments no_exprs us n h all = tt
    max_arguments (more_exprs e rest) us n h all =
        let first = came (value g e u).seen (value g e u).result (λ a. values g rest u >>> λ vs. given (Ok (a ∷ vs))) us h in
        let second = came (values g rest u).seen (values g rest u).result (λ vs. given (Ok (first.0 ∷ vs))) us first.2 in
        let both = subst (λ (ns : List ℤ). AllByRecursion (λ m. m ≤ℤ n) ns) (sym (ok_one (first.0 ∷ second.0) us second.2)) all in
        let top = both.0 in
        all_both g u (ComesTo g u (λ m. m ≤ℤ n)) (operands is_max e) (operands_of_all is_max rest)
        (weaker g u (λ m. m ≤ℤ first.0) (λ m. m ≤ℤ n) (λ m k. omega (arith, linear)) (operands is_max e) (max_operands e first.0 first.1)) (max_arguments rest second.0 n second.1 both.1)

  mutual
    -- and at most that of each operand of MIN
    pub min_operands : (e : ExprTree) (n : ℤ) → (value g e u).result ≡ Ok n → AllByRecursion (ComesTo g u (λ m. n ≤ℤ m)) (operands is_min e)
    min_operands (Int k) n h = alone g u (λ m. n ≤ℤ m) (Int k) n h (omega (arith, linear))
    min_operands (Var x) n h = alone g u (λ m. n ≤ℤ m) (Var x) n h (omega (arith, linear))
    min_operands (Element x subscripts) n h = alone g u (λ m. n ≤ℤ m) (Element x subscripts) n h (omega (arith, linear))
    min_operands (Neg a) n h = alone g u (λ m. n ≤ℤ m) (Neg a) n h (omega (arith, linear))
    min_operands (Add a b) n h = alone g u (λ m. n ≤ℤ m) (Add a b) n h (omega (arith, linear))
    min_operands (Sub a b) n h = alone g u (λ m. n ≤ℤ m) (Sub a b) n h (omega (arith, linear))
    min_operands (Mul a b) n h = alone g u (λ m. n ≤ℤ m) (Mul a b) n h (omega (arith, linear))
    min_operands (Div a b) n h = alone g u (λ m. n ≤ℤ m) (Div a b) n h (omega (arith, linear))
    min_operands (Pow a b) n h = alone g u (λ m. n ≤ℤ m) (Pow a b) n h (omega (arith, linear))
    min_operands (Call Mod arguments) n h = alone g u (λ m. n ≤ℤ m) (Call Mod arguments) n h (omega (arith, linear))
    min_operands (Call Abs arguments) n h = alone g u (λ m. n ≤ℤ m) (Call Abs arguments) n h (omega (arith, linear))
    min_operands (Call Max arguments) n h = alone g u (λ m. n ≤ℤ m) (Call Max arguments) n h (omega (arith, linear))
    min_operands (Call Min arguments) n h =
        let first = came (values g arguments u).seen (values g arguments u).result (λ us. given (of_intrinsic (intrinsic_result Min us))) n h in
        min_arguments arguments first.0 n first.1 (least_call first.0 n first.2)

    min_arguments : (es : ExprTrees) (us : List ℤ) (n : ℤ) → (values g es u).result ≡ Ok us → AllByRecursion (λ m. n ≤ℤ m) us → AllByRecursion (ComesTo g u (λ m. n ≤ℤ m)) (operands_of_all is_min es)
    min_arguments no_exprs us n h all = tt
    min_arguments (more_exprs e rest) us n h all =
        let first = came (value g e u).seen (value g e u).result (λ a. values g rest u >>> λ vs. given (Ok (a ∷ vs))) us h in
        let second = came (values g rest u).seen (values g rest u).result (λ vs. given (Ok (first.0 ∷ vs))) us first.2 in
        let both = subst (λ (ns : List ℤ). AllByRecursion (λ m. n ≤ℤ m) ns) (sym (ok_one (first.0 ∷ second.0) us second.2)) all in
        let top = both.0 in
        all_both g u (ComesTo g u (λ m. n ≤ℤ m)) (operands is_min e) (operands_of_all is_min rest)
        (weaker g u (λ m. first.0 ≤ℤ m) (λ m. n ≤ℤ m) (λ m k. omega (arith, linear)) (operands is_min e) (min_operands e first.0 first.1)) (min_arguments rest second.0 n second.1 both.1)

  -- a DO that is entered has come to both of its bounds
  bound_itself : (m n : ℤ) → in_bounds m ≡ Ok n → m ≡ n
  bound_itself m n h = go (is_bound m) h
    where
      go : (b : Bool) → (if b then Ok m else Err out_of_range) ≡ Ok n → m ≡ n
      go true e = ok_one m n e
      go false e = absurd cc

  pub bounds_come : (h : Head) (l : Limits) → (limits g h u).result ≡ Ok l → ((value g h.first u).result ≡ Ok l.first) × ((value g h.last u).result ≡ Ok l.last)
  bounds_come h l e =
      let one = came (value g h.first u).seen (value g h.first u).result (λ a. given (in_bounds a) >>> λ m. value g h.last u >>> λ b. given (in_bounds b) >>> λ n. given (Ok (record { first = m; last = n }))) l e in
      let two = came [] (in_bounds one.0) (λ m. value g h.last u >>> λ b. given (in_bounds b) >>> λ n. given (Ok (record { first = m; last = n }))) l one.2 in
      let three = came (value g h.last u).seen (value g h.last u).result (λ b. given (in_bounds b) >>> λ n. given (Ok (record { first = two.0; last = n }))) l two.2 in
      let four = came [] (in_bounds three.0) (λ n. given (Ok (record { first = two.0; last = n }))) l three.2 in
      let is : record { first = two.0; last = four.0 } ≡ l = ok_one (record { first = two.0; last = four.0 }) l four.2 in (
        one.1 ∙ ap Ok (bound_itself one.0 two.0 two.1 ∙ ap (λ z. z.first) is),
        three.1 ∙ ap Ok (bound_itself three.0 four.0 four.1 ∙ ap (λ z. z.last) is),
      )
