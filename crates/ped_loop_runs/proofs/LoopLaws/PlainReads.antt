-- A plain bound reads scalars alone that keep their values, so it comes to the same wherever places tell the same.
use Rattle.std.proofs.Common.{◌≡◌, ℕ, ℤ, pos, List, [], ◌∷◌, ◌++◌, false, ◌⊎◌, inl, inr, refl, sym, ap, ◌∙◌, subst, IsTrue, Option, Some, None, Result, Ok, Err, option_and_then}
use Rattle.std.specs.Result.{result_ok}
use Rattle.ped_bodies.specs.ped_flow.specs.ped_base.specs.Lists.{is_among}
use Rattle.ped_bodies.specs.ped_flow.specs.ped_base.specs.declared.arithmetic.faults.Fault.{Fault}
use Rattle.ped_bodies.specs.ped_flow.specs.ped_base.specs.Arithmetic.Arithmetic.{sum_of, difference_of, negation_of, product_of, quotient_of, power_of}
use Rattle.ped_bodies.specs.ped_flow.specs.ped_tree.specs.declared.expressions.Intrinsic.{Intrinsic}
use Rattle.ped_bodies.specs.ped_flow.specs.ped_tree.specs.Tree.{ExprTree, ExprTrees, Int, Var, Element, Neg, Add, Sub, Mul, Div, Pow, Call, no_exprs, more_exprs, Do, ProgramTree}
use Rattle.ped_bodies.specs.ped_flow.specs.ped_tree.specs.Nests.{indices_of}
use Rattle.ped_bodies.specs.ped_flow.specs.ped_tree.specs.Constants.NamedConstants.{value_named}
use Rattle.ped_bodies.specs.ped_flow.specs.ped_tree.specs.Constants.ConstantExpressions.{unary_value, binary_value, onto, intrinsic_result, constant_value, constant_values}
use Rattle.ped_bodies.specs.ped_flow.specs.PlainBounds.{Values, nest_round, setting_round, outermost_or, assigned_by, IsConstant, IsFixed, IsPlainlyBuilt, ArePlainlyBuilt}
use Rattle.ped_bodies.specs.ped_flow.specs.Questions.{LoopOf}
use Rattle.ped_bodies.specs.ped_store.specs.Cells.{Cell, Scalar}
use Rattle.ped_bodies.specs.ped_store.specs.Stores.{Store, number_read}
use Rattle.ped_bodies.specs.ped_eval.specs.Scopes.{Setting, Scope, Names, names_in}
use Rattle.ped_bodies.specs.ped_eval.specs.Evaluation.{Seen, cell_seen, index_seen, Evaluated, onward, ◌>>>◌, given, by_number}
use Rattle.ped_bodies.specs.ped_eval.specs.Values.{unary, binary, of_intrinsic, variable_value, name_value, value, values}
use Rattle.ped_bodies.specs.ped_eval.specs.Runs.{run}
use Rattle.ped_bodies.specs.ped_laws.specs.Acts.Sets.{written}
use Rattle.ped_bodies.specs.ped_laws.specs.Plain.Executions.{IsPlaceWith, IsDuring}
use Rattle.ped_bodies.specs.ped_laws.proofs.CoveringLaws.Comings.{some_one}
use Rattle.ped_bodies.specs.ped_flow.specs.ped_base.proofs.NameEquality.{same_itself}
use Rattle.ped_bodies.specs.ped_laws.proofs.FlowRunLaws.Writing.{unassigned}
use Rattle.ped_bodies.specs.ped_laws.proofs.PlainLaws.Standing.{untold, own_cell, kept_during}
use Rattle.ped_loop_runs.specs.Bounds.{IsOfFixed, ReadTheSame, ComeToTheSame}

-- an evaluation that reads nothing comes to this, where the expression is constant and has this value
abbrev Comes : {A : Type 0} → Option A → Evaluated A → Type 0
Comes o e = (x : _) → o ≡ Some x → e ≡ given (Ok x)

ok_by : (r : Result ℤ Fault) (m : ℤ) → result_ok r ≡ Some m → given (by_number r) ≡ given (Ok m)
ok_by (Ok k) m h = ap (λ (z : ℤ). given (Ok z)) (some_one k m h)
ok_by (Err fault) m h = absurd cc

unary_comes : (f : ℤ → Result ℤ Fault) (o : Option ℤ) (a : Evaluated ℤ) → Comes o a → Comes (unary_value f o) (unary f a)
unary_comes f (Some n) a known m h = ap (unary f) (known n refl) ∙ ok_by (f n) m h
unary_comes f None a known m h = absurd cc

binary_comes : (f : ℤ → ℤ → Result ℤ Fault) (o q : Option ℤ) (a b : Evaluated ℤ) → Comes o a → Comes q b → Comes (binary_value f o q) (binary f a b)
binary_comes f (Some i) (Some j) a b first second m h = (λ z. binary f (first i refl z) (second j refl z)) ∙ ok_by (f i j) m h
binary_comes f (Some i) None a b first second m h = absurd cc
binary_comes f None q a b first second m h = absurd cc

more_comes : (o : Option ℤ) (q : Option (List ℤ)) (a : Evaluated ℤ) (b : Evaluated (List ℤ)) → Comes o a → Comes q b → Comes (onto o q) (a >>> λ u. b >>> λ us. given (Ok (u ∷ us)))
more_comes (Some i) (Some is) a b first second ms h = (λ z. first i refl z >>> λ u. second is refl z >>> λ us. given (Ok (u ∷ us))) ∙ ap (λ (zs : List ℤ). given (Ok zs)) (some_one (i ∷ is) ms h)
more_comes (Some i) None a b first second ms h = absurd cc
more_comes None q a b first second ms h = absurd cc

call_of : (r : Option (Result ℤ Fault)) (m : ℤ) → option_and_then result_ok r ≡ Some m → given (of_intrinsic r) ≡ given (Ok m)
call_of (Some r) m h = ok_by r m h
call_of None m h = absurd cc

call_comes : (f : Intrinsic) (o : Option (List ℤ)) (a : Evaluated (List ℤ)) → Comes o a → Comes (option_and_then result_ok (option_and_then (intrinsic_result f) o)) (a >>> λ us. given (of_intrinsic (intrinsic_result f us)))
call_comes f (Some ns) a known m h = ap (λ (e : Evaluated (List ℤ)). e >>> λ us. given (of_intrinsic (intrinsic_result f us))) (known ns refl) ∙ call_of (intrinsic_result f ns) m h
call_comes f None a known m h = absurd cc

module _ (g : Names) (u : Store) where
  name_comes : (o : Option ℤ) (x : List ℕ) → Comes o (name_value o g x u)
  name_comes (Some n) x m h = ap (λ (z : ℤ). given (Ok z)) (some_one n m h)
  name_comes None x m h = absurd cc

  mutual
    constant_comes : (e : ExprTree) → Comes (constant_value g.constants e) (value g e u)
    constant_comes (Int n) m h = ap (λ (z : ℤ). given (Ok z)) (some_one (pos n) m h)
    constant_comes (Var x) m h = name_comes (value_named g.constants x) x m h
    constant_comes (Element x subscripts) m h = absurd cc
    constant_comes (Neg a) m h = unary_comes negation_of (constant_value g.constants a) (value g a u) (constant_comes a) m h
    constant_comes (Add a b) m h = binary_comes sum_of (constant_value g.constants a) (constant_value g.constants b) (value g a u) (value g b u) (constant_comes a) (constant_comes b) m h
    constant_comes (Sub a b) m h = binary_comes difference_of (constant_value g.constants a) (constant_value g.constants b) (value g a u) (value g b u) (constant_comes a) (constant_comes b) m h
    constant_comes (Mul a b) m h = binary_comes product_of (constant_value g.constants a) (constant_value g.constants b) (value g a u) (value g b u) (constant_comes a) (constant_comes b) m h
    constant_comes (Div a b) m h = binary_comes quotient_of (constant_value g.constants a) (constant_value g.constants b) (value g a u) (value g b u) (constant_comes a) (constant_comes b) m h
    constant_comes (Pow a b) m h = binary_comes power_of (constant_value g.constants a) (constant_value g.constants b) (value g a u) (value g b u) (constant_comes a) (constant_comes b) m h
    constant_comes (Call f arguments) m h = call_comes f (constant_values g.constants arguments) (values g arguments u) (constants_come arguments) m h

    constants_come : (es : ExprTrees) → Comes (constant_values g.constants es) (values g es u)
    constants_come no_exprs ms h = ap (λ (zs : List ℤ). given (Ok zs)) (some_one [] ms h)
    constants_come (more_exprs e rest) ms h = more_comes (constant_value g.constants e) (constant_values g.constants rest) (value g e u) (values g rest u) (constant_comes e) (constants_come rest) ms h

module _ (P : Cell → Type 0) where
  both_read : (xs xs' ys ys' : List Seen) → ReadTheSame P xs xs' → ReadTheSame P ys ys' → ReadTheSame P (xs ++ ys) (xs' ++ ys')
  both_read [] [] ys ys' h k = k
  both_read [] (z ∷ zs) ys ys' h k = absurd h
  both_read (cell_seen c m ∷ xs) [] ys ys' h k = absurd h
  both_read (cell_seen c m ∷ xs) (cell_seen d n ∷ xs') ys ys' h k = (h.0, h.1, h.2, both_read xs xs' ys ys' h.3 k)
  both_read (cell_seen c m ∷ xs) (index_seen d n ∷ xs') ys ys' h k = absurd h
  both_read (index_seen c m ∷ xs) [] ys ys' h k = absurd h
  both_read (index_seen c m ∷ xs) (cell_seen d n ∷ xs') ys ys' h k = absurd h
  both_read (index_seen c m ∷ xs) (index_seen d n ∷ xs') ys ys' h k = (h.0, both_read xs xs' ys ys' h.1 k)

  given_same : {X : Type 0} (r : Result X ℕ) → ComeToTheSame P (given r) (given r)
  given_same r = record { result = refl; seen = tt }

  then_same : {X Y : Type 0} (a b : Evaluated X) (f g : X → Evaluated Y) → ComeToTheSame P a b → ((x : X) → ComeToTheSame P (f x) (g x)) → ComeToTheSame P (a >>> f) (b >>> g)
  then_same {X} {Y} a b f g h k = subst (λ (r : Result X ℕ). ComeToTheSame P (onward a.seen a.result f) (onward b.seen r g)) (sym h.result) (go a.result)
    where
      go : (r : Result X ℕ) → ComeToTheSame P (onward a.seen r f) (onward b.seen r g)
      go (Ok x) = let m = k x in record { result = m.result; seen = both_read a.seen b.seen (f x).seen (g x).seen h.seen m.seen }
      go (Err fault) = record { result = refl; seen = h.seen }

  by_equals : {X : Type 0} (a a' b b' : Evaluated X) → a ≡ a' → b ≡ b' → ComeToTheSame P a' b' → ComeToTheSame P a b
  by_equals a a' b b' e f h = subst (λ z. ComeToTheSame P z b) (sym e) (subst (λ z. ComeToTheSame P a' z) (sym f) h)

-- a scalar is read in its own cell at two places, which holds the same
pub record IsReadAlike (g h : Names) (u w : Store) (x : List ℕ) : Type 0 where
  pub untold : g.index x ≡ None
  pub other_untold : h.index x ≡ None
  pub own : g.cell x ≡ Scalar x
  pub other_own : h.cell x ≡ Scalar x
  pub holds : w (Scalar x) ≡ u (Scalar x)

module _ (constants : Values) (t : ProgramTree) (l : ℕ) (g h : Names) (u w : Store) (told : List ℕ → ℤ) (first_constants : g.constants ≡ constants) (second_constants : h.constants ≡ constants)
    (first_tells : (x : List ℕ) → IsTrue (is_among x (indices_of (nest_round t l))) → g.index x ≡ Some (told x)) (second_tells : (x : List ℕ) → IsTrue (is_among x (indices_of (nest_round t l))) → h.index x ≡ Some (told x))
    (fixed : (x : List ℕ) → IsFixed constants t l x → IsReadAlike g h u w x) where
  abbrev Same : {X : Type 0} → Evaluated X → Evaluated X → Type 0
  Same a b = ComeToTheSame (IsOfFixed constants t l) a b

  constant_same : (e : ExprTree) (m : ℤ) → constant_value constants e ≡ Some m → Same (value g e u) (value h e w)
  constant_same e m k =
      by_equals (IsOfFixed constants t l) (value g e u) (given (Ok m)) (value h e w) (given (Ok m))
      (constant_comes g u e m (ap (λ (c : Values). constant_value c e) first_constants ∙ k)) (constant_comes h w e m (ap (λ (c : Values). constant_value c e) second_constants ∙ k)) (given_same (IsOfFixed constants t l) (Ok m))

  -- a constant expression, or one that is built otherwise
  or_built : {B : Type 0} (e : ExprTree) → IsConstant (setting_round constants t l) e ⊎ B → (constant_value constants e ≡ None → B → Same (value g e u) (value h e w)) → Same (value g e u) (value h e w)
  or_built {B} e built other = go (constant_value constants e) refl
    where
      go : (c : Option ℤ) → constant_value constants e ≡ c → Same (value g e u) (value h e w)
      go (Some m) k = constant_same e m k
      go None k = elim built [ inl c ↦ absurd (c k) | inr b ↦ other k b ]

  of_constant : (e : ExprTree) → IsConstant (setting_round constants t l) e → Same (value g e u) (value h e w)
  of_constant e c = or_built {B = ⊥} e (inl c) (λ k b. absurd b)

  variable_same : (x : List ℕ) → value_named constants x ≡ None → IsTrue (is_among x (indices_of (nest_round t l))) ⊎ IsFixed constants t l x → Same (value g (Var x) u) (value h (Var x) w)
  variable_same x none is =
      by_equals (IsOfFixed constants t l) (value g (Var x) u) (variable_value (g.index x) u (g.cell x)) (value h (Var x) w) (variable_value (h.index x) w (h.cell x))
      (ap (λ (o : Option ℤ). name_value o g x u) (ap (λ (c : Values). value_named c x) first_constants ∙ none)) (ap (λ (o : Option ℤ). name_value o h x w) (ap (λ (c : Values). value_named c x) second_constants ∙ none)) (by is)
    where
      by : IsTrue (is_among x (indices_of (nest_round t l))) ⊎ IsFixed constants t l x → Same (variable_value (g.index x) u (g.cell x)) (variable_value (h.index x) w (h.cell x))
      by (inl among) =
          by_equals (IsOfFixed constants t l) (variable_value (g.index x) u (g.cell x)) (variable_value (Some (told x)) u (g.cell x)) (variable_value (h.index x) w (h.cell x)) (variable_value (Some (told x)) w (h.cell x))
          (ap (λ (o : Option ℤ). variable_value o u (g.cell x)) (first_tells x among)) (ap (λ (o : Option ℤ). variable_value o w (h.cell x)) (second_tells x among))
          (record { result = refl; seen = (refl, tt) })
      by (inr keeps) =
          let f = fixed x keeps in
          by_equals (IsOfFixed constants t l) (variable_value (g.index x) u (g.cell x)) (variable_value None u (Scalar x)) (variable_value (h.index x) w (h.cell x)) (variable_value None w (Scalar x))
          (λ z. variable_value (f.untold z) u (f.own z)) (λ z. variable_value (f.other_untold z) w (f.other_own z))
          (record { result = ap number_read f.holds; seen = ((x, refl, keeps), refl, f.holds, tt) })

  unary_same : (f : ℤ → Result ℤ Fault) (a b : Evaluated ℤ) → Same a b → Same (unary f a) (unary f b)
  unary_same f a b k = then_same (IsOfFixed constants t l) a b (λ m. given (by_number (f m))) (λ m. given (by_number (f m))) k (λ m. given_same (IsOfFixed constants t l) (by_number (f m)))

  binary_same : (f : ℤ → ℤ → Result ℤ Fault) (a b c d : Evaluated ℤ) → Same a b → Same c d → Same (binary f a c) (binary f b d)
  binary_same f a b c d k m =
      then_same (IsOfFixed constants t l) a b (λ i. c >>> λ j. given (by_number (f i j))) (λ i. d >>> λ j. given (by_number (f i j))) k
      (λ i. then_same (IsOfFixed constants t l) c d (λ j. given (by_number (f i j))) (λ j. given (by_number (f i j))) m (λ j. given_same (IsOfFixed constants t l) (by_number (f i j))))

  mutual
    pub built_same : (e : ExprTree) → IsPlainlyBuilt constants t l e → Same (value g e u) (value h e w)
    built_same (Int n) built = given_same (IsOfFixed constants t l) (Ok (pos n))
    built_same (Var x) built = or_built (Var x) built (λ k b. variable_same x k b)
    built_same (Element x subscripts) built = absurd built
    built_same (Neg a) built = or_built (Neg a) built (λ k b. unary_same negation_of (value g a u) (value h a w) (built_same a b))
    built_same (Add a b) built = or_built (Add a b) built (λ k p. binary_same sum_of (value g a u) (value h a w) (value g b u) (value h b w) (built_same a p.0) (built_same b p.1))
    built_same (Sub a b) built = or_built (Sub a b) built (λ k p. binary_same difference_of (value g a u) (value h a w) (value g b u) (value h b w) (built_same a p.0) (built_same b p.1))
    built_same (Mul a b) built = or_built (Mul a b) built (λ k p.
        let both : Same (value g a u) (value h a w) × Same (value g b u) (value h b w) = elim p [ inl q ↦ (of_constant a q.0, built_same b q.1) | inr q ↦ (built_same a q.0, of_constant b q.1) ] in
        binary_same product_of (value g a u) (value h a w) (value g b u) (value h b w) both.0 both.1)
    built_same (Div a b) built = of_constant (Div a b) built
    built_same (Pow a b) built = of_constant (Pow a b) built
    built_same (Call f arguments) built = or_built (Call f arguments) built (λ k p.
        then_same (IsOfFixed constants t l) (values g arguments u) (values h arguments w) (λ us. given (of_intrinsic (intrinsic_result f us))) (λ us. given (of_intrinsic (intrinsic_result f us))) (all_same arguments p.1)
        (λ us. given_same (IsOfFixed constants t l) (of_intrinsic (intrinsic_result f us))))

    all_same : (es : ExprTrees) → ArePlainlyBuilt constants t l es → Same (values g es u) (values h es w)
    all_same no_exprs built = given_same (IsOfFixed constants t l) (Ok [])
    all_same (more_exprs e rest) built =
        then_same (IsOfFixed constants t l) (value g e u) (value h e w) (λ n. values g rest u >>> λ ns. given (Ok (n ∷ ns))) (λ n. values h rest w >>> λ ns. given (Ok (n ∷ ns))) (built_same e built.0)
        (λ n. then_same (IsOfFixed constants t l) (values g rest u) (values h rest w) (λ ns. given (Ok (n ∷ ns))) (λ ns. given (Ok (n ∷ ns))) (all_same rest built.1) (λ ns. given_same (IsOfFixed constants t l) (Ok (n ∷ ns))))

-- in an execution of an outermost DO, at places that tell the same
pub plain_again : (p q : Setting) → q.constants ≡ p.constants → (t : ProgramTree) (l : ℕ) (e : ExprTree) → IsPlainlyBuilt p.constants t l e → (told : List ℕ → ℤ) (scope other : Scope) → IsPlaceWith p.constants t l told scope → IsPlaceWith p.constants t l told other → (s u w : Store) → IsDuring p t l s u → IsDuring p t l s w
    → ComeToTheSame (IsOfFixed p.constants t l) (value (names_in p scope) e u) (value (names_in q other) e w)
plain_again p q same t l e built told scope other place place_too s u w first second =
    built_same p.constants t l (names_in p scope) (names_in q other) u w told refl same (λ x among. place.tells x among) (λ x among. place_too.tells x among)
    (λ x keeps. record {
      untold = untold (setting_round p.constants t l) x keeps.kept keeps.other scope place.inside;
      other_untold = untold (setting_round p.constants t l) x keeps.kept keeps.other other place_too.inside;
      own = own_cell (setting_round p.constants t l) x keeps.kept keeps.other scope place.inside;
      other_own = own_cell (setting_round p.constants t l) x keeps.kept keeps.other other place_too.inside;
      holds = kept_during p p.constants t l s w second x keeps ∙ sym (kept_during p p.constants t l s u first x keeps);
    })
    e built

-- no act of the outermost DO writes such a scalar
pub fixed_unwritten : (p : Setting) (t : ProgramTree) (l : ℕ) (c : Cell) → IsOfFixed p.constants t l c → (loop : LoopOf t (outermost_or l (nest_round t l))) (n : ℕ) (scope : Scope) (s : Store) → written (run p (Do loop.head loop.body) n scope s).acts c ≡ false
fixed_unwritten p t l c of_fixed loop n scope s =
    let x : List ℕ = of_fixed.0 in
    let its = ap (λ o. is_among x (assigned_by o)) (sym loop.is) ∙ of_fixed.2.kept in
    ap (written (run p (Do loop.head loop.body) n scope s).acts) of_fixed.1 ∙ unassigned p x (Do loop.head loop.body) n scope s (Scalar x) its (same_itself x)
