-- In a valid program no name that is assigned has a value as a named constant, so a constant expression has one value throughout.
use Rattle.std.proofs.Common.{◌≡◌, ◌⊎◌, inl, inr, ℕ, ◌-◌, ◌==◌, ℤ, List, [], ◌∷◌, ◌++◌, Bool, true, false, not, ◌||◌, ◌&&◌, Option, Some, None, Result, if◌then◌else◌, refl, sym, ap, ◌∙◌}
use Rattle.std.specs.Prelude.{option_and_then}
use Rattle.std.specs.Result.{result_ok}
use Rattle.std.specs.List.{list_all, flat_map}
use Rattle.std.proofs.lemmas.Bool.{and_parts, and_from}
use Rattle.std.proofs.lemmas.List.Folds.{list_any-append}
use Rattle.ped_laws.specs.ped_flow.specs.ped_base.specs.Lists.{is_same_text, is_among}
use Rattle.ped_laws.specs.ped_flow.specs.ped_base.specs.declared.arithmetic.faults.Fault.{Fault}
use Rattle.ped_laws.specs.ped_flow.specs.ped_base.specs.Arithmetic.Arithmetic.{sum_of, difference_of, negation_of, product_of, quotient_of, power_of}
use Rattle.ped_laws.specs.ped_flow.specs.ped_tree.specs.declared.expressions.Intrinsic.{Intrinsic}
use Rattle.ped_laws.specs.ped_flow.specs.ped_tree.specs.Tree.{ExprTree, ExprTrees, Int, Var, Element, Neg, Add, Sub, Mul, Div, Pow, Call, no_exprs, more_exprs, StmtTree, StmtTrees, Assign, If, Do, Print, Read, Stop, Comment, no_stmts, more_stmts, ProgramTree}
use Rattle.ped_laws.specs.ped_flow.specs.ped_tree.specs.Numbering.{all_numbered, at_place, statement_with}
use Rattle.ped_laws.specs.ped_flow.specs.ped_tree.specs.Constants.NamedConstants.{value_named}
use Rattle.ped_laws.specs.ped_flow.specs.ped_tree.specs.Constants.ConstantExpressions.{constant_value, constant_values, unary_value, binary_value, onto, intrinsic_result}
use Rattle.ped_laws.specs.ped_flow.specs.ped_tree.proofs.NameLaws.Collected.{among_collected}
use Rattle.ped_laws.specs.ped_flow.specs.ped_affine.specs.Assigned.{assigned_left, assigned_in, assigned_in_all}
use Rattle.ped_laws.specs.ped_flow.specs.ped_affine.specs.Ranges.{Setting, is_steady, are_steady}
use Rattle.ped_laws.specs.ped_graph.specs.ped_symbols.specs.NameRefusals.{IsValid}
use Rattle.ped_laws.specs.ped_graph.specs.ped_symbols.specs.Kinds.{at_last, kind_by, kind_in, names_of}
use Rattle.ped_laws.specs.ped_graph.specs.ped_symbols.specs.Entries.{entry_of}
use Rattle.ped_laws.specs.ped_graph.specs.ped_symbols.specs.declared.symbols.Kind.{Kind}
use Rattle.ped_laws.specs.ped_graph.specs.ped_symbols.specs.declared.symbols.Kind.TheVariants.{Constant}
use Rattle.ped_laws.specs.ped_graph.specs.ped_symbols.specs.RightUses.RightUses.{is_scalar_kind, is_array_kind, is_scalar, has_rank, expr_is_right, exprs_are_right, is_rank, target_is_right, head_is_right, cond_is_right, stmt_is_right, stmts_are_right}
use Rattle.ped_laws.specs.ped_graph.specs.ped_symbols.specs.Uses.{expr_count}
use Rattle.ped_laws.specs.ped_graph.specs.ped_symbols.proofs.RightUseLaws.Whole.{right_program}
use Rattle.ped_laws.specs.ped_graph.specs.Dependences.{assigned_by, setting_in}
use Rattle.ped_laws.specs.Plain.Executions.{IsOneOf}
use Rattle.ped_laws.proofs.CoveringLaws.Comings.{some_one}
use Rattle.ped_laws.proofs.CoveringLaws.Texts.{text_is}
use Rattle.ped_laws.proofs.PlainLaws.Insides.{assigned_in_all_part}

none_of : (a b : Bool) → a ≡ false → b ≡ false → (a || b) ≡ false
none_of a b p q = λ i. p i || q i

-- a name with a value is none of a variable
module _ (t : ProgramTree) (x : List ℕ) (n : ℤ) (valued : value_named (at_last t).values x ≡ Some n) where
  not_kind : (test : Option Kind → Bool) → test None ≡ false → ((m : ℤ) → test (Some (Constant m)) ≡ false) → test (kind_in t x) ≡ true → ⊥
  not_kind test none constant h = go (is_among x (names_of t)) (value_named (at_last t).values x) valued h
    where
      go : (b : Bool) (o : Option ℤ) → o ≡ Some n → test (if b then Some (kind_by o (entry_of (at_last t).arrays x)) else None) ≡ true → ⊥
      go true None e k = absurd cc
      go true (Some m) e k = let z : false ≡ true = sym (constant m) ∙ k in absurd cc
      go false o e k = let z : false ≡ true = sym none ∙ k in absurd cc

  no_scalar : is_scalar (kind_in t) x ≡ true → ⊥
  no_scalar h = not_kind is_scalar_kind refl (λ m. refl) h

  no_array : (rank : ℕ) → has_rank (kind_in t) rank x ≡ true → ⊥
  no_array rank h = not_kind (is_array_kind rank) refl (λ m. refl) h

  scalar_other : (y : List ℕ) → is_scalar (kind_in t) y ≡ true → is_same_text x y ≡ false
  scalar_other y h = go (is_same_text x y) refl
    where
      go : (b : Bool) → is_same_text x y ≡ b → is_same_text x y ≡ false
      go true e = absurd (no_scalar (ap (is_scalar (kind_in t)) (text_is x y e) ∙ h))
      go false e = e

  array_other : (rank : ℕ) (y : List ℕ) → has_rank (kind_in t) rank y ≡ true → is_same_text x y ≡ false
  array_other rank y h = go (is_same_text x y) refl
    where
      go : (b : Bool) → is_same_text x y ≡ b → is_same_text x y ≡ false
      go true e = absurd (no_array rank (ap (has_rank (kind_in t) rank) (text_is x y e) ∙ h))
      go false e = e

  scalars_other : (ys : List (List ℕ)) → list_all (is_scalar (kind_in t)) ys ≡ true → is_among x ys ≡ false
  scalars_other [] h = refl
  scalars_other (y ∷ ys) h =
      let p = and_parts (is_scalar (kind_in t) y) (list_all (is_scalar (kind_in t)) ys) h in
      none_of (is_same_text x y) (is_among x ys) (scalar_other y p.0) (scalars_other ys p.1)

  in_neither : (a b : List (List ℕ)) → is_among x a ≡ false → is_among x b ≡ false → is_among x (a ++ b) ≡ false
  in_neither a b p q = list_any-append (is_same_text x) a b ∙ none_of (is_among x a) (is_among x b) p q

  target_other : (e : ExprTree) → target_is_right (kind_in t) e ≡ true → is_among x (assigned_left e) ≡ false
  target_other (Var y) h = none_of (is_same_text x y) false (scalar_other y h) refl
  target_other (Element y subscripts) h =
      let p = and_parts (has_rank (kind_in t) (expr_count subscripts) y && is_rank (expr_count subscripts)) (exprs_are_right (kind_in t) subscripts) h in
      let q = and_parts (has_rank (kind_in t) (expr_count subscripts) y) (is_rank (expr_count subscripts)) p.0 in
      none_of (is_same_text x y) false (array_other (expr_count subscripts) y q.0) refl
  target_other (Int m) h = refl
  target_other (Neg a) h = refl
  target_other (Add a b) h = refl
  target_other (Sub a b) h = refl
  target_other (Mul a b) h = refl
  target_other (Div a b) h = refl
  target_other (Pow a b) h = refl
  target_other (Call f arguments) h = refl

  targets_other : (items : List ExprTree) → list_all (target_is_right (kind_in t)) items ≡ true → is_among x (flat_map assigned_left items) ≡ false
  targets_other [] h = refl
  targets_other (e ∷ es) h =
      let p = and_parts (target_is_right (kind_in t) e) (list_all (target_is_right (kind_in t)) es) h in
      in_neither (assigned_left e) (flat_map assigned_left es) (target_other e p.0) (targets_other es p.1)

  mutual
    unassigned_in : (s : StmtTree) → stmt_is_right (kind_in t) s ≡ true → is_among x (assigned_in s) ≡ false
    unassigned_in (Assign left right) h = target_other left (and_parts (target_is_right (kind_in t) left) (expr_is_right (kind_in t) right) h).0
    unassigned_in (If condition a b) h =
        let p = and_parts (cond_is_right (kind_in t) condition && stmts_are_right (kind_in t) a) (stmts_are_right (kind_in t) b) h in
        let q = and_parts (cond_is_right (kind_in t) condition) (stmts_are_right (kind_in t) a) p.0 in
        in_neither (assigned_in_all a) (assigned_in_all b) (all_unassigned_in a q.1) (all_unassigned_in b p.1)
    unassigned_in (Do h b) k =
        let p = and_parts (head_is_right (kind_in t) h) (stmts_are_right (kind_in t) b) k in
        let private = and_parts _ (list_all (is_scalar (kind_in t)) h.private) p.0 in
        let step = and_parts _ (expr_is_right (kind_in t) h.step) private.0 in
        let last = and_parts _ (expr_is_right (kind_in t) h.last) step.0 in
        let variable = (and_parts (is_scalar (kind_in t) h.variable) (expr_is_right (kind_in t) h.first) last.0).0 in
        none_of (is_same_text x h.variable) (is_among x (h.private ++ assigned_in_all b)) (scalar_other h.variable variable)
        (in_neither h.private (assigned_in_all b) (scalars_other h.private private.1) (all_unassigned_in b p.1))
    unassigned_in (Print items) h = refl
    unassigned_in (Read items) h = targets_other items h
    unassigned_in Stop h = refl
    unassigned_in (Comment text) h = refl

    all_unassigned_in : (ss : StmtTrees) → stmts_are_right (kind_in t) ss ≡ true → is_among x (assigned_in_all ss) ≡ false
    all_unassigned_in no_stmts h = refl
    all_unassigned_in (more_stmts s rest) h =
        let p = and_parts (stmt_is_right (kind_in t) s) (stmts_are_right (kind_in t) rest) h in
        in_neither (assigned_in s) (assigned_in_all rest) (unassigned_in s p.0) (all_unassigned_in rest p.1)

-- a statement with a number is one of the program's
pub one_of_program : (u : StmtTree) (t : ProgramTree) (n : ℕ) → statement_with n t ≡ Some u → IsOneOf u (all_numbered t.body)
one_of_program u t n e = go (n == 0) e
  where
    one_at : (xs : List StmtTree) (i : ℕ) → at_place xs i ≡ Some u → IsOneOf u xs
    one_at [] i e = absurd cc
    one_at (x ∷ xs) i e = by (i == 0) (one_at xs (i - 1)) e
      where
        by : (b : Bool) → (at_place xs (i - 1) ≡ Some u → IsOneOf u xs) → (if b then Some x else at_place xs (i - 1)) ≡ Some u → (x ≡ u) ⊎ IsOneOf u xs
        by true rest k = inl (some_one x u k)
        by false rest k = inr (rest k)

    go : (b : Bool) → (if b then None else at_place (all_numbered t.body) (n - 1)) ≡ Some u → IsOneOf u (all_numbered t.body)
    go true k = absurd cc
    go false k = one_at (all_numbered t.body) (n - 1) k

-- no statement of a valid program assigns a name with a value
unassigned_at : (t : ProgramTree) (x : List ℕ) (n : ℤ) (o : ℕ) → IsValid t → value_named (at_last t).values x ≡ Some n → is_among x (assigned_by (statement_with o t)) ≡ false
unassigned_at t x n o valid e = go (statement_with o t) refl
  where
    by : (u : StmtTree) → statement_with o t ≡ Some u → (b : Bool) → is_among x (assigned_in u) ≡ b → is_among x (assigned_in u) ≡ false
    by u stands false k = k
    by u stands true k =
        let none = all_unassigned_in t x n e t.body (right_program t valid).statements in
        let some = assigned_in_all_part x u k t.body (one_of_program u t o stands) in
        absurd cc

    go : (s : Option StmtTree) → statement_with o t ≡ s → is_among x (assigned_by s) ≡ false
    go None k = refl
    go (Some (Do h b)) k = by (Do h b) k (is_among x (assigned_in (Do h b))) refl
    go (Some (Assign left right)) k = refl
    go (Some (If condition a b)) k = refl
    go (Some (Print items)) k = refl
    go (Some (Read items)) k = refl
    go (Some Stop) k = refl
    go (Some (Comment text)) k = refl

-- an outermost DO assigns no named constant
pub constants_kept : (t : ProgramTree) (o : ℕ) → IsValid t → (x : List ℕ) (n : ℤ) → value_named (at_last t).values x ≡ Some n → is_among x (setting_in t o).assigned ≡ false
constants_kept t o valid x n e = among_collected x [] (assigned_by (statement_with o t)) ∙ unassigned_at t x n o valid e

-- a constant expression is steady
module _ (s : Setting) (kept : (x : List ℕ) (n : ℤ) → value_named s.constants x ≡ Some n → is_among x s.assigned ≡ false) where
  operand : (f : ℤ → Result ℤ Fault) (a : Option ℤ) (n : ℤ) → unary_value f a ≡ Some n → (m : ℤ) × (a ≡ Some m)
  operand f None n h = absurd cc
  operand f (Some a) n h = (a, refl)

  operands : (f : ℤ → ℤ → Result ℤ Fault) (a b : Option ℤ) (n : ℤ) → binary_value f a b ≡ Some n → ((m : ℤ) × (a ≡ Some m)) × ((m : ℤ) × (b ≡ Some m))
  operands f None b n h = absurd cc
  operands f (Some a) None n h = absurd cc
  operands f (Some a) (Some b) n h = ((a, refl), (b, refl))

  arguments_of : (f : Intrinsic) (es : Option (List ℤ)) (n : ℤ) → option_and_then result_ok (option_and_then (intrinsic_result f) es) ≡ Some n → (ns : List ℤ) × (es ≡ Some ns)
  arguments_of f None n h = absurd cc
  arguments_of f (Some ns) n h = (ns, refl)

  parts : (a : Option ℤ) (rest : Option (List ℤ)) (ns : List ℤ) → onto a rest ≡ Some ns → ((m : ℤ) × (a ≡ Some m)) × ((ms : List ℤ) × (rest ≡ Some ms))
  parts None rest ns h = absurd cc
  parts (Some a) None ns h = absurd cc
  parts (Some a) (Some ms) ns h = ((a, refl), (ms, refl))

  -- both operands of an operation that has a value are steady where those with values are
  both : (f : ℤ → ℤ → Result ℤ Fault) (a b : ExprTree) (n : ℤ) → ((m : ℤ) → constant_value s.constants a ≡ Some m → is_steady s a ≡ true) → ((m : ℤ) → constant_value s.constants b ≡ Some m → is_steady s b ≡ true)
      → binary_value f (constant_value s.constants a) (constant_value s.constants b) ≡ Some n → (is_steady s a && is_steady s b) ≡ true
  both f a b n first second h = let p = operands f (constant_value s.constants a) (constant_value s.constants b) n h in and_from (is_steady s a) (is_steady s b) (first p.0.0 p.0.1) (second p.1.0 p.1.1)

  mutual
    pub steady_constant : (e : ExprTree) (n : ℤ) → constant_value s.constants e ≡ Some n → is_steady s e ≡ true
    steady_constant (Int m) n h = refl
    steady_constant (Var x) n h = ap not (kept x n h)
    steady_constant (Element x subscripts) n h = absurd cc
    steady_constant (Neg a) n h = let p = operand negation_of (constant_value s.constants a) n h in steady_constant a p.0 p.1
    steady_constant (Add a b) n h = both sum_of a b n (steady_constant a) (steady_constant b) h
    steady_constant (Sub a b) n h = both difference_of a b n (steady_constant a) (steady_constant b) h
    steady_constant (Mul a b) n h = both product_of a b n (steady_constant a) (steady_constant b) h
    steady_constant (Div a b) n h = both quotient_of a b n (steady_constant a) (steady_constant b) h
    steady_constant (Pow a b) n h = both power_of a b n (steady_constant a) (steady_constant b) h
    steady_constant (Call f arguments) n h = let p = arguments_of f (constant_values s.constants arguments) n h in steady_constants arguments p.0 p.1

    steady_constants : (es : ExprTrees) (ns : List ℤ) → constant_values s.constants es ≡ Some ns → are_steady s es ≡ true
    steady_constants no_exprs ns h = refl
    steady_constants (more_exprs e rest) ns h =
        let p = parts (constant_value s.constants e) (constant_values s.constants rest) ns h in
        and_from (is_steady s e) (are_steady s rest) (steady_constant e p.0.0 p.0.1) (steady_constants rest p.1.0 p.1.1)
