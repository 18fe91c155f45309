-- In a valid program no act in an iteration of a DO writes the DO's variable.
use Rattle.std.proofs.Common.{◌≡◌, ℕ, ◌+◌, List, [], ◌∷◌, ◌++◌, length, Bool, true, false, not, ◌&&◌, ◌||◌, Option, Some, None, refl, sym, ap, ◌∙◌}
use Rattle.std.specs.Prelude.{nat_le, nat_lt}
use Rattle.std.specs.List.{list_all, flat_map}
use Rattle.std.proofs.lemmas.Bool.{both_ways, and_parts, not-true}
use Rattle.std.proofs.lemmas.List.Folds.{list_any-append}
use Rattle.ped_base.specs.Lists.{has_some, is_same_text, is_among}
use Rattle.ped_tree.specs.Tree.{ExprTree, Int, Var, Element, Neg, Add, Sub, Mul, Div, Pow, Call, Head, StmtTree, StmtTrees, Assign, If, Do, Print, Read, Stop, Comment, no_stmts, more_stmts, ProgramTree}
use Rattle.ped_tree.specs.Numbering.{numbered, all_numbered, statement_with, statement_count, statements_count}
use Rattle.ped_tree.specs.Printing.{private_text}
use Rattle.ped_base.proofs.NameEquality.{same_is, same_itself}
use Rattle.ped_tree.specs.Grammar.LimitNumbers.{most_characters, most_loops_nested, most_blocks_nested}
use Rattle.ped_tree.specs.Grammar.StatementForms.{are_names}
use Rattle.ped_tree.specs.Grammar.Words.{is_name}
use Rattle.ped_tree.specs.Grammar.ProgramRefusals.{scalar_of, assigned_by, meets}
use Rattle.ped_tree.specs.Grammar.Fits.{Surroundings, moved, in_if, in_loop, simple_fits, is_within, target_fits, expr_fits, private_fits, loop_fits, stmt_fits, stmts_fit, decls_fit, begins_with_statement, at_body}
use Rattle.ped_weaves.specs.ped_flow.specs.ped_affine.specs.Assigned.{assigned_left, assigned_in, assigned_in_all}
use Rattle.ped_weaves.specs.ped_graph.specs.ped_symbols.specs.declared.symbols.Kind.{Kind}
use Rattle.ped_weaves.specs.ped_graph.specs.ped_symbols.specs.declared.symbols.Kind.TheVariants.{Scalar, Array, Constant}
use Rattle.ped_weaves.specs.ped_graph.specs.ped_symbols.specs.Kinds.{kind_in}
use Rattle.ped_weaves.specs.ped_graph.specs.ped_symbols.specs.Uses.{expr_count}
use Rattle.ped_weaves.specs.ped_graph.specs.ped_symbols.specs.NameRefusals.{IsValid}
use Rattle.ped_weaves.specs.ped_graph.specs.ped_symbols.specs.RightUses.RightUses.{NameKinds, is_scalar_kind, is_array_kind, is_scalar, expr_is_right, exprs_are_right, target_is_right, cond_is_right, head_is_right, stmt_is_right, stmts_are_right, has_rank, is_rank}
use Rattle.ped_weaves.specs.ped_graph.specs.ped_symbols.proofs.RightUseLaws.Whole.{right_program}
use Rattle.ped_weaves.specs.ped_laws.proofs.FlowRunLaws.Standing.{Stand, whole_stands, first_stands, rest_stands, inner_stands, else_stands, is_there}
use Rattle.ped_steps.proofs.RunLaws.RunCells.{EachDo, EachDos}

none_of : (a b : Bool) → a || b ≡ false → (a ≡ false) × (b ≡ false)
none_of true b e = absurd cc
none_of false b e = (refl, e)

among_both : (y : List ℕ) (xs ys : List (List ℕ)) → is_among y xs ≡ false → is_among y ys ≡ false → is_among y (xs ++ ys) ≡ false
among_both y xs ys h k = list_any-append (is_same_text y) xs ys ∙ (λ i. h i || k i)

meets_append : (xs ys others : List (List ℕ)) → meets (xs ++ ys) others ≡ false → (meets xs others ≡ false) × (meets ys others ≡ false)
meets_append xs ys others h = none_of (meets xs others) (meets ys others) (sym (list_any-append (λ x. is_among x others) xs ys) ∙ h)

-- a name that is one of the others isn't among names that meet none of them
apart_from : (v : List ℕ) (names others : List (List ℕ)) → is_among v others ≡ true → meets names others ≡ false → is_among v names ≡ false
apart_from v [] others i h = refl
apart_from v (y ∷ ys) others i h = go (is_same_text v y) refl (apart_from v ys others i)
  where
    parts : (is_among y others ≡ false) × (meets ys others ≡ false)
    parts = none_of (is_among y others) (meets ys others) h

    go : (b : Bool) → is_same_text v y ≡ b → (meets ys others ≡ false → is_among v ys ≡ false) → b || is_among v ys ≡ false
    go true e more = absurd (both_ways (is_among y others) parts.0 (ap (λ (z : List ℕ). is_among z others) (sym (same_is v y e)) ∙ i))
    go false e more = more parts.1

other_name : (v y : List ℕ) (others : List (List ℕ)) → is_among v others ≡ true → is_among y others ≡ false → is_same_text v y ≡ false
other_name v y others i h = go (is_same_text v y) refl
  where
    go : (b : Bool) → is_same_text v y ≡ b → b ≡ false
    go true e = absurd (both_ways (is_among y others) h (ap (λ (z : List ℕ). is_among z others) (sym (same_is v y e)) ∙ i))
    go false e = refl

-- the variable of a DO is that of no DO round it, and it is a scalar
variable_free : (p : Surroundings) (h : Head) (body : StmtTrees) → loop_fits p h body ≡ true → is_among h.variable p.variables ≡ false
variable_free p h body f =
    let a = and_parts _ (list_all is_name h.rejected) f in
    let b = and_parts _ (private_fits p h) a.0 in
    let c = and_parts _ (nat_lt p.depth most_blocks_nested) b.0 in
    let d = and_parts _ (nat_lt (length p.variables) most_loops_nested) c.0 in
    let e = and_parts _ (not (is_among h.variable p.private)) d.0 in
    not-true (is_among h.variable p.variables) (and_parts _ (not (is_among h.variable p.variables)) e.0).1

variable_scalar : (k : NameKinds) (h : Head) → head_is_right k h ≡ true → is_scalar k h.variable ≡ true
variable_scalar k h r =
    let a = and_parts _ (list_all (is_scalar k) h.private) r in
    let b = and_parts _ (expr_is_right k h.step) a.0 in
    let c = and_parts _ (expr_is_right k h.last) b.0 in
    (and_parts (is_scalar k h.variable) (expr_is_right k h.first) c.0).0

module _ (k : NameKinds) where
  no_array : (v : List ℕ) (n : ℕ) → is_scalar k v ≡ true → has_rank k n v ≡ true → ⊥
  no_array v n s r = go (k v) s r
    where
      go : (o : Option Kind) → is_scalar_kind o ≡ true → is_array_kind n o ≡ true → ⊥
      go None s r = absurd cc
      go (Some Scalar) s r = absurd cc
      go (Some (Array d)) s r = absurd cc
      go (Some (Constant m)) s r = absurd cc

  module _ (v : List ℕ) (scalar : is_scalar k v ≡ true) where
    left_spared : (others : List (List ℕ)) (left : ExprTree) → is_among v others ≡ true → target_is_right k left ≡ true → meets (scalar_of left) others ≡ false → is_among v (assigned_left left) ≡ false
    left_spared others (Var y) i r h = apart_from v (y ∷ []) others i h
    left_spared others (Element y es) i r h = go (is_same_text v y) refl
      where
        go : (b : Bool) → is_same_text v y ≡ b → b || false ≡ false
        go true e = absurd (no_array v (expr_count es) scalar (ap (has_rank k (expr_count es)) (same_is v y e) ∙ (and_parts (has_rank k (expr_count es) y) (is_rank (expr_count es)) (and_parts _ (exprs_are_right k es) r).0).0))
        go false e = refl
    left_spared others (Int n) i r h = refl
    left_spared others (Neg a) i r h = refl
    left_spared others (Add a b) i r h = refl
    left_spared others (Sub a b) i r h = refl
    left_spared others (Mul a b) i r h = refl
    left_spared others (Div a b) i r h = refl
    left_spared others (Pow a b) i r h = refl
    left_spared others (Call f es) i r h = refl

    lefts_spared : (others : List (List ℕ)) (items : List ExprTree) → is_among v others ≡ true → list_all (target_is_right k) items ≡ true → meets (flat_map scalar_of items) others ≡ false → is_among v (flat_map assigned_left items) ≡ false
    lefts_spared others [] i r h = refl
    lefts_spared others (item ∷ items) i r h =
        let both = and_parts (target_is_right k item) (list_all (target_is_right k) items) r in
        let none = meets_append (scalar_of item) (flat_map scalar_of items) others h in
        among_both v (assigned_left item) (flat_map assigned_left items) (left_spared others item i both.0 none.0) (lefts_spared others items i both.1 none.1)

    simple_unmet : (p : Surroundings) (s : StmtTree) → simple_fits p s ≡ true → meets (assigned_by s) p.variables ≡ false
    simple_unmet p s h = not-true (meets (assigned_by s) p.variables) (and_parts (is_within p s) (not (meets (assigned_by s) p.variables)) (and_parts _ _ h).0).1

    private_spared : (names others : List (List ℕ)) (variable : List ℕ) (a b : Bool) → is_among v others ≡ true → (not (has_some names) || ((a && b) && not (meets names (variable ∷ others)))) ≡ true → is_among v names ≡ false
    private_spared [] others variable a b i h = refl
    private_spared (y ∷ ys) others variable a b i h = apart_from v (y ∷ ys) (variable ∷ others) (more (is_same_text v variable)) (not-true (meets (y ∷ ys) (variable ∷ others)) (and_parts (a && b) (not (meets (y ∷ ys) (variable ∷ others))) h).1)
      where
        more : (c : Bool) → c || is_among v others ≡ true
        more true = refl
        more false = i

    mutual
      -- statements in a DO assign no variable of a DO round them
      stmt_spared : (p : Surroundings) (s : StmtTree) → is_among v p.variables ≡ true → stmt_fits p s ≡ true → stmt_is_right k s ≡ true → is_among v (assigned_in s) ≡ false
      stmt_spared p (Assign left right) i h r =
          left_spared p.variables left i (and_parts (target_is_right k left) (expr_is_right k right) r).0
          (simple_unmet p (Assign left right) (and_parts (simple_fits p (Assign left right)) (target_fits left) (and_parts _ (expr_fits right) h).0).0)
      stmt_spared p (If condition a b) i h r =
          let last = and_parts _ (stmts_fit (in_if p (1 + statements_count a)) b) h in
          let front = and_parts _ (stmts_fit (in_if p 1) a) last.0 in
          let right = and_parts (cond_is_right k condition && stmts_are_right k a) (stmts_are_right k b) r in
          among_both v (assigned_in_all a) (assigned_in_all b) (stmts_spared (in_if p 1) a i front.1 (and_parts (cond_is_right k condition) (stmts_are_right k a) right.0).1)
          (stmts_spared (in_if p (1 + statements_count a)) b i last.1 right.1)
      stmt_spared p (Do h body) i f r =
          let both = and_parts (loop_fits p h body) (stmts_fit (in_loop p h) body) f in
          let listed = and_parts _ (list_all _ h.rejected) both.0 in
          let front = and_parts _ (private_fits p h) listed.0 in
          let other : is_among h.variable p.variables ≡ false = variable_free p h body both.0 in
          λ j. other_name v h.variable p.variables i other j || among_both v h.private (assigned_in_all body)
          (private_spared h.private p.variables h.variable (are_names h.private) (nat_le (length (private_text h.private)) most_characters) i front.1)
          (stmts_spared (in_loop p h) body (more (is_same_text v h.variable)) both.1 (and_parts (head_is_right k h) (stmts_are_right k body) r).1) j
        where
          more : (c : Bool) → c || is_among v p.variables ≡ true
          more true = refl
          more false = i
      stmt_spared p (Print items) i h r = refl
      stmt_spared p (Read items) i h r = lefts_spared p.variables items i r (simple_unmet p (Read items) (and_parts (simple_fits p (Read items)) (list_all target_fits items) h).0)
      stmt_spared p Stop i h r = refl
      stmt_spared p (Comment text) i h r = refl

      stmts_spared : (p : Surroundings) (ss : StmtTrees) → is_among v p.variables ≡ true → stmts_fit p ss ≡ true → stmts_are_right k ss ≡ true → is_among v (assigned_in_all ss) ≡ false
      stmts_spared p no_stmts i h r = refl
      stmts_spared p (more_stmts s rest) i h r =
          let both = and_parts (stmt_fits p s) (stmts_fit (moved p (statement_count s)) rest) h in
          let right = and_parts (stmt_is_right k s) (stmts_are_right k rest) r in
          among_both v (assigned_in s) (assigned_in_all rest) (stmt_spared p s i both.0 right.0) (stmts_spared (moved p (statement_count s)) rest i both.1 right.1)

module _ (t : ProgramTree) (k : NameKinds) where
  -- the DO stands in the program under this number, and its body doesn't assign its variable
  abbrev pub IsUnassigned : ℕ → Head → StmtTrees → Type 0
  IsUnassigned n h body = (statement_with n t ≡ Some (Do h body)) × (is_among h.variable (assigned_in_all body) ≡ false)

  itself_among : (v : List ℕ) (others : List (List ℕ)) → is_among v (v ∷ others) ≡ true
  itself_among v others = ap (λ (b : Bool). b || is_among v others) (same_itself v)

  mutual
    each_unassigned : (p : Surroundings) (s : StmtTree) (n : ℕ) → Stand t n (numbered s) → stmt_fits p s ≡ true → stmt_is_right k s ≡ true → EachDo IsUnassigned s n
    each_unassigned p (Assign left right) n st h r = tt
    each_unassigned p (If condition a b) n st h r =
        let last = and_parts _ (stmts_fit (in_if p (1 + statements_count a)) b) h in
        let front = and_parts _ (stmts_fit (in_if p 1) a) last.0 in
        let right = and_parts (cond_is_right k condition && stmts_are_right k a) (stmts_are_right k b) r in
        let inside = inner_stands t (If condition a b) (all_numbered a ++ all_numbered b) n st in (
          all_unassigned_in (in_if p 1) a (n + 1) (first_stands t (n + 1) (all_numbered a) (all_numbered b) inside) front.1 (and_parts (cond_is_right k condition) (stmts_are_right k a) right.0).1,
          all_unassigned_in (in_if p (1 + statements_count a)) b (n + 1 + statements_count a) (else_stands t a b (n + 1) inside) last.1 right.1,
        )
    each_unassigned p (Do h body) n st f r =
        let both = and_parts (loop_fits p h body) (stmts_fit (in_loop p h) body) f in
        let right = and_parts (head_is_right k h) (stmts_are_right k body) r in (
          (is_there t (Do h body) (all_numbered body) n st, stmts_spared k h.variable (variable_scalar k h right.0) (in_loop p h) body (itself_among h.variable p.variables) both.1 right.1),
          all_unassigned_in (in_loop p h) body (n + 1) (inner_stands t (Do h body) (all_numbered body) n st) both.1 right.1,
        )
    each_unassigned p (Print items) n st h r = tt
    each_unassigned p (Read items) n st h r = tt
    each_unassigned p Stop n st h r = tt
    each_unassigned p (Comment text) n st h r = tt

    all_unassigned_in : (p : Surroundings) (ss : StmtTrees) (n : ℕ) → Stand t n (all_numbered ss) → stmts_fit p ss ≡ true → stmts_are_right k ss ≡ true → EachDos IsUnassigned ss n
    all_unassigned_in p no_stmts n st h r = tt
    all_unassigned_in p (more_stmts s rest) n st h r =
        let both = and_parts (stmt_fits p s) (stmts_fit (moved p (statement_count s)) rest) h in
        let right = and_parts (stmt_is_right k s) (stmts_are_right k rest) r in (
          each_unassigned p s n (first_stands t n (numbered s) (all_numbered rest) st) both.0 right.0,
          all_unassigned_in (moved p (statement_count s)) rest (n + statement_count s) (rest_stands t s rest n st) both.1 right.1,
        )

-- so it is with each DO of a valid program
pub variables_unassigned : (t : ProgramTree) → IsValid t → EachDos (IsUnassigned t (kind_in t)) t.body 1
variables_unassigned t valid =
    let both = and_parts _ (begins_with_statement t.body) valid.fits in
    all_unassigned_in t (kind_in t) (at_body t) t.body 1 (whole_stands t) (and_parts (decls_fit 0 t.decls) (stmts_fit (at_body t) t.body) both.0).1 (right_program t valid).statements
