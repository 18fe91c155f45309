-- What a unit's statements are expanded to depends only on what stands for the names in them.
use Rattle.std.proofs.Common.{◌≡◌, ℕ, List, [], ◌∷◌, ◌++◌, map, Bool, true, false, ◌||◌, Option, Some, None, refl, sym, ap, subst, ◌∙◌}
use Rattle.std.specs.List.{flat_map}
use Rattle.ped_base.specs.Lists.{is_among}
use Rattle.ped_base.proofs.NameEquality.{same_itself}
use Rattle.ped_tree.specs.Tree.{ExprTree, ExprTrees, Int, Var, Element, Neg, Add, Sub, Mul, Div, Pow, Call, no_exprs, more_exprs, CondTree, Rel, Not, And, Or, ItemTree, Value, Text, Head, StmtTree, StmtTrees, Assign, If, Do, Print, Read, Stop, Comment, no_stmts, more_stmts}
use Rattle.ped_tree.specs.NamesIn.{expr_names, exprs_names, cond_names, item_names, head_names, stmt_names, stmts_names}
use Rattle.ped_tree.proofs.NameLaws.Collected.{among_append}
use Rattle.ped_links.specs.ped_symbols.specs.Entries.{entry_of}
use Rattle.ped_links.specs.ped_symbols.proofs.RightUseLaws.Occurring.{occurs_first}
use Rattle.ped_links.specs.ped_units.specs.Forms.{Called}
use Rattle.ped_links.specs.ped_units.specs.Units.{ProgramUnit, call_of, instead_of, with_calls, all_with_calls}
use Rattle.ped_links.specs.ped_units.specs.Expanding.{Given, Meanings, or_itself, name_or, name_meant, replaced, all_replaced, cond_replaced, item_replaced, head_replaced, Expanded, expanded_or, if_expanded, do_expanded, then_expanded, expanded_in, all_expanded_in, naming_arguments, body_names}
use Rattle.ped_links.specs.ped_units.proofs.CollectedNames.{names_of_arguments}
use Rattle.ped_calls.specs.Binding.{StandAlike, local_meanings}

or_true : (b : Bool) → b || true ≡ true
or_true true = refl
or_true false = refl

-- for the first of two lists of names
alike_left : (xs ys : List (List ℕ)) (m n : Meanings) → StandAlike (xs ++ ys) m n → StandAlike xs m n
alike_left xs ys m n h x k = h x (among_append x xs ys ∙ ap (λ (t : Bool). t || is_among x ys) k)

-- for the second
alike_right : (xs ys : List (List ℕ)) (m n : Meanings) → StandAlike (xs ++ ys) m n → StandAlike ys m n
alike_right xs ys m n h x k = h x (among_append x xs ys ∙ ap (λ (t : Bool). is_among x xs || t) k ∙ or_true (is_among x xs))

-- for the first name
alike_first : (x : List ℕ) (xs : List (List ℕ)) (m n : Meanings) → StandAlike (x ∷ xs) m n → entry_of m x ≡ entry_of n x
alike_first x xs m n h = h x (ap (λ (t : Bool). t || is_among x xs) (same_itself x))

-- for the others
alike_rest : (x : List ℕ) (xs : List (List ℕ)) (m n : Meanings) → StandAlike (x ∷ xs) m n → StandAlike xs m n
alike_rest x xs m n h = alike_right (x ∷ []) xs m n h

same_name : (x : List ℕ) (xs : List (List ℕ)) (m n : Meanings) → StandAlike (x ∷ xs) m n → name_meant m x ≡ name_meant n x
same_name x xs m n h = ap (λ (o : Option ExprTree). name_or x (or_itself x o)) (alike_first x xs m n h)

mutual
  -- an expression
  same_expr : (m n : Meanings) (e : ExprTree) → StandAlike (expr_names e) m n → replaced m e ≡ replaced n e
  same_expr m n (Int k) h = refl
  same_expr m n (Var x) h = ap (or_itself x) (alike_first x [] m n h)
  same_expr m n (Element x subscripts) h = λ i. Element (same_name x (exprs_names subscripts) m n h i) (same_exprs m n subscripts (alike_rest x (exprs_names subscripts) m n h) i)
  same_expr m n (Neg a) h = ap Neg (same_expr m n a h)
  same_expr m n (Add a b) h = λ i. Add (same_expr m n a (alike_left (expr_names a) (expr_names b) m n h) i) (same_expr m n b (alike_right (expr_names a) (expr_names b) m n h) i)
  same_expr m n (Sub a b) h = λ i. Sub (same_expr m n a (alike_left (expr_names a) (expr_names b) m n h) i) (same_expr m n b (alike_right (expr_names a) (expr_names b) m n h) i)
  same_expr m n (Mul a b) h = λ i. Mul (same_expr m n a (alike_left (expr_names a) (expr_names b) m n h) i) (same_expr m n b (alike_right (expr_names a) (expr_names b) m n h) i)
  same_expr m n (Div a b) h = λ i. Div (same_expr m n a (alike_left (expr_names a) (expr_names b) m n h) i) (same_expr m n b (alike_right (expr_names a) (expr_names b) m n h) i)
  same_expr m n (Pow a b) h = λ i. Pow (same_expr m n a (alike_left (expr_names a) (expr_names b) m n h) i) (same_expr m n b (alike_right (expr_names a) (expr_names b) m n h) i)
  same_expr m n (Call f arguments) h = ap (Call f) (same_exprs m n arguments h)

  -- expressions
  same_exprs : (m n : Meanings) (es : ExprTrees) → StandAlike (exprs_names es) m n → all_replaced m es ≡ all_replaced n es
  same_exprs m n no_exprs h = refl
  same_exprs m n (more_exprs e rest) h =
      λ i. more_exprs (same_expr m n e (alike_left (expr_names e) (exprs_names rest) m n h) i) (same_exprs m n rest (alike_right (expr_names e) (exprs_names rest) m n h) i)

same_cond : (m n : Meanings) (c : CondTree) → StandAlike (cond_names c) m n → cond_replaced m c ≡ cond_replaced n c
same_cond m n (Rel r a b) h = λ i. Rel r (same_expr m n a (alike_left (expr_names a) (expr_names b) m n h) i) (same_expr m n b (alike_right (expr_names a) (expr_names b) m n h) i)
same_cond m n (Not a) h = ap Not (same_cond m n a h)
same_cond m n (And a b) h = λ i. And (same_cond m n a (alike_left (cond_names a) (cond_names b) m n h) i) (same_cond m n b (alike_right (cond_names a) (cond_names b) m n h) i)
same_cond m n (Or a b) h = λ i. Or (same_cond m n a (alike_left (cond_names a) (cond_names b) m n h) i) (same_cond m n b (alike_right (cond_names a) (cond_names b) m n h) i)

same_item : (m n : Meanings) (item : ItemTree) → StandAlike (item_names item) m n → item_replaced m item ≡ item_replaced n item
same_item m n (Value e) h = ap Value (same_expr m n e h)
same_item m n (Text text) h = refl

same_items : (m n : Meanings) (items : List ItemTree) → StandAlike (flat_map item_names items) m n → map (item_replaced m) items ≡ map (item_replaced n) items
same_items m n [] h = refl
same_items m n (item ∷ items) h =
    λ i. same_item m n item (alike_left (item_names item) (flat_map item_names items) m n h) i ∷ same_items m n items (alike_right (item_names item) (flat_map item_names items) m n h) i

same_lefts : (m n : Meanings) (items : List ExprTree) → StandAlike (flat_map expr_names items) m n → map (replaced m) items ≡ map (replaced n) items
same_lefts m n [] h = refl
same_lefts m n (e ∷ es) h = λ i. same_expr m n e (alike_left (expr_names e) (flat_map expr_names es) m n h) i ∷ same_lefts m n es (alike_right (expr_names e) (flat_map expr_names es) m n h) i

same_names : (m n : Meanings) (names : List (List ℕ)) → StandAlike names m n → map (name_meant m) names ≡ map (name_meant n) names
same_names m n [] h = refl
same_names m n (x ∷ xs) h = λ i. same_name x xs m n h i ∷ same_names m n xs (alike_rest x xs m n h) i

-- the head of a DO
same_head : (m n : Meanings) (d : Head) → StandAlike (head_names d) m n → head_replaced m d ≡ head_replaced n d
same_head m n d h =
    let numbers = expr_names d.first ++ expr_names d.last ++ expr_names d.step in
    let behind = alike_right d.rejected (d.variable ∷ (numbers ++ d.private)) m n h in
    let others = alike_rest d.variable (numbers ++ d.private) m n behind in
    let three = alike_left numbers d.private m n others in
    let two = alike_left (expr_names d.first ++ expr_names d.last) (expr_names d.step) m n three in
    λ i. record {
      variable = same_name d.variable (numbers ++ d.private) m n behind i;
      first = same_expr m n d.first (alike_left (expr_names d.first) (expr_names d.last) m n two) i;
      last = same_expr m n d.last (alike_right (expr_names d.first) (expr_names d.last) m n two) i;
      step = same_expr m n d.step (alike_right (expr_names d.first ++ expr_names d.last) (expr_names d.step) m n three) i;
      parallel = d.parallel;
      private = same_names m n d.private (alike_right numbers d.private m n others) i;
      rejected = d.rejected;
    }

-- a statement and the state after it
abbrev beside : {S : Type 0} → S → StmtTree → Expanded S
beside state s = record { statement = s; state = state }

-- an assignment, or the CALL that it is
same_assignment : {S : Type 0} (m n : Meanings) (f : Called → S → Expanded S) (left right : ExprTree) (state : S) (o : Option Called) → StandAlike (stmt_names (instead_of naming_arguments (Assign left right) o)) m n
    → expanded_or m f (Assign (replaced m left) (replaced m right)) state o ≡ expanded_or n f (Assign (replaced n left) (replaced n right)) state o
same_assignment {S} m n f left right state None h =
    ap (beside {S = S} state) (λ i. Assign (same_expr m n left (alike_left (expr_names left) (expr_names right) m n h) i) (same_expr m n right (alike_right (expr_names left) (expr_names right) m n h) i))
same_assignment {S} m n f left right state (Some c) h =
    let named : StandAlike (exprs_names c.arguments) m n = subst (λ (names : List (List ℕ)). StandAlike names m n) (sym (names_of_arguments c.arguments)) h in
    ap (λ (es : ExprTrees). f (record { name = c.name; arguments = es }) state) (same_exprs m n c.arguments named)

mutual
  -- a statement
  same_stmt : {S : Type 0} (m n : Meanings) (f : Called → S → Expanded S) (s : StmtTree) (state : S) → StandAlike (stmt_names (with_calls naming_arguments s)) m n → expanded_in m f s state ≡ expanded_in n f s state
  same_stmt {S} m n f (Assign left right) state h = same_assignment m n f left right state (call_of left right) h
  same_stmt {S} m n f (If condition then_part else_part) state h =
      let thens = stmts_names (all_with_calls naming_arguments then_part) in
      let elses = stmts_names (all_with_calls naming_arguments else_part) in
      let both = alike_left (cond_names condition ++ thens) elses m n h in
      λ i. if_expanded (same_cond m n condition (alike_left (cond_names condition) thens m n both) i)
      (same_stmts m n f then_part state (alike_right (cond_names condition) thens m n both) i)
      (λ t. same_stmts m n f else_part t (alike_right (cond_names condition ++ thens) elses m n h) i)
  same_stmt {S} m n f (Do d body) state h =
      let inner = stmts_names (all_with_calls naming_arguments body) in
      λ i. do_expanded (same_head m n d (alike_left (head_names d) inner m n h) i) (same_stmts m n f body state (alike_right (head_names d) inner m n h) i)
  same_stmt {S} m n f (Print items) state h = ap (λ (x : List ItemTree). beside {S = S} state (Print x)) (same_items m n items h)
  same_stmt {S} m n f (Read items) state h = ap (λ (x : List ExprTree). beside {S = S} state (Read x)) (same_lefts m n items h)
  same_stmt {S} m n f Stop state h = refl
  same_stmt {S} m n f (Comment text) state h = refl

  -- statements
  pub same_stmts : {S : Type 0} (m n : Meanings) (f : Called → S → Expanded S) (ss : StmtTrees) (state : S) → StandAlike (stmts_names (all_with_calls naming_arguments ss)) m n → all_expanded_in m f ss state ≡ all_expanded_in n f ss state
  same_stmts {S} m n f no_stmts state h = refl
  same_stmts {S} m n f (more_stmts s rest) state h =
      let first = stmt_names (with_calls naming_arguments s) in
      let others = stmts_names (all_with_calls naming_arguments rest) in
      λ i. then_expanded (same_stmt m n f s state (alike_left first others m n h) i) (λ t. same_stmts m n f rest t (alike_right first others m n h) i)

-- the statements of a unit, whose names have these meanings
pub body_same : (inner : Called → Given → Expanded Given) (v : ProgramUnit) (m formals : Meanings) (g now : Given) (body : StmtTrees) → StandAlike (body_names v) m (local_meanings v formals g).meanings
    → now ≡ (local_meanings v formals g).given → body ≡ v.tree.body
    → all_expanded_in m inner body now ≡ all_expanded_in (local_meanings v formals g).meanings inner v.tree.body (local_meanings v formals g).given
body_same inner v m formals g now body h given is =
    let names = stmts_names (all_with_calls naming_arguments v.tree.body) in
    let alike : StandAlike names m (local_meanings v formals g).meanings = λ x k. h x (occurs_first names x ∙ k) in
    (λ i. all_expanded_in m inner (is i) (given i)) ∙ same_stmts m (local_meanings v formals g).meanings inner v.tree.body (local_meanings v formals g).given alike
