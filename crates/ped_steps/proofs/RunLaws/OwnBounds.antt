-- A piece of a run depends on the bounds of those arrays alone that its statements name.
use Rattle.std.proofs.Common.{◌≡◌, ℕ, ◌+◌, ℤ, List, [], ◌∷◌, ◌++◌, length, not, ◌&&◌, ◌||◌, Option, Some, None, Result, Ok, Err, if◌then◌else◌, refl, ◌∙◌}
use Rattle.std.proofs.lemmas.List.Folds.{list_any-append}
use Rattle.std.specs.List.{flat_map, join_with_byte}
use Rattle.ped_base.specs.Dimensions.{Dimensions}
use Rattle.ped_base.specs.Lists.{is_same_text, is_among}
use Rattle.std.specs.Fmt.{signed_decimal}
use Rattle.std.proofs.lemmas.Bool.{or_left, or_right}
use Rattle.ped_base.specs.Arithmetic.Arithmetic.{sum_of, difference_of, negation_of, product_of, quotient_of, power_of}
use Rattle.ped_tree.specs.Constants.NamedConstants.{value_named}
use Rattle.ped_tree.specs.Constants.ConstantExpressions.{intrinsic_result}
use Rattle.ped_tree.specs.Tree.{ExprTree, ExprTrees, Int, Var, Element, Neg, Add, Sub, Mul, Div, Pow, Call, no_exprs, more_exprs, CondTree, Rel, Not, And, Or, ItemTree, Value, Text, Head, StmtTree, StmtTrees, Assign, If, Do, Print, Read, Stop, Comment, no_stmts, more_stmts}
use Rattle.ped_tree.specs.NamesIn.{expr_names, exprs_names, cond_names, item_names, head_names, stmt_names, stmts_names}
use Rattle.ped_tree.specs.Numbering.{statement_count, statements_count}
use Rattle.ped_weaves.specs.ped_store.specs.Acts.{did}
use Rattle.ped_base.proofs.NameEquality.{same_itself}
use Rattle.ped_weaves.specs.ped_store.specs.Cells as cells
use Rattle.ped_weaves.specs.ped_store.specs.Cells.{In}
use Rattle.ped_weaves.specs.ped_store.specs.Stores.{Number, Store, put, lines_in, outside_bounds, storable}
use Rattle.ped_weaves.specs.ped_store.specs.Storage.{is_within}
use Rattle.ped_weaves.specs.ped_store.specs.DataLines.{Data, begun, next_value_of}
use Rattle.ped_weaves.specs.ped_eval.specs.Scopes.{Setting, Frame, Scope, Names, names_in, place_of}
use Rattle.ped_weaves.specs.ped_eval.specs.Evaluation.{◌>>>◌, given, numbered, read_cell}
use Rattle.ped_weaves.specs.ped_eval.specs.Values.{unary, binary, of_intrinsic, name_value, is_rank, element_cell, relation_holds, value, values, truth, target}
use Rattle.ped_weaves.specs.ped_eval.specs.Statements.{assigned, assignment_touches, print_touches, item_text, item_texts, printed_line, into_item, with_taken, taking, taking_from, reading}
use Rattle.ped_weaves.specs.ped_eval.specs.Loops.{limits, in_bounds, entered_with}
use Rattle.ped_weaves.specs.ped_eval.specs.Runs.{on, does, nothing_done, run_taking, then_run, run_from_entry, run, run_all}
use Rattle.ped_steps.specs.Runs.Pasting.{AgreeInBounds}

module _ (bounds others : List ℕ → Dimensions) where
  pub agree_left : (xs ys : List (List ℕ)) → AgreeInBounds bounds others (xs ++ ys) → AgreeInBounds bounds others xs
  agree_left xs ys h x k = h x (list_any-append (is_same_text x) xs ys ∙ or_left (is_among x xs) (is_among x ys) k)

  pub agree_right : (xs ys : List (List ℕ)) → AgreeInBounds bounds others (xs ++ ys) → AgreeInBounds bounds others ys
  agree_right xs ys h x k = h x (list_any-append (is_same_text x) xs ys ∙ or_right (is_among x xs) (is_among x ys) k)

  agree_first : (x : List ℕ) (xs : List (List ℕ)) → AgreeInBounds bounds others (x ∷ xs) → bounds x ≡ others x
  agree_first x xs h = h x (or_left (is_same_text x x) (is_among x xs) (same_itself x))

  agree_rest : (x : List ℕ) (xs : List (List ℕ)) → AgreeInBounds bounds others (x ∷ xs) → AgreeInBounds bounds others xs
  agree_rest x xs h y k = h y (or_right (is_same_text y x) (is_among y xs) k)

-- evaluations
module _ (g : Names) (others : List ℕ → Dimensions) where
  abbrev other : Names
  other = record { bounds = others; constants = g.constants; cell = g.cell; index = g.index }

  abbrev Agree : List (List ℕ) → Type 0
  Agree names = AgreeInBounds g.bounds others names

  element_same : (x : List ℕ) → g.bounds x ≡ others x → element_cell g x ≡ element_cell other x
  element_same x e i js = if is_rank (length js) && is_within (e i) js then Ok (cells.Element x js) else Err outside_bounds

  left : (a b : ExprTree) → Agree (expr_names a ++ expr_names b) → Agree (expr_names a)
  left a b h = agree_left g.bounds others (expr_names a) (expr_names b) h

  right : (a b : ExprTree) → Agree (expr_names a ++ expr_names b) → Agree (expr_names b)
  right a b h = agree_right g.bounds others (expr_names a) (expr_names b) h

  name_same : (o : Option ℤ) (x : List ℕ) (s : Store) → name_value o g x s ≡ name_value o other x s
  name_same (Some n) x s = refl
  name_same None x s = refl

  mutual
    value_same : (e : ExprTree) → Agree (expr_names e) → value g e ≡ value other e
    value_same (Int n) h = refl
    value_same (Var x) h = λ i s. name_same (value_named g.constants x) x s i
    value_same (Element x es) h =
        let subscripts = values_same es (agree_rest g.bounds others x (exprs_names es) h) in
        let element = element_same x (agree_first g.bounds others x (exprs_names es) h) in
        λ i s. subscripts i s >>> λ js. given (element i js) >>> read_cell s
    value_same (Neg a) h = let first = value_same a h in λ i s. unary negation_of (first i s)
    value_same (Add a b) h = let first = value_same a (left a b h) in let second = value_same b (right a b h) in λ i s. binary sum_of (first i s) (second i s)
    value_same (Sub a b) h = let first = value_same a (left a b h) in let second = value_same b (right a b h) in λ i s. binary difference_of (first i s) (second i s)
    value_same (Mul a b) h = let first = value_same a (left a b h) in let second = value_same b (right a b h) in λ i s. binary product_of (first i s) (second i s)
    value_same (Div a b) h = let first = value_same a (left a b h) in let second = value_same b (right a b h) in λ i s. binary quotient_of (first i s) (second i s)
    value_same (Pow a b) h = let first = value_same a (left a b h) in let second = value_same b (right a b h) in λ i s. binary power_of (first i s) (second i s)
    value_same (Call f es) h = let arguments = values_same es h in λ i s. arguments i s >>> λ us. given (of_intrinsic (intrinsic_result f us))

    values_same : (es : ExprTrees) → Agree (exprs_names es) → values g es ≡ values other es
    values_same no_exprs h = refl
    values_same (more_exprs e rest) h =
        let first = value_same e (agree_left g.bounds others (expr_names e) (exprs_names rest) h) in
        let second = values_same rest (agree_right g.bounds others (expr_names e) (exprs_names rest) h) in
        λ i s. first i s >>> λ u. second i s >>> λ us. given (Ok (u ∷ us))

  pub truth_same : (c : CondTree) → Agree (cond_names c) → truth g c ≡ truth other c
  truth_same (Rel r a b) h = let first = value_same a (left a b h) in let second = value_same b (right a b h) in λ i s. first i s >>> λ u. second i s >>> λ v. given (Ok (relation_holds r u v))
  truth_same (Not a) h = let first = truth_same a h in λ i s. first i s >>> λ u. given (Ok (not u))
  truth_same (And a b) h =
      let first = truth_same a (agree_left g.bounds others (cond_names a) (cond_names b) h) in
      let second = truth_same b (agree_right g.bounds others (cond_names a) (cond_names b) h) in
      λ i s. first i s >>> λ u. second i s >>> λ v. given (Ok (u && v))
  truth_same (Or a b) h =
      let first = truth_same a (agree_left g.bounds others (cond_names a) (cond_names b) h) in
      let second = truth_same b (agree_right g.bounds others (cond_names a) (cond_names b) h) in
      λ i s. first i s >>> λ u. second i s >>> λ v. given (Ok (u || v))

  target_same : (e : ExprTree) → Agree (expr_names e) → target g e ≡ target other e
  target_same (Var x) h = refl
  target_same (Element x es) h =
      let subscripts = values_same es (agree_rest g.bounds others x (exprs_names es) h) in
      let element = element_same x (agree_first g.bounds others x (exprs_names es) h) in
      λ i s. subscripts i s >>> λ js. given (element i js)
  target_same (Int n) h = refl
  target_same (Neg a) h = refl
  target_same (Add a b) h = refl
  target_same (Sub a b) h = refl
  target_same (Mul a b) h = refl
  target_same (Div a b) h = refl
  target_same (Pow a b) h = refl
  target_same (Call f es) h = refl

  assigned_same : (to from : ExprTree) → Agree (expr_names to ++ expr_names from) → assigned g to from ≡ assigned other to from
  assigned_same to from h =
      let first = value_same from (right to from h) in
      let second = target_same to (left to from h) in
      λ i s. first i s >>> λ v. second i s >>> λ c. given (storable v) >>> λ n. given (Ok (record { cell = c; number = n }))

  text_same : (item : ItemTree) → Agree (item_names item) → item_text g item ≡ item_text other item
  text_same (Value e) h = let first = value_same e h in λ i s. first i s >>> λ n. given (Ok (signed_decimal n))
  text_same (Text text) h = refl

  texts_same : (items : List ItemTree) → Agree (flat_map item_names items) → item_texts g items ≡ item_texts other items
  texts_same [] h = refl
  texts_same (item ∷ rest) h =
      let first = text_same item (agree_left g.bounds others (item_names item) (flat_map item_names rest) h) in
      let second = texts_same rest (agree_right g.bounds others (item_names item) (flat_map item_names rest) h) in
      λ i s. first i s >>> λ text. second i s >>> λ texts. given (Ok (text ∷ texts))

  line_same : (items : List ItemTree) → Agree (flat_map item_names items) → printed_line g items ≡ printed_line other items
  line_same items h = let texts = texts_same items h in λ i s. texts i s >>> λ texts. given (Ok (join_with_byte 32 texts))

  pub limits_same : (h : Head) → Agree (head_names h) → limits g h ≡ limits other h
  limits_same h k =
      let both = expr_names h.first ++ expr_names h.last in
      let names = agree_rest g.bounds others h.variable (both ++ expr_names h.step ++ h.private) (agree_right g.bounds others h.rejected (h.variable ∷ (both ++ expr_names h.step ++ h.private)) k) in
      let ends = agree_left g.bounds others both (expr_names h.step) (agree_left g.bounds others (both ++ expr_names h.step) h.private names) in
      let first = value_same h.first (left h.first h.last ends) in
      let last = value_same h.last (right h.first h.last ends) in
      λ i s. first i s >>> λ u. given (in_bounds u) >>> λ m. last i s >>> λ v. given (in_bounds v) >>> λ n. given (Ok (record { first = m; last = n }))

  taking_same : (items : List ExprTree) → Agree (flat_map expr_names items) → taking g items ≡ taking other items
  taking_same [] h = refl
  taking_same (item ∷ rest) h =
      let first = target_same item (agree_left g.bounds others (expr_names item) (flat_map expr_names rest) h) in
      let second = taking_same rest (agree_right g.bounds others (expr_names item) (flat_map expr_names rest) h) in
      λ i n d s. with_taken d (next_value_of d) λ v left. into_item n left v (first i s).seen (first i s).result λ m c. second i m left (put c (Number v) s)

  reading_same : (items : List ExprTree) → Agree (flat_map expr_names items) → reading g items ≡ reading other items
  reading_same items h = λ i s. by s (begun (lines_in (s In))) i
    where
      by : (s : Store) (r : Result Data ℕ) → taking_from g items r s ≡ taking_from other items r s
      by s (Ok d) = λ i. taking_same items h i 2 d s
      by s (Err fault) = refl

-- runs
module _ (p : Setting) (others : List ℕ → Dimensions) where
  -- the same with other bounds
  abbrev pub with_bounds : Setting
  with_bounds = record { bounds = others; constants = p.constants; number = p.number }

  mutual
    pub run_bounds : (t : StmtTree) (n : ℕ) (scope : Scope) → AgreeInBounds p.bounds others (stmt_names t) → run p t n scope ≡ run with_bounds t n scope
    run_bounds (Assign to from) n scope h =
        let e = assigned_same (names_in p scope) others to from h in
        λ i s. on (place_of p n scope) (e i s) λ seen w. does did (place_of p n scope) (assignment_touches seen w) nothing_done s
    run_bounds (If c a b) n scope h =
        let begin = agree_left p.bounds others (cond_names c ++ stmts_names a) (stmts_names b) h in
        let e = truth_same (names_in p scope) others c (agree_left p.bounds others (cond_names c) (stmts_names a) begin) in
        let first = all_bounds a (n + 1) scope (agree_right p.bounds others (cond_names c) (stmts_names a) begin) in
        let second = all_bounds b (n + 1 + statements_count a) scope (agree_right p.bounds others (cond_names c ++ stmts_names a) (stmts_names b) h) in
        λ i s. on (place_of p n scope) (e i s) λ seen holds. does did (place_of p n scope) (numbered 1 seen) (if holds then first i else second i) s
    run_bounds (Do hd b) n scope h =
        let e = limits_same (names_in p scope) others hd (agree_left p.bounds others (head_names hd) (stmts_names b) h) in
        let body = λ (f : Frame). all_bounds b (n + 1) (f ∷ scope) (agree_right p.bounds others (head_names hd) (stmts_names b) h) in
        λ i s. on (place_of p n scope) (e i s) λ seen l. run_from_entry seen (entered_with p n hd b seen l) scope (place_of p n scope) (λ f. body f i) s
    run_bounds (Print items) n scope h =
        let e = line_same (names_in p scope) others items h in
        λ i s. on (place_of p n scope) (e i s) λ seen line. does did (place_of p n scope) (print_touches seen line s) nothing_done s
    run_bounds (Read items) n scope h =
        let e = reading_same (names_in p scope) others items h in
        λ i s. run_taking (place_of p n scope) (e i s) (e i s).fault s
    run_bounds Stop n scope h = refl
    run_bounds (Comment text) n scope h = refl

    pub all_bounds : (ts : StmtTrees) (n : ℕ) (scope : Scope) → AgreeInBounds p.bounds others (stmts_names ts) → run_all p ts n scope ≡ run_all with_bounds ts n scope
    all_bounds no_stmts n scope h = refl
    all_bounds (more_stmts t rest) n scope h =
        let first = run_bounds t n scope (agree_left p.bounds others (stmt_names t) (stmts_names rest) h) in
        let second = all_bounds rest (n + statement_count t) scope (agree_right p.bounds others (stmt_names t) (stmts_names rest) h) in
        λ i s. then_run (first i s) (second i)
