-- Which names are written where an expression stands for a scalar: no new ones, but for the name of an array of which it is an element. And the variables of the DO loops stay.
use Rattle.std.proofs.Common.{◌≡◌, ℕ, List, [], ◌∷◌, ◌++◌, map, Bool, true, false, refl, sym, ap, ◌∙◌, append_assoc, if◌then◌else◌}
use Rattle.std.specs.Prelude.{◌||◌, ◌&&◌}
use Rattle.std.specs.List.{list_any, list_all}
use Rattle.std.proofs.lemmas.Bool.{and_parts, or_parts}
use Rattle.ped_base.specs.Lists.{is_same_text, is_among}
use Rattle.ped_tree.specs.Tree.{ExprTree, Int, Var, Element, Neg, Add, Sub, Mul, Div, Pow, Call, StmtTree, StmtTrees, Assign, If, Do, Print, Read, Stop, Comment, no_stmts, more_stmts}
use Rattle.ped_tree.specs.NamesIn.{loop_variables, all_loop_variables}
use Rattle.ped_loop_runs.specs.ped_symbolic.specs.Substitution.{substituted, statement_substituted, statements_substituted}
use Rattle.ped_loop_runs.specs.ped_symbols.specs.RightUses.RightUses.{NameKinds, expr_is_right, target_is_right, cond_is_right, head_is_right, stmt_is_right, stmts_are_right}
use Rattle.ped_loop_runs.specs.ped_steps.specs.Replacing.{followed}
use Rattle.ped_loop_runs.specs.ped_steps.specs.Runs.Gaps.{Gap, at_front, past, in_then, in_else, in_body, filled}
use Rattle.ped_loop_runs.specs.Writing.{writes_name, writes_left, writes, all_write, writes_index, some_write_index}

module _ (x : List ℕ) (by : ExprTree) where
  mutual
    pub variables_stay : (s : StmtTree) → loop_variables (statement_substituted x by s) ≡ loop_variables s
    variables_stay (Assign left right) = refl
    variables_stay (If c a b) = λ i. all_variables_stay a i ++ all_variables_stay b i
    variables_stay (Do h body) = λ i. h.variable ∷ all_variables_stay body i
    variables_stay (Print items) = refl
    variables_stay (Read items) = refl
    variables_stay Stop = refl
    variables_stay (Comment text) = refl

    pub all_variables_stay : (ss : StmtTrees) → all_loop_variables (statements_substituted x by ss) ≡ all_loop_variables ss
    all_variables_stay no_stmts = refl
    all_variables_stay (more_stmts s rest) = λ i. variables_stay s i ++ all_variables_stay rest i

module _ (constants : List (List ℕ)) (w : List ℕ) where
  -- what isn't the name doesn't write it
  pub other_unwritten : (y : List ℕ) → is_same_text w y ≡ false → writes_name constants w y ≡ false
  other_unwritten y e = go (is_among y constants)
    where
      go : (b : Bool) → (if b then false else is_same_text w y) ≡ false
      go true = refl
      go false = e

  module _ (k : NameKinds) (x : List ℕ) (by : ExprTree) (no_left : writes_left constants w by ≡ false) where
    left_unwritten : (e : ExprTree) → target_is_right k e ≡ true → writes_left constants w e ≡ false → writes_left constants w (substituted x by e) ≡ false
    left_unwritten (Var y) r h = go (is_same_text x y)
      where
        go : (b : Bool) → writes_left constants w (if b then by else Var y) ≡ false
        go true = no_left
        go false = h
    left_unwritten (Element y es) r h = h
    left_unwritten (Int n) r h = absurd cc
    left_unwritten (Neg a) r h = absurd cc
    left_unwritten (Add a b) r h = absurd cc
    left_unwritten (Sub a b) r h = absurd cc
    left_unwritten (Mul a b) r h = absurd cc
    left_unwritten (Div a b) r h = absurd cc
    left_unwritten (Pow a b) r h = absurd cc
    left_unwritten (Call f es) r h = absurd cc

    lefts_unwritten : (items : List ExprTree) → list_all (target_is_right k) items ≡ true → list_any (writes_left constants w) items ≡ false → list_any (writes_left constants w) (map (substituted x by) items) ≡ false
    lefts_unwritten [] r h = refl
    lefts_unwritten (e ∷ es) r h =
        let right = and_parts (target_is_right k e) (list_all (target_is_right k) es) r in
        let none = or_parts (writes_left constants w e) (list_any (writes_left constants w) es) h in
        λ i. left_unwritten e right.0 none.0 i || lefts_unwritten es right.1 none.1 i

    mutual
      one_unwritten : (s : StmtTree) → stmt_is_right k s ≡ true → writes constants w s ≡ false → writes constants w (statement_substituted x by s) ≡ false
      one_unwritten (Assign left right) r h = left_unwritten left (and_parts (target_is_right k left) (expr_is_right k right) r).0 h
      one_unwritten (If c a b) r h =
          let right = and_parts (cond_is_right k c && stmts_are_right k a) (stmts_are_right k b) r in
          let none = or_parts (all_write constants w a) (all_write constants w b) h in
          λ i. all_unwritten a (and_parts (cond_is_right k c) (stmts_are_right k a) right.0).1 none.0 i || all_unwritten b right.1 none.1 i
      one_unwritten (Do head body) r h =
          let none = or_parts (list_any (writes_name constants w) head.private) (all_write constants w body) h in
          λ i. none.0 i || all_unwritten body (and_parts (head_is_right k head) (stmts_are_right k body) r).1 none.1 i
      one_unwritten (Print items) r h = h
      one_unwritten (Read items) r h =
          let none = or_parts _ (list_any (writes_left constants w) items) h in
          λ i. none.0 i || lefts_unwritten items r none.1 i
      one_unwritten Stop r h = refl
      one_unwritten (Comment text) r h = refl

      pub all_unwritten : (ss : StmtTrees) → stmts_are_right k ss ≡ true → all_write constants w ss ≡ false → all_write constants w (statements_substituted x by ss) ≡ false
      all_unwritten no_stmts r h = refl
      all_unwritten (more_stmts s rest) r h =
          let right = and_parts (stmt_is_right k s) (stmts_are_right k rest) r in
          let none = or_parts (writes constants w s) (all_write constants w rest) h in
          λ i. one_unwritten s right.0 none.0 i || all_unwritten rest right.1 none.1 i

-- nor does a PARALLEL DO write its variables where it didn't
module _ (constants : List (List ℕ)) (k : NameKinds) (x : List ℕ) (by : ExprTree) (no_left : (w : List ℕ) → writes_left constants w by ≡ false) where
  names_unwritten : (body : StmtTrees) → stmts_are_right k body ≡ true → (ws : List (List ℕ)) → list_any (λ w. all_write constants w body) ws ≡ false → list_any (λ w. all_write constants w (statements_substituted x by body)) ws ≡ false
  names_unwritten body r [] h = refl
  names_unwritten body r (w ∷ ws) h =
      let none = or_parts (all_write constants w body) (list_any (λ w. all_write constants w body) ws) h in
      λ i. all_unwritten constants w k x by (no_left w) body r none.0 i || names_unwritten body r ws none.1 i

  mutual
    index_unwritten : (s : StmtTree) → stmt_is_right k s ≡ true → writes_index constants s ≡ false → writes_index constants (statement_substituted x by s) ≡ false
    index_unwritten (Assign left right) r h = refl
    index_unwritten (If c a b) r h =
        let right = and_parts (cond_is_right k c && stmts_are_right k a) (stmts_are_right k b) r in
        let none = or_parts (some_write_index constants a) (some_write_index constants b) h in
        λ i. indices_unwritten a (and_parts (cond_is_right k c) (stmts_are_right k a) right.0).1 none.0 i || indices_unwritten b right.1 none.1 i
    index_unwritten (Do head body) r h =
        let right = (and_parts (head_is_right k head) (stmts_are_right k body) r).1 in
        let none = or_parts (head.parallel && list_any (λ w. all_write constants w body) (head.variable ∷ all_loop_variables body)) (some_write_index constants body) h in
        λ i. own head.parallel none.0 i || indices_unwritten body right none.1 i
      where
        own : (b : Bool) → b && list_any (λ w. all_write constants w body) (head.variable ∷ all_loop_variables body) ≡ false → b && list_any (λ w. all_write constants w (statements_substituted x by body)) (head.variable ∷ all_loop_variables (statements_substituted x by body)) ≡ false
        own true q =
            (λ i. list_any (λ w. all_write constants w (statements_substituted x by body)) (head.variable ∷ all_variables_stay x by body i))
            ∙ names_unwritten body (and_parts (head_is_right k head) (stmts_are_right k body) r).1 (head.variable ∷ all_loop_variables body) q
        own false q = refl
    index_unwritten (Print items) r h = refl
    index_unwritten (Read items) r h = refl
    index_unwritten Stop r h = refl
    index_unwritten (Comment text) r h = refl

    pub indices_unwritten : (ss : StmtTrees) → stmts_are_right k ss ≡ true → some_write_index constants ss ≡ false → some_write_index constants (statements_substituted x by ss) ≡ false
    indices_unwritten no_stmts r h = refl
    indices_unwritten (more_stmts s rest) r h =
        let right = and_parts (stmt_is_right k s) (stmts_are_right k rest) r in
        let none = or_parts (writes_index constants s) (some_write_index constants rest) h in
        λ i. index_unwritten s right.0 none.0 i || indices_unwritten rest right.1 none.1 i

pub variables_followed : (xs ys : StmtTrees) → all_loop_variables (followed xs ys) ≡ all_loop_variables xs ++ all_loop_variables ys
variables_followed no_stmts ys = refl
variables_followed (more_stmts s xs) ys = ap (λ (zs : List (List ℕ)). loop_variables s ++ zs) (variables_followed xs ys) ∙ sym (append_assoc (loop_variables s) (all_loop_variables xs) (all_loop_variables ys))

module _ (old new : StmtTrees) (same : all_loop_variables new ≡ all_loop_variables old) where
  -- the DO loops round the gap have the variables that they had
  pub filled_variables : (gap : Gap) → all_loop_variables (filled gap new) ≡ all_loop_variables (filled gap old)
  filled_variables (at_front rest) = variables_followed new rest ∙ (ap (λ (zs : List (List ℕ)). zs ++ all_loop_variables rest) same ∙ sym (variables_followed old rest))
  filled_variables (past s gap) = λ i. loop_variables s ++ filled_variables gap i
  filled_variables (in_then c gap b rest) = λ i. (filled_variables gap i ++ all_loop_variables b) ++ all_loop_variables rest
  filled_variables (in_else c a gap rest) = λ i. (all_loop_variables a ++ filled_variables gap i) ++ all_loop_variables rest
  filled_variables (in_body h gap rest) = λ i. (h.variable ∷ filled_variables gap i) ++ all_loop_variables rest
