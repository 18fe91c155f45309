-- Which names occur where an element stands in the place of a scalar.
use Rattle.std.proofs.Common.{◌≡◌, ℕ, ℤ, List, [], ◌∷◌, ◌++◌, map, Bool, true, false, Option, Some, None, refl, sym, ap, ◌∙◌, append-nil, if◌then◌else◌, ◌+ℤ◌, ◌-ℤ◌}
use Rattle.std.specs.Prelude.{◌||◌}
use Rattle.std.specs.List.{flat_map}
use Rattle.std.proofs.lemmas.Bool.{both_ways, or_from}
use Rattle.ped_base.specs.Lists.{is_same_text, is_among}
use Rattle.ped_tree.specs.Tree.{ExprTree, ExprTrees, Int, Var, Element, Neg, Add, Sub, Mul, Div, Pow, Call, no_exprs, more_exprs, CondTree, Rel, Not, And, Or, ItemTree, Value, Text, Head, StmtTree, StmtTrees, Assign, If, Do, Print, Read, Stop, Comment, no_stmts, more_stmts}
use Rattle.ped_tree.specs.NamesIn.{expr_names, exprs_names, cond_names, item_names, head_names, stmt_names, stmts_names}
use Rattle.ped_tree.proofs.NameLaws.Collected.{among_append}
use Rattle.ped_base.proofs.NameEquality.{same_is}
use Rattle.ped_symbolic.specs.Arithmetic.{literal, literal_value, of_both, small, literal_or, is_zero, added, subtracted, plus_of, minus_of}
use Rattle.ped_symbolic.specs.Substitution.{substituted, all_substituted, changes, condition_substituted, item_substituted, head_substituted, statement_substituted, statements_substituted}
use Rattle.ped_steps.proofs.RunLaws.SubstitutedSums.{by_shape}
use Rattle.ped_steps.proofs.RunLaws.DeclaredArrays.{literal_uses}
use Rattle.ped_steps.proofs.RunLaws.NamesAtSites.{used_names, expr_used}

-- no name stands in a literal
pub literal_names : (n : ℤ) → expr_names (literal n) ≡ []
literal_names n = sym (expr_used (literal n)) ∙ ap used_names (literal_uses n)

valued_names : (m : ℤ) (e : ExprTree) → literal_value e ≡ Some m → expr_names e ≡ []
valued_names m = by_shape (λ (e : ExprTree). literal_value e ≡ Some m → expr_names e ≡ []) (λ n q. refl) (λ n q. refl) (λ e none zero plus minus q. let no : None ≡ Some m = sym none ∙ q in absurd cc)

zero_names : (e : ExprTree) → is_zero e ≡ true → expr_names e ≡ []
zero_names = by_shape (λ (e : ExprTree). is_zero e ≡ true → expr_names e ≡ []) (λ n q. refl) (λ n q. refl) (λ e none zero plus minus q. absurd (both_ways (is_zero e) zero q))

added_names : (a e : ExprTree) → expr_names (added a e) ≡ expr_names a ++ expr_names e
added_names a = by_shape (λ (e : ExprTree). expr_names (added a e) ≡ expr_names a ++ expr_names e) (λ n. refl) (λ n. refl) (λ e none zero plus minus. ap expr_names (plus a))

subtracted_names : (a e : ExprTree) → expr_names (subtracted a e) ≡ expr_names a ++ expr_names e
subtracted_names a = by_shape (λ (e : ExprTree). expr_names (subtracted a e) ≡ expr_names a ++ expr_names e) (λ n. refl) (λ n. refl) (λ e none zero plus minus. ap expr_names (minus a))

-- a result of literals, where it is computed
computed_names : (f : ℤ → ℤ → ℤ) (a b other : ExprTree) → expr_names other ≡ expr_names a ++ expr_names b → expr_names (literal_or (small (of_both f (literal_value a) (literal_value b))) other) ≡ expr_names a ++ expr_names b
computed_names f a b other h = go (literal_value a) (literal_value b) refl refl
  where
    fits : (l m : ℤ) → expr_names a ≡ [] → expr_names b ≡ [] → (o : Option ℤ) → expr_names (literal_or o other) ≡ expr_names a ++ expr_names b
    fits l m p q None = h
    fits l m p q (Some n) = literal_names n ∙ (λ i. sym p i ++ sym q i)

    go : (l m : Option ℤ) → literal_value a ≡ l → literal_value b ≡ m → expr_names (literal_or (small (of_both f l m)) other) ≡ expr_names a ++ expr_names b
    go None m p q = h
    go (Some l) None p q = h
    go (Some l) (Some m) p q = fits l m (valued_names l a p) (valued_names m b q) (small (Some (f l m)))

second_zero : (a b other : ExprTree) → expr_names other ≡ expr_names a ++ expr_names b → expr_names (if is_zero b then a else other) ≡ expr_names a ++ expr_names b
second_zero a b other h = go (is_zero b) refl
  where
    go : (z : Bool) → is_zero b ≡ z → expr_names (if z then a else other) ≡ expr_names a ++ expr_names b
    go true e = sym (append-nil (expr_names a)) ∙ ap (λ (xs : List (List ℕ)). expr_names a ++ xs) (sym (zero_names b e))
    go false e = h

first_zero : (a b other : ExprTree) → expr_names other ≡ expr_names a ++ expr_names b → expr_names (if is_zero a then b else other) ≡ expr_names a ++ expr_names b
first_zero a b other h = go (is_zero a) refl
  where
    go : (z : Bool) → is_zero a ≡ z → expr_names (if z then b else other) ≡ expr_names a ++ expr_names b
    go true e = ap (λ (xs : List (List ℕ)). xs ++ expr_names b) (sym (zero_names a e))
    go false e = h

plus_names : (a b : ExprTree) → expr_names (plus_of a b) ≡ expr_names a ++ expr_names b
plus_names a b = computed_names ◌+ℤ◌ a b (if is_zero b then a else if is_zero a then b else added a b) (second_zero a b (if is_zero a then b else added a b) (first_zero a b (added a b) (added_names a b)))

minus_names : (a b : ExprTree) → expr_names (minus_of a b) ≡ expr_names a ++ expr_names b
minus_names a b = computed_names ◌-ℤ◌ a b (if is_zero b then a else subtracted a b) (second_zero a b (subtracted a b) (subtracted_names a b))

-- a name besides that of the scalar, which doesn't occur in what stands in its place
module _ (x : List ℕ) (by : ExprTree) (y : List ℕ) (other : is_same_text y x ≡ false) (absent : is_among y (expr_names by) ≡ false) where
  among_both : (xs ys us vs : List (List ℕ)) → is_among y xs ≡ is_among y us → is_among y ys ≡ is_among y vs → is_among y (xs ++ ys) ≡ is_among y (us ++ vs)
  among_both xs ys us vs h k = among_append y xs ys ∙ (λ i. h i || k i) ∙ sym (among_append y us vs)

  in_variable : (z : List ℕ) (b : Bool) → is_same_text x z ≡ b → is_among y (expr_names (if b then by else Var z)) ≡ is_among y (z ∷ [])
  in_variable z true e = absent ∙ sym (or_from _ _ (ap (is_same_text y) (sym (same_is x z e)) ∙ other) refl)
  in_variable z false e = refl

  in_sum : (e f new : ExprTree) (c : Bool) → is_among y (expr_names new) ≡ is_among y (expr_names e ++ expr_names f) → (old : ExprTree) → expr_names old ≡ expr_names e ++ expr_names f → is_among y (expr_names (if c then new else old)) ≡ is_among y (expr_names e ++ expr_names f)
  in_sum e f new true h old k = h
  in_sum e f new false h old k = ap (is_among y) k

  mutual
    in_expr : (e : ExprTree) → is_among y (expr_names (substituted x by e)) ≡ is_among y (expr_names e)
    in_expr (Int n) = refl
    in_expr (Var z) = in_variable z (is_same_text x z) refl
    in_expr (Element z es) = ap (λ (b : Bool). is_same_text y z || b) (in_exprs es)
    in_expr (Neg a) = in_expr a
    in_expr (Add a b) =
        in_sum a b (plus_of (substituted x by a) (substituted x by b)) (changes x by a b)
        (ap (is_among y) (plus_names (substituted x by a) (substituted x by b)) ∙ among_both (expr_names (substituted x by a)) (expr_names (substituted x by b)) (expr_names a) (expr_names b) (in_expr a) (in_expr b)) (Add a b) refl
    in_expr (Sub a b) =
        in_sum a b (minus_of (substituted x by a) (substituted x by b)) (changes x by a b)
        (ap (is_among y) (minus_names (substituted x by a) (substituted x by b)) ∙ among_both (expr_names (substituted x by a)) (expr_names (substituted x by b)) (expr_names a) (expr_names b) (in_expr a) (in_expr b)) (Sub a b) refl
    in_expr (Mul a b) = among_both (expr_names (substituted x by a)) (expr_names (substituted x by b)) (expr_names a) (expr_names b) (in_expr a) (in_expr b)
    in_expr (Div a b) = among_both (expr_names (substituted x by a)) (expr_names (substituted x by b)) (expr_names a) (expr_names b) (in_expr a) (in_expr b)
    in_expr (Pow a b) = among_both (expr_names (substituted x by a)) (expr_names (substituted x by b)) (expr_names a) (expr_names b) (in_expr a) (in_expr b)
    in_expr (Call f es) = in_exprs es

    in_exprs : (es : ExprTrees) → is_among y (exprs_names (all_substituted x by es)) ≡ is_among y (exprs_names es)
    in_exprs no_exprs = refl
    in_exprs (more_exprs e rest) = among_both (expr_names (substituted x by e)) (exprs_names (all_substituted x by rest)) (expr_names e) (exprs_names rest) (in_expr e) (in_exprs rest)

  in_cond : (c : CondTree) → is_among y (cond_names (condition_substituted x by c)) ≡ is_among y (cond_names c)
  in_cond (Rel r a b) = among_both (expr_names (substituted x by a)) (expr_names (substituted x by b)) (expr_names a) (expr_names b) (in_expr a) (in_expr b)
  in_cond (Not a) = in_cond a
  in_cond (And a b) = among_both (cond_names (condition_substituted x by a)) (cond_names (condition_substituted x by b)) (cond_names a) (cond_names b) (in_cond a) (in_cond b)
  in_cond (Or a b) = among_both (cond_names (condition_substituted x by a)) (cond_names (condition_substituted x by b)) (cond_names a) (cond_names b) (in_cond a) (in_cond b)

  in_items : (items : List ItemTree) → is_among y (flat_map item_names (map (item_substituted x by) items)) ≡ is_among y (flat_map item_names items)
  in_items [] = refl
  in_items (Value e ∷ rest) = among_both (expr_names (substituted x by e)) (flat_map item_names (map (item_substituted x by) rest)) (expr_names e) (flat_map item_names rest) (in_expr e) (in_items rest)
  in_items (Text t ∷ rest) = in_items rest

  in_targets : (items : List ExprTree) → is_among y (flat_map expr_names (map (substituted x by) items)) ≡ is_among y (flat_map expr_names items)
  in_targets [] = refl
  in_targets (e ∷ rest) = among_both (expr_names (substituted x by e)) (flat_map expr_names (map (substituted x by) rest)) (expr_names e) (flat_map expr_names rest) (in_expr e) (in_targets rest)

  in_head : (h : Head) → is_among y (head_names (head_substituted x by h)) ≡ is_among y (head_names h)
  in_head h =
      let first = expr_names (substituted x by h.first) in
      let last = expr_names (substituted x by h.last) in
      let step = expr_names (substituted x by h.step) in
      let two = among_both first last (expr_names h.first) (expr_names h.last) (in_expr h.first) (in_expr h.last) in
      let three = among_both (first ++ last) step (expr_names h.first ++ expr_names h.last) (expr_names h.step) two (in_expr h.step) in
      let all = among_both (first ++ last ++ step) h.private (expr_names h.first ++ expr_names h.last ++ expr_names h.step) h.private three refl in
      among_both h.rejected (h.variable ∷ (first ++ last ++ step ++ h.private)) h.rejected (h.variable ∷ (expr_names h.first ++ expr_names h.last ++ expr_names h.step ++ h.private)) refl (ap (λ (b : Bool). is_same_text y h.variable || b) all)

  mutual
    in_stmt : (s : StmtTree) → is_among y (stmt_names (statement_substituted x by s)) ≡ is_among y (stmt_names s)
    in_stmt (Assign left right) = among_both (expr_names (substituted x by left)) (expr_names (substituted x by right)) (expr_names left) (expr_names right) (in_expr left) (in_expr right)
    in_stmt (If c a b) =
        let first = stmts_names (statements_substituted x by a) in
        let second = stmts_names (statements_substituted x by b) in
        among_both (cond_names (condition_substituted x by c) ++ first) second (cond_names c ++ stmts_names a) (stmts_names b) (among_both (cond_names (condition_substituted x by c)) first (cond_names c) (stmts_names a) (in_cond c) (in_stmts a)) (in_stmts b)
    in_stmt (Do h body) = among_both (head_names (head_substituted x by h)) (stmts_names (statements_substituted x by body)) (head_names h) (stmts_names body) (in_head h) (in_stmts body)
    in_stmt (Print items) = in_items items
    in_stmt (Read items) = in_targets items
    in_stmt Stop = refl
    in_stmt (Comment text) = refl

    -- it occurs in the new statements where it does in the old ones
    pub in_stmts : (ss : StmtTrees) → is_among y (stmts_names (statements_substituted x by ss)) ≡ is_among y (stmts_names ss)
    in_stmts no_stmts = refl
    in_stmts (more_stmts s rest) = among_both (stmt_names (statement_substituted x by s)) (stmts_names (statements_substituted x by rest)) (stmt_names s) (stmts_names rest) (in_stmt s) (in_stmts rest)
