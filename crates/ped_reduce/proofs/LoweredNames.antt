-- The names in a program stand in what comes of it by lowering, too.
use Rattle.std.proofs.Common.{◌≡◌, ◌⊎◌, ℕ, ◌+◌, List, [], ◌∷◌, ◌++◌, Bool, true, false, ◌||◌, Option, Some, None, inl, inr, refl, sym, ap, ◌∙◌, append_assoc}
use Rattle.std.proofs.lemmas.Bool.{or_left, or_right}
use Rattle.ped_base.specs.Lists.{is_same_text, is_among}
use Rattle.ped_base.proofs.NameEquality.{same_is}
use Rattle.ped_tree.proofs.NameLaws.Collected.{among_append}
use Rattle.ped_tree.specs.declared.conditions.Relation.TheVariants.{Eq}
use Rattle.ped_tree.specs.declared.expressions.Intrinsic.TheVariants.{Mod}
use Rattle.ped_tree.specs.Tree.{ExprTree, Int, Var, Add, Sub, Mul, Div, Call, no_exprs, more_exprs, Rel, Head, StmtTree, StmtTrees, Assign, If, Do, Print, Read, Stop, Comment, no_stmts, more_stmts, ProgramTree}
use Rattle.ped_tree.specs.NamesIn.{expr_names, cond_names, head_names, stmt_names, stmts_names}
use Rattle.ped_tree.specs.Numbering.{statement_count, statements_count}
use Rattle.ped_rules.specs.ped_flow.proofs.Truths.{untrue, or_split}
use Rattle.ped_rules.specs.ped_steps.specs.Replacing.{followed, alone}
use Rattle.ped_reduce.specs.Lists.{listed_name, unless_named, without_list}
use Rattle.ped_reduce.specs.Sums.{Sum, plus, minus}
use Rattle.ped_reduce.specs.Lowering.{Partials, at, zeros, with_sum, added_apart, sum_apart, summed, all_summed, addition, exit, exits, bare, lowered_loop}
use Rattle.ped_reduce.proofs.Resembling.{scalars_of, Becomes, AllBecome}
use Rattle.ped_reduce.proofs.SumShapes.{operand, IsSumOf, IsApart, IsBare, apart_or_bare, scalar_among}

module _ (y : List ℕ) where
  -- the name is among these
  abbrev Has : List (List ℕ) → Type 0
  Has names = is_among y names ≡ true

  has_left : (xs ys : List (List ℕ)) → Has xs → Has (xs ++ ys)
  has_left xs ys h = among_append y xs ys ∙ or_left (is_among y xs) (is_among y ys) h

  has_right : (xs ys : List (List ℕ)) → Has ys → Has (xs ++ ys)
  has_right xs ys h = among_append y xs ys ∙ or_right (is_among y xs) (is_among y ys) h

  has_parts : (xs ys : List (List ℕ)) → Has (xs ++ ys) → Has xs ⊎ Has ys
  has_parts xs ys h = or_split (is_among y xs) (is_among y ys) (sym (among_append y xs ys) ∙ h)

  pub names_followed : (a b : StmtTrees) → stmts_names (followed a b) ≡ stmts_names a ++ stmts_names b
  names_followed no_stmts b = refl
  names_followed (more_stmts s a) b = ap (λ (z : List (List ℕ)). stmt_names s ++ z) (names_followed a b) ∙ sym (append_assoc (stmt_names s) (stmts_names a) (stmts_names b))

  in_first : (a b : StmtTrees) → Has (stmts_names a) → Has (stmts_names (followed a b))
  in_first a b h = ap (is_among y) (names_followed a b) ∙ has_left (stmts_names a) (stmts_names b) h

  in_second : (a b : StmtTrees) → Has (stmts_names b) → Has (stmts_names (followed a b))
  in_second a b h = ap (is_among y) (names_followed a b) ∙ has_right (stmts_names a) (stmts_names b) h

  in_alone : (s : StmtTree) → Has (stmt_names s) → Has (stmts_names (alone s))
  in_alone s h = has_left (stmt_names s) [] h

  -- the names in a sum: the scalar, and those in what is added
  in_scalar : (x : List ℕ) → Has (expr_names (Var x)) → y ≡ x
  in_scalar x h = by (is_same_text y x) refl h
    where
      by : (b : Bool) → is_same_text y x ≡ b → (b || false) ≡ true → y ≡ x
      by true e k = same_is y x e
      by false e k = untrue k

  in_sum : (x : List ℕ) (left right : ExprTree) (sum : Sum) → IsSumOf x left right sum → Has (expr_names left ++ expr_names right) → (y ≡ x) ⊎ Has (expr_names (operand sum))
  in_sum x left right sum is h = elim (has_parts (expr_names left) (expr_names right) h) [
    | inl k ↦ inl (in_scalar x (ap (λ (e : ExprTree). is_among y (expr_names e)) (sym is.written) ∙ k))
    | inr k ↦ on_right is.shape k
  ]
    where
      on_right : (right ≡ Add (Var x) (operand sum)) ⊎ ((right ≡ Add (operand sum) (Var x)) ⊎ (right ≡ Sub (Var x) (operand sum))) → Has (expr_names right) → (y ≡ x) ⊎ Has (expr_names (operand sum))
      on_right (inl q) k = elim (has_parts (expr_names (Var x)) (expr_names (operand sum)) (ap (λ (z : ExprTree). is_among y (expr_names z)) (sym q) ∙ k)) [ inl a ↦ inl (in_scalar x a) | inr b ↦ inr b ]
      on_right (inr (inl q)) k = elim (has_parts (expr_names (operand sum)) (expr_names (Var x)) (ap (λ (z : ExprTree). is_among y (expr_names z)) (sym q) ∙ k)) [ inl a ↦ inr a | inr b ↦ inl (in_scalar x b) ]
      on_right (inr (inr q)) k = elim (has_parts (expr_names (Var x)) (expr_names (operand sum)) (ap (λ (z : ExprTree). is_among y (expr_names z)) (sym q) ∙ k)) [ inl a ↦ inl (in_scalar x a) | inr b ↦ inr b ]

  in_with_sum : (a : ExprTree) (sum : Sum) → Has (expr_names (operand sum)) → Has (expr_names (with_sum a sum))
  in_with_sum a (plus e) h = has_right (expr_names a) (expr_names e) h
  in_with_sum a (minus e) h = has_right (expr_names a) (expr_names e) h

  in_apart : (v : List ℕ) (p : Partials) (sum : Sum) → Has (expr_names (operand sum)) → Has (stmts_names (added_apart v p sum))
  in_apart v p sum h =
      let low = at p.low v in
      let high = at p.high v in
      let first = Assign high (Add high (Div (with_sum low sum) (Int 65536))) in
      let rest = more_stmts (Assign low (Call Mod (more_exprs (with_sum low sum) (more_exprs (Int 65536) no_exprs)))) (alone (Assign (at p.flag v) (Int 1))) in
      has_left (stmt_names first) (stmts_names rest)
      (has_right (expr_names high) (expr_names high ++ (expr_names (with_sum low sum) ++ []))
      (has_right (expr_names high) (expr_names (with_sum low sum) ++ []) (has_left (expr_names (with_sum low sum)) [] (in_with_sum low sum h))))

  module _ (v : List ℕ) (ps : List Partials) where
    abbrev Or : List (List ℕ) → Type 0
    Or names = Has names ⊎ Has (scalars_of ps)

    first_or : (a b : StmtTrees) → Or (stmts_names a) → Or (stmts_names (followed a b))
    first_or a b (inl h) = inl (in_first a b h)
    first_or a b (inr h) = inr h

    second_or : (a b : StmtTrees) → Or (stmts_names b) → Or (stmts_names (followed a b))
    second_or a b (inl h) = inl (in_second a b h)
    second_or a b (inr h) = inr h

    assigned_or : (left right : ExprTree) → Has (stmt_names (Assign left right)) → Or (stmts_names (sum_apart v ps (Assign left right)))
    assigned_or left right h = by (apart_or_bare v left right ps)
      where
        by : IsApart v ps left right (sum_apart v ps (Assign left right)) ⊎ IsBare ps left right (sum_apart v ps (Assign left right)) → Or (stmts_names (sum_apart v ps (Assign left right)))
        by (inl a) = elim (in_sum a.partials.scalar left right a.sum a.of h) [
          | inl e ↦ inr (ap (λ (z : List ℕ). is_among z (scalars_of ps)) e ∙ scalar_among a.partials ps a.among)
          | inr k ↦ inl (ap (λ (ts : StmtTrees). is_among y (stmts_names ts)) a.is ∙ in_apart v a.partials a.sum k)
        ]
        by (inr b) = inl (ap (λ (ts : StmtTrees). is_among y (stmts_names ts)) b.is ∙ in_alone (Assign left right) h)

    -- a name in statements stands in what they become, or is one of the scalars
    mutual
      stays_or : (s : StmtTree) → Has (stmt_names s) → Or (stmts_names (summed v ps s))
      stays_or (Assign left right) h = assigned_or left right h
      stays_or (If c a b) h = elim (has_parts (cond_names c ++ stmts_names a) (stmts_names b) h) [
        | inl k ↦ elim (has_parts (cond_names c) (stmts_names a) k) [
          | inl i ↦ inl (in_alone (If c (all_summed v ps a) (all_summed v ps b)) (has_left (cond_names c ++ stmts_names (all_summed v ps a)) (stmts_names (all_summed v ps b)) (has_left (cond_names c) (stmts_names (all_summed v ps a)) i)))
          | inr i ↦ elim (all_stay_or a i) [
            | inl j ↦ inl (in_alone (If c (all_summed v ps a) (all_summed v ps b)) (has_left (cond_names c ++ stmts_names (all_summed v ps a)) (stmts_names (all_summed v ps b)) (has_right (cond_names c) (stmts_names (all_summed v ps a)) j)))
            | inr j ↦ inr j
          ]
        ]
        | inr k ↦ elim (all_stay_or b k) [
          | inl j ↦ inl (in_alone (If c (all_summed v ps a) (all_summed v ps b)) (has_right (cond_names c ++ stmts_names (all_summed v ps a)) (stmts_names (all_summed v ps b)) j))
          | inr j ↦ inr j
        ]
      ]
      stays_or (Do g body) h = elim (has_parts (head_names g) (stmts_names body) h) [
        | inl k ↦ inl (in_alone (Do g (all_summed v ps body)) (has_left (head_names g) (stmts_names (all_summed v ps body)) k))
        | inr k ↦ elim (all_stay_or body k) [
          | inl j ↦ inl (in_alone (Do g (all_summed v ps body)) (has_right (head_names g) (stmts_names (all_summed v ps body)) j))
          | inr j ↦ inr j
        ]
      ]
      stays_or (Print items) h = inl (in_alone (Print items) h)
      stays_or (Read items) h = inl (in_alone (Read items) h)
      stays_or Stop h = untrue h
      stays_or (Comment text) h = untrue h

      all_stay_or : (ss : StmtTrees) → Has (stmts_names ss) → Or (stmts_names (all_summed v ps ss))
      all_stay_or no_stmts h = untrue h
      all_stay_or (more_stmts s rest) h = elim (has_parts (stmt_names s) (stmts_names rest) h) [
        | inl k ↦ first_or (summed v ps s) (all_summed v ps rest) (stays_or s k)
        | inr k ↦ second_or (summed v ps s) (all_summed v ps rest) (all_stay_or rest k)
      ]

    unless_names : (o : Option (List ℕ)) (text : List ℕ) (rest : StmtTrees) → stmts_names (without_list rest) ≡ stmts_names rest → stmts_names (unless_named o (more_stmts (Comment text) rest) (without_list rest)) ≡ stmts_names rest
    unless_names None text rest e = refl
    unless_names (Some x) text rest e = e

    pub without_names : (ts : StmtTrees) → stmts_names (without_list ts) ≡ stmts_names ts
    without_names no_stmts = refl
    without_names (more_stmts (Comment text) rest) = unless_names (listed_name text) text rest (without_names rest)
    without_names (more_stmts (Assign left right) rest) = refl
    without_names (more_stmts (If c a b) rest) = refl
    without_names (more_stmts (Do h body) rest) = refl
    without_names (more_stmts (Print items) rest) = refl
    without_names (more_stmts (Read items) rest) = refl
    without_names (more_stmts Stop rest) = refl

  -- the scalars stand at the exit
  in_exits : (v : List ℕ) (ps : List Partials) → Has (scalars_of ps) → Has (stmts_names (exits v ps))
  in_exits v [] h = untrue h
  in_exits v (p ∷ ps) h = by (is_same_text y p.scalar) refl h (in_exits v ps)
    where
      by : (b : Bool) → is_same_text y p.scalar ≡ b → (b || is_among y (scalars_of ps)) ≡ true → (Has (scalars_of ps) → Has (stmts_names (exits v ps))) → Has (stmts_names (exits v (p ∷ ps)))
      by true e k more =
          has_left (stmt_names (exit v p)) (stmts_names (exits v ps))
          (has_left (cond_names (Rel Eq (at p.flag v) (Int 1)) ++ stmts_names (alone (addition v p))) []
          (has_right (cond_names (Rel Eq (at p.flag v) (Int 1))) (stmts_names (alone (addition v p)))
          (in_alone (addition v p) (has_left (p.scalar ∷ []) (expr_names (Add (Var p.scalar) (Add (Mul (at p.high v) (Int 65536)) (at p.low v)))) (or_left (is_same_text y p.scalar) false e)))))
      by false e k more = has_right (stmt_names (exit v p)) (stmts_names (exits v ps)) (more k)

  pub in_lowered : (parallel : Bool) (ps : List Partials) (h : Head) (body : StmtTrees) → Has (stmt_names (Do h body)) → Has (stmts_names (lowered_loop parallel ps h body))
  in_lowered parallel ps h body k = elim (has_parts (head_names h) (stmts_names body) k) [
    | inl j ↦ has_left (head_names h ++ stmts_names (followed (zeros h.variable ps) (all_summed h.variable ps (without_list body)))) (stmts_names (alone (Do (bare h) (exits h.variable ps))))
        (has_left (head_names h) (stmts_names (followed (zeros h.variable ps) (all_summed h.variable ps (without_list body)))) j)
    | inr j ↦ elim (all_stay_or h.variable ps (without_list body) (ap (is_among y) (without_names h.variable ps body) ∙ j)) [
      | inl i ↦ has_left (head_names h ++ stmts_names (followed (zeros h.variable ps) (all_summed h.variable ps (without_list body)))) (stmts_names (alone (Do (bare h) (exits h.variable ps))))
          (has_right (head_names h) (stmts_names (followed (zeros h.variable ps) (all_summed h.variable ps (without_list body)))) (in_second (zeros h.variable ps) (all_summed h.variable ps (without_list body)) i))
      | inr i ↦ has_right (head_names h ++ stmts_names (followed (zeros h.variable ps) (all_summed h.variable ps (without_list body)))) (stmts_names (alone (Do (bare h) (exits h.variable ps))))
          (in_alone (Do (bare h) (exits h.variable ps)) (has_right (head_names (bare h)) (stmts_names (exits h.variable ps)) (in_exits h.variable ps i)))
    ]
  ]

  module _ (t : ProgramTree) (live : List ℕ) where
    by_is : (xs ws : StmtTrees) → ws ≡ xs → Has (stmts_names xs) → Has (stmts_names ws)
    by_is xs ws e h = ap (λ (ts : StmtTrees). is_among y (stmts_names ts)) e ∙ h

    mutual
      pub name_stays : (s : StmtTree) (n : ℕ) (ws : StmtTrees) → Becomes t live s n ws → Has (stmt_names s) → Has (stmts_names ws)
      name_stays (Assign left right) n ws is h = by_is (alone (Assign left right)) ws is (in_alone (Assign left right) h)
      name_stays (If c a b) n ws (x, z, p, q, is) h = by_is (alone (If c x z)) ws is (in_alone (If c x z) (elim (has_parts (cond_names c ++ stmts_names a) (stmts_names b) h) [
        | inl k ↦ elim (has_parts (cond_names c) (stmts_names a) k) [
          | inl i ↦ has_left (cond_names c ++ stmts_names x) (stmts_names z) (has_left (cond_names c) (stmts_names x) i)
          | inr i ↦ has_left (cond_names c ++ stmts_names x) (stmts_names z) (has_right (cond_names c) (stmts_names x) (names_stay a (n + 1) x p i))
        ]
        | inr k ↦ has_right (cond_names c ++ stmts_names x) (stmts_names z) (names_stay b (n + 1 + statements_count a) z q k)
      ]))
      name_stays (Do g body) n ws (inl (x, p, is)) h = by_is (alone (Do g x)) ws is (in_alone (Do g x) (elim (has_parts (head_names g) (stmts_names body) h) [
        | inl k ↦ has_left (head_names g) (stmts_names x) k
        | inr k ↦ has_right (head_names g) (stmts_names x) (names_stay body (n + 1) x p k)
      ]))
      name_stays (Do g body) n ws (inr (ps, there, m, is)) h = by_is (lowered_loop true ps g body) ws is (in_lowered true ps g body h)
      name_stays (Print items) n ws is h = by_is (alone (Print items)) ws is (in_alone (Print items) h)
      name_stays (Read items) n ws is h = by_is (alone (Read items)) ws is (in_alone (Read items) h)
      name_stays Stop n ws is h = untrue h
      name_stays (Comment text) n ws is h = untrue h

      pub names_stay : (ss : StmtTrees) (n : ℕ) (ws : StmtTrees) → AllBecome t live ss n ws → Has (stmts_names ss) → Has (stmts_names ws)
      names_stay no_stmts n ws is h = untrue h
      names_stay (more_stmts s rest) n ws (x, z, p, q, is) h = by_is (followed x z) ws is (elim (has_parts (stmt_names s) (stmts_names rest) h) [
        | inl k ↦ in_first x z (name_stays s n x p k)
        | inr k ↦ in_second x z (names_stay rest (n + statement_count s) z q k)
      ])
