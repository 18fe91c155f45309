-- Under which numbers the statements count in a program in which sums of a DO are kept apart: those that stay under their old ones, and the others under numbers that no statement has.
use Rattle.std.proofs.Common.{◌≡◌, ◌⊎◌, inl, inr, ℕ, ◌+◌, ◌-◌, ◌<◌, ◌≤◌, List, [], ◌∷◌, ◌++◌, Option, Some, None, refl, sym, ap, subst, arith}
use Rattle.ped_tree.specs.Numbering.{statement_count, statements_count}
use Rattle.ped_tree.specs.Tree.{ExprTree, Head, StmtTree, StmtTrees, Assign, If, Do, Print, Read, Stop, Comment, no_stmts, more_stmts}
use Rattle.ped_rules.specs.ped_steps.specs.Replacing.{followed}
use Rattle.ped_rules.specs.ped_laws.specs.Acts.Orders.{IsIn}
use Rattle.ped_rules.specs.ped_laws.proofs.ActLaws.Lists.{in_left, in_right, in_parts}
use Rattle.ped_rules.specs.ped_loop_runs.specs.Numbers.{AreApart, in_a_row, FitInGap}
use Rattle.ped_rules.specs.ped_loop_runs.proofs.PastingLaws.CountedNumbers.{Differ, append_apart, in_row, row_apart}
use Rattle.ped_reduce.specs.Sums.{Sum, sum_to}
use Rattle.ped_reduce.specs.Lowering.{Partials, zeros, apart_or, sum_apart, summed, all_summed, exits}
use Rattle.ped_reduce.proofs.SumBodies.{CountsAlike, CountAlike}

-- statements behind others count as many more
pub followed_count : (xs ys : StmtTrees) → statements_count (followed xs ys) ≡ statements_count xs + statements_count ys
followed_count no_stmts ys = omega arith
followed_count (more_stmts x xs) ys = let e = followed_count xs ys in omega (arith, e)

module _ (all : ℕ) (v : List ℕ) (ps : List Partials) where
  -- pairs of a new statement's number and the number under which it counts: the first of the statements in the place of an assignment under the old number
  abbrev mutual
    pub pairs_of : StmtTree → (n m : ℕ) → List (ℕ × ℕ)
    pairs_of (Assign left right) n m = (m, n) ∷ in_a_row (m + 1) (all + m + 1) (statements_count (sum_apart v ps (Assign left right)) - 1)
    pairs_of (If c a b) n m = (m, n) ∷ (all_pairs a (n + 1) (m + 1) ++ all_pairs b (n + 1 + statements_count a) (m + 1 + statements_count (all_summed v ps a)))
    pairs_of (Do h body) n m = (m, n) ∷ all_pairs body (n + 1) (m + 1)
    pairs_of (Print items) n m = (m, n) ∷ []
    pairs_of (Read items) n m = (m, n) ∷ []
    pairs_of Stop n m = (m, n) ∷ []
    pairs_of (Comment text) n m = []

    pub all_pairs : StmtTrees → (n m : ℕ) → List (ℕ × ℕ)
    all_pairs no_stmts n m = []
    all_pairs (more_stmts s rest) n m = pairs_of s n m ++ all_pairs rest (n + statement_count s) (m + statements_count (summed v ps s))

  -- a pair of these statements: the first number is that of one of so many from m on, and the second that of one of so many from n on, or as far behind all numbers as the first
  abbrev pub IsOf : (n c m d : ℕ) → ℕ × ℕ → Type 0
  IsOf n c m d y = (m ≤ y.0) × (y.0 < m + d) × (((n ≤ y.1) × (y.1 < n + c)) ⊎ (y.1 ≡ all + y.0))

  abbrev pub AreOf : (n c m d : ℕ) → List (ℕ × ℕ) → Type 0
  AreOf n c m d xs = (y : ℕ × ℕ) → IsIn y xs → IsOf n c m d y

  wider : (n c m d n' c' m' d' : ℕ) → n' ≤ n → n + c ≤ n' + c' → m' ≤ m → m + d ≤ m' + d' → (y : ℕ × ℕ) → IsOf n c m d y → IsOf n' c' m' d' y
  wider n c m d n' c' m' d' p q r s y h = (from, to, elim h.2 [ inl k ↦ inl (second k.0 k.1) | inr e ↦ inr e ])
    where
      from : m' ≤ y.0
      from = let a = h.0 in omega (arith, a, r)

      to : y.0 < m' + d'
      to = let a = h.1 in omega (arith, a, s)

      second : n ≤ y.1 → y.1 < n + c → (n' ≤ y.1) × (y.1 < n' + c')
      second a b = (omega (arith, a, p), omega (arith, b, q))

  row_of : (m k n c : ℕ) → AreOf n c m k (in_a_row m (all + m) k)
  row_of m k n c y i =
      let r = in_row m (all + m) k y i in
      let less = r.1 in
      let first = r.2 in
      let second = r.3 in
      (omega (arith, first), omega (arith, first, less), inr (omega (arith, first, second)))

  same_row : (m k : ℕ) → in_a_row (m + 1) (all + m + 1) k ≡ in_a_row (m + 1) (all + (m + 1)) k
  same_row m k = ap (λ (z : ℕ). in_a_row (m + 1) z k) (omega arith)

  one_of : (n m d : ℕ) → 0 < d → (xs : List (ℕ × ℕ)) → (c : ℕ) → 0 < c → AreOf n c m d xs → AreOf n c m d ((m, n) ∷ xs)
  one_of n m d some xs c more h y (inl e) =
      let first = ap (λ (z : ℕ × ℕ). z.0) e in
      let second = ap (λ (z : ℕ × ℕ). z.1) e in
      (omega (arith, first), omega (arith, first, some), inl (omega (arith, second), omega (arith, second, more)))
  one_of n m d some xs c more h y (inr i) = h y i

  both_of : (n c m d : ℕ) (xs ys : List (ℕ × ℕ)) → AreOf n c m d xs → AreOf n c m d ys → AreOf n c m d (xs ++ ys)
  both_of n c m d xs ys h k y i = elim (in_parts y xs ys i) [ inl j ↦ h y j | inr j ↦ k y j ]

  apart_some : (ps' : List Partials) (left right : ExprTree) → 0 < statements_count (sum_apart v ps' (Assign left right))
  apart_some [] left right = omega arith
  apart_some (p ∷ rest) left right = go (sum_to p.scalar (Assign left right)) (apart_some rest left right)
    where
      go : (o : Option Sum) → 0 < statements_count (sum_apart v rest (Assign left right)) → 0 < statements_count (apart_or v p o (sum_apart v rest (Assign left right)))
      go None h = h
      go (Some sum) h = omega arith

  mutual
    of_statement : (s : StmtTree) (n m : ℕ) → AreOf n (statement_count s) m (statements_count (summed v ps s)) (pairs_of s n m)
    of_statement (Assign left right) n m =
        let d = statements_count (sum_apart v ps (Assign left right)) in
        let some = apart_some ps left right in
        one_of n m d some (in_a_row (m + 1) (all + m + 1) (d - 1)) 1 (omega arith)
        (λ y i. wider n 1 (m + 1) (d - 1) n 1 m d (omega arith) (omega arith) (omega arith) (omega (arith, some)) y (row_of (m + 1) (d - 1) n 1 y (subst (IsIn y) (same_row m (d - 1)) i)))
    of_statement (If c a b) n m =
        let x = statements_count a in
        let y = statements_count b in
        let x' = statements_count (all_summed v ps a) in
        let y' = statements_count (all_summed v ps b) in
        one_of n m (x' + y' + 1 + 0) (omega arith) (all_pairs a (n + 1) (m + 1) ++ all_pairs b (n + 1 + x) (m + 1 + x')) (x + y + 1) (omega arith)
        (both_of n (x + y + 1) m (x' + y' + 1 + 0) (all_pairs a (n + 1) (m + 1)) (all_pairs b (n + 1 + x) (m + 1 + x'))
        (λ z i. wider (n + 1) x (m + 1) x' n (x + y + 1) m (x' + y' + 1 + 0) (omega arith) (omega arith) (omega arith) (omega arith) z (of_statements a (n + 1) (m + 1) z i))
        (λ z i. wider (n + 1 + x) y (m + 1 + x') y' n (x + y + 1) m (x' + y' + 1 + 0) (omega arith) (omega arith) (omega arith) (omega arith) z (of_statements b (n + 1 + x) (m + 1 + x') z i)))
    of_statement (Do h body) n m =
        let x = statements_count body in
        let x' = statements_count (all_summed v ps body) in
        one_of n m (x' + 1 + 0) (omega arith) (all_pairs body (n + 1) (m + 1)) (x + 1) (omega arith)
        (λ z i. wider (n + 1) x (m + 1) x' n (x + 1) m (x' + 1 + 0) (omega arith) (omega arith) (omega arith) (omega arith) z (of_statements body (n + 1) (m + 1) z i))
    of_statement (Print items) n m = one_of n m 1 (omega arith) [] 1 (omega arith) (λ y i. absurd i)
    of_statement (Read items) n m = one_of n m 1 (omega arith) [] 1 (omega arith) (λ y i. absurd i)
    of_statement Stop n m = one_of n m 1 (omega arith) [] 1 (omega arith) (λ y i. absurd i)
    of_statement (Comment text) n m = λ y i. absurd i

    pub of_statements : (ss : StmtTrees) (n m : ℕ) → AreOf n (statements_count ss) m (statements_count (all_summed v ps ss)) (all_pairs ss n m)
    of_statements no_stmts n m = λ y i. absurd i
    of_statements (more_stmts s rest) n m =
        let c = statement_count s in
        let d = statements_count (summed v ps s) in
        let x = statements_count rest in
        let x' = statements_count (all_summed v ps rest) in
        let whole = followed_count (summed v ps s) (all_summed v ps rest) in
        both_of n (c + x) m (statements_count (followed (summed v ps s) (all_summed v ps rest))) (pairs_of s n m) (all_pairs rest (n + c) (m + d))
        (λ z i. wider n c m d n (c + x) m (statements_count (followed (summed v ps s) (all_summed v ps rest))) (omega arith) (omega arith) (omega arith) (omega (arith, whole)) z (of_statement s n m z i))
        (λ z i. wider (n + c) x (m + d) x' n (c + x) m (statements_count (followed (summed v ps s) (all_summed v ps rest))) (omega arith) (omega arith) (omega arith) (omega (arith, whole)) z (of_statements rest (n + c) (m + d) z i))

  -- pairs of statements, and of others behind them, have no number in common
  differ_by : (n c m d n' c' m' d' : ℕ) (xs ys : List (ℕ × ℕ)) → 0 < m → n + c ≤ n' → m + d ≤ m' → n' + c' ≤ all + 1 → AreOf n c m d xs → AreOf n' c' m' d' ys → Differ xs ys
  differ_by n c m d n' c' m' d' xs ys some old new room h k x y i j =
      let a = h x i in
      let b = k y j in
      let a1 = a.1 in
      let b0 = b.0 in
      ((λ e. omega (arith, a1, b0, new, e)), (λ e. seconds a.2 b.2 a.0 b.0 a.1 e))
    where
      seconds : ((n ≤ x.1) × (x.1 < n + c)) ⊎ (x.1 ≡ all + x.0) → ((n' ≤ y.1) × (y.1 < n' + c')) ⊎ (y.1 ≡ all + y.0) → m ≤ x.0 → m' ≤ y.0 → x.0 < m + d → y.1 ≡ x.1 → ⊥
      seconds (inl p) (inl q) r s u e = let p1 = p.1 in let q0 = q.0 in omega (arith, p1, q0, old, e)
      seconds (inl p) (inr q) r s u e = let p1 = p.1 in omega (arith, p1, q, s, new, some, old, room, e)
      seconds (inr p) (inl q) r s u e = let q1 = q.1 in omega (arith, p, q1, r, some, room, e)
      seconds (inr p) (inr q) r s u e = omega (arith, p, q, u, s, new, e)

  -- the first pair and others behind it
  apart_first : (n m c d n' c' m' d' : ℕ) (xs : List (ℕ × ℕ)) → 0 < m → n + 1 ≤ n' → m + 1 ≤ m' → n' + c' ≤ all + 1 → AreOf n' c' m' d' xs → AreApart xs → AreApart ((m, n) ∷ xs)
  apart_first n m c d n' c' m' d' xs some old new room h apart = ((λ y i. differ_by n 1 m 1 n' c' m' d' ((m, n) ∷ []) xs some old new room (one_of n m 1 (omega arith) [] 1 (omega arith) (λ z j. absurd j)) h (m, n) y (inl refl) i), apart)

  mutual
    apart_statement : (s : StmtTree) (n m : ℕ) → 0 < m → n + statement_count s ≤ all + 1 → AreApart (pairs_of s n m)
    apart_statement (Assign left right) n m some room =
        let d = statements_count (sum_apart v ps (Assign left right)) in
        apart_first n m 1 1 (n + 1) 0 (m + 1) (d - 1) (in_a_row (m + 1) (all + m + 1) (d - 1)) some (omega arith) (omega arith) (omega (arith, room))
        (λ y i. row_of (m + 1) (d - 1) (n + 1) 0 y (subst (IsIn y) (same_row m (d - 1)) i)) (row_apart (m + 1) (all + m + 1) (d - 1))
    apart_statement (If c a b) n m some room =
        let x = statements_count a in
        let y = statements_count b in
        let x' = statements_count (all_summed v ps a) in
        let y' = statements_count (all_summed v ps b) in
        apart_first n m 1 1 (n + 1) (x + y) (m + 1) (x' + y') (all_pairs a (n + 1) (m + 1) ++ all_pairs b (n + 1 + x) (m + 1 + x')) some (omega arith) (omega arith) (omega (arith, room))
        (both_of (n + 1) (x + y) (m + 1) (x' + y') (all_pairs a (n + 1) (m + 1)) (all_pairs b (n + 1 + x) (m + 1 + x'))
        (λ z i. wider (n + 1) x (m + 1) x' (n + 1) (x + y) (m + 1) (x' + y') (omega arith) (omega arith) (omega arith) (omega arith) z (of_statements a (n + 1) (m + 1) z i))
        (λ z i. wider (n + 1 + x) y (m + 1 + x') y' (n + 1) (x + y) (m + 1) (x' + y') (omega arith) (omega arith) (omega arith) (omega arith) z (of_statements b (n + 1 + x) (m + 1 + x') z i)))
        (append_apart (all_pairs a (n + 1) (m + 1)) (all_pairs b (n + 1 + x) (m + 1 + x')) (apart_statements a (n + 1) (m + 1) (omega arith) (omega (arith, room))) (apart_statements b (n + 1 + x) (m + 1 + x') (omega arith) (omega (arith, room)))
        (differ_by (n + 1) x (m + 1) x' (n + 1 + x) y (m + 1 + x') y' (all_pairs a (n + 1) (m + 1)) (all_pairs b (n + 1 + x) (m + 1 + x')) (omega arith) (omega arith) (omega arith) (omega (arith, room))
        (of_statements a (n + 1) (m + 1)) (of_statements b (n + 1 + x) (m + 1 + x'))))
    apart_statement (Do h body) n m some room =
        apart_first n m 1 1 (n + 1) (statements_count body) (m + 1) (statements_count (all_summed v ps body)) (all_pairs body (n + 1) (m + 1)) some (omega arith) (omega arith) (omega (arith, room)) (of_statements body (n + 1) (m + 1))
        (apart_statements body (n + 1) (m + 1) (omega arith) (omega (arith, room)))
    apart_statement (Print items) n m some room = ((λ y i. absurd i), tt)
    apart_statement (Read items) n m some room = ((λ y i. absurd i), tt)
    apart_statement Stop n m some room = ((λ y i. absurd i), tt)
    apart_statement (Comment text) n m some room = tt

    pub apart_statements : (ss : StmtTrees) (n m : ℕ) → 0 < m → n + statements_count ss ≤ all + 1 → AreApart (all_pairs ss n m)
    apart_statements no_stmts n m some room = tt
    apart_statements (more_stmts s rest) n m some room =
        let c = statement_count s in
        let d = statements_count (summed v ps s) in
        append_apart (pairs_of s n m) (all_pairs rest (n + c) (m + d)) (apart_statement s n m some (omega (arith, room))) (apart_statements rest (n + c) (m + d) (omega (arith, some)) (omega (arith, room)))
        (differ_by n c m d (n + c) (statements_count rest) (m + d) (statements_count (all_summed v ps rest)) (pairs_of s n m) (all_pairs rest (n + c) (m + d)) some (omega arith) (omega arith) (omega (arith, room)) (of_statement s n m) (of_statements rest (n + c) (m + d)))

  -- where numbers count as these pairs say, statements that stay count alike
  module _ (f' : ℕ → ℕ) where
    abbrev own : ℕ → ℕ
    own k = k

    abbrev pub Count : List (ℕ × ℕ) → Type 0
    Count xs = (y : ℕ × ℕ) → IsIn y xs → f' y.0 ≡ y.1

    mutual
      alike_statement : (s : StmtTree) (n m : ℕ) → Count (pairs_of s n m) → CountsAlike (λ k. k) f' v ps s n m
      alike_statement (Assign left right) n m h = sym (h (m, n) (inl refl))
      alike_statement (If c a b) n m h =
          let x = all_pairs a (n + 1) (m + 1) in
          let y = all_pairs b (n + 1 + statements_count a) (m + 1 + statements_count (all_summed v ps a)) in
          (sym (h (m, n) (inl refl)), (alike_statements a (n + 1) (m + 1) (λ z i. h z (inr (in_left z x y i))), alike_statements b (n + 1 + statements_count a) (m + 1 + statements_count (all_summed v ps a)) (λ z i. h z (inr (in_right z x y i)))))
      alike_statement (Do g body) n m h = (sym (h (m, n) (inl refl)), alike_statements body (n + 1) (m + 1) (λ z i. h z (inr i)))
      alike_statement (Print items) n m h = sym (h (m, n) (inl refl))
      alike_statement (Read items) n m h = sym (h (m, n) (inl refl))
      alike_statement Stop n m h = sym (h (m, n) (inl refl))
      alike_statement (Comment text) n m h = tt

      pub alike_statements : (ss : StmtTrees) (n m : ℕ) → Count (all_pairs ss n m) → CountAlike (λ k. k) f' v ps ss n m
      alike_statements no_stmts n m h = tt
      alike_statements (more_stmts s rest) n m h =
          let x = pairs_of s n m in
          let y = all_pairs rest (n + statement_count s) (m + statements_count (summed v ps s)) in
          (alike_statement s n m (λ z i. h z (in_left z x y i)), alike_statements rest (n + statement_count s) (m + statements_count (summed v ps s)) (λ z i. h z (in_right z x y i)))

  -- the pairs of a DO with number l and of the DO of its exits
  module _ (h : Head) (body : StmtTrees) (l : ℕ) where
    abbrev zero_count : ℕ
    zero_count = statements_count (zeros v ps)

    abbrev body_count : ℕ
    body_count = statements_count (all_summed v ps body)

    abbrev exit_count : ℕ
    exit_count = statements_count (exits v ps)

    abbrev pub loop_pairs : List (ℕ × ℕ)
    loop_pairs = (l, l) ∷ (in_a_row (l + 1) (all + (l + 1)) zero_count ++ (all_pairs body (l + 1) (l + 1 + zero_count) ++ in_a_row (l + 1 + zero_count + body_count) (all + (l + 1 + zero_count + body_count)) (1 + exit_count)))

    abbrev new_count : ℕ
    new_count = (zero_count + body_count + 1) + (exit_count + 1 + 0)

    behind_of : AreOf (l + 1) (statements_count body) (l + 1 + zero_count) (body_count + (1 + exit_count)) (all_pairs body (l + 1) (l + 1 + zero_count) ++ in_a_row (l + 1 + zero_count + body_count) (all + (l + 1 + zero_count + body_count)) (1 + exit_count))
    behind_of =
        both_of (l + 1) (statements_count body) (l + 1 + zero_count) (body_count + (1 + exit_count)) (all_pairs body (l + 1) (l + 1 + zero_count)) (in_a_row (l + 1 + zero_count + body_count) (all + (l + 1 + zero_count + body_count)) (1 + exit_count))
        (λ y i. wider (l + 1) (statements_count body) (l + 1 + zero_count) body_count (l + 1) (statements_count body) (l + 1 + zero_count) (body_count + (1 + exit_count)) (omega arith) (omega arith) (omega arith) (omega arith) y (of_statements body (l + 1) (l + 1 + zero_count) y i))
        (λ y i. wider (l + 1) (statements_count body) (l + 1 + zero_count + body_count) (1 + exit_count) (l + 1) (statements_count body) (l + 1 + zero_count) (body_count + (1 + exit_count)) (omega arith) (omega arith) (omega arith) (omega arith) y (row_of (l + 1 + zero_count + body_count) (1 + exit_count) (l + 1) (statements_count body) y i))

    inside_of : AreOf (l + 1) (statements_count body) (l + 1) (zero_count + body_count + (1 + exit_count)) (in_a_row (l + 1) (all + (l + 1)) zero_count ++ (all_pairs body (l + 1) (l + 1 + zero_count) ++ in_a_row (l + 1 + zero_count + body_count) (all + (l + 1 + zero_count + body_count)) (1 + exit_count)))
    inside_of =
        both_of (l + 1) (statements_count body) (l + 1) (zero_count + body_count + (1 + exit_count)) (in_a_row (l + 1) (all + (l + 1)) zero_count) (all_pairs body (l + 1) (l + 1 + zero_count) ++ in_a_row (l + 1 + zero_count + body_count) (all + (l + 1 + zero_count + body_count)) (1 + exit_count))
        (λ y i. wider (l + 1) (statements_count body) (l + 1) zero_count (l + 1) (statements_count body) (l + 1) (zero_count + body_count + (1 + exit_count)) (omega arith) (omega arith) (omega arith) (omega arith) y (row_of (l + 1) zero_count (l + 1) (statements_count body) y i))
        (λ y i. wider (l + 1) (statements_count body) (l + 1 + zero_count) (body_count + (1 + exit_count)) (l + 1) (statements_count body) (l + 1) (zero_count + body_count + (1 + exit_count)) (omega arith) (omega arith) (omega arith) (omega arith) y (behind_of y i))

    module _ (some : 0 < l) (room : l + (statements_count body + 1) ≤ all + 1) where
      apart : AreApart loop_pairs
      apart =
          apart_first l l 1 1 (l + 1) (statements_count body) (l + 1) (zero_count + body_count + (1 + exit_count))
          (in_a_row (l + 1) (all + (l + 1)) zero_count ++ (all_pairs body (l + 1) (l + 1 + zero_count) ++ in_a_row (l + 1 + zero_count + body_count) (all + (l + 1 + zero_count + body_count)) (1 + exit_count)))
          some (omega arith) (omega arith) (omega (arith, room)) inside_of
          (append_apart (in_a_row (l + 1) (all + (l + 1)) zero_count) (all_pairs body (l + 1) (l + 1 + zero_count) ++ in_a_row (l + 1 + zero_count + body_count) (all + (l + 1 + zero_count + body_count)) (1 + exit_count)) (row_apart (l + 1) (all + (l + 1)) zero_count)
          (append_apart (all_pairs body (l + 1) (l + 1 + zero_count)) (in_a_row (l + 1 + zero_count + body_count) (all + (l + 1 + zero_count + body_count)) (1 + exit_count)) (apart_statements body (l + 1) (l + 1 + zero_count) (omega arith) (omega (arith, room))) (row_apart (l + 1 + zero_count + body_count) (all + (l + 1 + zero_count + body_count)) (1 + exit_count))
          (differ_by (l + 1) (statements_count body) (l + 1 + zero_count) body_count (l + 1 + statements_count body) 0 (l + 1 + zero_count + body_count) (1 + exit_count) (all_pairs body (l + 1) (l + 1 + zero_count)) (in_a_row (l + 1 + zero_count + body_count) (all + (l + 1 + zero_count + body_count)) (1 + exit_count))
          (omega arith) (omega arith) (omega arith) (omega (arith, room)) (of_statements body (l + 1) (l + 1 + zero_count)) (row_of (l + 1 + zero_count + body_count) (1 + exit_count) (l + 1 + statements_count body) 0)))
          (differ_by (l + 1) 0 (l + 1) zero_count (l + 1) (statements_count body) (l + 1 + zero_count) (body_count + (1 + exit_count)) (in_a_row (l + 1) (all + (l + 1)) zero_count) (all_pairs body (l + 1) (l + 1 + zero_count) ++ in_a_row (l + 1 + zero_count + body_count) (all + (l + 1 + zero_count + body_count)) (1 + exit_count))
          (omega arith) (omega arith) (omega arith) (omega (arith, room)) (row_of (l + 1) zero_count (l + 1) 0) behind_of))

      all_of : AreOf l (statements_count body + 1) l (zero_count + body_count + 1 + (exit_count + 1 + 0)) loop_pairs
      all_of =
          one_of l l (zero_count + body_count + 1 + (exit_count + 1 + 0)) (omega arith) (in_a_row (l + 1) (all + (l + 1)) zero_count ++ (all_pairs body (l + 1) (l + 1 + zero_count) ++ in_a_row (l + 1 + zero_count + body_count) (all + (l + 1 + zero_count + body_count)) (1 + exit_count))) (statements_count body + 1) (omega arith)
          (λ y i. wider (l + 1) (statements_count body) (l + 1) (zero_count + body_count + (1 + exit_count)) l (statements_count body + 1) l (zero_count + body_count + 1 + (exit_count + 1 + 0)) (omega arith) (omega arith) (omega arith) (omega arith) y (inside_of y i))

      -- they fit in the gap
      pub fit : FitInGap l (statements_count body + 1 + 0) (zero_count + body_count + 1 + (exit_count + 1 + 0)) all loop_pairs
      fit = record {
        room = omega (arith, room);
        apart = apart;
        from = λ y i. (all_of y i).0;
        to = λ y i. (all_of y i).1;
        under = λ y i. elim (all_of y i).2 [
          | inl k ↦ (let k0 = k.0 in let k1 = k.1 in inl (omega (arith, k0), omega (arith, k1)))
          | inr e ↦ (let low = (all_of y i).0 in inr (omega (arith, e, low, some)))
        ];
      }

    -- the DO counts under its number, and statements in its body under theirs
    module _ (f' : ℕ → ℕ) (count : Count f' loop_pairs) where
      pub loop_counts : l ≡ f' l
      loop_counts = sym (count (l, l) (inl refl))

      pub body_counts : CountAlike (λ k. k) f' v ps body (l + 1) (l + 1 + statements_count (zeros v ps))
      body_counts = alike_statements f' body (l + 1) (l + 1 + zero_count) (λ y i. count y (inr (in_right y (in_a_row (l + 1) (all + (l + 1)) zero_count) (all_pairs body (l + 1) (l + 1 + zero_count) ++ in_a_row (l + 1 + zero_count + body_count) (all + (l + 1 + zero_count + body_count)) (1 + exit_count)) (in_left y (all_pairs body (l + 1) (l + 1 + zero_count)) (in_a_row (l + 1 + zero_count + body_count) (all + (l + 1 + zero_count + body_count)) (1 + exit_count)) i))))
