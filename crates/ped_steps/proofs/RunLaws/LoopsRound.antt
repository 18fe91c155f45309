-- The DO loops round a statement, on the way down to it.
use Rattle.std.proofs.Common.{◌≡◌, ℕ, ◌+◌, ◌≤◌, ◌<◌, List, [], ◌∷◌, ◌++◌, Bool, true, false, ◌&&◌, if◌then◌else◌, refl, arith, nat_le}
use Rattle.std.specs.Prelude.{nat_lt}
use Rattle.std.proofs.lemmas.Bool.{ltb-true, lt-ltb, leb-true, le-leb}
use Rattle.ped_tree.specs.Tree.{Head, StmtTree, StmtTrees, Assign, If, Do, Print, Read, Stop, Comment, no_stmts, more_stmts}
use Rattle.ped_tree.specs.Nests.{Loop}
use Rattle.ped_tree.specs.Numbering.{statement_count, statements_count}
use Rattle.ped_weaves.specs.ped_flow.specs.PlainBounds.{loops_round, all_loops_round}

module _ (l : ℕ) where
  abbrev One : ℕ → Head → StmtTrees → List Loop
  One n h b = (record { number = n; head = h }) ∷ all_loops_round l b (n + 1)

  no_loops : (a c : Bool) (n : ℕ) (h : Head) (b : StmtTrees) → nat_lt n l ≡ a → nat_le l (n + statements_count b) ≡ c → ((n < l) → l ≤ n + statements_count b → ⊥) → (if a && c then One n h b else []) ≡ []
  no_loops true true n h b e f never = absurd (never (ltb-true n l e) (leb-true l (n + statements_count b) f))
  no_loops true false n h b e f never = refl
  no_loops false c n h b e f never = refl

  some_loops : (a c : Bool) (n : ℕ) (h : Head) (b : StmtTrees) → a ≡ true → c ≡ true → (if a && c then One n h b else []) ≡ One n h b
  some_loops true true n h b e f = refl
  some_loops true false n h b e f = absurd cc
  some_loops false c n h b e f = absurd cc

  -- statements that end before the number have none, and neither have those that begin at it or behind it
  mutual
    pub none_before : (x : StmtTree) (n : ℕ) → n + statement_count x ≤ l → loops_round l x n ≡ []
    none_before (Assign left right) n h = refl
    none_before (If c a b) n h =
        let first = all_none_before a (n + 1) (omega (arith, h)) in
        let second = all_none_before b (n + 1 + statements_count a) (omega (arith, h)) in
        λ i. first i ++ second i
    none_before (Do h b) n k = no_loops (nat_lt n l) (nat_le l (n + statements_count b)) n h b refl refl (λ e f. absurd (omega (arith, k, f)))
    none_before (Print items) n h = refl
    none_before (Read items) n h = refl
    none_before Stop n h = refl
    none_before (Comment text) n h = refl

    pub all_none_before : (ts : StmtTrees) (n : ℕ) → n + statements_count ts ≤ l → all_loops_round l ts n ≡ []
    all_none_before no_stmts n h = refl
    all_none_before (more_stmts x rest) n h =
        let first = none_before x n (omega (arith, h)) in
        let second = all_none_before rest (n + statement_count x) (omega (arith, h)) in
        λ i. first i ++ second i

  mutual
    pub none_from : (x : StmtTree) (n : ℕ) → l ≤ n → loops_round l x n ≡ []
    none_from (Assign left right) n h = refl
    none_from (If c a b) n h =
        let first = all_none_from a (n + 1) (omega (arith, h)) in
        let second = all_none_from b (n + 1 + statements_count a) (omega (arith, h)) in
        λ i. first i ++ second i
    none_from (Do h b) n k = no_loops (nat_lt n l) (nat_le l (n + statements_count b)) n h b refl refl (λ e f. absurd (omega (arith, k, e)))
    none_from (Print items) n h = refl
    none_from (Read items) n h = refl
    none_from Stop n h = refl
    none_from (Comment text) n h = refl

    pub all_none_from : (ts : StmtTrees) (n : ℕ) → l ≤ n → all_loops_round l ts n ≡ []
    all_none_from no_stmts n h = refl
    all_none_from (more_stmts x rest) n h =
        let first = none_from x n h in
        let second = all_none_from rest (n + statement_count x) (omega (arith, h)) in
        λ i. first i ++ second i

  -- a DO is round the statements in it
  pub one_more : (h : Head) (b : StmtTrees) (n : ℕ) → n < l → l ≤ n + statements_count b → loops_round l (Do h b) n ≡ One n h b
  one_more h b n e k = some_loops (nat_lt n l) (nat_le l (n + statements_count b)) n h b (lt-ltb n l e) (le-leb l (n + statements_count b) k)
