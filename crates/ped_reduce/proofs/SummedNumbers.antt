-- The new numbers of statements where sums are kept apart: each goes further by two for each sum before it.
use Rattle.std.proofs.Common.{◌≡◌, ◌⊎◌, ℕ, suc, ◌+◌, ◌-◌, ◌≤◌, ◌<◌, ◌==◌, List, [], ◌∷◌, map, length, Bool, true, false, if◌then◌else◌, refl, sym, ap, ◌∙◌, inl, inr, arith, eqb-true}
use Rattle.std.specs.Prelude.{nat_lt}
use Rattle.std.proofs.lemmas.Bool.{cases_lt, lt-ltb, le-ltb}
use Rattle.ped_tree.specs.Tree.{ExprTree, StmtTree, StmtTrees, Assign, If, Do, Print, Read, Stop, Comment, no_stmts, more_stmts}
use Rattle.ped_tree.specs.Nests.{Loop, common_nest}
use Rattle.ped_tree.specs.Numbering.{statement_count, statements_count}
use Rattle.ped_rules.specs.ped_steps.proofs.RunLaws.FilledGaps.{counted}
use Rattle.ped_reduce.specs.Lowering.{Partials, sum_apart, summed, all_summed}
use Rattle.ped_reduce.proofs.SumShapes.{IsApart, IsBare, apart_or_bare}
use Rattle.ped_reduce.proofs.SummedReferences.{renumbered, Tells, AllTell}

-- how many statements more an assignment becomes
abbrev more_of : List ℕ → List Partials → ExprTree → ExprTree → ℕ
more_of v ps left right = statements_count (sum_apart v ps (Assign left right)) - 1

-- how many statements more the statements with numbers below k become
abbrev mutual
  pub below : List ℕ → List Partials → StmtTree → (n k : ℕ) → ℕ
  below v ps (Assign left right) n k = if nat_lt n k then more_of v ps left right else 0
  below v ps (If c a b) n k = all_below v ps a (n + 1) k + all_below v ps b (n + 1 + statements_count a) k
  below v ps (Do h body) n k = all_below v ps body (n + 1) k
  below v ps (Print items) n k = 0
  below v ps (Read items) n k = 0
  below v ps Stop n k = 0
  below v ps (Comment text) n k = 0

  pub all_below : List ℕ → List Partials → StmtTrees → (n k : ℕ) → ℕ
  all_below v ps no_stmts n k = 0
  all_below v ps (more_stmts s rest) n k = below v ps s n k + all_below v ps rest (n + statement_count s) k

module _ (v : List ℕ) (ps : List Partials) where
  not_less : (n k x : ℕ) → k ≤ n → (if nat_lt n k then x else 0) ≡ 0
  not_less n k x h = ap (λ (b : Bool). if b then x else 0) (le-ltb n k h)

  is_less : (n k x : ℕ) → n < k → (if nat_lt n k then x else 0) ≡ x
  is_less n k x h = ap (λ (b : Bool). if b then x else 0) (lt-ltb n k h)

  -- none stands before them
  mutual
    none_below : (s : StmtTree) (n k : ℕ) → k ≤ n → below v ps s n k ≡ 0
    none_below (Assign left right) n k h = not_less n k (more_of v ps left right) h
    none_below (If c a b) n k h =
        let x = all_none_below a (n + 1) k (omega (arith, h)) in
        let y = all_none_below b (n + 1 + statements_count a) k (omega (arith, h)) in
        omega (arith, x, y)
    none_below (Do g body) n k h = all_none_below body (n + 1) k (omega (arith, h))
    none_below (Print items) n k h = refl
    none_below (Read items) n k h = refl
    none_below Stop n k h = refl
    none_below (Comment text) n k h = refl

    all_none_below : (ss : StmtTrees) (n k : ℕ) → k ≤ n → all_below v ps ss n k ≡ 0
    all_none_below no_stmts n k h = refl
    all_none_below (more_stmts s rest) n k h =
        let x = none_below s n k h in
        let y = all_none_below rest (n + statement_count s) k (omega (arith, h)) in
        omega (arith, x, y)

  some_of : (left right : ExprTree) (ws : StmtTrees) → IsApart v ps left right ws ⊎ IsBare ps left right ws → 1 ≤ statements_count ws
  some_of left right ws (inl a) = let e = ap statements_count a.is in omega (arith, e)
  some_of left right ws (inr b) = let e = ap statements_count b.is in omega (arith, e)

  -- behind them all have come
  mutual
    counted_below : (s : StmtTree) (n k : ℕ) → n + statement_count s ≤ k → statements_count (summed v ps s) ≡ statement_count s + below v ps s n k
    counted_below (Assign left right) n k h =
        let some = some_of left right (sum_apart v ps (Assign left right)) (apart_or_bare v left right ps) in
        let e = is_less n k (more_of v ps left right) (omega (arith, h)) in
        omega (arith, some, e)
    counted_below (If c a b) n k h =
        let x = all_counted_below a (n + 1) k (omega (arith, h)) in
        let y = all_counted_below b (n + 1 + statements_count a) k (omega (arith, h)) in
        omega (arith, x, y)
    counted_below (Do g body) n k h = let x = all_counted_below body (n + 1) k (omega (arith, h)) in omega (arith, x)
    counted_below (Print items) n k h = refl
    counted_below (Read items) n k h = refl
    counted_below Stop n k h = refl
    counted_below (Comment text) n k h = refl

    all_counted_below : (ss : StmtTrees) (n k : ℕ) → n + statements_count ss ≤ k → statements_count (all_summed v ps ss) ≡ statements_count ss + all_below v ps ss n k
    all_counted_below no_stmts n k h = refl
    all_counted_below (more_stmts s rest) n k h =
        let both = counted (summed v ps s) (all_summed v ps rest) in
        let x = counted_below s n k (omega (arith, h)) in
        let y = all_counted_below rest (n + statement_count s) k (omega (arith, h)) in
        omega (arith, both, x, y)

  -- further on there are no fewer
  no_fewer : (n j k x : ℕ) → j ≤ k → (if nat_lt n j then x else 0) ≤ (if nat_lt n k then x else 0)
  no_fewer n j k x h = elim (cases_lt n j) [
    | inl less ↦ (let a = is_less n j x less in let b = is_less n k x (omega (arith, less, h)) in omega (arith, a, b))
    | inr over ↦ (let a = not_less n j x over in omega (arith, a))
  ]

  mutual
    rising : (s : StmtTree) (n j k : ℕ) → j ≤ k → below v ps s n j ≤ below v ps s n k
    rising (Assign left right) n j k h = no_fewer n j k (more_of v ps left right) h
    rising (If c a b) n j k h =
        let x = all_rising a (n + 1) j k h in
        let y = all_rising b (n + 1 + statements_count a) j k h in
        omega (arith, x, y)
    rising (Do g body) n j k h = all_rising body (n + 1) j k h
    rising (Print items) n j k h = omega arith
    rising (Read items) n j k h = omega arith
    rising Stop n j k h = omega arith
    rising (Comment text) n j k h = omega arith

    all_rising : (ss : StmtTrees) (n j k : ℕ) → j ≤ k → all_below v ps ss n j ≤ all_below v ps ss n k
    all_rising no_stmts n j k h = omega arith
    all_rising (more_stmts s rest) n j k h =
        let x = rising s n j k h in
        let y = all_rising rest (n + statement_count s) j k h in
        omega (arith, x, y)

  -- a function that counts so tells the new numbers of DO loops
  module _ (f : ℕ → ℕ) where
    mutual
      tells : (s : StmtTree) (n m : ℕ) → ((k : ℕ) → n ≤ k → k ≤ n + statement_count s → f k + n ≡ m + k + below v ps s n k) → Tells f v ps s n m
      tells (Assign left right) n m h = tt
      tells (If c a b) n m h = (
        all_tell a (n + 1) (m + 1) (λ k from to. (let e = h k (omega (arith, from)) (omega (arith, to)) in let none = all_none_below b (n + 1 + statements_count a) k (omega (arith, to)) in omega (arith, e, none))),
        all_tell b (n + 1 + statements_count a) (m + 1 + statements_count (all_summed v ps a))
            (λ k from to. (let e = h k (omega (arith, from)) (omega (arith, to)) in let all = all_counted_below a (n + 1) k (omega (arith, from)) in omega (arith, e, all))),
      )
      tells (Do g body) n m h = (
        let e = h n (omega arith) (omega arith) in let none = all_none_below body (n + 1) n (omega arith) in omega (arith, e, none),
        all_tell body (n + 1) (m + 1) (λ k from to. (let e = h k (omega (arith, from)) (omega (arith, to)) in omega (arith, e))),
      )
      tells (Print items) n m h = tt
      tells (Read items) n m h = tt
      tells Stop n m h = tt
      tells (Comment text) n m h = tt

      pub all_tell : (ss : StmtTrees) (n m : ℕ) → ((k : ℕ) → n ≤ k → k ≤ n + statements_count ss → f k + n ≡ m + k + all_below v ps ss n k) → AllTell f v ps ss n m
      all_tell no_stmts n m h = tt
      all_tell (more_stmts s rest) n m h = (
        tells s n m (λ k from to. (let e = h k from (omega (arith, to)) in let none = all_none_below rest (n + statement_count s) k to in omega (arith, e, none))),
        all_tell rest (n + statement_count s) (m + statements_count (summed v ps s))
            (λ k from to. (let e = h k (omega (arith, from)) (omega (arith, to)) in let all = counted_below s n k from in omega (arith, e, all))),
      )

  -- the new number of a statement, where the statements go from n to m
  abbrev pub moved : StmtTrees → (n m k : ℕ) → ℕ
  moved ss n m k = k + (m - n) + all_below v ps ss n k

  pub moved_tells : (ss : StmtTrees) (n m : ℕ) → n ≤ m → AllTell (moved ss n m) v ps ss n m
  moved_tells ss n m h = all_tell (moved ss n m) ss n m (λ k from to. omega (arith, h))

  pub moved_rises : (ss : StmtTrees) (n m j k : ℕ) → j < k → moved ss n m j < moved ss n m k
  moved_rises ss n m j k h = let more = all_rising ss n j k (omega (arith, h)) in omega (arith, h, more)

  pub moved_from : (ss : StmtTrees) (n m k : ℕ) → n ≤ m → n ≤ k → m ≤ moved ss n m k
  moved_from ss n m k h g = omega (arith, h, g)

-- where numbers rise, DO loops are the same under new numbers where they were under the old ones
module _ (f : ℕ → ℕ) (rises : (j k : ℕ) → j < k → f j < f k) where
  pub same_number : (j k : ℕ) → (f j == f k) ≡ (j == k)
  same_number j k = elim (cases_lt j k) [
    | inl less ↦ (let more = rises j k less in let a = differ j k less in let b = differ (f j) (f k) more in b ∙ sym a)
    | inr over ↦ elim (cases_lt k j) [
      | inl less ↦ (let more = rises k j less in let a = differ_back j k less in let b = differ_back (f j) (f k) more in b ∙ sym a)
      | inr under ↦ (let same : j ≡ k = omega (arith, over, under) in ap (λ (z : ℕ). f z == f k) same ∙ itself (f k) ∙ sym (ap (λ (z : ℕ). z == k) same ∙ itself k))
    ]
  ]
    where
      differ : (a b : ℕ) → a < b → (a == b) ≡ false
      differ a b h = grind (arith, eqb-true, h)

      differ_back : (a b : ℕ) → b < a → (a == b) ≡ false
      differ_back a b h = grind (arith, eqb-true, h)

      itself : (n : ℕ) → (n == n) ≡ true
      itself n = grind (arith, eqb-true)

  pub common_renumbered : (a b : List Loop) → length (common_nest (map (renumbered f) a) (map (renumbered f) b)) ≡ length (common_nest a b)
  common_renumbered [] b = refl
  common_renumbered (l ∷ ls) [] = refl
  common_renumbered (l ∷ ls) (m ∷ ms) =
      ap (λ (c : Bool). length (if c then renumbered f l ∷ common_nest (map (renumbered f) ls) (map (renumbered f) ms) else [])) (same_number l.number m.number)
      ∙ by (l.number == m.number) (common_renumbered ls ms)
    where
      by : (c : Bool) → length (common_nest (map (renumbered f) ls) (map (renumbered f) ms)) ≡ length (common_nest ls ms)
          → length (if c then renumbered f l ∷ common_nest (map (renumbered f) ls) (map (renumbered f) ms) else []) ≡ length (if c then l ∷ common_nest ls ms else [])
      by true e = ap suc e
      by false e = refl
