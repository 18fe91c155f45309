-- The one DO in the place of the two, as the code puts it there, and in a gap.
use Rattle.std.proofs.Common.{◌≡◌, ◌⊎◌, inl, inr, ℕ, ◌+◌, ◌<◌, ◌≤◌, ◌==◌, List, [], ◌∷◌, ◌++◌, Bool, true, false, not, ◌&&◌, if◌then◌else◌, refl, sym, ap, ◌∙◌, arith, eqb-true}
use Rattle.std.proofs.lemmas.List.Sums.{fold-append}
use Rattle.ped_tree.specs.Names.Collecting.{with_name, with_names}
use Rattle.ped_tree.specs.Tree.{Head, StmtTree, StmtTrees, Assign, If, Do, Print, Read, Stop, Comment, no_stmts, more_stmts}
use Rattle.ped_tree.specs.Numbering.{statement_count, statements_count}
use Rattle.ped_tree.proofs.Numbers.{stmt_trees-drop}
use Rattle.ped_rules.specs.ped_steps.specs.Replacing.{followed, alone}
use Rattle.ped_rules.specs.ped_steps.specs.Runs.Gaps.{Gap, at_front, past, in_then, in_else, in_body, filled, number_at}
use Rattle.ped_rules.specs.ped_steps.proofs.Followed.{followed-assoc, followed-none, stmt_trees-append}
use Rattle.ped_rules.specs.ped_steps.proofs.RunLaws.FilledGaps.{number_from, number_room}
use Rattle.ped_splits.specs.CodePairs.{behind_next, all_joined, one_joined}

-- names of two lists one behind the other
pub with_both : (names first second : List (List ℕ)) → with_names (with_names names first) second ≡ with_names names (first ++ second)
with_both names first second = sym (fold-append with_name names first second)

-- a head with other rejected names
pub rejoined : (g h : Head) (a b : StmtTrees) (names more : List (List ℕ)) → Do g a ≡ Do h b → names ≡ more → Do (record g { rejected = names }) a ≡ Do (record h { rejected = more }) b
rejoined g h a b names more e f = let head : g ≡ h = cc in let body : a ≡ b = cc in λ i. Do (record (head i) { rejected = f i }) (body i)

pub ruleset following = (followed-assoc, followed-none, stmt_trees-append, stmt_trees-drop)

-- what is told by a test that passes, or fails
pub if_true : {A : Type 0} (b : Bool) (x y : A) → b ≡ true → (if b then x else y) ≡ x
if_true true x y e = refl
if_true false x y e = absurd cc

pub if_false : {A : Type 0} (b : Bool) (x y : A) → b ≡ false → (if b then x else y) ≡ y
if_false true x y e = absurd cc
if_false false x y e = refl

-- a statement isn't there that has another number, or is a comment
not_there : (a b c : ℕ) → ((a ≡ b) → c ≡ 0) → ((a == b) && not (c == 0)) ≡ false
not_there a b c h = by (a == b) refl
  where
    by : (r : Bool) → (a == b) ≡ r → (r && not (c == 0)) ≡ false
    by true e = let z : c ≡ 0 = h (eqb-true a b e) in grind (arith, eqb-true)
    by false e = refl

is_there : (a b c : ℕ) → a ≡ b → ((a == b) && not (c + 1 == 0)) ≡ true
is_there a b c h = grind (arith, eqb-true)

module _ (new : StmtTree) (k : ℕ) where
  no_other : (n a b : ℕ) → (k < n) ⊎ (n + (a + b) ≤ k) → n ≡ k → a ≡ 0
  no_other n a b (inl l) e = absurd (omega (arith, l, e))
  no_other n a b (inr l) e = omega (arith, l, e)

  here : (n a b : ℕ) → (k < n) ⊎ (n + (a + b) ≤ k) → (k ≤ n) ⊎ (n + a ≤ k)
  here n a b (inl l) = inl (omega (arith, l))
  here n a b (inr l) = inr (omega (arith, l))

  later : (n a b : ℕ) → (k < n) ⊎ (n + (a + b) ≤ k) → (k < n + a) ⊎ (n + a + b ≤ k)
  later n a b (inl l) = inl (omega (arith, l))
  later n a b (inr l) = inr (omega (arith, l))

  first : (n a b : ℕ) → (k ≤ n) ⊎ (n + (a + b + 1) ≤ k) → (k < n + 1) ⊎ (n + 1 + a ≤ k)
  first n a b (inl l) = inl (omega (arith, l))
  first n a b (inr l) = inr (omega (arith, l))

  second : (n a b : ℕ) → (k ≤ n) ⊎ (n + (a + b + 1) ≤ k) → (k < n + 1 + a) ⊎ (n + 1 + a + b ≤ k)
  second n a b (inl l) = inl (omega (arith, l))
  second n a b (inr l) = inr (omega (arith, l))

  inside : (n a : ℕ) → (k ≤ n) ⊎ (n + (a + 1) ≤ k) → (k < n + 1) ⊎ (n + 1 + a ≤ k)
  inside n a (inl l) = inl (omega (arith, l))
  inside n a (inr l) = inr (omega (arith, l))

  -- statements that have other numbers stay
  mutual
    stay : (ss : StmtTrees) (n : ℕ) → (k < n) ⊎ (n + statements_count ss ≤ k) → all_joined new k ss n ≡ ss
    stay no_stmts n o = refl
    stay (more_stmts s rest) n o =
        if_false ((n == k) && not (statement_count s == 0)) _ _ (not_there n k (statement_count s) (no_other n (statement_count s) (statements_count rest) o))
        ∙ (λ i. more_stmts (one_stays s n (here n (statement_count s) (statements_count rest) o) i) (stay rest (n + statement_count s) (later n (statement_count s) (statements_count rest) o) i))

    one_stays : (s : StmtTree) (n : ℕ) → (k ≤ n) ⊎ (n + statement_count s ≤ k) → one_joined new k s n ≡ s
    one_stays (Assign left right) n o = refl
    one_stays (If c a b) n o =
        (λ i. If c (stay a (n + 1) (first n (statements_count a) (statements_count b) o) i) (stay b (n + 1 + statements_count a) (second n (statements_count a) (statements_count b) o) i))
    one_stays (Do h body) n o = ap (Do h) (stay body (n + 1) (inside n (statements_count body) o))
    one_stays (Print items) n o = refl
    one_stays (Read items) n o = refl
    one_stays Stop n o = refl
    one_stays (Comment text) n o = refl

  -- what is behind the second DO
  behind_second : (between : StmtTrees) (h : Head) (body rest : StmtTrees) → statements_count between ≡ 0 → behind_next (followed between (more_stmts (Do h body) rest)) ≡ rest
  behind_second no_stmts h body rest none = if_false (statements_count body + 1 == 0) _ _ (grind (arith, eqb-true))
  behind_second (more_stmts s others) h body rest none =
      if_true (statement_count s == 0) _ _ (let z : statement_count s ≡ 0 = omega (arith, none) in grind (arith, eqb-true)) ∙ behind_second others h body rest (omega (arith, none))

  module _ (own : Head) (own_body between : StmtTrees) (next : Head) (next_body : StmtTrees) (comments : statements_count between ≡ 0) where
    abbrev two : StmtTrees
    two = more_stmts (Do own own_body) (followed between (alone (Do next next_body)))

    -- a statement before the gap stays, and what is behind it is joined
    passed : (s : StmtTree) (rest : StmtTrees) (n : ℕ) → n + statement_count s ≤ k → all_joined new k (more_stmts s rest) n ≡ more_stmts s (all_joined new k rest (n + statement_count s))
    passed s rest n l =
        if_false ((n == k) && not (statement_count s == 0)) _ _ (not_there n k (statement_count s) (λ e. omega (arith, l, e)))
        ∙ ap (λ (z : StmtTree). more_stmts z (all_joined new k rest (n + statement_count s))) (one_stays s n (inr l))

    -- a statement with the gap in it
    around : (s : StmtTree) (rest : StmtTrees) (n : ℕ) → n < k → k < n + statement_count s → all_joined new k (more_stmts s rest) n ≡ more_stmts (one_joined new k s n) rest
    around s rest n l m =
        if_false ((n == k) && not (statement_count s == 0)) _ _ (not_there n k (statement_count s) (λ e. absurd (omega (arith, l, e))))
        ∙ ap (more_stmts (one_joined new k s n)) (stay rest (n + statement_count s) (inl m))

    -- the one DO comes into the gap of the two
    pub joined_gap : (g : Gap) (n : ℕ) → number_at g n ≡ k → all_joined new k (filled g two) n ≡ filled g (alone new)
    joined_gap (at_front rest) n e =
        if_true ((n == k) && not (statements_count own_body + 1 == 0)) _ _ (is_there n k (statements_count own_body) e)
        ∙ ap (more_stmts new) (ap behind_next (followed-assoc between (alone (Do next next_body)) rest) ∙ behind_second between next next_body rest comments)
    joined_gap (past s g) n e =
        let from = number_from g (n + statement_count s) in
        passed s (filled g two) n (omega (arith, e, from)) ∙ ap (more_stmts s) (joined_gap g (n + statement_count s) e)
    joined_gap (in_then c g b rest) n e =
        let from = number_from g (n + 1) in
        let room = number_room g two (n + 1) in
        around (If c (filled g two) b) rest n (omega (arith, e, from)) (omega (arith, e, room))
        ∙ (λ i. more_stmts (If c (joined_gap g (n + 1) e i) (stay b (n + 1 + statements_count (filled g two)) (inl (omega (arith, e, room))) i)) rest)
    joined_gap (in_else c a g rest) n e =
        let from = number_from g (n + 1 + statements_count a) in
        let room = number_room g two (n + 1 + statements_count a) in
        around (If c a (filled g two)) rest n (omega (arith, e, from)) (omega (arith, e, room))
        ∙ (λ i. more_stmts (If c (stay a (n + 1) (inr (omega (arith, e, from))) i) (joined_gap g (n + 1 + statements_count a) e i)) rest)
    joined_gap (in_body h g rest) n e =
        let from = number_from g (n + 1) in
        let room = number_room g two (n + 1) in
        around (Do h (filled g two)) rest n (omega (arith, e, from)) (omega (arith, e, room)) ∙ ap (λ (b : StmtTrees). more_stmts (Do h b) rest) (joined_gap g (n + 1) e)
