-- Numbered statements in a list: how many there are, and at which places.
use Rattle.std.proofs.Common.{◌≡◌, ℕ, ◌+◌, ◌-◌, ◌≤◌, ◌<◌, ◌==◌, List, [], ◌∷◌, ◌++◌, length, Option, Some, None, MatchOption, Bor, refl, ap, arith, eqb-true, length-append, drop, get_or, ◌≢◌, ◌⊎◌, ◌↔◌}
use Rattle.ped_tree.specs.Tree.{CondTree, StmtTree, StmtTrees, Assign, If, Do, Print, Read, Stop, Comment, no_stmts, more_stmts, ProgramTree}
use Rattle.ped_tree.specs.Views.{stmt_tree, stmt_trees}
use Rattle.ped_tree.specs.declared.statements.Stmt.{Stmt}
use Rattle.std.proofs.lemmas.Grind.{common_steps}
use Rattle.ped_tree.proofs.Levels.{stmt_tree-If}
use Rattle.ped_tree.specs.Numbering.{numbered, all_numbered, at_place, statement_with, statement_count, statements_count}

mutual
  -- a statement has as many numbered statements as are counted
  pub length-numbered : (s : StmtTree) → length (numbered s) ≡ statement_count s
  length-numbered (Assign left right) = refl
  length-numbered (If condition then_part else_part) = omega (arith, length-append (all_numbered then_part) (all_numbered else_part), length-all_numbered then_part, length-all_numbered else_part)
  length-numbered (Do h body) = omega (arith, length-all_numbered body)
  length-numbered (Print items) = refl
  length-numbered (Read items) = refl
  length-numbered Stop = refl
  length-numbered (Comment text) = refl

  -- statements have as many numbered statements as are counted
  pub length-all_numbered : (ss : StmtTrees) → length (all_numbered ss) ≡ statements_count ss
  length-all_numbered no_stmts = refl
  length-all_numbered (more_stmts s rest) = omega (arith, length-append (numbered s) (all_numbered rest), length-numbered s, length-all_numbered rest)

-- what stands at a place of a list still stands there with more behind it
pub at_place-front : (xs ys : List StmtTree) (n : ℕ) (s : StmtTree) → at_place xs n ≡ Some s → at_place (xs ++ ys) n ≡ Some s
at_place-front [] ys n s h = cc
at_place-front (x ∷ xs) ys n s h = grind (arith, eqb-true, at_place-front xs ys (n - 1) s)

-- places behind a list count on from its length
pub at_place-back : (xs ys : List StmtTree) (n k : ℕ) → k + length xs ≡ n → at_place (xs ++ ys) n ≡ at_place ys k
at_place-back [] ys n k h = ap (at_place ys) (omega arith)
at_place-back (x ∷ xs) ys n k h = grind (arith, eqb-true, at_place-back xs ys (n - 1) k)

-- nothing stands past the end
pub at_place-past : (xs : List StmtTree) (n : ℕ) → length xs ≤ n → at_place xs n ≡ None
at_place-past [] n h = refl
at_place-past (x ∷ xs) n h = grind (arith, eqb-true, at_place-past xs (n - 1))

-- where nothing stands the list has ended
pub length-at_place : (xs : List StmtTree) (n : ℕ) → at_place xs n ≡ None → length xs ≤ n
length-at_place [] n h = omega arith
length-at_place (x ∷ xs) n h = grind (arith, eqb-true, length-at_place xs (n - 1))

-- places behind a statement count on from its number of statements
pub numbered-back : (s : StmtTree) (ys : List StmtTree) (n k : ℕ) → k + statement_count s ≡ n → at_place (numbered s ++ ys) n ≡ at_place ys k
numbered-back s ys n k h = at_place-back (numbered s) ys n k (omega (arith, length-numbered s))

-- places behind statements count on from their number of statements
pub all_numbered-back : (ss : StmtTrees) (ys : List StmtTree) (n k : ℕ) → k + statements_count ss ≡ n → at_place (all_numbered ss ++ ys) n ≡ at_place ys k
all_numbered-back ss ys n k h = at_place-back (all_numbered ss) ys n k (omega (arith, length-all_numbered ss))

-- no statement stands past the last one
pub all_numbered-past : (ss : StmtTrees) (n : ℕ) → statements_count ss ≤ n → at_place (all_numbered ss) n ≡ None
all_numbered-past ss n h = at_place-past (all_numbered ss) n (omega (arith, length-all_numbered ss))

-- a statement of the THEN part stands at the next place in the IF
pub at_place-then : (s : StmtTree) (condition : CondTree) (then_part else_part : StmtTrees) (n : ℕ) (found : StmtTree) → s ≡ If condition then_part else_part → n ≢ 0 → at_place (all_numbered then_part) (n - 1) ≡ Some found → at_place (numbered s) n ≡ Some found
at_place-then s condition then_part else_part n found is h e = grind (arith, eqb-true, at_place-front)

-- places of the ELSE part count on behind the THEN part
pub at_place-else : (s : StmtTree) (condition : CondTree) (then_part else_part : StmtTrees) (n k : ℕ) (found : StmtTree) → s ≡ If condition then_part else_part → n ≢ 0 → k + statements_count then_part ≡ n - 1 → at_place (all_numbered else_part) k ≡ Some found → at_place (numbered s) n ≡ Some found
at_place-else s condition then_part else_part n k found is h e f = grind (arith, eqb-true, all_numbered-back then_part (all_numbered else_part) (n - 1) k)

-- the statements from a place on are the one there and those behind it
pub stmt_trees-drop : (ss : List Stmt) (i : ℕ) (s : Stmt) → i < length ss → s ≡ get_or ss i s → stmt_trees (drop i ss) ≡ more_stmts (stmt_tree s) (stmt_trees (drop (i + 1) ss))
stmt_trees-drop ss i s h e = grind (arith, common_steps)

-- a search that passed the THEN part goes on in the ELSE part
pub search-else : (o : Option (Bor Stmt)) (s : StmtTree) (condition : CondTree) (then_part else_part : StmtTrees) (n k left : ℕ) → s ≡ If condition then_part else_part → n ≢ 0 → k + statements_count then_part ≡ n - 1 → MatchOption o (left + statements_count else_part ≡ k) (λ found. at_place (all_numbered else_part) k ≡ Some (stmt_tree found.now)) → MatchOption o (left + statement_count s ≡ n) (λ found. at_place (numbered s) n ≡ Some (stmt_tree found.now))
search-else None s condition then_part else_part n k left is h e passed = omega (arith, ap statement_count is)
search-else (Some found) s condition then_part else_part n k left is h e f = at_place-else s condition then_part else_part n k (stmt_tree found.now) is h e f

-- where a search finds a statement, and where it goes on
pub ruleset placing = (eqb-true, at_place-then, all_numbered-past, stmt_tree-If, stmt_trees-drop, at_place-front, numbered-back)

-- there is no statement with a number exactly where it is 0 or above the count
pub statement_with-none : (number : ℕ) (t : ProgramTree) → (statement_with number t ≡ None) ↔ ((number ≡ 0) ⊎ (statements_count t.body < number))
statement_with-none number t = (none number t, above number t)
  where
    none : (number : ℕ) (t : ProgramTree) → statement_with number t ≡ None → (number ≡ 0) ⊎ (statements_count t.body < number)
    none number t h = grind (arith, eqb-true, length-at_place (all_numbered t.body) (number - 1), length-all_numbered t.body)

    above : (number : ℕ) (t : ProgramTree) → (number ≡ 0) ⊎ (statements_count t.body < number) → statement_with number t ≡ None
    above number t h = grind (arith, eqb-true, all_numbered-past t.body (number - 1))
