-- Statements with the one DO in the place of the two, as the code puts them together.
use Rattle.std.proofs.Common.{◌≡◌, ℕ, ◌+◌, ◌<◌, ◌==◌, List, length, drop, get_or, Bool, true, false, not, ◌&&◌, if◌then◌else◌, sym, ap, ◌∙◌, arith}
use Rattle.ped_tree.specs.Tree.{StmtTree, StmtTrees, more_stmts}
use Rattle.ped_tree.specs.Numbering.{statement_count, statements_count}
use Rattle.ped_tree.specs.Views.{stmt_tree, stmt_trees}
use Rattle.ped_tree.specs.declared.statements.Stmt.{Stmt}
use Rattle.ped_tree.proofs.Numbers.{stmt_trees-drop}
use Rattle.ped_rules.specs.ped_steps.specs.Replacing.{followed, alone}
use Rattle.ped_rules.specs.ped_steps.proofs.Followed.{followed-assoc}
use Rattle.ped_splits.specs.CodePairs.{behind_next, all_joined, one_joined}
use Rattle.ped_splits.proofs.Joints.{if_true, if_false}

module _ (new : StmtTree) (k : ℕ) (ss : List Stmt) (i : ℕ) (s : Stmt) (within : i < length ss) (is : s ≡ get_or ss i s) (n : ℕ) (before whole : StmtTrees)
    (h : followed before (all_joined new k (stmt_trees (drop i ss)) n) ≡ whole) where
  tree : stmt_trees (drop i ss) ≡ more_stmts (stmt_tree s) (stmt_trees (drop (i + 1) ss))
  tree = stmt_trees-drop ss i s within is

  abbrev there : Bool
  there = (n == k) && not (statement_count (stmt_tree s) == 0)

  -- where the statement isn't the first of the two
  pub joined_next : (after : StmtTrees) (m : ℕ) → there ≡ false → m ≡ n + statement_count (stmt_tree s) → after ≡ followed before (alone (one_joined new k (stmt_tree s) n))
      → followed after (all_joined new k (stmt_trees (drop (i + 1) ss)) m) ≡ whole
  joined_next after m other at a =
      (λ j. followed (a j) (all_joined new k (stmt_trees (drop (i + 1) ss)) (at j)))
      ∙ (followed-assoc before (alone (one_joined new k (stmt_tree s) n)) (all_joined new k (stmt_trees (drop (i + 1) ss)) (n + statement_count (stmt_tree s)))
      ∙ (ap (followed before) (sym (ap (λ (ts : StmtTrees). all_joined new k ts n) tree ∙ if_false there _ _ other)) ∙ h))

  -- where it is
  pub joined_here : (after : StmtTrees) → there ≡ true → after ≡ followed (followed before (alone new)) (behind_next (stmt_trees (drop (i + 1) ss))) → after ≡ whole
  joined_here after here a =
      a
      ∙ (followed-assoc before (alone new) (behind_next (stmt_trees (drop (i + 1) ss)))
      ∙ (ap (followed before) (sym (ap (λ (ts : StmtTrees). all_joined new k ts n) tree ∙ if_true there _ _ here)) ∙ h))

  -- how many are left
  pub count_next : (m total : ℕ) → m ≡ n + statement_count (stmt_tree s) → n + statements_count (stmt_trees (drop i ss)) ≡ total → m + statements_count (stmt_trees (drop (i + 1) ss)) ≡ total
  count_next m total at e = let c : statements_count (stmt_trees (drop i ss)) ≡ statement_count (stmt_tree s) + statements_count (stmt_trees (drop (i + 1) ss)) = ap statements_count tree in omega (arith, e, at, c)
