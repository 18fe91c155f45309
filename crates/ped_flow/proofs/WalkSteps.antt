-- One statement after the other: what the paths of a list do to a scalar, from what those of its next statement do.
use Rattle.std.proofs.Common.{◌≡◌, ℕ, ◌+◌, ◌<◌, List, length, drop, get_or, sym, ap, ◌∙◌, rules, arith}
use Rattle.ped_tree.specs.Tree as plain
use Rattle.ped_tree.specs.Tree.{StmtTree, StmtTrees, more_stmts}
use Rattle.ped_tree.specs.Views.{expr_tree, stmt_tree, stmt_trees}
use Rattle.ped_tree.specs.Numbering.{statement_count, statements_count}
use Rattle.ped_tree.specs.declared.expressions.Expr.{Expr}
use Rattle.ped_tree.specs.declared.statements.Stmt.{Stmt}
use Rattle.ped_tree.specs.declared.statements.Stmt as variant
use Rattle.ped_flow.specs.Events.{reads_of, scalars_in, left_events}
use Rattle.ped_flow.specs.Summaries.{summary_in_turn, summary_either, summary_events, summary_of, summary_of_all, summary_behind, summary_behind_all, summary_before, summary_before_all}
use Rattle.ped_flow.specs.declared.summaries.Summary.{Summary}
use Rattle.ped_flow.proofs.SumLaws.{in_turn-assoc, either-assoc, either-in_turn, in_turn-either, events-append}
use Rattle.ped_flow.proofs.ScalarSteps.{rest_is, next_in_turn}

stmt_tree-Assign : (left right : Expr) → stmt_tree (variant.Assign left right) ≡ plain.Assign (expr_tree left) (expr_tree right)
stmt_tree-Assign left right = search (rules, variant.the_lemmas)

module _ (cs : List (List ℕ)) (x : List ℕ) where
  -- an assignment
  pub assign_summed : (s : Stmt) (left right : Expr) (n : ℕ) (e t r : Summary) → s ≡ variant.Assign left right → e ≡ summary_events x (reads_of n (scalars_in cs (expr_tree right)))
      → t ≡ summary_events x (left_events cs n (expr_tree left)) → r ≡ summary_in_turn e t → r ≡ summary_of cs x (stmt_tree s) n
  assign_summed s left right n e t r is h k f =
      f
      ∙ (λ i. summary_in_turn (h i) (k i))
      ∙ sym (events-append x (reads_of n (scalars_in cs (expr_tree right))) (left_events cs n (expr_tree left)))
      ∙ ap (λ (tree : StmtTree). summary_of cs x tree n) (sym (ap stmt_tree is ∙ stmt_tree-Assign left right))

  module _ (body : List Stmt) (i : ℕ) (s : Stmt) (within : i < length body) (is : s ≡ get_or body i s) (n m : ℕ) (k : m ≡ n + statement_count (stmt_tree s)) where
    tree : stmt_trees (drop i body) ≡ more_stmts (stmt_tree s) (stmt_trees (drop (i + 1) body))
    tree = ap stmt_trees (rest_is body i s within is)

    pub count_next : (total : ℕ) → n + statements_count (stmt_trees (drop i body)) ≡ total → m + statements_count (stmt_trees (drop (i + 1) body)) ≡ total
    count_next total h = let c : statements_count (stmt_trees (drop i body)) ≡ statement_count (stmt_tree s) + statements_count (stmt_trees (drop (i + 1) body)) = ap statements_count tree in omega (arith, h, k, c)

    rest_summed : summary_of_all cs x (stmt_trees (drop i body)) n ≡ summary_in_turn (summary_of cs x (stmt_tree s) n) (summary_of_all cs x (stmt_trees (drop (i + 1) body)) m)
    rest_summed = ap (λ (ss : StmtTrees). summary_of_all cs x ss n) tree ∙ (λ j. summary_in_turn (summary_of cs x (stmt_tree s) n) (summary_of_all cs x (stmt_trees (drop (i + 1) body)) (sym k j)))

    pub walk_next : (before item after whole : Summary) → summary_in_turn before (summary_of_all cs x (stmt_trees (drop i body)) n) ≡ whole → item ≡ summary_of cs x (stmt_tree s) n → after ≡ summary_in_turn before item
        → summary_in_turn after (summary_of_all cs x (stmt_trees (drop (i + 1) body)) m) ≡ whole
    walk_next before item after whole inv h e =
        next_in_turn before after whole item (summary_of_all cs x (stmt_trees (drop i body)) n) (summary_of_all cs x (stmt_trees (drop (i + 1) body)) m) inv
        (rest_summed ∙ ap (λ (z : Summary). summary_in_turn z (summary_of_all cs x (stmt_trees (drop (i + 1) body)) m)) (sym h)) e

    module _ (l : ℕ) where
      pub behind_next : (before here thro after whole : Summary)
          → summary_either (summary_in_turn before (summary_of_all cs x (stmt_trees (drop i body)) n)) (summary_behind_all cs x l (stmt_trees (drop i body)) n) ≡ whole
          → here ≡ summary_behind cs x l (stmt_tree s) n → thro ≡ summary_in_turn before (summary_of cs x (stmt_tree s) n) → after ≡ summary_either thro here
          → summary_either (summary_in_turn after (summary_of_all cs x (stmt_trees (drop (i + 1) body)) m)) (summary_behind_all cs x l (stmt_trees (drop (i + 1) body)) m) ≡ whole
      behind_next before here thro after whole inv h g e =
          let A = summary_of_all cs x (stmt_trees (drop (i + 1) body)) m in
          let B = summary_behind_all cs x l (stmt_trees (drop (i + 1) body)) m in
          let S = summary_of cs x (stmt_tree s) n in
          let H = summary_behind cs x l (stmt_tree s) n in
          let first : summary_in_turn (summary_in_turn before S) A ≡ summary_in_turn before (summary_of_all cs x (stmt_trees (drop i body)) n) =
          in_turn-assoc before S A ∙ ap (summary_in_turn before) (sym rest_summed) in
          let second : summary_either (summary_in_turn H A) B ≡ summary_behind_all cs x l (stmt_trees (drop i body)) n =
          (λ j. summary_either (summary_in_turn H (summary_of_all cs x (stmt_trees (drop (i + 1) body)) (k j))) (summary_behind_all cs x l (stmt_trees (drop (i + 1) body)) (k j)))
          ∙ ap (λ (ss : StmtTrees). summary_behind_all cs x l ss n) (sym tree) in
          ap (λ (z : Summary). summary_either (summary_in_turn z A) B) (e ∙ (λ j. summary_either (g j) (h j)))
          ∙ ap (λ (z : Summary). summary_either z B) (either-in_turn (summary_in_turn before S) H A)
          ∙ either-assoc (summary_in_turn (summary_in_turn before S) A) (summary_in_turn H A) B
          ∙ (λ j. summary_either (first j) (second j))
          ∙ inv

      pub before_next : (summary way here item turn after further whole : Summary)
          → summary_either summary (summary_in_turn way (summary_before_all cs x l (stmt_trees (drop i body)) n)) ≡ whole
          → here ≡ summary_before cs x l (stmt_tree s) n → item ≡ summary_of cs x (stmt_tree s) n
          → turn ≡ summary_in_turn way here → after ≡ summary_either summary turn → further ≡ summary_in_turn way item
          → summary_either after (summary_in_turn further (summary_before_all cs x l (stmt_trees (drop (i + 1) body)) m)) ≡ whole
      before_next summary way here item turn after further whole inv h g f e d =
          let B = summary_before_all cs x l (stmt_trees (drop (i + 1) body)) m in
          let S = summary_of cs x (stmt_tree s) n in
          let H = summary_before cs x l (stmt_tree s) n in
          let rest : summary_either H (summary_in_turn S B) ≡ summary_before_all cs x l (stmt_trees (drop i body)) n =
          (λ j. summary_either H (summary_in_turn S (summary_before_all cs x l (stmt_trees (drop (i + 1) body)) (k j))))
          ∙ ap (λ (ss : StmtTrees). summary_before_all cs x l ss n) (sym tree) in
          (λ j. summary_either (e j) (summary_in_turn (d j) B))
          ∙ (λ j. summary_either (summary_either summary (f j)) (summary_in_turn (summary_in_turn way (g j)) B))
          ∙ (λ j. summary_either (summary_either summary (summary_in_turn way (h j))) (in_turn-assoc way S B j))
          ∙ either-assoc summary (summary_in_turn way H) (summary_in_turn way (summary_in_turn S B))
          ∙ ap (summary_either summary) (sym (in_turn-either way H (summary_in_turn S B)) ∙ ap (summary_in_turn way) rest)
          ∙ inv
