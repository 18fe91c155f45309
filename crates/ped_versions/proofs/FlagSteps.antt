-- One more statement among those in which a DO gets its flag.
use Rattle.std.proofs.Common.{◌≡◌, ℕ, ◌+◌, ◌<◌, ◌≤◌, Bool, List, [], ◌∷◌, ◌++◌, length, take, drop, get_or, set, refl, sym, ap, ◌∙◌, arith}
use Rattle.std.proofs.lemmas.List.{take_all, drop_all, take_more_set, drop-set-lt}
use Rattle.ped_tree.specs.Tree.{StmtTree, StmtTrees, no_stmts, more_stmts}
use Rattle.ped_tree.specs.Views.{stmt_tree, stmt_trees}
use Rattle.ped_tree.specs.Numbering.{statement_count, statements_count}
use Rattle.ped_tree.specs.declared.statements.Stmt.{Stmt}
use Rattle.ped_tree.proofs.Numbers.{stmt_trees-drop}
use Rattle.ped_versions.specs.Flags.{flag_one, flag_all}

-- statements, and others after them
abbrev pub before : List Stmt → StmtTrees → StmtTrees
before [] rest = rest
before (s ∷ ss) rest = more_stmts (stmt_tree s) (before ss rest)

before-append : (xs ys : List Stmt) (rest : StmtTrees) → before (xs ++ ys) rest ≡ before xs (before ys rest)
before-append [] ys rest = refl
before-append (x ∷ xs) ys rest = ap (more_stmts (stmt_tree x)) (before-append xs ys rest)

before-none : (ss : List Stmt) → before ss no_stmts ≡ stmt_trees ss
before-none [] = refl
before-none (s ∷ ss) = ap (more_stmts (stmt_tree s)) (before-none ss)

module _ (p : Bool) (sought : ℕ) where
  module _ (ss : List Stmt) (i own : ℕ) (s : Stmt) (within : i < length ss) (is : s ≡ get_or ss i s) where
    tree : stmt_trees (drop i ss) ≡ more_stmts (stmt_tree s) (stmt_trees (drop (i + 1) ss))
    tree = stmt_trees-drop ss i s within is

    -- the statement is no longer than all that are left
    pub room : (first all : ℕ) → own + statements_count (stmt_trees (drop i ss)) ≡ first + all → first ≤ own → own + statement_count (stmt_tree s) ≤ first + all
    room first all left from = let e : statements_count (stmt_trees (drop i ss)) ≡ statement_count (stmt_tree s) + statements_count (stmt_trees (drop (i + 1) ss)) = ap statements_count tree in omega (arith, left, e)

    module _ (new : Stmt) (c : ℕ) (count : c ≡ statement_count (stmt_tree s)) where
      pub next_left : (total : ℕ) → own + statements_count (stmt_trees (drop i ss)) ≡ total → own + c + statements_count (stmt_trees (drop (i + 1) (set ss i new))) ≡ total
      next_left total left =
          let e : statements_count (stmt_trees (drop i ss)) ≡ statement_count (stmt_tree s) + statements_count (stmt_trees (drop (i + 1) ss)) = ap statements_count tree in
          let f : statements_count (stmt_trees (drop (i + 1) (set ss i new))) ≡ statements_count (stmt_trees (drop (i + 1) ss)) = ap (λ (xs : List Stmt). statements_count (stmt_trees xs)) (drop-set-lt (i + 1) ss i new (omega arith)) in
          omega (arith, left, e, f, count)

      pub next_done : (all : StmtTrees) → stmt_tree new ≡ flag_one p sought (stmt_tree s) own
          → all ≡ before (take i ss) (flag_all p sought (stmt_trees (drop i ss)) own)
          → all ≡ before (take (i + 1) (set ss i new)) (flag_all p sought (stmt_trees (drop (i + 1) (set ss i new))) (own + c))
      next_done all made done =
          let rest = flag_all p sought (stmt_trees (drop (i + 1) ss)) (own + statement_count (stmt_tree s)) in
          done
          ∙ ap (λ (z : StmtTrees). before (take i ss) (flag_all p sought z own)) tree
          ∙ ap (λ (z : StmtTree). before (take i ss) (more_stmts z rest)) (sym made)
          ∙ sym (before-append (take i ss) (new ∷ []) rest)
          ∙ (λ j. before (sym (take_more_set ss i new within) j) (flag_all p sought (stmt_trees (sym (drop-set-lt (i + 1) ss i new (omega arith)) j)) (own + sym count j)))

  -- at the end
  pub all_done : (ss : List Stmt) (i own : ℕ) (all : StmtTrees) → length ss ≤ i
      → all ≡ before (take i ss) (flag_all p sought (stmt_trees (drop i ss)) own) → stmt_trees ss ≡ all
  all_done ss i own all end done =
      sym (done ∙ (λ j. before (take_all i ss end j) (flag_all p sought (stmt_trees (drop_all i ss end j)) own)) ∙ before-none ss)
