-- New statements, unit by unit.
use Rattle.std.proofs.Common.{◌≡◌, ℕ, ◌+◌, ◌<◌, ◌≤◌, List, [], ◌∷◌, ◌++◌, map, length, drop, get_or, slice_index_or, refl, sym, ap, ◌∙◌}
use Rattle.std.proofs.lemmas.List.{drop_more, drop_all, get_or-map}
use Rattle.ped_tree.specs.Tree.{Head, StmtTree, StmtTrees, Do, no_stmts, more_stmts}
use Rattle.ped_tree.specs.Views.{stmt_tree, stmt_trees}
use Rattle.ped_tree.specs.declared.statements.Stmt.{Stmt}
use Rattle.ped_rules.specs.ped_steps.specs.Replacing.{followed, alone}
use Rattle.ped_rules.specs.ped_steps.proofs.Followed.{followed-assoc, followed-none, stmt_trees-append}
use Rattle.ped_splits.specs.declared.units.Unit.{Unit}
use Rattle.ped_splits.specs.Units.{units}
use Rattle.ped_splits.specs.CodeUnits.{unit_tree, unit_trees}
use Rattle.ped_splits.specs.Distributing.{joined, units_at, loops_of}

-- a copy more
pub next_copy : (old new all : List Stmt) (k : ℕ) (s copy : Stmt) (whole : StmtTrees) → new ≡ old ++ copy ∷ [] → stmt_tree copy ≡ stmt_tree s → k < length all → s ≡ get_or all k s
    → followed (stmt_trees old) (stmt_trees (drop k all)) ≡ whole → followed (stmt_trees new) (stmt_trees (drop (k + 1) all)) ≡ whole
next_copy old new all k s copy whole made same h is before =
    ap (λ (xs : List Stmt). followed (stmt_trees xs) (stmt_trees (drop (k + 1) all))) made
    ∙ ap (λ (a : StmtTrees). followed a (stmt_trees (drop (k + 1) all))) (stmt_trees-append old (copy ∷ []))
    ∙ followed-assoc (stmt_trees old) (alone (stmt_tree copy)) (stmt_trees (drop (k + 1) all))
    ∙ ap (λ (t : StmtTree). followed (stmt_trees old) (more_stmts t (stmt_trees (drop (k + 1) all)))) (same ∙ ap stmt_tree is)
    ∙ ap (λ (xs : List Stmt). followed (stmt_trees old) (stmt_trees xs)) (sym (drop_more all k s h))
    ∙ before

-- all copies
pub all_copied : (new all : List Stmt) (k : ℕ) (whole : StmtTrees) → length all ≤ k → followed (stmt_trees new) (stmt_trees (drop k all)) ≡ whole → stmt_trees new ≡ whole
all_copied new all k whole ends before = sym (followed-none (stmt_trees new)) ∙ ap (λ (xs : List Stmt). followed (stmt_trees new) (stmt_trees xs)) (sym (drop_all k all ends)) ∙ before

module _ (us : List Unit) where
  abbrev chosen : ℕ → StmtTrees
  chosen i = slice_index_or (unit_trees us) i no_stmts

  -- a unit more
  pub next_unit : (old new : StmtTrees) (block : List ℕ) (k : ℕ) (d : Unit) (whole : StmtTrees) → new ≡ followed old (unit_tree (get_or us (get_or block k 0) d)) → k < length block → get_or block k 0 < length us
      → followed old (joined (map chosen (drop k block))) ≡ whole → followed new (joined (map chosen (drop (k + 1) block))) ≡ whole
  next_unit old new block k d whole made h inside before =
      ap (λ (a : StmtTrees). followed a (joined (map chosen (drop (k + 1) block)))) made
      ∙ followed-assoc old (unit_tree (get_or us (get_or block k 0) d)) (joined (map chosen (drop (k + 1) block)))
      ∙ ap (λ (t : StmtTrees). followed old (followed t (joined (map chosen (drop (k + 1) block))))) (sym (get_or-map unit_tree us (get_or block k 0) d no_stmts inside))
      ∙ ap (λ (xs : List ℕ). followed old (joined (map chosen xs))) (sym (drop_more block k 0 h))
      ∙ before

  pub all_units : (new : StmtTrees) (block : List ℕ) (k : ℕ) (whole : StmtTrees) → length block ≤ k → followed new (joined (map chosen (drop k block))) ≡ whole → new ≡ whole
  all_units new block k whole ends before = sym (followed-none new) ∙ ap (λ (xs : List ℕ). followed new (joined (map chosen xs))) (sym (drop_all k block ends)) ∙ before

module _ (h : Head) (body : StmtTrees) where
  -- a DO more
  pub next_loop : (old new : List Stmt) (found : List (List ℕ)) (k : ℕ) (block : List ℕ) (d : Stmt) (whole : StmtTrees) → new ≡ old ++ d ∷ [] → stmt_tree d ≡ Do h (units_at body block) → k < length found → block ≡ get_or found k block
      → followed (stmt_trees old) (loops_of (drop k found) h body) ≡ whole → followed (stmt_trees new) (loops_of (drop (k + 1) found) h body) ≡ whole
  next_loop old new found k block d whole made tree inside is before =
      ap (λ (xs : List Stmt). followed (stmt_trees xs) (loops_of (drop (k + 1) found) h body)) made
      ∙ ap (λ (a : StmtTrees). followed a (loops_of (drop (k + 1) found) h body)) (stmt_trees-append old (d ∷ []))
      ∙ followed-assoc (stmt_trees old) (alone (stmt_tree d)) (loops_of (drop (k + 1) found) h body)
      ∙ ap (λ (t : StmtTree). followed (stmt_trees old) (more_stmts t (loops_of (drop (k + 1) found) h body))) (tree ∙ ap (λ (b : List ℕ). Do h (units_at body b)) is)
      ∙ ap (λ (bs : List (List ℕ)). followed (stmt_trees old) (loops_of bs h body)) (sym (drop_more found k block inside))
      ∙ before

  pub all_loops : (new : List Stmt) (found : List (List ℕ)) (k : ℕ) (whole : StmtTrees) → length found ≤ k → followed (stmt_trees new) (loops_of (drop k found) h body) ≡ whole → stmt_trees new ≡ whole
  all_loops new found k whole ends before = sym (followed-none (stmt_trees new)) ∙ ap (λ (bs : List (List ℕ)). followed (stmt_trees new) (loops_of bs h body)) (sym (drop_all k found ends)) ∙ before
