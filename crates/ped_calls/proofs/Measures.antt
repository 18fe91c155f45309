-- Expanding ends: CALLs stand less deep in one another in a subroutine, and parts have less weight.
use Rattle.std.proofs.Common.{◌≡◌, ◌≤◌, ◌<◌, ◌+◌, ◌-◌, ◌*◌, ℕ, zero, suc, List, [], ◌∷◌, length, get_or, drop, Some, sym, ap, ◌∙◌, arith}
use Rattle.std.proofs.lemmas.List.{at_drop_more}
use Rattle.std.specs.Prelude.{slice_get}
use Rattle.std.proofs.lemmas.Nat.{mul-add-lt}
use Rattle.ped_tree.specs.Tree.{StmtTree, StmtTrees, Assign, If, Do, Print, Read, Stop, Comment, no_stmts, more_stmts}
use Rattle.ped_tree.specs.Views.{stmt_tree, stmt_trees}
use Rattle.ped_tree.specs.declared.statements.Stmt.{Stmt}
use Rattle.ped_links.specs.ped_units.specs.declared.units.ProgramUnit.{ProgramUnit}

abbrev mutual
  -- how many parts a statement has, itself among them
  pub stmt_weight : StmtTree → ℕ
  stmt_weight (Assign left right) = 1
  stmt_weight (If condition then_part else_part) = 1 + (stmts_weight then_part + stmts_weight else_part)
  stmt_weight (Do h body) = 1 + stmts_weight body
  stmt_weight (Print items) = 1
  stmt_weight (Read items) = 1
  stmt_weight Stop = 1
  stmt_weight (Comment text) = 1

  -- the same of statements
  pub stmts_weight : StmtTrees → ℕ
  stmts_weight no_stmts = 0
  stmts_weight (more_stmts s rest) = 1 + (stmt_weight s + stmts_weight rest)

-- the same of all statements of units
abbrev pub units_weight : List ProgramUnit → ℕ
units_weight [] = 0
units_weight (u ∷ us) = stmts_weight (stmt_trees u.program.body.items) + units_weight us

-- the measure of statements with this weight, where CALLs stand so much deeper in one another at most
abbrev pub expand_measure : List ProgramUnit → ℕ → ℕ → ℕ
expand_measure us deeper weight = deeper * (4 * (units_weight us + 1)) + weight

-- the statements of a subroutine
pub inside_smaller : (us : List ProgramUnit) (deeper w : ℕ) → 0 < deeper → w ≤ units_weight us → expand_measure us (deeper - 1) (4 * w + 3) < expand_measure us deeper 0
inside_smaller us deeper w h k =
    let p = mul-add-lt (deeper - 1) (4 * (units_weight us + 1)) (4 * w + 3) deeper (omega (arith, h)) (omega (arith, k)) in
    omega (arith, p)

drop_weight : (n : ℕ) (ss : List Stmt) → stmts_weight (stmt_trees (drop n ss)) ≤ stmts_weight (stmt_trees ss)
drop_weight zero ss = omega arith
drop_weight (suc n) [] = omega arith
drop_weight (suc n) (s ∷ ss) = let less = drop_weight n ss in omega (arith, less)

-- a statement of a list
pub one_weight : (n : ℕ) (ss : List Stmt) (s : StmtTree) (rest : StmtTrees) → stmt_trees (drop n ss) ≡ more_stmts s rest → stmt_weight s < stmts_weight (stmt_trees ss)
one_weight n ss s rest h =
    let less = drop_weight n ss in
    let same : stmts_weight (stmt_trees (drop n ss)) ≡ 1 + (stmt_weight s + stmts_weight rest) = ap stmts_weight h in
    omega (arith, less, same)

-- the statements of a unit
pub unit_weight : (us : List ProgramUnit) (n : ℕ) (u : ProgramUnit) → slice_get us n ≡ Some u → stmts_weight (stmt_trees u.program.body.items) ≤ units_weight us
unit_weight [] n u h = absurd cc
unit_weight (v ∷ us) zero u h =
    let same : v ≡ u = cc in
    let is : stmts_weight (stmt_trees v.program.body.items) ≡ stmts_weight (stmt_trees u.program.body.items) = ap (λ (w : ProgramUnit). stmts_weight (stmt_trees w.program.body.items)) same in
    omega (arith, is)
unit_weight (v ∷ us) (suc n) u h = let more = unit_weight us n u h in omega (arith, more)

-- the first of the statements that are left
pub stmts_left : (ss : List Stmt) (i : ℕ) (x : Stmt) → i < length ss → x ≡ get_or ss i x → stmt_trees (drop i ss) ≡ more_stmts (stmt_tree x) (stmt_trees (drop (i + 1) ss))
stmts_left ss i x h e =
    ap stmt_trees (at_drop_more (λ (ys : List Stmt). ys) ss i x h) ∙ ap (λ (y : Stmt). more_stmts (stmt_tree y) (stmt_trees (drop (i + 1) ss))) (sym e)

-- a statement of a list by its place
pub item_weight : (ss : List Stmt) (i : ℕ) (x : Stmt) → i < length ss → x ≡ get_or ss i x → stmt_weight (stmt_tree x) < stmts_weight (stmt_trees ss)
item_weight ss i x h e = one_weight i ss (stmt_tree x) (stmt_trees (drop (i + 1) ss)) (stmts_left ss i x h e)
