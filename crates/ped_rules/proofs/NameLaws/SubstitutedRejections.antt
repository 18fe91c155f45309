-- Statements with an expression in the place of a scalar have the rejected names that they had.
use Rattle.std.proofs.Common.{◌≡◌, ℕ, List, ◌||◌, refl}
use Rattle.ped_base.specs.Lists.{has_some}
use Rattle.ped_tree.specs.Tree.{ExprTree, StmtTree, StmtTrees, Assign, If, Do, Print, Read, Stop, Comment, no_stmts, more_stmts}
use Rattle.ped_loop_runs.specs.ped_symbolic.specs.Substitution.{statement_substituted, statements_substituted}
use Rattle.ped_loop_runs.specs.Unrejected.{has_rejection, some_rejection}

module _ (x : List ℕ) (by : ExprTree) where
  mutual
    rejection_kept : (s : StmtTree) → has_rejection (statement_substituted x by s) ≡ has_rejection s
    rejection_kept (Assign left right) = refl
    rejection_kept (If c a b) = λ i. rejections_kept a i || rejections_kept b i
    rejection_kept (Do h body) = λ i. has_some h.rejected || rejections_kept body i
    rejection_kept (Print items) = refl
    rejection_kept (Read items) = refl
    rejection_kept Stop = refl
    rejection_kept (Comment text) = refl

    pub rejections_kept : (ss : StmtTrees) → some_rejection (statements_substituted x by ss) ≡ some_rejection ss
    rejections_kept no_stmts = refl
    rejections_kept (more_stmts s rest) = λ i. rejection_kept s i || rejections_kept rest i
