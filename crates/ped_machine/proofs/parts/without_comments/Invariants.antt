use Rattle.std.proofs.Common.{length}
use Rattle.ped_tree.specs.Tree.{StmtTrees}
use Rattle.ped_tree.specs.Views.{stmt_trees}
use Rattle.ped_machine.specs.Parts.{IsWithoutComments}
use Rattle.ped_machine.proofs.parts.without_comments.Given as goal

abbrev pub invariant-loop-left : goal.invariant-loop-left
invariant-loop-left l = (new : StmtTrees) → IsWithoutComments (stmt_trees l.left) new → IsWithoutComments (stmt_trees l.stmts) new

abbrev pub decreases-loop-left : goal.decreases-loop-left
decreases-loop-left l = length l.left
