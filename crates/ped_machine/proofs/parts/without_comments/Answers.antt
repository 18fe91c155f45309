use Rattle.std.proofs.Common.{sym, subst, ◌∙◌}
use Rattle.ped_tree.specs.Tree.{StmtTrees}
use Rattle.ped_tree.specs.Views.{stmt_trees}
use Rattle.ped_machine.specs.Parts.{IsWithoutComments}
use Rattle.ped_machine.proofs.PartsLeft.{first_passed}
use Rattle.ped_machine.proofs.parts.without_comments.Goals as goal

pub loop-left-preserved : goal.loop-left-preserved
loop-left-preserved c new h =
    c.loop-left.invariant new (first_passed (stmt_trees c.loop-left.left.now) new (sym c.begins_with_comment.ensures ∙ c.loop-left-test.true) (subst (λ (ts : StmtTrees). IsWithoutComments ts new) c.behind_first_one-left.ensures.stmts h))
