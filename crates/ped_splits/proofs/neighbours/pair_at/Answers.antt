use Rattle.std.proofs.Common.{List, ap, ◌∙◌}
use Rattle.ped_tree.specs.Views.{program_tree, stmt_trees}
use Rattle.ped_tree.specs.declared.statements.Stmt.{Stmt}
use Rattle.ped_splits.specs.CodePairs.{two_among}
use Rattle.ped_splits.proofs.FoundPairs.{pair_found}
use Rattle.ped_splits.proofs.neighbours.pair_at.Goals as goal

pub returns : goal.returns
returns c =
    pair_found (program_tree c.args.program.now) c.args.number c.pair_among.result (c.pair_among.ensures ∙ ap (λ (xs : List Stmt). two_among (stmt_trees xs) 1 c.args.number) c.deref.ensures.value)
