use Rattle.std.proofs.Common.{◌≡◌, map, drop}
use Rattle.ped_tree.specs.Views.{stmt_trees}
use Rattle.ped_rules.specs.ped_steps.specs.Replacing.{followed}
use Rattle.ped_reduce.specs.Lowering.{all_summed}
use Rattle.ped_reduce.specs.CodeLowering.{partials_view}
use Rattle.ped_reduce.proofs.summing.+summed.Given as goal

abbrev pub invariant-add_summed-loop-statement : goal.invariant-add_summed-loop-statement
invariant-add_summed-loop-statement l =
    followed (stmt_trees l.all.items) (all_summed l.v (map partials_view l.partials) (stmt_trees (drop l.statement-index l.statements)))
    ≡ followed (stmt_trees l.initial.all.items) (all_summed l.v (map partials_view l.partials) (stmt_trees l.statements))
