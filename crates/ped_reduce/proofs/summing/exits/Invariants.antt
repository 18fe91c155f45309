use Rattle.std.proofs.Common.{◌≡◌, map, drop}
use Rattle.ped_tree.specs.Views.{stmt_trees}
use Rattle.ped_rules.specs.ped_steps.specs.Replacing.{followed}
use Rattle.ped_reduce.specs.Lowering.{exits}
use Rattle.ped_reduce.specs.CodeLowering.{partials_view}
use Rattle.ped_reduce.proofs.summing.exits.Given as goal

abbrev pub invariant-loop-p : goal.invariant-loop-p
invariant-loop-p l = followed (stmt_trees l.all.items) (exits l.v (map partials_view (drop l.p-index l.partials))) ≡ exits l.v (map partials_view l.partials)
