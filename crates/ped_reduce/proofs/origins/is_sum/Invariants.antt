use Rattle.std.proofs.Common.{◌≡◌, map, drop}
use Rattle.ped_tree.specs.Views.{stmt_tree}
use Rattle.ped_reduce.specs.Lowering.{is_sum}
use Rattle.ped_reduce.specs.CodeLowering.{partials_view}
use Rattle.ped_reduce.proofs.origins.is_sum.Given as goal

abbrev pub invariant-loop-p : goal.invariant-loop-p
invariant-loop-p l = is_sum (map partials_view (drop l.p-index l.partials)) (stmt_tree l.statement) ≡ is_sum (map partials_view l.partials) (stmt_tree l.statement)
