use Rattle.std.proofs.Common.{◌≡◌, map, drop}
use Rattle.ped_tree.specs.Views.{stmt_tree}
use Rattle.ped_reduce.specs.Lowering.{sum_apart}
use Rattle.ped_reduce.specs.CodeLowering.{partials_view}
use Rattle.ped_reduce.proofs.summing.add_apart.Given as goal

abbrev pub invariant-loop-p : goal.invariant-loop-p
invariant-loop-p l = record {
  kept : l.all.items ≡ l.initial.all.items;
  rest : sum_apart l.v (map partials_view (drop l.p-index l.partials)) (stmt_tree l.statement) ≡ sum_apart l.v (map partials_view l.partials) (stmt_tree l.statement);
}
