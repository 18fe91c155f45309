use Rattle.std.proofs.Common.{◌≡◌, ◌+◌, ◌++◌, map, drop}
use Rattle.ped_tree.specs.Numbering.{all_numbered, statements_count}
use Rattle.ped_tree.specs.Views.{stmt_trees}
use Rattle.ped_reduce.specs.Lowering.{summed_origins}
use Rattle.ped_reduce.specs.CodeLowering.{partials_view}
use Rattle.ped_reduce.proofs.origins.+summed.Given as goal

abbrev pub invariant-add_summed-loop-statement : goal.invariant-add_summed-loop-statement
invariant-add_summed-loop-statement l = record {
  number : l.next + statements_count (stmt_trees (drop l.statement-index l.statements)) ≡ l.first + statements_count (stmt_trees l.statements);
  added : l.all.items ++ summed_origins (map partials_view l.partials) (all_numbered (stmt_trees (drop l.statement-index l.statements))) l.next
      ≡ l.initial.all.items ++ summed_origins (map partials_view l.partials) (all_numbered (stmt_trees l.statements)) l.first;
}
