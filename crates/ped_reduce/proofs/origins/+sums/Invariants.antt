use Rattle.std.proofs.Common.{◌≡◌, ◌≤◌, ◌+◌, map, drop, filter, length}
use Rattle.ped_tree.specs.Numbering.{all_numbered, statements_count}
use Rattle.ped_tree.specs.Views.{stmt_trees}
use Rattle.ped_reduce.specs.Lowering.{is_sum}
use Rattle.ped_reduce.specs.CodeLowering.{partials_view}
use Rattle.ped_reduce.proofs.origins.+sums.Given as goal

abbrev pub invariant-count_sums-loop-statement : goal.invariant-count_sums-loop-statement
invariant-count_sums-loop-statement l = record {
  counted : l.total + length (filter (is_sum (map partials_view l.partials)) (all_numbered (stmt_trees (drop l.statement-index l.statements)))) ≡ length (filter (is_sum (map partials_view l.partials)) (all_numbered (stmt_trees l.statements)));
  few : l.total + statements_count (stmt_trees (drop l.statement-index l.statements)) ≤ statements_count (stmt_trees l.statements);
}
