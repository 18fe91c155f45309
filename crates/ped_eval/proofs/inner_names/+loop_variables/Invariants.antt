use Rattle.std.proofs.Common.{◌≡◌, ◌++◌, drop}
use Rattle.ped_tree.specs.Views.{stmt_trees}
use Rattle.ped_tree.specs.NamesIn.{all_loop_variables}
use Rattle.ped_eval.proofs.inner_names.+loop_variables.Given as goal

abbrev pub invariant-add_index_names-loop-stmt : goal.invariant-add_index_names-loop-stmt
invariant-add_index_names-loop-stmt l =
    l.names ++ all_loop_variables (stmt_trees (drop l.stmt-index l.stmts)) ≡ l.initial.names ++ all_loop_variables (stmt_trees l.stmts)
