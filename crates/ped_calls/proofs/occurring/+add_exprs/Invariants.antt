use Rattle.std.proofs.Common.{◌≡◌, map, drop}
use Rattle.ped_tree.specs.NamesIn.{exprs_names}
use Rattle.ped_tree.specs.Views.{expr_tree, pack_exprs}
use Rattle.ped_tree.specs.Names.Collecting.{with_names}
use Rattle.ped_calls.proofs.occurring.+add_exprs.Given as goal

abbrev pub invariant-add_exprs-loop-e : goal.invariant-add_exprs-loop-e
invariant-add_exprs-loop-e l = with_names l.names (exprs_names (pack_exprs (map expr_tree (drop l.e-index l.exprs)))) ≡ with_names l.initial.names (exprs_names (pack_exprs (map expr_tree l.exprs)))
