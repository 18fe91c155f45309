use Rattle.std.proofs.Common.{◌≡◌, ◌++◌, map, drop}
use Rattle.ped_tree.specs.NamesIn.{exprs_names}
use Rattle.ped_tree.specs.Views.{expr_tree, pack_exprs}
use Rattle.ped_units.proofs.standing.+add_names.Given as goal

abbrev pub invariant-add_names_of_all-loop-e : goal.invariant-add_names_of_all-loop-e
invariant-add_names_of_all-loop-e l = l.names.items ++ exprs_names (pack_exprs (map expr_tree (drop l.e-index l.exprs))) ≡ l.initial.names.items ++ exprs_names (pack_exprs (map expr_tree l.exprs))
