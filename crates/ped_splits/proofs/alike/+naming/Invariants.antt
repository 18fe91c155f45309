use Rattle.std.proofs.Common.{◌≡◌, drop, map}
use Rattle.ped_base.specs.Lists.{is_among}
use Rattle.ped_tree.specs.NamesIn.{exprs_names}
use Rattle.ped_tree.specs.Views.{expr_tree, pack_exprs}
use Rattle.ped_splits.proofs.alike.+naming.Given as goal

abbrev pub invariant-name_in_exprs-loop-e : goal.invariant-name_in_exprs-loop-e
invariant-name_in_exprs-loop-e l = is_among l.x (exprs_names (pack_exprs (map expr_tree (drop l.e-index l.all)))) ≡ is_among l.x (exprs_names (pack_exprs (map expr_tree l.all)))
