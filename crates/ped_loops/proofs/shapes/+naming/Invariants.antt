use Rattle.std.proofs.Common.{◌≡◌, drop, map}
use Rattle.ped_base.specs.Lists.{is_among}
use Rattle.ped_tree.specs.NamesIn.{exprs_names}
use Rattle.ped_tree.specs.Views.{expr_tree, pack_exprs}
use Rattle.ped_loops.proofs.shapes.+naming.Given as goal

abbrev pub invariant-are_named-loop-argument : goal.invariant-are_named-loop-argument
invariant-are_named-loop-argument l = is_among l.x (exprs_names (pack_exprs (map expr_tree (drop l.argument-index l.arguments)))) ≡ is_among l.x (exprs_names (pack_exprs (map expr_tree l.arguments)))
