use Rattle.std.proofs.Common.{◌≡◌, map, drop}
use Rattle.ped_tree.specs.Views.{expr_tree, pack_exprs}
use Rattle.ped_affine.specs.Ranges.{are_steady}
use Rattle.ped_affine.specs.Arguments.{setting_of}
use Rattle.ped_affine.proofs.ranges.+steadiness.Given as goal

abbrev pub invariant-are_steady-loop-argument : goal.invariant-are_steady-loop-argument
invariant-are_steady-loop-argument l =
    are_steady (setting_of l.setting) (pack_exprs (map expr_tree (drop l.argument-index l.arguments))) ≡ are_steady (setting_of l.setting) (pack_exprs (map expr_tree l.arguments))
