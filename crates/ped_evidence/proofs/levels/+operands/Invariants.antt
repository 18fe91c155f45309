use Rattle.std.proofs.Common.{◌≡◌, ◌++◌, map, drop}
use Rattle.ped_tree.specs.Views.{expr_tree, pack_exprs}
use Rattle.ped_evidence.specs.Kept.{trees_of, extreme}
use Rattle.ped_evidence.specs.Levels.{operands_of_all}
use Rattle.ped_evidence.proofs.levels.+operands.Given as goal

abbrev pub invariant-add_operands_of_all-loop-argument : goal.invariant-add_operands_of_all-loop-argument
invariant-add_operands_of_all-loop-argument l =
    trees_of l.found.items ++ operands_of_all (extreme l.greatest) (pack_exprs (map expr_tree (drop l.argument-index l.arguments)))
    ≡ trees_of l.fn.found.items ++ operands_of_all (extreme l.greatest) (pack_exprs (map expr_tree l.arguments))
