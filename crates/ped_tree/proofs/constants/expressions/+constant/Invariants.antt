use Rattle.std.proofs.Common.{◌≡◌, map, drop}
use Rattle.ped_tree.specs.declared.expressions.Intrinsic.TheVariants.{Max, Min}
use Rattle.ped_tree.specs.Tree.{Call}
use Rattle.ped_tree.specs.Views.{expr_tree, pack_exprs}
use Rattle.ped_base.specs.Arithmetic.Arithmetic.{greatest_of, least_of}
use Rattle.ped_tree.specs.Constants.ConstantExpressions.{constant_value}
use Rattle.ped_tree.proofs.ConstantLaws.Arguments.{go_on}
use Rattle.ped_tree.proofs.constants.expressions.+constant.Given as goal

abbrev pub invariant-greatest_of_all-loop-argument : goal.invariant-greatest_of_all-loop-argument
invariant-greatest_of_all-loop-argument l =
    go_on l.consts greatest_of l.value (drop l.argument-index l.argument-items) ≡ constant_value l.consts (Call Max (pack_exprs (map expr_tree l.arguments)))

abbrev pub invariant-least_of_all-loop-argument : goal.invariant-least_of_all-loop-argument
invariant-least_of_all-loop-argument l =
    go_on l.consts least_of l.value (drop l.argument-index l.argument-items) ≡ constant_value l.consts (Call Min (pack_exprs (map expr_tree l.arguments)))
