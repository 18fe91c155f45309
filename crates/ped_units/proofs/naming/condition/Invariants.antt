use Rattle.std.proofs.Common.{◌≡◌, map, drop}
use Rattle.ped_tree.specs.Accesses.{listed}
use Rattle.ped_tree.specs.Views.{expr_tree, pack_exprs}
use Rattle.ped_units.specs.Refusals.{condition_of, plain_arguments}
use Rattle.ped_units.specs.Naming.{goes_on, cond_view}
use Rattle.ped_units.proofs.naming.condition.Given as goal

abbrev pub invariant-loop-argument : goal.invariant-loop-argument
invariant-loop-argument l =
    goes_on (cond_view l.whole) (plain_arguments l.arrays (map expr_tree (drop l.argument-index l.arguments)))
    ≡ condition_of (plain_arguments l.arrays (listed (pack_exprs (map expr_tree l.arguments))))
