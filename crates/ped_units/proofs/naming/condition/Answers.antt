use Rattle.std.proofs.Common.{List, map, sym, ap}
use Rattle.ped_tree.specs.Tree.{ExprTree}
use Rattle.ped_tree.specs.Views.{expr_tree}
use Rattle.ped_units.specs.Refusals.{condition_of, plain_arguments}
use Rattle.ped_units.proofs.Packed.{listed_packed}
use Rattle.ped_units.proofs.naming.condition.Goals as goal

pub loop-argument-init : goal.loop-argument-init
loop-argument-init c = ap (λ (es : List ExprTree). condition_of (plain_arguments c.args.arrays.now es)) (sym (listed_packed (map expr_tree c.args.arguments.now)))
