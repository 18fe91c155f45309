use Rattle.std.proofs.Common.{◌≡◌, ◌++◌, map, drop, codes}
use Rattle.std.specs.List.{flat_map}
use Rattle.ped_tree.specs.Printing.{parameter_text}
use Rattle.ped_tree.specs.Views.{value_tree}
use Rattle.ped_print.proofs.declarations.push_constants.Given as goal

abbrev pub invariant-loop-constant : goal.invariant-loop-constant
invariant-loop-constant l =
    l.out ++ flat_map (λ v. codes ", " ++ parameter_text v) (map value_tree (drop l.constant-index l.constant-items)) ≡ l.initial.out ++ flat_map (λ v. codes ", " ++ parameter_text v) (map value_tree (drop 1 l.all))
