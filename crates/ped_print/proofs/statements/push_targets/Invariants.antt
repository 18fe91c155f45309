use Rattle.std.proofs.Common.{◌≡◌, ◌++◌, map, drop, codes}
use Rattle.std.specs.List.{flat_map}
use Rattle.ped_tree.specs.Printing.{value_text}
use Rattle.ped_tree.specs.Views.{expr_tree}
use Rattle.ped_print.proofs.statements.push_targets.Given as goal

abbrev pub invariant-loop-target : goal.invariant-loop-target
invariant-loop-target l =
    l.out ++ flat_map (λ e. codes ", " ++ value_text e) (map expr_tree (drop l.target-index l.all)) ≡ l.initial.out ++ flat_map (λ e. codes ", " ++ value_text e) (map expr_tree l.all)
