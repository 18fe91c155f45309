use Rattle.std.proofs.Common.{◌≡◌, ◌++◌, map, drop, codes}
use Rattle.std.specs.List.{flat_map}
use Rattle.ped_tree.specs.Printing.{bound_text}
use Rattle.ped_tree.specs.Views.{bound_tree}
use Rattle.ped_print.proofs.declarations.push_dimensions.Given as goal

abbrev pub invariant-loop-bound : goal.invariant-loop-bound
invariant-loop-bound l =
    l.out ++ flat_map (λ b. codes "," ++ bound_text b) (map bound_tree (drop l.bound-index l.bound-items)) ≡ l.initial.out ++ flat_map (λ b. codes "," ++ bound_text b) (map bound_tree (drop 1 l.all))
