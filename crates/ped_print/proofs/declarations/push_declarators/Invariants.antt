use Rattle.std.proofs.Common.{◌≡◌, ◌++◌, map, drop, codes}
use Rattle.std.specs.List.{flat_map}
use Rattle.ped_tree.specs.Printing.{declarator_text}
use Rattle.ped_tree.specs.Views.{declarator_tree}
use Rattle.ped_print.proofs.declarations.push_declarators.Given as goal

abbrev pub invariant-loop-declarator : goal.invariant-loop-declarator
invariant-loop-declarator l =
    l.out ++ flat_map (λ d. codes ", " ++ declarator_text d) (map declarator_tree (drop l.declarator-index l.declarator-items)) ≡ l.initial.out ++ flat_map (λ d. codes ", " ++ declarator_text d) (map declarator_tree (drop 1 l.all))
