use Rattle.std.proofs.Common.{◌≡◌, ◌++◌, drop, codes}
use Rattle.std.specs.List.{flat_map}
use Rattle.ped_print.proofs.declarations.push_names.Given as goal

abbrev pub invariant-loop-name : goal.invariant-loop-name
invariant-loop-name l =
    l.out ++ flat_map (λ x. codes ", " ++ x) (drop l.name-index l.name-items) ≡ l.initial.out ++ flat_map (λ x. codes ", " ++ x) (drop 1 l.all)
