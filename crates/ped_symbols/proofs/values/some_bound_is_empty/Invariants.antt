use Rattle.std.proofs.Common.{◌≡◌, map, drop}
use Rattle.std.specs.List.{list_any}
use Rattle.ped_tree.specs.Views.{bound_tree}
use Rattle.ped_symbols.specs.Values.{bound_is_empty}
use Rattle.ped_symbols.proofs.values.some_bound_is_empty.Given as goal

abbrev pub invariant-loop-bound : goal.invariant-loop-bound
invariant-loop-bound l = list_any (bound_is_empty l.consts) (map bound_tree (drop l.bound-index l.bounds)) ≡ list_any (bound_is_empty l.consts) (map bound_tree l.bounds)
