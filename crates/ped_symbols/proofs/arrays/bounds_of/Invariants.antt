use Rattle.std.proofs.Common.{◌≡◌, map, drop, length}
use Rattle.ped_tree.specs.Views.{bound_tree}
use Rattle.ped_symbols.specs.Arrays.{bounds_values}
use Rattle.ped_symbols.proofs.Bounding.{appended}
use Rattle.ped_symbols.proofs.arrays.bounds_of.Given as goal

abbrev pub invariant-loop-bound : goal.invariant-loop-bound
invariant-loop-bound l = record {
  values : appended l.found (bounds_values l.consts (map bound_tree (drop l.bound-index l.bounds))) ≡ bounds_values l.consts (map bound_tree l.bounds);
  lower : length l.found.lower ≡ l.bound-index;
}
