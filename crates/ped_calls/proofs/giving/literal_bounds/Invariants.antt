use Rattle.std.proofs.Common.{◌≡◌, ◌≤◌, ◌-◌, ◌++◌, map, drop}
use Rattle.ped_tree.specs.Views.{bound_tree}
use Rattle.ped_links.specs.ped_units.specs.Expanding.{literal_bounds}
use Rattle.ped_calls.proofs.giving.literal_bounds.Given as goal

abbrev pub invariant-loop-place : goal.invariant-loop-place
invariant-loop-place l = record {
  within : l.place ≤ 7;
  built : map bound_tree l.all.items ++ literal_bounds (drop l.place l.bounds.lower) (drop l.place l.bounds.upper) ≡ literal_bounds l.bounds.lower l.bounds.upper;
}

abbrev pub decreases-loop-place : goal.decreases-loop-place
decreases-loop-place l = 7 - l.place
