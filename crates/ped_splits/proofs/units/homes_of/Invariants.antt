use Rattle.std.proofs.Common.{◌≡◌, ◌++◌, drop}
use Rattle.ped_splits.specs.Units.{homes}
use Rattle.ped_splits.specs.CodeUnits.{unit_trees}
use Rattle.ped_splits.proofs.units.homes_of.Given as goal

abbrev pub invariant-loop-place : goal.invariant-loop-place
invariant-loop-place l = l.homes.items ++ homes l.place (unit_trees (drop l.place l.units)) ≡ homes 0 (unit_trees l.units)
