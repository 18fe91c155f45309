use Rattle.ped_splits.proofs.FoundUnits.{AreFound}
use Rattle.ped_splits.proofs.units.units_of.Given as goal

abbrev pub invariant-loop-place : goal.invariant-loop-place
invariant-loop-place l = AreFound l.body l.place l.from l.units.items
