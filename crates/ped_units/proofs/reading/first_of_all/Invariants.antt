use Rattle.std.proofs.Common.{List, drop}
use Rattle.ped_tree.specs.Grammar.RefusalViews.{found_of}
use Rattle.ped_tree.specs.Grammar.Statement.{Statements}
use Rattle.ped_units.specs.Reading.{Segment}
use Rattle.ped_units.specs.Seeing.{AreReadUnits}
use Rattle.ped_units.proofs.FirstOfAll.{Left}
use Rattle.ped_units.proofs.reading.first_of_all.Given as goal

abbrev pub invariant-loop-unit : goal.invariant-loop-unit
invariant-loop-unit l = (all : Statements) (ss : List Segment) → AreReadUnits all ss l.units → Left all ss (found_of l.found) (drop l.unit-index l.units)
