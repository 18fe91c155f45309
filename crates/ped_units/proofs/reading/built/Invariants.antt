use Rattle.std.proofs.Common.{List}
use Rattle.std.specs.Vec.Iter.{into_iter_items}
use Rattle.ped_tree.specs.Grammar.Statement.{Statements}
use Rattle.ped_units.specs.Reading.{Segment}
use Rattle.ped_units.specs.Seeing.{AreReadUnits}
use Rattle.ped_units.proofs.BuiltUnits.{BuiltSoFar}
use Rattle.ped_units.proofs.reading.built.Given as goal

abbrev pub invariant-loop-unit : goal.invariant-loop-unit
invariant-loop-unit l = (all : Statements) (ss : List Segment) → AreReadUnits all ss l.fn.units.items → BuiltSoFar all ss l.built.items (into_iter_items l.unit-iterator)
