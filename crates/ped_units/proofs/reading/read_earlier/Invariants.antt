use Rattle.std.proofs.Common.{◌≡◌, map}
use Rattle.ped_tree.specs.Grammar.Statement.{Statements}
use Rattle.ped_units.specs.Seeing.{AreReadEach}
use Rattle.ped_units.specs.Views.{segment_of}
use Rattle.ped_units.proofs.reading.read_earlier.Given as goal

abbrev pub invariant-loop-segment : goal.invariant-loop-segment
invariant-loop-segment l = (all : Statements) → all.lines ≡ l.lines → AreReadEach all (map segment_of l.yielded) l.units.items
