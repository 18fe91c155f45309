use Rattle.std.proofs.Common.{take}
use Rattle.ped_units.specs.Units.{ProgramUnits}
use Rattle.ped_links.specs.Arguments.{AreMarks, StandsForArguments}
use Rattle.ped_links.specs.FirstLinks.{IsFirstOf}
use Rattle.ped_links.specs.Scenes.{IsScene}
use Rattle.ped_links.proofs.arguments.misfits_in.Given as goal

abbrev pub invariant-loop-call : goal.invariant-loop-call
invariant-loop-call l = (us : ProgramUnits) → IsScene us l.scene → AreMarks us l.marks → IsFirstOf (StandsForArguments us l.unit (take l.call-index l.calls)) l.found
