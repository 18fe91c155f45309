use Rattle.std.proofs.Common.{take}
use Rattle.ped_units.specs.Units.{ProgramUnits, all_units}
use Rattle.ped_units.specs.Linking.{Recursion}
use Rattle.ped_links.specs.FirstLinks.{IsFirstOf}
use Rattle.ped_links.specs.Scenes.{IsScene, StandsAtCalls, CallsMarked}
use Rattle.ped_links.proofs.recursion.first_leading.Given as goal

abbrev pub invariant-loop-call : goal.invariant-loop-call
invariant-loop-call l = (us : ProgramUnits) → IsScene us l.scene → IsFirstOf (StandsAtCalls (take l.call-index l.calls) Recursion (CallsMarked (all_units us) l.leading)) l.found
