use Rattle.std.proofs.Common.{take}
use Rattle.ped_units.specs.Units.{ProgramUnits, all_units}
use Rattle.ped_links.specs.FirstLinks.{IsFirstOf}
use Rattle.ped_links.specs.LinkPlaces.{StandsAtPlaces}
use Rattle.ped_links.specs.Scenes.{IsScene}
use Rattle.ped_links.proofs.linking.at_calls.Given as goal

abbrev pub invariant-loop-call : goal.invariant-loop-call
invariant-loop-call l = (us : ProgramUnits) → IsScene us l.scene → IsFirstOf (StandsAtPlaces (all_units us) (take l.call-index l.calls)) l.found
