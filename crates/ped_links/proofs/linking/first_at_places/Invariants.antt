use Rattle.std.proofs.Common.{take}
use Rattle.ped_units.specs.Units.{ProgramUnits}
use Rattle.ped_links.specs.FirstLinks.{IsFirstOf}
use Rattle.ped_links.specs.LinkPlaces.{PlacesFound}
use Rattle.ped_links.specs.Scenes.{IsScene}
use Rattle.ped_links.proofs.linking.first_at_places.Given as goal

abbrev pub invariant-loop-walk : goal.invariant-loop-walk
invariant-loop-walk l = (us : ProgramUnits) → IsScene us l.scene → IsFirstOf (PlacesFound us (take l.walk-index l.scene.walks.now)) l.found
