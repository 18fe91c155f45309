use Rattle.ped_units.specs.Units.{ProgramUnits}
use Rattle.ped_links.specs.FirstLinks.{IsFirstOf}
use Rattle.ped_links.specs.Links.{AreNamed}
use Rattle.ped_links.specs.Scenes.{IsScene}
use Rattle.ped_links.proofs.Heads.{HeadsBelow}
use Rattle.ped_links.proofs.linking.first_at_heads.Given as goal

abbrev pub invariant-loop-number : goal.invariant-loop-number
invariant-loop-number l = (us : ProgramUnits) → IsScene us l.scene → AreNamed us → IsFirstOf (HeadsBelow us l.number) l.found
