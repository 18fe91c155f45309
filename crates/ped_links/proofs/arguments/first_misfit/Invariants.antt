use Rattle.ped_units.specs.Units.{ProgramUnits}
use Rattle.ped_links.specs.FirstLinks.{IsFirstOf}
use Rattle.ped_links.specs.Scenes.{IsScene}
use Rattle.ped_links.proofs.ArgumentsMet.{ArgumentsBelow}
use Rattle.ped_links.proofs.arguments.first_misfit.Given as goal

abbrev pub invariant-loop-unit : goal.invariant-loop-unit
invariant-loop-unit l = (us : ProgramUnits) → IsScene us l.scene → IsFirstOf (ArgumentsBelow us l.unit) l.found
