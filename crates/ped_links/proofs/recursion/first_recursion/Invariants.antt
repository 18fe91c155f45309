use Rattle.ped_links.specs.ArrowViews.{ends_of}
use Rattle.ped_units.specs.Units.{ProgramUnits}
use Rattle.ped_links.specs.FirstLinks.{IsFirstOf}
use Rattle.ped_links.specs.Scenes.{IsScene}
use Rattle.ped_links.proofs.Recursive.{LeadingBelow}
use Rattle.ped_links.proofs.recursion.first_recursion.Given as goal

abbrev pub invariant-loop-unit : goal.invariant-loop-unit
invariant-loop-unit l = (us : ProgramUnits) → IsScene us l.scene → IsFirstOf (LeadingBelow us (ends_of l.callers) l.unit) l.found
