use Rattle.std.proofs.Common.{take}
use Rattle.ped_units.specs.Units.{ProgramUnits, all_units}
use Rattle.ped_links.specs.Recursions.{MayComeFirst}
use Rattle.ped_links.specs.Scenes.{IsScene}
use Rattle.ped_links.proofs.recursion.may_come_first.Given as goal

abbrev pub invariant-loop-call : goal.invariant-loop-call
invariant-loop-call l = (us : ProgramUnits) → IsScene us l.scene → MayComeFirst (all_units us) l.marks l.found (take l.call-index l.calls) → ⊥
