use Rattle.std.proofs.Common.{length}
use Rattle.ped_machine.specs.Parts.{parts_of, IsSettled}
use Rattle.ped_machine.proofs.parts.Parts.settle.Given as goal

abbrev pub invariant-loop-self : goal.invariant-loop-self
invariant-loop-self l = IsSettled (parts_of l.initial.self) (parts_of l.self)

abbrev pub decreases-loop-self : goal.decreases-loop-self
decreases-loop-self l = length (parts_of l.self)
