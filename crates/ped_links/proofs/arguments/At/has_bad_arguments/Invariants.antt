use Rattle.std.proofs.Common.{ℕ, drop}
use Rattle.ped_units.specs.Units.{ProgramUnits}
use Rattle.ped_links.specs.Arguments.{IsAt, SomeMisfit}
use Rattle.ped_links.specs.Scenes.{unit_at}
use Rattle.ped_links.proofs.arguments.At.has_bad_arguments.Given as goal

abbrev pub invariant-loop-place : goal.invariant-loop-place
invariant-loop-place l = (us : ProgramUnits) (i : ℕ) → IsAt us i l.self → SomeMisfit us (unit_at us i) (unit_at us l.self.callee) l.self.call.now.around l.self.formals.now l.self.call.now.arguments
    → SomeMisfit us (unit_at us i) (unit_at us l.self.callee) l.self.call.now.around (drop l.place l.self.formals.now) (drop l.place l.self.call.now.arguments)
