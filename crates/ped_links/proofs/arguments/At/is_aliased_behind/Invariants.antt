use Rattle.std.proofs.Common.{ℕ, ◌+◌, [], drop, get_or}
use Rattle.ped_units.specs.Units.{ProgramUnits}
use Rattle.ped_links.specs.Arguments.{IsAt, IsAgain}
use Rattle.ped_links.specs.Scenes.{unit_at}
use Rattle.ped_links.proofs.arguments.At.is_aliased_behind.Given as goal

abbrev pub invariant-loop-other : goal.invariant-loop-other
invariant-loop-other l = (us : ProgramUnits) (i : ℕ) → IsAt us i l.self
    → IsAgain us (unit_at us l.self.callee) (get_or l.self.formals.now l.place []) l.name (drop (l.place + 1) l.self.formals.now) (drop (l.place + 1) l.self.call.now.arguments)
    → IsAgain us (unit_at us l.self.callee) (get_or l.self.formals.now l.place []) l.name (drop l.other l.self.formals.now) (drop l.other l.self.call.now.arguments)
