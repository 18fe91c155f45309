use Rattle.std.proofs.Common.{◌≡◌, ◌-◌, drop}
use Rattle.ped_versions.proofs.splices.pass_over.Given as goal

abbrev pub invariant-loop : goal.invariant-loop
invariant-loop l = drop (l.count - l.counter) l.lines.lines ≡ drop l.count l.fn.lines.lines
