use Rattle.std.proofs.Common.{◌≡◌, ◌+◌, length}
use Rattle.std.specs.Str.Lines.{lines}
use Rattle.ped_versions.proofs.splices.line_count.Given as goal

abbrev pub invariant-loop : goal.invariant-loop
invariant-loop l = l.lines.read + length l.lines.lines ≡ length (lines l.text)

abbrev pub decreases-loop : goal.decreases-loop
decreases-loop l = length l.lines.lines
