use Rattle.std.proofs.Common.{◌≡◌, ◌++◌, length}
use Rattle.ped_versions.specs.Splices.{text_of_lines}
use Rattle.ped_versions.proofs.splices.push_rest.Given as goal

abbrev pub invariant-loop-line : goal.invariant-loop-line
invariant-loop-line l = l.all ++ text_of_lines l.lines.lines ≡ l.fn.all ++ text_of_lines l.fn.lines.lines

abbrev pub decreases-loop-line : goal.decreases-loop-line
decreases-loop-line l = length l.lines.lines
