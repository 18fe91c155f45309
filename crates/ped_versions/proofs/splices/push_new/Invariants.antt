use Rattle.std.proofs.Common.{◌≡◌, ◌++◌, drop}
use Rattle.ped_versions.specs.Splices.{text_of_lines}
use Rattle.ped_versions.proofs.splices.push_new.Given as goal

abbrev pub invariant-loop-line : goal.invariant-loop-line
invariant-loop-line l = l.all ++ text_of_lines (drop l.line-index l.new) ≡ l.fn.all ++ text_of_lines l.new
