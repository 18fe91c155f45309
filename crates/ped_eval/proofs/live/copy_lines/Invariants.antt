use Rattle.std.proofs.Common.{◌≡◌, ◌++◌, drop}
use Rattle.ped_eval.proofs.live.copy_lines.Given as goal

abbrev pub invariant-loop-line : goal.invariant-loop-line
invariant-loop-line l = l.copy ++ drop l.line-index l.lines ≡ l.lines
