use Rattle.std.proofs.Common.{◌≡◌, take}
use Rattle.ped_answer.proofs.endings.same_lines.Given as goal

-- what stands before is the same
abbrev pub invariant-loop-i : goal.invariant-loop-i
invariant-loop-i l = take l.i l.left ≡ take l.i l.right
