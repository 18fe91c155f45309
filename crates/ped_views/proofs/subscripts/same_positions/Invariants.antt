use Rattle.std.proofs.Common.{◌≡◌, take}
use Rattle.ped_views.proofs.subscripts.same_positions.Given as goal

-- the positions so far are equal
abbrev pub invariant-loop-i : goal.invariant-loop-i
invariant-loop-i l = take l.i l.left ≡ take l.i l.right
