use Rattle.std.proofs.Common.{take}
use Rattle.ped_miv.specs.Parts.{IsSum}
use Rattle.ped_verdict.proofs.sights.sum_under.Given as goal

-- the sum of the front so far
abbrev pub invariant-loop-place : goal.invariant-loop-place
invariant-loop-place l = IsSum l.view l.pair (take l.place l.directions) l.sum
