use Rattle.ped_verdict.specs.Marked.{AreSet}
use Rattle.ped_verdict.proofs.fronts.mark_behind.Given as goal

-- the places so far are in the row
abbrev pub invariant-loop-place : goal.invariant-loop-place
invariant-loop-place l = AreSet l.first l.place l.fn.row l.row
