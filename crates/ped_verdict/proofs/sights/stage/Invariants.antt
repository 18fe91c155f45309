use Rattle.ped_verdict.proofs.Asked.{StageSoFar}
use Rattle.ped_verdict.proofs.sights.stage.Given as goal

-- the loops from the stage on, so far, don't occur, and the one before does
abbrev pub invariant-loop-place : goal.invariant-loop-place
invariant-loop-place l = StageSoFar l.pair l.stage l.place
